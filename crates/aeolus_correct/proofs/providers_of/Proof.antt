use mathlib.Core.Path.{sym, ◌∙◌}
use Rattle.aeolus_correct.proofs.Places.{bound-there, bound-nowhere, bound-absent}
use Rattle.aeolus_model.specs.Words.{universe_in, configuration_in}
use borrow.Author.Rules.{rules}
use Rattle.aeolus_correct.proofs.providers_of.Statement.{statement}
use Rattle.aeolus_correct.proofs.providers_of.Tie as tie

returns : tie.Need-returns-then-not-is_deployed
returns c =
    let a = c.args in
    λ y. bound-absent (universe_in a.universe.now) (configuration_in a.deployed.now) a.z a.r y (sym c.is_deployed.ensures ∙ c.if-not-is_deployed.true)

returns-2 : tie.Need-returns-then-interfaces_of-j
returns-2 c =
    let place = c in
    let k = c.kind_of-k.ensures in
    let a = c.args in
    λ y. bound-nowhere (universe_in a.universe.now) (configuration_in a.deployed.now) a.z a.r _ _ (rw k at place.place_of-j.ensures) (rw k at c.interfaces_of.ensures) y c.if-interfaces_of-j.true

returns-3 : tie.Need-returns
returns-3 c =
    let here = c in
    let k = c.kind_of-k.ensures in
    let a = c.args in
    λ y. bound-there (universe_in a.universe.now) (configuration_in a.deployed.now) a.z a.r _ _ (rw k at here.place_of-j.ensures) (rw k at c.interfaces_of.ensures) _ y
    (sym here.is_deployed.ensures ∙ c.if-not-is_deployed.false) c.if-interfaces_of-j.false c.bound_at.ensures

pub providers_of_spec : {M : Type 1} → statement M
providers_of_spec =
    tie.close
    (tie.spec
    (λ c κs. search rules) (λ c κs. search rules) (λ c κs. search rules) returns (λ c κs. search rules) returns-2 (λ c κs. search rules) returns-3)
