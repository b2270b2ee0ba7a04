use borrow.Author.Tests.{le-ltb}
use Rattle.aeolus_correct.proofs.Places.{active-there, active-nowhere}
use Rattle.aeolus_model.specs.Words.{universe_in, configuration_in}
use borrow.Author.Rules.{rules}
use Rattle.aeolus_correct.proofs.is_active.Statement.{statement}
use Rattle.aeolus_correct.proofs.is_active.Tie as tie

returns : tie.Need-returns-then-j-interfaces_of
returns c =
    let most = c in
    let k = c.kind_of-k.ensures in
    let a = c.args in
    active-there (universe_in a.universe.now) (configuration_in a.deployed.now) a.z a.r _ _ (rw k at most.place_of-j.ensures) (rw k at most.interfaces_of.ensures) a.m _ c.if-j-interfaces_of.true
    (rw (k, c.state_of.ensures) at c.number_at.ensures)

returns-2 : tie.Need-returns-else-j-interfaces_of
returns-2 c =
    let most = c in
    let k = c.kind_of-k.ensures in
    let a = c.args in
    rw (le-ltb _ _ c.if-j-interfaces_of.false)
    (active-nowhere (universe_in a.universe.now) (configuration_in a.deployed.now) a.z a.r _ _ (rw k at most.place_of-j.ensures)
    (rw k at most.interfaces_of.ensures) a.m c.if-j-interfaces_of.false)

pub is_active_spec : {M : Type 1} → statement M
is_active_spec =
    tie.close
    (tie.spec
    (λ c κs. search rules) (λ c κs. search rules) (λ c κs. search rules) (λ c κs. search rules) (λ c κs. search rules) returns returns-2)
