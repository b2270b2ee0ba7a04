use mathlib.Core.Path.{refl}
use borrow.Author.Tests.{lt-ltb, le-ltb}
use Rattle.aeolus_correct.proofs.Places.{employs-by}
use Rattle.aeolus_model.specs.Words.{universe_in, configuration_in}
use borrow.Author.Rules.{rules}
use Rattle.aeolus_correct.proofs.employs.Statement.{statement}
use Rattle.aeolus_correct.proofs.employs.Tie as tie

returns : tie.Need-returns-then-member
returns c =
    let own = c in
    let most = c in
    let other = c in
    let k = c.kind_of-k.ensures in
    let a = c.args in
    rw (
      employs-by (universe_in a.universe.now) (configuration_in a.deployed.now) a.y a.p _ _ (rw k at other.place_of-j.ensures)
          (rw k at most.interfaces_of.ensures) a.z,
      ← other.is_other.ensures,
      most.if-is_other.true,
      lt-ltb _ _ own.if-j-interfaces_of.true,
      ← own.bound_at.ensures,
      ← own.member.ensures,
      c.if-member.true,
      ← c.state_of.ensures,
      ← k,
    ) c.demands.ensures

returns-2 : tie.Need-returns-else-member
returns-2 c =
    let own = c in
    let most = c in
    let other = c in
    let k = c.kind_of-k.ensures in
    let a = c.args in
    rw (
      employs-by (universe_in a.universe.now) (configuration_in a.deployed.now) a.y a.p _ _ (rw k at other.place_of-j.ensures)
          (rw k at most.interfaces_of.ensures) a.z,
      ← other.is_other.ensures,
      most.if-is_other.true,
      lt-ltb _ _ own.if-j-interfaces_of.true,
      ← own.bound_at.ensures,
      ← own.member.ensures,
      c.if-member.false,
    )

returns-3 : tie.Need-returns-else-j-interfaces_of
returns-3 c =
    let most = c in
    let other = c in
    let k = c.kind_of-k.ensures in
    let a = c.args in
    rw (
      employs-by (universe_in a.universe.now) (configuration_in a.deployed.now) a.y a.p _ _ (rw k at other.place_of-j.ensures)
          (rw k at most.interfaces_of.ensures) a.z,
      ← other.is_other.ensures,
      most.if-is_other.true,
      le-ltb _ _ c.if-j-interfaces_of.false,
    )

returns-4 : tie.Need-returns-else-is_other
returns-4 c =
    let a = c.args in
    rw (employs-by (universe_in a.universe.now) (configuration_in a.deployed.now) a.y a.p _ _ refl refl a.z, ← c.is_other.ensures, c.if-is_other.false)

pub employs_spec : {M : Type 1} → statement M
employs_spec =
    tie.close
    (tie.spec
    (λ c κs. search rules) (λ c κs. search rules) (λ c κs. search rules) (λ c κs. search rules) (λ c κs. search rules) (λ c κs. search rules)
    (λ c κs. search rules) (λ c κs. search rules) returns returns-2 returns-3 returns-4)
