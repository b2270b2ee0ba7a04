use mathlib.Core.Bool.{and_assoc}
use Rattle.aeolus_rules_spec.specs.Correct.{provides}
use borrow.Author.Rules.{rules}
use Rattle.aeolus_correct.proofs.provides.Statement.{statement}
use Rattle.aeolus_correct.proofs.provides.Tie as tie

pub provides_spec : {M : Type 1} → statement M
unfolding provides
provides_spec =
    tie.close (tie.spec
    (λ c κs. search rules) (λ c κs. search rules) (λ c. rw (← and_assoc, ← c.is_other.ensures, c.if-is_other.true) c.is_active.ensures)
    (λ c. rw (← and_assoc, ← c.is_other.ensures, c.if-is_other.false)))
