use Rattle.aeolus_rules_spec.specs.Bind.{bind_check}
use borrow.Author.Rules.{rules}
use Rattle.aeolus_step.proofs.checks.bind_check.Statement.{statement}
use Rattle.aeolus_step.proofs.checks.bind_check.Tie as tie

pub bind_check_spec : {M : Type 1} → statement M
unfolding bind_check
bind_check_spec =
    tie.close (tie.spec
    (λ c κs. search rules) (λ c κs. search rules) (λ c κs. search rules) (λ c κs. search rules) (λ c κs. search rules) (λ c κs. search rules)
    (λ c κs. search rules) (λ c κs. search rules) (λ c κs. search rules) (λ c κs. search rules) (λ c κs. search rules) (λ c κs. search rules)
    (λ c κs. search rules) (λ c κs. search rules)
    (λ c. let d = c in
    let k = c in
    rw (← k.is_deployed-requirer.ensures, ← k.is_deployed-provider.ensures, ← k.kind_of.ensures, ← k.may_require-asks.ensures, ← k.kind_of-2.ensures, ← d.may_provide-offers.ensures, ← d.is_bound-stands.ensures, ← d.bindings-room.ensures, ← c.refuse_if.ensures, ← c.refuse_if-late.ensures, ← c.refuse_if-2.ensures, ← c.refuse_if-ports.ensures, ← c.refuse_if-3.ensures)
    c.refuse_if-4.ensures))
