use mathlib.Core.Path.{refl}
use Rattle.done_spec.specs.Done.{all_done}
use borrow.Author.Rules.{rules}
use Rattle.step_done.proofs.all_done.Statement.{statement}
use Rattle.step_done.proofs.all_done.Tie as tie

returns : tie.Need-returns
unfolding all_done
returns c = rw (← c.queues_empty-empty.ensures, ← c.instructions.ensures, ← c.done.ensures) refl

pub all_done_spec : {M : Type 1} → statement M
all_done_spec = tie.close (tie.spec
    (λ c κs. search rules) (λ c κs. search rules) (λ c κs. search rules) returns)
