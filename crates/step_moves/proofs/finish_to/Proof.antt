use mathlib.Core.Path.{◌∙◌}
use Rattle.model.specs.View.{with_queue}
use Rattle.rules_spec.specs.Finish.{finished}
use borrow.Author.Rules.{rules}
use Rattle.step_moves.proofs.finish_to.Statement.{statement}
use Rattle.step_moves.proofs.finish_to.Tie as tie

returns : tie.Need-returns
unfolding finished with_queue
returns c =
    let f = c in
    let s = c in
    let q = c in
    c.put_queued.ensures ∙ rw (s.close_slots.ensures, f.fewer.ensures, q.queued-n.ensures)

pub finish_to_spec : {M : Type 1} → statement M
finish_to_spec = tie.close (tie.spec
    (λ c κs. search rules) (λ c. search rules) (λ c. search rules) (λ c. search rules) (λ c κs. search rules) (λ c κs. search rules)
    (λ c κs. search rules) returns)
