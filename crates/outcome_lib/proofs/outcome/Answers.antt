use Rattle.std.proofs.Common.{ap, ◌∙◌}
use Rattle.model.specs.declared.Tables.{Tables}
use Rattle.model.specs.declared.Program.{Program}
use Rattle.read_chain.specs.Whole.{Whole}
use Rattle.judge_spec.proofs.Next.{course-from}
use Rattle.judge_lib.proofs.Order.{outcome-comes, walk-goes, fault-goes}
use Rattle.outcome_lib.proofs.Outcomes.{program-read, fault-is, walk-is}
use Rattle.outcome_lib.proofs.outcome.Goals as goal

pub returns-in-Err : goal.returns-in-Err
returns-in-Err c =
    let o = c.open_paper-opened.ensures in
    let e = rw c.in-Err.is at (outcome-comes _ _ c.outcome_of.ensures o.sheet o.long o.begins c.fill_answer-said.ensures) in
    let p = ap (λ (z : Whole (Tables × Program)). z.value.1) o.sheet ∙ program-read _ in
    record { outcome = c.fault_in.ensures ∙ fault-is _ _ _ _ _ (course-from _ _ (fault-goes _ _ _ _ _ e)); program = c.instructions-count.ensures ∙ ap (λ (q : Program). q.count) p }

pub returns : goal.returns
returns c =
    let o = c.open_paper-opened.ensures in
    let e = rw c.in_default.is at (outcome-comes _ _ c.outcome_of.ensures o.sheet o.long o.begins c.fill_answer-said.ensures) in
    let p = ap (λ (z : Whole (Tables × Program)). z.value.1) o.sheet ∙ program-read _ in
    record {
      outcome = c.after_steps.ensures ∙ walk-is _ _ _ _ (course-from _ _ (walk-goes _ _ _ _ _ _ e c.walk_words-passed.ensures)) p c.all_done-ended.ensures;
      program = c.instructions-count.ensures ∙ ap (λ (q : Program). q.count) p;
    }
