use borrow.Author.Rules.{rules}
use Rattle.compare_batch.proofs.Plans.{plan-counts}
use Rattle.compare_batch.proofs.judge_plan.Statement.{statement}
use Rattle.compare_batch.proofs.judge_plan.Tie as tie

returns : tie.Need-returns
returns c =
    let d = c in
    let x = c in
    plan-counts x.args.sheet.now x.args.answer.now x.args.report.now d.judge_and_place-judged.ensures.verdict-is d.judge_and_place-judged.ensures.buffer-is

pub judge_plan_spec : {M : Type 1} → statement M
judge_plan_spec =
    tie.close
    (tie.spec
    (λ c κs. search rules) (λ c. search rules) returns)
