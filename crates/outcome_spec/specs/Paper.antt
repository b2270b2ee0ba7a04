-- The fault of a paper alone: what the judge, or the timing where there are times, says beside an answer that can't be at fault.
use Rattle.std.specs.Prelude.{ℕ, Bool, true, false, cond, List}
use Rattle.item_spec.specs.Reader.{bytes}
use Rattle.start_spec.specs.Paper.{Paper}
use Rattle.judge_spec.specs.declared.Verdict.{Verdict}
use Rattle.judge_spec.specs.Judged.{judged, lent_bytes}
use Rattle.timing_spec.specs.Timed.{timed}

-- an answer of no steps
unfoldable pub no_steps : List ℕ
no_steps = bytes "answer=1\nsteps=0\n"

-- the verdict beside it, with the times x where there are some: its number is 0 exactly where the paper has no fault
unfoldable pub paper_verdict : Paper → Bool → List ℕ → Verdict
paper_verdict s b x = cond b (timed s no_steps x lent_bytes).judgement.verdict (judged s no_steps lent_bytes).verdict
