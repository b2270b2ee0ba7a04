-- The seven lines of what the judges answer, in a buffer of 8,192 bytes.
-- Assumes nothing.
use Prim.Native.Nat.{ℕ, ◌-◌}
use mathlib.Core.Bool.{Bool}
use mathlib.Core.List.{List, ◌++◌}
use mathlib.Core.Path.{◌≡◌, ap, ◌∙◌}
use lib.ListN.{length}
use Rattle.item_spec.specs.Reader.{bytes}
use Rattle.read_spec.specs.Place.{line_number}
use Rattle.start_spec.specs.Paper.{Paper}
use Rattle.judge_spec.specs.declared.Verdict.{Verdict}
use Rattle.judge_spec.specs.declared.Place.{Place}
use Rattle.judge_spec.specs.Judged.{lent_bytes}
use Rattle.judge_spec.specs.Once.{Promised}
use Rattle.foretell_spec.specs.Lines.{instruction_line}
use Rattle.aeolus_judge_spec.specs.declared.Verdict.{Verdict as PlanVerdict}
use Rattle.aeolus_judge_spec.specs.Judged.{judged as plan_judged}
use Rattle.aeolus_judge_spec.specs.Once.{Promised as PlanPromised}
use Rattle.outcome_spec.specs.declared.Outcome.{Outcome}
use Rattle.outcome_spec.specs.Outcome.{said_program, outcome_of, outcome_text}
use Rattle.sitting_spec.specs.End.{told_text, asked_text}
use Rattle.sitting_spec.specs.Block.{at_fault, asks_more, end_text}
use Rattle.sitting_spec.specs.Plan.{plan_text, plan_at_fault, plan_end}

pub plan-verdict : (s a : List ℕ) {room : ℕ} {v : PlanVerdict} → v ≡ (plan_judged s a room).verdict → room ≡ 8192 → v ≡ (plan_judged s a lent_bytes).verdict
plan-verdict s a e l = e ∙ ap (λ (n : ℕ). (plan_judged s a n).verdict) l

pub plan-ends : {s a lent after : List ℕ} {v : PlanVerdict} {p : Place} → PlanPromised s a lent v after p → length lent ≡ 8192
    → told_text (plan_text v.text v.refused) (plan_at_fault v.text v.refused) p a ++ bytes "\ninstruction=-\n" ≡ plan_end s a
unfolding plan_end
plan-ends h l = rw (h.verdict-is, h.place_is, l)

-- of an outcome and the program's length n, with the line of the sheet on which the next instruction stands, and whether it is asked for
pub answer-ends : {s : Paper} {a lent after : List ℕ} {v : Verdict} {p : Place} {o : Outcome} {n line : ℕ} {asked : Bool}
    → Promised s a lent v after p → length lent ≡ 8192 → o ≡ outcome_of s a → n ≡ (said_program s.sheet).count
    → line ≡ line_number s.sheet (length s.sheet) - (n - v.next) → asked ≡ asks_more o n v.next p.start a
    → told_text (outcome_text o) (at_fault o v.refused) p a ++ asked_text asked s.sheet v.next line ≡ end_text s a
unfolding end_text instruction_line
answer-ends h l e f g q = rw (q, g, f, e, h.judges.verdict-is, h.places.place_is, l)
