-- What is written of a candidate has at most 26,400 bytes: the name's four times, the print's 8,192, and seven short lines.
-- Assumes nothing.
use Prim.Native.Nat.{ℕ, ◌+◌, ◌-◌, ◌≤◌}
use mathlib.Core.Bool.{Bool, true, false}
use mathlib.Core.List.{List, []}
use mathlib.Core.Path.{◌≡◌, refl, ap, ◌∙◌}
use native.Mathlib.Omega.{arith}
use lib.Dec.{leb, ltb, eqb}
use lib.ListN.{length, take, drop, length-append, length-take}
use borrow.Author.Tests.{leb-true}
use Rattle.item_spec.specs.Write.{number_text, one_text}
use Rattle.item_spec.proofs.Tests.{by-test}
use Rattle.model.specs.declared.Program.{Program}
use Rattle.model.specs.declared.Text.{Text}
use Rattle.model.specs.declared.Text.TheVariants as text
use Rattle.model.specs.declared.Walked.{Walked}
use Rattle.report_spec.specs.Report.{count_text, report}
use Rattle.read_spec.specs.Place.{up_to_lf, line_number, line_start}
use Rattle.start_spec.specs.Paper.{Paper}
use Rattle.judge_spec.specs.declared.Place.{Place}
use Rattle.judge_spec.specs.Course.{Course, faulty, reached, course}
use Rattle.judge_spec.specs.Judged.{Judgement, paper_text, text_of, fault_line, no_room, after_walk, in_room, judged, printing, printed, lent_bytes}
use Rattle.aeolus_model.specs.Model.{Universe}
use Rattle.aeolus_rules_spec.specs.Run.{Ran}
use Rattle.aeolus_judge_spec.specs.Report.{report as plan_report}
use Rattle.aeolus_judge_spec.specs.Course.{course as plan_course}
use Rattle.aeolus_judge_spec.specs.Judged.{Judgement as PlanJudgement, no_room as no_plan_room, after_run, in_room as in_plan_room, judged as plan_judged, printing as plan_printing, printed as plan_printed}
use Rattle.foretell_spec.specs.Lines.{instruction_line}
use Rattle.write_report.proofs.Bounds.{count-short, fault-short}
use Rattle.outcome_spec.specs.declared.Outcome.{Outcome}
use Rattle.outcome_spec.specs.declared.Outcome.TheVariants.{Done, Unfinished, Refused, Fault, OfPaper}
use Rattle.outcome_spec.specs.Outcome.{said_program, outcome_of, outcome_text}
use Rattle.sitting_shown.specs.declared.Among.TheVariants as among
use Rattle.sitting_shown.specs.Place.{place_text}
use Rattle.sitting_shown.specs.Readable.{FourTimes, CellsFourTimes}
use Rattle.sitting_shown.proofs.Readable.{four-times, cells-four-times}
use Rattle.sitting_shown.proofs.Places.{which-short}
use Rattle.sitting_spec.specs.End.{widest, first_shown, offending_line, at_text, line_end, ended_text, where_text, offending_text, told_text, instruction_text, asked_text}
use Rattle.sitting_spec.specs.Block.{at_fault, asks_more, end_with, end_text, block_text}
use Rattle.sitting_spec.specs.Plan.{plan_text, plan_at_fault, plan_end_with, plan_end, plan_block}
use Rattle.sitting_spec.specs.Candidate.{is_aeolus, either_block, name_text, candidate_text, unread_text}
use Rattle.sitting_lib.specs.Room.{longest_name, CandidatesFit, UnreadFit}

-- ---- items

number_short : (v : ℕ) → length (number_text v) ≤ 20
unfolding count_text one_text
number_short v = omega (arith, simp length-append at (count-short [] v))

first_short : (l : List ℕ) → length (first_shown l) ≤ 800
unfolding FourTimes
first_short l = omega (arith, four-times among.Line (take widest l), length-take widest l)

place_short : (p : Place) → length (place_text p) ≤ 55
unfolding place_text
place_short p = simp length-append (omega (arith, which-short p.text, number_short p.start, number_short p.size))

at-short : (b : Bool) (p : Place) (a : List ℕ) → length (at_text b p a) ≤ 20
at-short true p a = number_short (line_number a p.start)
at-short false p a = omega arith

end_short : (b : Bool) → length (line_end b) ≤ 3
end_short true = omega arith
end_short false = omega arith

ended-short : (b : Bool) (p : Place) (a : List ℕ) → length (ended_text b p a) ≤ 3
ended-short true p a = end_short (ltb p.size (length a - p.start))
ended-short false p a = omega arith

-- ---- the seven lines

told-short : (w : List ℕ) (b : Bool) (p : Place) (a : List ℕ) → length (told_text w b p a) ≤ length w + 934
unfolding told_text where_text offending_text
told-short w b p a =
    simp length-append
    (omega (arith, at-short b p a, place_short p, first_short (offending_line b p a), ended-short b p a, number_short (length (offending_line b p a) - widest)))

asked-short : (b : Bool) (s : List ℕ) (k n : ℕ) → length (asked_text b s k n) ≤ 856
unfolding instruction_text
asked-short true s k n = simp length-append (omega (arith, number_short k, number_short n, first_short (up_to_lf (drop (line_start (n - 1) s) s))))
asked-short false s k n = omega arith

outcome-short : (o : Outcome) → length (outcome_text o) ≤ 10
outcome-short Done = omega arith
outcome-short Unfinished = omega arith
outcome-short Refused = omega arith
outcome-short Fault = omega arith
outcome-short OfPaper = omega arith

word-short : (x : Text) (n : ℕ) → length (plan_text x n) ≤ 10
word-short text.Neither n = by-test (eqb n 0) (λ e. rw e (omega arith)) (λ e. rw e (omega arith))
word-short text.Sheet n = omega arith
word-short text.Answer n = omega arith
word-short text.Times n = omega arith
word-short text.Start n = omega arith

-- ---- the prints

-- what a report has room for, or nothing
room-short : {J : Type 0} (written : J → List ℕ) (x full none : J) (r : List ℕ) → (leb (length r) 8192 ≡ true → x ≡ full) → (leb (length r) 8192 ≡ false → x ≡ none)
    → written full ≡ r → written none ≡ [] → length (written x) ≤ 8192
room-short written x full none r f g e z =
    by-test (leb (length r) 8192)
    (λ q. omega (arith, leb-true (length r) 8192 q, ap length (ap written (f q) ∙ e)))
    (λ q. omega (arith, ap length (ap written (g q) ∙ z)))

in-room-short : (w : Walked) (r a : List ℕ) → length (in_room lent_bytes w r a).bytes ≤ 8192
unfolding in_room after_walk no_room
in-room-short w r a = room-short (λ (j : Judgement). j.bytes) (in_room lent_bytes w r a) (after_walk w r a) no_room r (λ e. rw (e, in_room)) (λ e. rw (e, in_room)) refl refl

printed-short : (s : Paper) (a : List ℕ) → length (printed s a) ≤ 8192
unfolding printed printing
printed-short s a = go (course s a)
  where
    go : (z : Course Walked) → length (printing s a z) ≤ 8192
    go (faulty x n at) = omega (arith, fault-short x (fault_line n at (paper_text x s a)) n)
    go (reached w) = in-room-short w (report w) a

in-plan-room-short : (w : Ran) (r a : List ℕ) → length (in_plan_room lent_bytes w r a).bytes ≤ 8192
unfolding in_plan_room after_run no_plan_room
in-plan-room-short w r a = room-short (λ (j : PlanJudgement). j.bytes) (in_plan_room lent_bytes w r a) (after_run w r a) no_plan_room r (λ e. rw (e, in_plan_room)) (λ e. rw (e, in_plan_room)) refl refl

plan-printed-short : (s a : List ℕ) → length (plan_printed s a) ≤ 8192
unfolding plan_printed plan_printing
plan-printed-short s a = go (plan_course s a)
  where
    go : (z : Course (Universe × Ran)) → length (plan_printing s a z) ≤ 8192
    go (faulty x n at) = omega (arith, fault-short x (fault_line n at (text_of x s a)) n)
    go (reached (u, w)) = in-plan-room-short w (plan_report u w) a

-- ---- a candidate

end-text-short : (s a : List ℕ) (o : Outcome) (p : Program) (j : Judgement) → length (end_with s a o p j) ≤ 1800
end-text-short s a o p j =
    let k = j.verdict.next in
    simp length-append
    (omega (
      arith,
      told-short (outcome_text o) (at_fault o j.verdict.refused) j.place a,
      outcome-short o,
      asked-short (asks_more o p.count k j.place.start a) s k (instruction_line s p k),
    ))

seven-short : (s : Paper) (a : List ℕ) → length (end_text s a) ≤ 1800
unfolding end_text
seven-short s a = end-text-short s.sheet a (outcome_of s a) (said_program s.sheet) (judged s a lent_bytes)

block-short : (s : Paper) (a : List ℕ) → length (block_text s a) ≤ 9992
unfolding block_text
block-short s a = simp length-append (omega (arith, printed-short s a, seven-short s a))

plan-end-short : (a : List ℕ) (j : PlanJudgement) → length (plan_end_with a j) ≤ 1800
plan-end-short a j =
    let x = j.verdict.text in
    let n = j.verdict.refused in
    simp length-append (omega (arith, told-short (plan_text x n) (plan_at_fault x n) j.place a, word-short x n))

plan-seven-short : (s a : List ℕ) → length (plan_end s a) ≤ 1800
unfolding plan_end
plan-seven-short s a = plan-end-short a (plan_judged s a lent_bytes)

plan-short : (s a : List ℕ) → length (plan_block s a) ≤ 9992
unfolding plan_block
plan-short s a = simp length-append (omega (arith, plan-printed-short s a, plan-seven-short s a))

either-short : (s : Paper) (a : List ℕ) → length (either_block s a) ≤ 9992
unfolding either_block
either-short s a = by-test (is_aeolus s.sheet) (λ e. rw (e, either_block) (plan-short s.sheet a)) (λ e. rw (e, either_block) (block-short s a))

name-short : (name : List ℕ) → length name ≤ longest_name → length (name_text name) ≤ 16395
unfolding name_text CellsFourTimes
name-short name h = simp length-append (omega (arith, cells-four-times name))

pub candidates-fit : CandidatesFit
unfolding CandidatesFit candidate_text
candidates-fit name h s a = simp length-append (omega (arith, name-short name h, either-short s a))

pub unread-fit : UnreadFit
unfolding UnreadFit unread_text
unread-fit name h = simp length-append (omega (arith, name-short name h))
