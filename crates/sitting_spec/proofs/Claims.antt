-- Each of the seven lines has one LF, its last byte: numbers have none, nor has what is shown.
-- Assumes nothing.
use Prim.Native.Nat.{ℕ, ◌-◌}
use mathlib.Core.Bool.{Bool, true, false}
use mathlib.Core.List.{List, [], ◌∷◌}
use mathlib.Core.Path.{◌≡◌, refl}
use native.Mathlib.Omega.{arith}
use lib.Dec.{eqb, ltb}
use lib.ListN.{length, take, drop}
use borrow.Author.Tests.{ne_eqb}
use Rattle.item_spec.proofs.Tests.{by-test}
use Rattle.model.specs.declared.Program.{Program}
use Rattle.model.specs.declared.Text.{Text}
use Rattle.model.specs.declared.Text.TheVariants as text
use Rattle.read_spec.specs.Place.{up_to_lf, lfs, line_number, line_start}
use Rattle.judge_spec.specs.declared.Place.{Place}
use Rattle.judge_spec.specs.Judged.{Judgement, judged, lent_bytes}
use Rattle.aeolus_judge_spec.specs.Judged.{Judgement as PlanJudgement, judged as plan_judged}
use Rattle.foretell_spec.specs.Lines.{instruction_line}
use Rattle.foretell_spec.proofs.Lines.{lfs-append, number-plain}
use Rattle.outcome_spec.specs.declared.Outcome.{Outcome}
use Rattle.outcome_spec.specs.declared.Outcome.TheVariants.{Done, Unfinished, Refused, Fault, OfPaper}
use Rattle.outcome_spec.specs.Outcome.{said_program, outcome_of, outcome_text}
use Rattle.sitting_shown.specs.declared.Among.TheVariants as among
use Rattle.sitting_shown.specs.Shown.{cell}
use Rattle.sitting_shown.specs.Place.{which_text, place_text}
use Rattle.sitting_shown.specs.Readable.{Each, Printable, AlwaysPrintable, CellsArePrintable}
use Rattle.sitting_shown.proofs.Readable.{always-printable, cells-are-printable}
use Rattle.sitting_spec.specs.End.{widest, first_shown, offending_line, at_text, line_end, ended_text, where_text, offending_text, told_text, instruction_text, asked_text}
use Rattle.sitting_spec.specs.Block.{at_fault, asks_more, end_with, end_text}
use Rattle.sitting_spec.specs.Plan.{plan_text, plan_at_fault, plan_end_with, plan_end}
use Rattle.sitting_spec.specs.Candidate.{name_text}
use Rattle.sitting_spec.specs.Claims.{SevenLines, SevenLinesOfPlans, NamesAreLines}

printable-plain : (s : List ℕ) → Each Printable s → lfs s ≡ 0
unfolding lfs
printable-plain [] p = refl
printable-plain (b ∷ s) p = rw (ne_eqb b 10 (λ e. omega (arith, e, p.0.0)), lfs) (printable-plain s p.1)

first_plain : (l : List ℕ) → lfs (first_shown l) ≡ 0
unfolding AlwaysPrintable
first_plain l = printable-plain (first_shown l) (always-printable among.Line (take widest l))

which-plain : (x : Text) → lfs (which_text x) ≡ 0
unfolding lfs
which-plain text.Neither = refl
which-plain text.Sheet = refl
which-plain text.Answer = refl
which-plain text.Times = refl
which-plain text.Start = refl

place-line : (p : Place) → lfs (place_text p) ≡ 1
unfolding place_text lfs
place-line p = simp lfs-append (omega (arith, which-plain p.text, number-plain p.start, number-plain p.size))

at_plain : (b : Bool) (p : Place) (a : List ℕ) → lfs (at_text b p a) ≡ 0
unfolding lfs
at_plain true p a = number-plain (line_number a p.start)
at_plain false p a = refl

end-plain : (b : Bool) → lfs (line_end b) ≡ 0
unfolding lfs
end-plain true = refl
end-plain false = refl

ended-plain : (b : Bool) (p : Place) (a : List ℕ) → lfs (ended_text b p a) ≡ 0
unfolding lfs
ended-plain true p a = end-plain (ltb p.size (length a - p.start))
ended-plain false p a = refl

outcome-plain : (o : Outcome) → lfs (outcome_text o) ≡ 0
unfolding lfs
outcome-plain Done = refl
outcome-plain Unfinished = refl
outcome-plain Refused = refl
outcome-plain Fault = refl
outcome-plain OfPaper = refl

word-plain : (x : Text) (n : ℕ) → lfs (plan_text x n) ≡ 0
unfolding lfs
word-plain text.Neither n = by-test (eqb n 0) (λ e. rw e refl) (λ e. rw e refl)
word-plain text.Sheet n = refl
word-plain text.Answer n = refl
word-plain text.Times n = refl
word-plain text.Start n = refl

-- all but the last line and the end of the one before
told-lines : (w : List ℕ) (b : Bool) (p : Place) (a : List ℕ) → lfs w ≡ 0 → lfs (told_text w b p a) ≡ 5
unfolding told_text where_text offending_text lfs
told-lines w b p a e =
    simp lfs-append
    (omega (arith, e, at_plain b p a, place-line p, first_plain (offending_line b p a), ended-plain b p a, number-plain (length (offending_line b p a) - widest)))

asked-lines : (b : Bool) (s : List ℕ) (k n : ℕ) → lfs (asked_text b s k n) ≡ 2
unfolding instruction_text lfs
asked-lines true s k n = simp lfs-append (omega (arith, number-plain k, number-plain n, first_plain (up_to_lf (drop (line_start (n - 1) s) s))))
asked-lines false s k n = refl

end-lines : (s a : List ℕ) (o : Outcome) (p : Program) (j : Judgement) → lfs (end_with s a o p j) ≡ 7
end-lines s a o p j =
    let k = j.verdict.next in
    simp lfs-append
    (omega (
      arith,
      told-lines (outcome_text o) (at_fault o j.verdict.refused) j.place a (outcome-plain o),
      asked-lines (asks_more o p.count k j.place.start a) s k (instruction_line s p k),
    ))

pub seven-lines : SevenLines
unfolding SevenLines end_text
seven-lines s a = end-lines s.sheet a (outcome_of s a) (said_program s.sheet) (judged s a lent_bytes)

plan-end-lines : (a : List ℕ) (j : PlanJudgement) → lfs (plan_end_with a j) ≡ 7
unfolding lfs
plan-end-lines a j =
    let x = j.verdict.text in
    let n = j.verdict.refused in
    simp lfs-append (omega (arith, told-lines (plan_text x n) (plan_at_fault x n) j.place a (word-plain x n)))

pub seven-lines-of-plans : SevenLinesOfPlans
unfolding SevenLinesOfPlans plan_end
seven-lines-of-plans s a = plan-end-lines a (plan_judged s a lent_bytes)

pub names-are-lines : NamesAreLines
unfolding NamesAreLines name_text CellsArePrintable lfs
names-are-lines name = simp lfs-append (omega (arith, printable-plain (cell name) (cells-are-printable name)))
