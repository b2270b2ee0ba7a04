-- Whatever the texts are, the report fits into 8,192 bytes, and 6 never occurs there; in any room, 6 is given just where it does not fit.
-- Assumes nothing.
use Prim.Native.Nat.{ℕ, ◌<◌, ◌≤◌}
use mathlib.Core.List.{List}
use mathlib.Core.Bool.{Bool, true, false}
use mathlib.Core.Path.{◌≡◌, refl}
use mathlib.Core.Logic.{◌≢◌, ◌↔◌, ⊎_elim}
use native.Mathlib.Omega.{arith}
use lib.Dec.{leb}
use lib.ListN.{length, length-take}
use borrow.Author.Tests.{leb-true, leb-false}
use Rattle.item_spec.proofs.Tests.{and_left}
use Rattle.model.specs.declared.Tables.{Tables}
use Rattle.model.specs.declared.Program.{Program}
use Rattle.model.specs.declared.Answer.{Answer}
use Rattle.model.specs.declared.Walked.{Walked}
use Rattle.model.specs.declared.Configuration.{Configuration}
use Rattle.model.specs.View.{steps_of}
use Rattle.read_spec.specs.Limits.{steps_ok}
use Rattle.read_spec.specs.Lawful.{Lawful, answer_lawful, SheetsAreLawful, AnswersAreLawful}
use Rattle.read_spec.proofs.Lawful.{sheets-are-lawful, answers-are-lawful}
use Rattle.rules_spec.specs.Walk.{walk, walk_from}
use Rattle.rules_spec.specs.Proper.{Proper}
use Rattle.rules_spec.proofs.Proper.{proper-from}
use Rattle.rules_spec.proofs.Tables.{facts}
use Rattle.rules_spec.proofs.Named.{walk-port-small}
use Rattle.rules_spec.proofs.Numbers.{Numbered, walk-numbers}
use Rattle.report_spec.specs.Report.{report}
use Rattle.report_spec.proofs.Bound.{report-le}
use Rattle.start_spec.specs.Paper.{Paper}
use Rattle.judge_spec.specs.Course.{Course, faulty, reached, default_depth, course}
use Rattle.judge_spec.specs.Judged.{Judgement, after_fault, after_walk, no_room, in_room, ending, judged}
use Rattle.judge_spec.specs.Room.{ReportsFit, SixNever}
use Rattle.judge_spec.proofs.Read.{all_read, begun-lawful, begun-permitted, fault-numbered}

-- a report that has room, with ten bytes to spare, and a number that is not 6
abbrev pub Fits : Walked → Type 0
Fits w = (length (report w) ≤ 8182) × (w.refused ≢ 6)

six-in-room : (w : Walked) (a : List ℕ) (room : ℕ) → w.refused ≢ 6 → ((in_room room w (report w) a).verdict.refused ≡ 6) ↔ (room < length (report w))
unfolding in_room after_walk no_room
six-in-room w a room h = go (leb (length (report w)) room) refl
  where
    go : (b : Bool) → leb (length (report w)) room ≡ b → ((elim b as (λ _. Judgement) [ true ↦ after_walk w (report w) a | false ↦ no_room ]).verdict.refused ≡ 6) ↔ (room < length (report w))
    go true e = (λ q. absurd (h q), λ l. absurd (omega (arith, leb-true (length (report w)) room e)))
    go false e = (λ q. leb-false (length (report w)) room e, λ l. refl)

-- of 0 and 10 to 38
in-range : {n : ℕ} → Numbered n → (n < 100) × (n ≢ 6)
in-range {n} h = ⊎_elim (λ e. (omega arith, omega arith)) (λ e. (omega arith, omega arith)) h.range

walk-fits : (t : Tables) (p : Program) (c : Configuration) (y : Answer) → Lawful t p → Proper default_depth t p c → answer_lawful y ≡ true → Fits (walk_from default_depth t p c y)
unfolding walk_from answer_lawful
walk-fits t p c y law now e =
    let ss = steps_of y in
    let known = facts default_depth t p (omega arith) law in
    let n = walk-numbers default_depth t p ss c in
    let few = leb-true y.count 1024 (and_left (steps_ok y.count) _ e) in
    let (small, not-six) = in-range n.refused in (
      report-le default_depth t p (walk default_depth t p c ss) (omega arith) law (proper-from default_depth t p known ss c now) (omega (arith, n.accepted, length-take y.count y.steps)) small
          (walk-port-small default_depth t p known ss c now),
      not-six,
    )

pub read_fits : (s : Paper) (a : List ℕ) (w : Walked) → course s a ≡ reached w → Fits w
unfolding SheetsAreLawful AnswersAreLawful
read_fits s a w q =
    let b = all_read s a w q in
    let law = sheets-are-lawful s.sheet _ _ _ b.sheet-is in
    rw b.walked (walk-fits b.tables b.program b.begin b.steps (begun-lawful b.tables b.sheet-program law s.beginning (b.program, b.begin) b.begun) (begun-permitted b.tables b.sheet-program law s.beginning (b.program, b.begin) b.begun).proper (answers-are-lawful a _ _ b.answer-is))

pub reports-fit : ReportsFit
unfolding ReportsFit
reports-fit s a w q = omega (arith, (read_fits s a w q).0)

pub six-never : SixNever
unfolding SixNever judged ending after_fault
six-never s a = not-six (course s a) refl
  where
    not-six : (z : Course Walked) → course s a ≡ z → (ending s a 8192 z).verdict.refused ≢ 6
    not-six (faulty x n at) e = λ q. ⊎_elim (λ l. omega arith) (λ l. omega arith) (fault-numbered s a x n at e).range
    not-six (reached w) e = λ q. let h = read_fits s a w e in omega (arith, (six-in-room w a 8192 h.1).0 q, h.0)

-- "a report that doesn't fit gives 6 in place of the steps' number": in any room, and no other does
pub six-just-where-short : (s : Paper) (a : List ℕ) (w : Walked) (room : ℕ) → course s a ≡ reached w → ((judged s a room).verdict.refused ≡ 6) ↔ (room < length (report w))
unfolding judged ending
six-just-where-short s a w room q = rw (q, ending) (six-in-room w a room (read_fits s a w q).1)
