-- The start where an answer ends has room, and without tickets it is the report's lines; the course is what is left of it beside the program.
-- Assumes nothing.
use Prim.Native.Nat.{ℕ, ◌≤◌, zero-le}
use mathlib.Core.List.{List}
use mathlib.Core.Path.{◌≡◌, refl, sym, ap, ◌∙◌}
use native.Mathlib.Omega.{arith}
use lib.Dec.{eqb}
use lib.ListN.{length, length-take}
use borrow.Author.Tests.{leb-true}
use Rattle.item_spec.proofs.Tests.{by-test, and_left}
use Rattle.model.specs.declared.Tables.{Tables}
use Rattle.model.specs.declared.Program.{Program}
use Rattle.model.specs.declared.Answer.{Answer}
use Rattle.model.specs.declared.Configuration.{Configuration}
use Rattle.model.specs.declared.Walked.{Walked}
use Rattle.model.specs.View.{steps_of}
use Rattle.read_spec.specs.Limits.{steps_ok, has_tickets}
use Rattle.read_spec.specs.Lawful.{answer_lawful, SheetsAreLawful, AnswersAreLawful}
use Rattle.read_spec.proofs.Lawful.{sheets-are-lawful, sheet-begun, answers-are-lawful}
use Rattle.rules_spec.specs.Walk.{walk_from}
use Rattle.start_spec.specs.Paper.{Paper}
use Rattle.start_spec.specs.Round.{start_of, PlainStartsAreReports, StartsHaveRoom}
use Rattle.start_spec.proofs.Round.{plain-starts-are-reports}
use Rattle.start_spec.proofs.Lasts.{starts-have-room}
use Rattle.judge_spec.specs.Course.{Course, faulty, reached, go_on, default_depth, all_under, course}
use Rattle.judge_spec.specs.Next.{whole_course, next_of, next_start, NextStartsFit, PlainNextStarts}
use Rattle.judge_spec.proofs.Read.{Said, all_said, begun-lawful, begun-edition, begun-well, begun-fits}

-- what the texts say
abbrev Texts : Type 0
Texts = Tables × Program × Configuration × Answer

course-of : (s : Paper) (a : List ℕ) → course s a ≡ go_on (whole_course s a) (λ x. reached x.1)
unfolding course whole_course
course-of s a = go (all_under default_depth s a)
  where
    go : (z : Course Texts)
        → go_on z (λ x. reached (walk_from default_depth x.0 x.1 x.2 x.3))
        ≡ go_on {A = Program × Walked} (go_on z (λ x. reached (x.1, walk_from default_depth x.0 x.1 x.2 x.3))) (λ x. reached x.1)
    go (faulty x n at) = refl
    go (reached x) = refl

pub course-from : (s : Paper) (a : List ℕ) {z : Course (Program × Walked)} → z ≡ whole_course s a → go_on z (λ x. reached x.1) ≡ course s a
course-from s a e = ap (λ (z : Course (Program × Walked)). go_on z (λ x. reached x.1)) e ∙ sym (course-of s a)

said-room : (s : Paper) (a : List ℕ) (x : Texts) → Said s a x → length (start_of x.1 (walk_from default_depth x.0 x.1 x.2 x.3).configuration) ≤ 8192
unfolding walk_from answer_lawful SheetsAreLawful AnswersAreLawful StartsHaveRoom
said-room s a x h =
    let law = sheets-are-lawful s.sheet _ _ _ h.sheet-is in
    let none = sheet-begun s.sheet _ _ _ h.sheet-is in
    let same = begun-edition x.0 h.sheet-program s.beginning (x.1, x.2) h.begun in
    let few = leb-true x.3.count 1024 (and_left (steps_ok x.3.count) _ (answers-are-lawful a _ _ h.answer-is)) in
    starts-have-room default_depth x.0 x.1 x.2 (steps_of x.3) (omega arith) (begun-lawful x.0 h.sheet-program law s.beginning (x.1, x.2) h.begun)
    (begun-well x.0 h.sheet-program law s.beginning (x.1, x.2) h.begun)
    (λ has. begun-fits x.0 h.sheet-program law (ap has_tickets (sym same) ∙ has) none s.beginning (x.1, x.2) h.begun)
    (omega (arith, few, length-take x.3.count x.3.steps))

pub next-starts-fit : NextStartsFit
unfolding NextStartsFit next_start whole_course next_of
next-starts-fit s a = go (all_under default_depth s a) refl
  where
    go : (z : Course Texts) → all_under default_depth s a ≡ z → length (next_of (go_on z (λ x. reached (x.1, walk_from default_depth x.0 x.1 x.2 x.3)))) ≤ 8192
    go (faulty x n at) e = zero-le
    go (reached x) e =
        by-test (eqb (walk_from default_depth x.0 x.1 x.2 x.3).refused 0)
        (λ q. rw (next_of, q) (said-room s a x (all_said s a x e)))
        (λ q. rw (next_of, q) zero-le)

pub plain-next-starts : PlainNextStarts
unfolding PlainNextStarts next_of PlainStartsAreReports
plain-next-starts p w plain =
    by-test (eqb w.refused 0) (λ e. rw (next_of, e) (plain-starts-are-reports p.edition _ w.configuration plain)) (λ e. rw (next_of, e))
