-- Where the paper's verdict is 0 no answer gets its fault.
-- Assumes nothing.
use Prim.Native.Nat.{ℕ}
use mathlib.Core.Bool.{true, false}
use mathlib.Core.List.{List}
use mathlib.Core.Logic.{◌≢◌, ⊎_elim}
use mathlib.Core.Path.{◌≡◌, refl, ap}
use native.Mathlib.Omega.{arith}
use lib.Dec.{eqb}
use Rattle.item_spec.proofs.Tests.{by-test}
use Rattle.model.specs.declared.Tables.{Tables}
use Rattle.model.specs.declared.Program.{Program}
use Rattle.model.specs.declared.Configuration.{Configuration}
use Rattle.model.specs.declared.Answer.{Answer}
use Rattle.model.specs.declared.Walked.{Walked}
use Rattle.model.specs.declared.Text.{Text}
use Rattle.model.specs.declared.Text.TheVariants as text
use Rattle.rules_spec.specs.Walk.{walk_from}
use Rattle.done_spec.specs.Done.{all_done}
use Rattle.start_spec.specs.Paper.{Paper}
use Rattle.judge_spec.specs.Course.{Course, faulty, reached, go_on, default_depth, all_under, course}
use Rattle.judge_spec.specs.Judged.{after_fault, ending, judged, lent_bytes}
use Rattle.judge_spec.proofs.Read.{fault-numbered}
use Rattle.times_spec.specs.Refusal.{times_number}
use Rattle.timing_spec.specs.Timed.{clocked, timed_course, number_in, timed_ending, timed}
use Rattle.outcome_spec.specs.declared.Outcome.TheVariants.{OfPaper}
use Rattle.outcome_spec.specs.Outcome.{said_program, outcome_in, outcome_of}
use Rattle.outcome_spec.specs.Paper.{no_steps, paper_verdict}
use Rattle.outcome_spec.specs.Claims.{NobodyBearsThePapersFault, GoodPapersFaultNobody}
use Rattle.outcome_spec.proofs.Claims.{after-mild, nobody-bears-the-papers-fault}

-- a fault has a number, by any name
no-fault : (s : Paper) (a : List ℕ) (x : Text) (n at : ℕ) → course s a ≡ faulty x n at → n ≢ 0
no-fault s a x n at e z = ⊎_elim (λ l. omega (arith, l.0, z)) (λ l. omega (arith, l, z)) (fault-numbered s a x n at e).range

times-number : (n : ℕ) → times_number n ≢ 0
unfolding times_number
times-number n z =
    by-test (eqb n 3) (λ e. let q : ◌≡◌ {A = ℕ} 41 0 = rw e at z in omega arith)
    (λ e. by-test (eqb n 4) (λ f. let q : ◌≡◌ {A = ℕ} 42 0 = rw (e, f) at z in omega arith) (λ f. let q : ◌≡◌ {A = ℕ} 40 0 = rw (e, f) at z in omega arith))

number-in : (x : Text) (n : ℕ) → n ≢ 0 → number_in x n ≢ 0
number-in text.Neither n h = h
number-in text.Sheet n h = h
number-in text.Answer n h = h
number-in text.Times n h = times-number n
number-in text.Start n h = h

module _ (s : Paper) (a : List ℕ) where
  judged-mild : (judged s a lent_bytes).verdict.refused ≡ 0 → outcome_of s a ≢ OfPaper
  unfolding judged ending after_fault outcome_of
  judged-mild = go (course s a) refl
    where
      go : (y : Course Walked) → course s a ≡ y → (ending s a lent_bytes y).verdict.refused ≡ 0 → outcome_in (said_program s.sheet) y ≢ OfPaper
      go (faulty x n at) e z = absurd (no-fault s a x n at e z)
      go (reached w) e z = after-mild w.refused (all_done (said_program s.sheet) w.configuration)

  abbrev Texts : Type 0
  Texts = Tables × Program × Configuration × Answer

  timed-mild : (x : List ℕ) → (timed s a x lent_bytes).judgement.verdict.refused ≡ 0 → outcome_of s a ≢ OfPaper
  unfolding timed timed_course timed_ending after_fault outcome_of course
  timed-mild x = go (all_under default_depth s a) refl
    where
      go : (y : Course Texts) → all_under default_depth s a ≡ y
          → (timed_ending s a x lent_bytes (go_on y (λ d. clocked d.0 d.1 d.2 d.3 x))).judgement.verdict.refused ≡ 0
          → outcome_in (said_program s.sheet) (go_on y (λ d. reached (walk_from default_depth d.0 d.1 d.2 d.3))) ≢ OfPaper
      go (faulty k n at) e z =
          let f : course s a ≡ faulty k n at = ap (λ (y : Course Texts). go_on y (λ d. reached (walk_from default_depth d.0 d.1 d.2 d.3))) e in
          absurd (number-in k n (no-fault s a k n at f) z)
      go (reached d) e z =
          let w = walk_from default_depth d.0 d.1 d.2 d.3 in after-mild w.refused (all_done (said_program s.sheet) w.configuration)

pub good-papers-fault-nobody : GoodPapersFaultNobody
unfolding GoodPapersFaultNobody NobodyBearsThePapersFault paper_verdict
good-papers-fault-nobody s true x a z = nobody-bears-the-papers-fault s a (timed-mild s no_steps x z)
good-papers-fault-nobody s false x a z = nobody-bears-the-papers-fault s a (judged-mild s no_steps z)
