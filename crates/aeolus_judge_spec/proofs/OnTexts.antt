-- C-22 on the two texts: what the reader gives is what the rules ask for, and the judge answers the run's number.
-- Assumes nothing.
use Prim.Native.Nat.{ℕ, zero, suc, ◌≤◌}
use mathlib.Core.List.{List, [], ◌∷◌}
use mathlib.Core.Path.{◌≡◌, refl, sym, ap, ◌∙◌}
use mathlib.Core.Logic.{◌↔◌}
use native.Mathlib.Omega.{arith}
use lib.ListN.{length, take}
use borrow.Author.Tests.{le-leb}
use Rattle.model.specs.declared.Text.{Text}
use Rattle.judge_spec.specs.Course.{Course, faulty, reached}
use Rattle.judge_spec.proofs.Read.{Ends, reaches}
use Rattle.aeolus_model.specs.Model.{Universe, nothing}
use Rattle.aeolus_model.specs.Action.{Plan, Action, actions_of}
use Rattle.aeolus_rules_spec.specs.Definition2.{AllKnown, PointsAreConfigurations}
use Rattle.aeolus_rules_spec.specs.Definition7.{PointsAreCorrect, ZeroIsADeploymentRun, SeventyExactly}
use Rattle.aeolus_rules_spec.specs.Run.{Ran, run}
use Rattle.aeolus_rules_spec.proofs.Runs.{points-are-correct, zero-is-a-deployment-run, seventy-exactly}
use Rattle.aeolus_rules_spec.proofs.Kept.{points-are-configurations}
use Rattle.aeolus_judge_spec.specs.Report.{report}
use Rattle.aeolus_judge_spec.specs.Course.{both, course}
use Rattle.aeolus_judge_spec.specs.Judged.{after_fault, after_run, in_room, ending, judged}
use Rattle.aeolus_judge_spec.specs.OnTexts.{Say, answered, SaidIsLawful, PointsOnTexts, ZeroOnTexts, SeventyOnTexts}
use Rattle.aeolus_judge_spec.proofs.Room.{OfText, Said, both_ends, lawful-of, all_known, fault-numbered, read_fits}

said : (s a : List ℕ) (u : Universe) (p : Plan) → Say s a u p → Said s a (u, p)
said s a u p e = told (rw e at (both_ends s a))
  where
    told : Ends OfText (Said s a) (reached (u, p)) → Said s a (u, p)
    told (reaches b) = b

pub said-is-lawful : SaidIsLawful
unfolding SaidIsLawful
said-is-lawful s a u p e = let w = said s a u p e in (lawful-of u w.universe, all_known u p w.steps)

take-known : (u : Universe) (n : ℕ) (acts : List Action) → AllKnown u acts → AllKnown u (take n acts)
take-known u zero acts k = tt
take-known u (suc n) [] k = tt
take-known u (suc n) (a ∷ rest) (h, k) = (h, take-known u n rest k)

pub points-on-texts : PointsOnTexts
unfolding PointsOnTexts SaidIsLawful PointsAreConfigurations PointsAreCorrect
points-on-texts s a u p n e =
    let (law, known) = said-is-lawful s a u p e in
    (points-are-configurations u (take n (actions_of p)) law (take-known u n (actions_of p) known), points-are-correct u law.named (take n (actions_of p)))

-- of two texts that are read the judge answers the run's number
course-is : (s a : List ℕ) (u : Universe) (p : Plan) → Say s a u p → course s a ≡ reached (u, run u nothing (actions_of p))
unfolding course
course-is s a u p e = rw e refl

in-room : (w : Ran) (r a : List ℕ) (room : ℕ) → length r ≤ room → (in_room room w r a).verdict.refused ≡ w.refused
unfolding in_room after_run
in-room w r a room h = rw (le-leb (length r) room h, in_room) refl

answers-run : (s a : List ℕ) (u : Universe) (p : Plan) → Say s a u p → answered s a ≡ (run u nothing (actions_of p)).refused
unfolding judged ending
answers-run s a u p e =
    let w = run u nothing (actions_of p) in
    let c = course-is s a u p e in
    ap (λ (z : Course (Universe × Ran)). (ending s a 8192 z).verdict.refused) c ∙ in-room w (report u w) a 8192 (omega (arith, (read_fits s a u w c).short))

-- and of two that are not, a number from 1 to 5
fault-is : (s a : List ℕ) (x : Text) (n at : ℕ) → both s a ≡ faulty x n at → course s a ≡ faulty x n at
unfolding course
fault-is s a x n at e = rw e refl

answers-fault : (s a : List ℕ) (x : Text) (n at : ℕ) → both s a ≡ faulty x n at → (1 ≤ answered s a) × (answered s a ≤ 5)
unfolding judged ending after_fault
answers-fault s a x n at e =
    let c = fault-is s a x n at e in
    let is : answered s a ≡ n = ap (λ (z : Course (Universe × Ran)). (ending s a 8192 z).verdict.refused) c in
    let l = fault-numbered s a x n at c in
    (omega arith, omega arith)

-- so a number that no fault has is answered just where the two texts say a run that has it
module _ (k : ℕ) (none : (1 ≤ k) × (k ≤ 5) → ⊥) (P : Universe → Plan → Type 0) (exactly : (s a : List ℕ) (u : Universe) (p : Plan) → Say s a u p → ((run u nothing (actions_of p)).refused ≡ k) ↔ P u p) where
  on_texts : (s a : List ℕ) → (answered s a ≡ k) ↔ ((u : Universe) × (p : Plan) × Say s a u p × P u p)
  on_texts s a = (there (both s a) refl, back)
    where
      there : (z : Course (Universe × Plan)) → both s a ≡ z → answered s a ≡ k → (u : Universe) × (p : Plan) × Say s a u p × P u p
      there (faulty x n at) e q = absurd (none (let l = answers-fault s a x n at e in omega arith))
      there (reached (u, p)) e q = (u, p, e, (exactly s a u p e).0 (sym (answers-run s a u p e) ∙ q))

      back : (u : Universe) × (p : Plan) × Say s a u p × P u p → answered s a ≡ k
      back (u, p, e, h) = answers-run s a u p e ∙ (exactly s a u p e).1 h

pub zero-on-texts : ZeroOnTexts
unfolding ZeroOnTexts SaidIsLawful ZeroIsADeploymentRun
zero-on-texts = on_texts 0 (λ l. omega arith) _ (λ s a u p e. zero-is-a-deployment-run u (said-is-lawful s a u p e).0.named (actions_of p))

pub seventy-on-texts : SeventyOnTexts
unfolding SeventyOnTexts SaidIsLawful SeventyExactly
seventy-on-texts = on_texts 70 (λ l. omega arith) _ (λ s a u p e. seventy-exactly u (said-is-lawful s a u p e).0.named (actions_of p))
