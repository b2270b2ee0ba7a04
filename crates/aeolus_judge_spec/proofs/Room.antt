-- Whatever the two texts are, the report has at most 1,811 bytes, and 6 never occurs in a room of 8,192.
-- Assumes nothing.
use Prim.Native.Nat.{ℕ, suc, ◌≤◌, ◌<◌}
use mathlib.Core.List.{List, [], ◌∷◌, map}
use mathlib.Core.Bool.{Bool, true, false, true≢false}
use mathlib.Core.Path.{◌≡◌, refl, sym, ◌∙◌}
use mathlib.Core.Logic.{◌≢◌, ◌↔◌, ◌⊎◌, ⊎_elim, inl, inr, by_cases}
use native.Mathlib.Omega.{arith}
use native.Mathlib.Decide.{dec_lt}
use lib.Dec.{leb}
use lib.ListN.{length, get_or, take, length-take, length-map}
use lib.Seq.{get_or-take}
use borrow.Author.Tests.{leb-true, leb-false}
use Rattle.sets.proofs.Laws.{member-past}
use Rattle.item_spec.proofs.Tests.{by-test}
use Rattle.model.specs.declared.Text.{Text}
use Rattle.model.specs.declared.Text.TheVariants as text
use Rattle.judge_spec.specs.Course.{Course, faulty, reached}
use Rattle.judge_spec.proofs.Read.{Ends, faults, reaches, ends-then, short-ends, read-ends}
use Rattle.aeolus_model.specs.Model.{Universe, Configuration, nothing, type_of, to_of, weak}
use Rattle.aeolus_model.specs.declared.Step.{Step}
use Rattle.aeolus_model.specs.Action.{Plan, Action, new, del, change, bind, unbind, no_step, action_of, actions_of}
use Rattle.aeolus_read_spec.specs.Texts.{sheet, plan}
use Rattle.aeolus_read_spec.specs.Lawful.{UniverseLawful, UniversesAreLawful, NamesOfUniversesDiffer, ActionLawful, PlanLawful, PlansAreLawful}
use Rattle.aeolus_read_spec.proofs.Lawful.{universes-are-lawful, names-of-universes-differ, plans-are-lawful, sheet-stops, plan-stops}
use Rattle.aeolus_rules_spec.specs.Correct.{holds}
use Rattle.aeolus_rules_spec.specs.Definition1.{Lawful}
use Rattle.aeolus_rules_spec.specs.Definition2.{Known, AllKnown}
use Rattle.aeolus_rules_spec.specs.Action.{effect}
use Rattle.aeolus_rules_spec.specs.Run.{Ran, one_more, last_check, run}
use Rattle.aeolus_rules_spec.proofs.Allowed.{number-numbered}
use Rattle.aeolus_rules_spec.proofs.Runs.{run-cases, run-few}
use Rattle.aeolus_rules_spec.proofs.Kept.{points-sound}
use Rattle.aeolus_judge_spec.specs.Report.{report}
use Rattle.aeolus_judge_spec.specs.Course.{both, course}
use Rattle.aeolus_judge_spec.specs.Judged.{Judgement, after_fault, after_run, no_room, in_room, ending, judged}
use Rattle.aeolus_judge_spec.specs.Room.{ReportsFit, SixNever}
use Rattle.aeolus_judge_spec.proofs.Bound.{report-le}

-- ---- what was read is what the rules ask for

pub lawful-of : (u : Universe) → UniverseLawful u → Lawful u
unfolding NamesOfUniversesDiffer
lawful-of u l = record {
  types = l.few;
  states = λ k h. (l.types k h).states;
  initial = λ k h. (l.types k h).initial;
  interfaces = λ k. by_cases (dec_lt k u.count) (λ h. (l.types k h).interfaces) (λ h. rw (l.rest k (omega arith)) (omega arith));
  changes = λ k q s h hq e. by_cases (dec_lt s (type_of u k).states) (λ g. g)
      (λ g. absurd (true≢false (sym e ∙ member-past (type_of u k).states s (to_of u k q) (omega arith) ((l.types k h).to q (omega (arith, (l.types k h).states))))));
  named = names-of-universes-differ u l;
}

action-known : (u : Universe) (a : Action) → ActionLawful u.count a → Known u a
action-known u (new z k) (h, g) = (omega arith, g)
action-known u (del z) h = omega arith
action-known u (change z q s) (h, _, _) = omega arith
action-known u (bind r z y) (_, hz, hy, apart) = (omega arith, omega arith, apart)
action-known u (unbind r z y) (_, hz, hy, apart) = (omega arith, omega arith, apart)

steps-known : (u : Universe) (xs : List Step) → ((j : ℕ) → j < length xs → ActionLawful u.count (action_of (get_or xs j no_step))) → AllKnown u (map action_of xs)
steps-known u [] h = tt
steps-known u (x ∷ xs) h = (action-known u (action_of x) (h 0 (omega arith)), steps-known u xs (λ j l. h (suc j) (omega arith)))

pub all_known : (u : Universe) (p : Plan) → PlanLawful u.count p → AllKnown u (actions_of p)
all_known u p l =
    steps-known u (take p.count p.steps)
    (λ j h. let g : j < p.count = omega (arith, length-take p.count p.steps) in rw (get_or-take p.count p.steps j no_step g) (l.steps j g))

-- ---- what two texts come to

pub record Said (s a : List ℕ) (x : Universe × Plan) : Type 0 where
  pub universe : UniverseLawful x.0
  pub steps : PlanLawful x.0.count x.1

-- the numbers of a text's fault
abbrev pub OfText : ℕ → Type 0
OfText n = (1 ≤ n) × (n ≤ 5)

pub both_ends : (s a : List ℕ) → Ends OfText (Said s a) (both s a)
unfolding both UniversesAreLawful PlansAreLawful
both_ends s a =
    ends-then _ (short-ends (λ n l. l) text.Sheet s) (λ _ _.
    ends-then _ (short-ends (λ n l. l) text.Answer a) (λ _ _.
    ends-then _ (read-ends (λ n l. l) text.Sheet sheet s (sheet-stops s)) (λ u (r, e).
    ends-then _ (read-ends (λ n l. l) text.Answer (plan u.count) a (plan-stops u.count a)) (λ p (q, f).
    reaches (record { universe = universes-are-lawful s r u e; steps = plans-are-lawful u.count a q p f })))))

-- a run of a lawful plan
pub record Runs (x : Universe × Ran) : Type 0 where
  pub universe : UniverseLawful x.0
  pub steps : Plan
  pub lawful : PlanLawful x.0.count steps
  pub ran-is : x.1 ≡ run x.0 nothing (actions_of steps)

course-ends : (s a : List ℕ) → Ends OfText Runs (course s a)
unfolding course
course-ends s a = ends-then _ (both_ends s a) (λ x h. reaches (record { universe = h.universe; steps = x.1; lawful = h.steps; ran-is = refl }))

pub both_read : (s a : List ℕ) (x : Universe × Ran) → course s a ≡ reached x → Runs x
both_read s a x e = told (rw e at (course-ends s a))
  where
    told : Ends OfText Runs (reached x) → Runs x
    told (reaches b) = b

pub fault-numbered : (s a : List ℕ) (x : Text) (n at : ℕ) → course s a ≡ faulty x n at → OfText n
fault-numbered s a x n at e = told (rw e at (course-ends s a))
  where
    told : Ends OfText Runs (faulty x n at) → OfText n
    told (faults l) = l

-- ---- the room

-- the number is 0 or from 60 to 70
run-range : (u : Universe) (acts : List Action) (c : Configuration) → ((run u c acts).refused ≡ 0) ⊎ ((60 ≤ (run u c acts).refused) × ((run u c acts).refused ≤ 70))
unfolding run one_more last_check
run-range u [] c = by-test (holds u c weak) (λ e. rw e (inl refl)) (λ e. rw e (inr (omega arith, omega arith)))
run-range u (a ∷ rest) c =
    run-cases u (λ w. (w.refused ≡ 0) ⊎ ((60 ≤ w.refused) × (w.refused ≤ 70))) c a rest
    (λ e. run-range u rest (effect u c a))
    (λ n. ⊎_elim (λ e. absurd (n e)) (λ h. inr (omega arith, omega arith)) (number-numbered u c a).range)

pub record Fits (u : Universe) (w : Ran) : Type 0 where
  pub short : length (report u w) ≤ 1811
  pub small : w.refused < 100
  pub of-step : (1 ≤ w.refused) × (w.refused ≤ 6) → ⊥
  pub not-fifty : w.refused ≢ 50

run_fits : (u : Universe) (p : Plan) → UniverseLawful u → PlanLawful u.count p → Fits u (run u nothing (actions_of p))
run_fits u p l k =
    let range = run-range u (actions_of p) nothing in
    let few = run-few u (actions_of p) nothing in
    let law = lawful-of u l in
    let small : (run u nothing (actions_of p)).refused < 100 = ⊎_elim (λ e. omega arith) (λ h. omega arith) range in
    record {
      short = report-le u (run u nothing (actions_of p)) law (points-sound u law (actions_of p) (all_known u p k))
          (omega (arith, few, k.few, length-map (take p.count p.steps) action_of, length-take p.count p.steps)) small;
      small = small;
      of-step = λ q. ⊎_elim (λ e. omega (arith, q, e)) (λ h. omega (arith, q, h)) range;
      not-fifty = λ q. ⊎_elim (λ e. omega (arith, q, e)) (λ h. omega (arith, q, h)) range;
    }

pub read_fits : (s a : List ℕ) (u : Universe) (w : Ran) → course s a ≡ reached (u, w) → Fits u w
read_fits s a u w e = let b = both_read s a (u, w) e in rw b.ran-is (run_fits u b.steps b.universe b.lawful)

pub reports-fit : ReportsFit
unfolding ReportsFit
reports-fit s a u w e = (read_fits s a u w e).short

six-where-short : (w : Ran) (r a : List ℕ) (room : ℕ) → w.refused ≢ 6 → ((in_room room w r a).verdict.refused ≡ 6) ↔ (room < length r)
unfolding in_room after_run no_room
six-where-short w r a room h = go (leb (length r) room) refl
  where
    go : (b : Bool) → leb (length r) room ≡ b → ((elim b as (λ _. Judgement) [ true ↦ after_run w r a | false ↦ no_room ]).verdict.refused ≡ 6) ↔ (room < length r)
    go true e = (λ q. absurd (h q), λ l. absurd (omega (arith, leb-true (length r) room e)))
    go false e = (λ q. leb-false (length r) room e, λ l. refl)

pub six-never : SixNever
unfolding SixNever judged ending after_fault
six-never s a = not-six (course s a) refl
  where
    not-six : (z : Course (Universe × Ran)) → course s a ≡ z → (ending s a 8192 z).verdict.refused ≢ 6
    not-six (faulty x n at) e = λ q. let l = fault-numbered s a x n at e in omega arith
    not-six (reached (u, w)) e = λ q. let h = read_fits s a u w e in omega (arith, (six-where-short w (report u w) a 8192 (λ z. h.of-step (omega arith, omega arith))).0 q, h.short)
