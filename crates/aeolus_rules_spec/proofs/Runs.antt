-- A refused action changes nothing; a run is its accepted part; 0 is a deployment run, 70 is exact; every accepted point is strong correct.
-- Assumes nothing.
use mathlib.Core.Path.{◌≡◌, refl, sym, ap, ◌∙◌, subst⁻¹}
use mathlib.Core.Logic.{◌⊎◌, ⊎_elim, inl, inr, ◌↔◌, ◌≢◌, by_cases}
use mathlib.Core.Bool.{true, false}
use mathlib.Core.List.{List, [], ◌∷◌}
use Prim.Native.Nat.{ℕ, suc, ◌≤◌}
use native.Mathlib.Omega.{arith}
use native.Mathlib.Decide.{ℕ_discrete}
use lib.Dec.{eqb}
use lib.ListN.{length, take}
use borrow.Author.Tests.{eq-eqb, ne_eqb}
use Rattle.sets.proofs.Laws.{all_of, member-past}
use Rattle.item_spec.proofs.Tests.{by-test}
use Rattle.aeolus_model.specs.Model.{Universe, Configuration, nothing, provision, weak, strong, NamesDiffer}
use Rattle.aeolus_rules_spec.specs.Correct.{component_holds, holds}
use Rattle.aeolus_model.specs.Action.{Action}
use Rattle.aeolus_rules_spec.specs.Action.{effect, number, Acted, act}
use Rattle.aeolus_rules_spec.specs.Run.{Ran, one_more, last_check, run}
use Rattle.aeolus_rules_spec.specs.Definition3.{StrongCorrect, Correct, StrongExactly, WeakExactly}
use Rattle.aeolus_rules_spec.specs.Definition7.{AllowedExactly, Reaches, PointsAreCorrect, ZeroIsADeploymentRun, SeventyExactly}
use Rattle.aeolus_rules_spec.specs.Refused.{RefusedChangesNothing, RunIsItsAcceptedPart}
use Rattle.aeolus_rules_spec.proofs.Exactly.{strong-exactly, weak-exactly}
use Rattle.aeolus_rules_spec.proofs.Allowed.{Holds, number-exactly, allowed-exactly, last-exactly, number-numbered}

module _ (u : Universe) where
  act-on : (c : Configuration) (a : Action) → number u c a ≡ 0 → act u c a ≡ record { refused = 0; configuration = effect u c a }
  unfolding act
  act-on c a e = rw (eq-eqb (number u c a) 0 e)

  act-stop : (c : Configuration) (a : Action) → number u c a ≢ 0 → act u c a ≡ record { refused = number u c a; configuration = c }
  unfolding act
  act-stop c a n = rw (ne_eqb (number u c a) 0 n)

  -- the run after its first action
  onward : List Action → Acted → Ran
  onward rest m =
      elim (eqb m.refused 0) [
        | true ↦ one_more (run u m.configuration rest)
        | false ↦ record { accepted = 0; refused = m.refused; configuration = m.configuration }
      ]

  run_on : (c : Configuration) (a : Action) (rest : List Action) → number u c a ≡ 0 → run u c (a ∷ rest) ≡ one_more (run u (effect u c a) rest)
  unfolding run onward
  run_on c a rest e = ap (onward rest) (act-on c a e)

  run-stop : (c : Configuration) (a : Action) (rest : List Action) → number u c a ≢ 0
      → run u c (a ∷ rest) ≡ record { accepted = 0; refused = number u c a; configuration = c }
  unfolding run onward
  run-stop c a rest n = ap (onward rest) (act-stop c a n) ∙ rw (ne_eqb (number u c a) 0 n, onward)

  -- a claim on runs, by their first actions
  pub run-cases : (P : Ran → Type 0) (c : Configuration) (a : Action) (rest : List Action)
      → (number u c a ≡ 0 → P (one_more (run u (effect u c a) rest)))
      → (number u c a ≢ 0 → P (record { accepted = 0; refused = number u c a; configuration = c }))
      → P (run u c (a ∷ rest))
  run-cases P c a rest on stop =
      by_cases (ℕ_discrete (number u c a) 0) (λ e. subst⁻¹ P (run_on c a rest e) (on e)) (λ n. subst⁻¹ P (run-stop c a rest n) (stop n))

  run-keeps : (P : Configuration → Type 0) → ((c : Configuration) (a : Action) → P c → number u c a ≡ 0 → P (effect u c a))
      → (acts : List Action) (c : Configuration) → P c → P (run u c acts).configuration
  unfolding run one_more
  run-keeps P keep [] c h = h
  run-keeps P keep (a ∷ rest) c h = run-cases (λ w. P w.configuration) c a rest (λ e. run-keeps P keep rest (effect u c a) (keep c a h e)) (λ n. h)

  run-part : (acts : List Action) (c : Configuration)
      → run u c (take (run u c acts).accepted acts)
      ≡ record { accepted = (run u c acts).accepted; refused = last_check u (run u c acts).configuration; configuration = (run u c acts).configuration }
  unfolding run one_more
  run-part [] c = refl
  run-part (a ∷ rest) c =
      run-cases (λ w. run u c (take w.accepted (a ∷ rest)) ≡ record { accepted = w.accepted; refused = last_check u w.configuration; configuration = w.configuration }) c a rest
      (λ e. run_on c a (take (run u (effect u c a) rest).accepted rest) e ∙ ap one_more (run-part rest (effect u c a)))
      (λ n. refl)

  -- no more actions are accepted than there are; the number is 0 or from 60 to 70
  pub run-few : (acts : List Action) (c : Configuration) → (run u c acts).accepted ≤ length acts
  unfolding run one_more
  run-few [] c = omega arith
  run-few (a ∷ rest) c = run-cases (λ w. w.accepted ≤ suc (length rest)) c a rest (λ e. omega (arith, run-few rest (effect u c a))) (λ n. omega arith)

  start-holds : (m : ℕ) → holds u nothing m ≡ true
  unfolding holds component_holds nothing
  start-holds m = all_of 32 (component_holds u nothing m) (λ z h. rw (member-past 0 z 0 (omega arith) (omega arith)))

pub refused-changes-nothing : RefusedChangesNothing
unfolding RefusedChangesNothing
refused-changes-nothing u c a =
    by_cases (ℕ_discrete (number u c a) 0)
    (λ e. subst⁻¹ (λ (w : Acted). w.refused ≢ 0 → w.configuration ≡ c) (act-on u c a e) (λ n. absurd (n refl)))
    (λ n. subst⁻¹ (λ (w : Acted). w.refused ≢ 0 → w.configuration ≡ c) (act-stop u c a n) (λ _. refl))

pub run-is-its-accepted-part : RunIsItsAcceptedPart
unfolding RunIsItsAcceptedPart
run-is-its-accepted-part u c acts = run-part u acts c

module _ (u : Universe) (named : NamesDiffer u) where
  start-correct : Correct u nothing
  unfolding StrongExactly WeakExactly
  start-correct = record {
    strong-correct = (strong-exactly u nothing named).0 (start-holds u provision, start-holds u strong);
    weak-demands = (weak-exactly u nothing named).0 (start-holds u weak);
  }

  -- the last configuration of a run that is strong correct is correct just where the last check is 0
  last-correct : (d : Configuration) → StrongCorrect u d → (last_check u d ≡ 0) ↔ Correct u d
  unfolding WeakExactly
  last-correct d s = (
    (λ e. record { strong-correct = s; weak-demands = (weak-exactly u d named).0 ((last-exactly u d).0 e) }),
    (λ r. (last-exactly u d).1 ((weak-exactly u d named).1 r.weak-demands)),
  )

  -- how a run ends: at a refusal, or after the last action
  abbrev Ends : Configuration → List Action → Ran → Type 0
  Ends c acts w = ((60 ≤ w.refused) × (w.refused ≤ 69)) ⊎ (Reaches u c acts w.configuration × (w.refused ≡ last_check u w.configuration))

  run_ends : (acts : List Action) (c : Configuration) → Ends c acts (run u c acts)
  unfolding run one_more AllowedExactly
  run_ends [] c = inr (refl, refl)
  run_ends (a ∷ rest) c =
      run-cases u (Ends c (a ∷ rest)) c a rest
      (λ e. let (own, s) = (allowed-exactly u c a named).0 e in
      ⊎_elim (λ h. inl h) (λ (r, q). inr ((own, s, r), q)) (run_ends rest (effect u c a)))
      (λ n. ⊎_elim (λ e. absurd (n e)) (λ h. inl h) (number-numbered u c a).range)

  -- a plan that reaches d runs to d
  reaches-runs : (acts : List Action) (c d : Configuration) → Reaches u c acts d → ((run u c acts).configuration ≡ d) × ((run u c acts).refused ≡ last_check u d)
  unfolding run one_more AllowedExactly
  reaches-runs [] c d e = (e, ap (last_check u) e)
  reaches-runs (a ∷ rest) c d (own, s, r) =
      subst⁻¹ (λ (w : Ran). (w.configuration ≡ d) × (w.refused ≡ last_check u d)) (run_on u c a rest ((allowed-exactly u c a named).1 (own, s))) (reaches-runs rest (effect u c a) d r)

  reached-strong : (acts : List Action) (c d : Configuration) → StrongCorrect u c → Reaches u c acts d → StrongCorrect u d
  reached-strong [] c d s e = subst⁻¹ (StrongCorrect u) (sym e) s
  reached-strong (a ∷ rest) c d s (own, t, r) = reached-strong rest (effect u c a) d t r

  last-range : (d : Configuration) → (last_check u d ≡ 0) ⊎ (last_check u d ≡ 70)
  unfolding last_check
  last-range d = by-test (holds u d weak) (λ e. rw e (inl refl)) (λ e. rw e (inr refl))

pub points-are-correct : PointsAreCorrect
unfolding PointsAreCorrect StrongExactly
points-are-correct u named acts =
    (strong-exactly u (run u nothing acts).configuration named).0
    (run-keeps u (Holds u) (λ c a h e. ((number-exactly u c a).0 e).1) acts nothing (start-holds u provision, start-holds u strong))

pub zero-is-a-deployment-run : ZeroIsADeploymentRun
unfolding ZeroIsADeploymentRun
zero-is-a-deployment-run u named acts = (
  (λ e. ⊎_elim
      (λ h. absurd (omega arith))
      (λ (r, q). let d = (run u nothing acts).configuration in (
        d,
        record {
          first = start-correct u named;
          reaches = r;
          last = (last-correct u named d (reached-strong u named acts nothing d (start-correct u named).strong-correct r)).0 (sym q ∙ e);
        },
      ))
      (run_ends u named acts nothing)),
  (λ (d, t). (reaches-runs u named acts nothing d t.reaches).1 ∙ (last-correct u named d t.last.strong-correct).1 t.last),
)

pub seventy-exactly : SeventyExactly
unfolding SeventyExactly
seventy-exactly u named acts = (
  (λ e. ⊎_elim
      (λ h. absurd (omega arith))
      (λ (r, q). let d = (run u nothing acts).configuration in
      (d, r, λ t. absurd (let z = (last-correct u named d t.strong-correct).1 t in omega arith)))
      (run_ends u named acts nothing)),
  (λ (d, r, n). (reaches-runs u named acts nothing d r).1
      ∙ ⊎_elim (λ z. absurd (n ((last-correct u named d (reached-strong u named acts nothing d (start-correct u named).strong-correct r)).0 z))) (λ z. z) (last-range u named d)),
)
