-- A refused step changes nothing; a walk is its accepted part; what each allowed step keeps, a walk keeps.
-- Assumes nothing.
use mathlib.Core.Path.{◌≡◌, refl, ap, ◌∙◌, subst⁻¹}
use mathlib.Core.Logic.{◌≢◌, by_cases}
use mathlib.Core.Bool.{true, false, ◌&&◌, cond}
use mathlib.Core.List.{List, [], ◌∷◌}
use Prim.Native.Nat.{ℕ, suc, ◌<◌}
use native.Mathlib.Decide.{ℕ_discrete}
use lib.Dec.{eqb, leb}
use lib.ListN.{take}
use borrow.Author.Tests.{eq-eqb, ne_eqb, leb-false}
use Rattle.model.specs.declared.Tables.{Tables}
use Rattle.model.specs.declared.Program.{Program}
use Rattle.model.specs.declared.Step.{Step}
use Rattle.model.specs.declared.Configuration.{Configuration}
use Rattle.model.specs.declared.Stepped.{Stepped}
use Rattle.model.specs.declared.Concerned.TheVariants.{NoPort}
use Rattle.model.specs.declared.Walked.{Walked}
use Rattle.model.specs.View.{with_done}
use Rattle.item_spec.proofs.Tests.{by-test}
use Rattle.rules_spec.specs.Standing.{standing}
use Rattle.rules_spec.specs.Action.{concern, effect}
use Rattle.rules_spec.specs.Step.{is_next, action, step_check_with, check_at, step_check, step_to, step}
use Rattle.rules_spec.specs.Walk.{one_more, walk}
use Rattle.rules_spec.specs.Refused.{RefusedChangesNothing, WalkIsItsAcceptedPart}
use Rattle.rules_spec.proofs.Local.{rest-after}
use Rattle.rules_spec.proofs.Allowed.{passes}

module _ (default : ℕ) (t : Tables) (p : Program) where
  pub step-on : (c : Configuration) (s : Step) → step_check default t p c s ≡ 0 → step default t p c s ≡ record { refused = 0; port = NoPort; configuration = step_to t p c s }
  unfolding step
  step-on c s e = rw (eq-eqb (step_check default t p c s) 0 e)

  pub step-stop : (c : Configuration) (s : Step) → step_check default t p c s ≢ 0
      → step default t p c s ≡ record { refused = step_check default t p c s; port = concern t (standing c) c (action p c s) (step_check default t p c s); configuration = c }
  unfolding step
  step-stop c s n = rw (ne_eqb (step_check default t p c s) 0 n)

  -- the walk after its first step
  onward : List Step → Stepped → Walked
  onward ss m =
      elim (eqb m.refused 0) [
        | true ↦ one_more (walk default t p m.configuration ss)
        | false ↦ record { accepted = 0; refused = m.refused; port = m.port; configuration = m.configuration }
      ]

  pub walk-on : (c : Configuration) (s : Step) (ss : List Step) → step_check default t p c s ≡ 0
      → walk default t p c (s ∷ ss) ≡ one_more (walk default t p (step_to t p c s) ss)
  unfolding walk onward
  walk-on c s ss e = ap (onward ss) (step-on c s e)

  pub walk-stop : (c : Configuration) (s : Step) (ss : List Step) → step_check default t p c s ≢ 0
      → walk default t p c (s ∷ ss) ≡ record { accepted = 0; refused = step_check default t p c s; port = concern t (standing c) c (action p c s) (step_check default t p c s); configuration = c }
  unfolding walk onward
  walk-stop c s ss n = ap (onward ss) (step-stop c s n) ∙ rw (ne_eqb (step_check default t p c s) 0 n, onward)

  -- a claim on walks, by their first steps
  pub walk-cases : (P : Walked → Type 0) (c : Configuration) (s : Step) (ss : List Step)
      → (step_check default t p c s ≡ 0 → P (one_more (walk default t p (step_to t p c s) ss)))
      → (step_check default t p c s ≢ 0 → P (record { accepted = 0; refused = step_check default t p c s; port = concern t (standing c) c (action p c s) (step_check default t p c s); configuration = c }))
      → P (walk default t p c (s ∷ ss))
  walk-cases P c s ss on stop =
      by_cases (ℕ_discrete (step_check default t p c s) 0) (λ e. subst⁻¹ P (walk-on c s ss e) (on e)) (λ n. subst⁻¹ P (walk-stop c s ss n) (stop n))

  pub walk-keeps : (P : Configuration → Type 0) → ((c : Configuration) (s : Step) → P c → step_check default t p c s ≡ 0 → P (step_to t p c s))
      → (ss : List Step) (c : Configuration) → P c → P (walk default t p c ss).configuration
  unfolding walk one_more
  walk-keeps P keep [] c h = h
  walk-keeps P keep (s ∷ ss) c h =
      walk-cases (λ w. P w.configuration) c s ss (λ e. walk-keeps P keep ss (step_to t p c s) (keep c s h e)) (λ n. h)

  -- the first step of an allowed answer is allowed, and so is the rest
  pub allowed-head : (c : Configuration) (s : Step) (ss : List Step) → (walk default t p c (s ∷ ss)).refused ≡ 0 → step_check default t p c s ≡ 0
  allowed-head c s ss = walk-cases (λ w. w.refused ≡ 0 → step_check default t p c s ≡ 0) c s ss (λ e _. e) (λ n q. q)

  pub allowed-tail : (c : Configuration) (s : Step) (ss : List Step) → (walk default t p c (s ∷ ss)).refused ≡ 0 → (walk default t p (step_to t p c s) ss).refused ≡ 0
  unfolding one_more
  allowed-tail c s ss =
      walk-cases (λ w. w.refused ≡ 0 → (walk default t p (step_to t p c s) ss).refused ≡ 0) c s ss (λ e q. q) (λ n q. absurd (n q))

  -- an allowed walk names no port
  pub walk-unnamed : (ss : List Step) (c : Configuration) → (walk default t p c ss).refused ≡ 0 → (walk default t p c ss).port ≡ NoPort
  unfolding walk one_more
  walk-unnamed [] c = λ e. refl
  walk-unnamed (s ∷ ss) c =
      walk-cases (λ w. w.refused ≡ 0 → w.port ≡ NoPort) c s ss (λ _ e. walk-unnamed ss (step_to t p c s) e) (λ n e. absurd (n e))

  walk-part : (ss : List Step) (c : Configuration)
      → walk default t p c (take (walk default t p c ss).accepted ss)
      ≡ record { accepted = (walk default t p c ss).accepted; refused = 0; port = NoPort; configuration = (walk default t p c ss).configuration }
  unfolding walk one_more
  walk-part [] c = refl
  walk-part (s ∷ ss) c =
      walk-cases (λ w. walk default t p c (take w.accepted (s ∷ ss)) ≡ record { accepted = w.accepted; refused = 0; port = NoPort; configuration = w.configuration }) c s ss
      (λ e. walk-on c s (take (walk default t p (step_to t p c s) ss).accepted ss) e ∙ ap one_more (walk-part ss (step_to t p c s)))
      (λ n. refl)

  -- the number of a step is that of its action, and `next` has an instruction left
  pub number-facts : (c : Configuration) (s : Step) → step_check default t p c s ≡ 0 → (check_at default t c (action p c s) ≡ 0) × (is_next s ≡ true → c.done < p.count)
  unfolding step_check_with
  number-facts c s e =
      let (left, rest) = passes (is_next s && leb p.count c.done) _ e in
      (rest, λ n. leb-false p.count c.done (rw n at left))

-- a claim on the configuration after an allowed step: `next` counts one more instruction
pub after-cases : (t : Tables) (p : Program) (P : Configuration → Type 0) (c : Configuration) (s : Step)
    → (is_next s ≡ true → P (with_done (effect t c (action p c s)) (suc c.done))) → (is_next s ≡ false → P (effect t c (action p c s))) → P (step_to t p c s)
unfolding step_to
after-cases t p P c s next move = by-test (is_next s) (λ e. rw e (next e)) (λ e. rw e (move e))

-- the instructions done
pub after-done : (t : Tables) (p : Program) (c : Configuration) (s : Step) → (step_to t p c s).done ≡ cond (is_next s) (suc c.done) c.done
unfolding with_done
after-done t p c s = after-cases t p (λ d. d.done ≡ cond (is_next s) (suc c.done) c.done) c s (λ e. rw e) (λ e. rw e (rest-after t c (action p c s)).done)

pub refused-changes-nothing : RefusedChangesNothing
unfolding RefusedChangesNothing
refused-changes-nothing default t p c s n =
    by_cases (ℕ_discrete (step_check default t p c s) 0) (λ e. absurd (n (ap (λ (m : Stepped). m.refused) (step-on default t p c s e))))
    (λ q. ap (λ (m : Stepped). m.configuration) (step-stop default t p c s q))

pub walk-is-its-accepted-part : WalkIsItsAcceptedPart
unfolding WalkIsItsAcceptedPart
walk-is-its-accepted-part default t p c ss = walk-part default t p ss c
