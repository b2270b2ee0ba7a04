-- Where the screen answers 7, and what a refusal of it leaves.
-- Assumes nothing.
use mathlib.Core.Path.{◌≡◌, sym, ap, ◌∙◌}
use mathlib.Core.Logic.{◌≢◌, by_cases, ⊎_elim}
use Prim.Native.Nat.{ℕ}
use native.Mathlib.Decide.{ℕ_discrete}
use native.Mathlib.Omega.{arith}
use Rattle.item_spec.proofs.Tests.{by-test}
use Rattle.model.specs.declared.Tables.{Tables}
use Rattle.model.specs.declared.Program.{Program}
use Rattle.model.specs.declared.Step.{Step}
use Rattle.model.specs.declared.Configuration.{Configuration}
use Rattle.model.specs.declared.Stepped.{Stepped}
use Rattle.rules_spec.specs.Refused.{RefusedChangesNothing}
use Rattle.rules_spec.specs.Step.{step_check, step}
use Rattle.rules_spec.proofs.Walks.{step-on, step-stop, refused-changes-nothing}
use Rattle.rules_spec.proofs.Numbers.{Numbered, step-numbered}
use Rattle.judge_spec.specs.Course.{default_depth}
use Rattle.hall.specs.Screen.{limit_broken, lent_lawful, hall_step}
use Rattle.hall.specs.Agree.{RefusedLeaves, SevenExactly}

-- the number of a step by value
pub step-number : (t : Tables) (p : Program) (c : Configuration) (s : Step) → (step default_depth t p c s).refused ≡ step_check default_depth t p c s
step-number t p c s =
    by_cases (ℕ_discrete (step_check default_depth t p c s) 0) (λ e. ap (λ (m : Stepped). m.refused) (step-on default_depth t p c s e) ∙ sym e)
    (λ n. ap (λ (m : Stepped). m.refused) (step-stop default_depth t p c s n))

pub refused-leaves : RefusedLeaves
unfolding RefusedLeaves RefusedChangesNothing hall_step
refused-leaves t p c s n =
    by-test (lent_lawful t p c s) (λ e. rw e (refused-changes-nothing default_depth t p c s (rw e at n))) (λ e. rw e)

-- a step's number is 0 or 10 to 38
not-seven : {n : ℕ} → Numbered n → n ≢ limit_broken
not-seven {n} h = ⊎_elim (λ e. omega arith) (λ e. omega arith) h.range

pub seven-exactly : SevenExactly
unfolding SevenExactly hall_step
seven-exactly t p c s = (
  λ q. by-test (lent_lawful t p c s) (λ e. absurd (not-seven (step-numbered default_depth t p c s) (sym (step-number t p c s) ∙ (rw e at q)))) (λ e. e),
  λ e. rw e,
)
