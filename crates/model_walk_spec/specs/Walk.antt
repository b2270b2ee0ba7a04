-- "From the empty start take at each turn the first allowed step in this order .. Stop when no step is allowed or after 1,024."
use Rattle.std.specs.Prelude.{true, false, cond, List, [], ◌∷◌, ℕ, zero, suc, eqb, leb, length}
use Rattle.model.specs.declared.Tables.{Tables}
use Rattle.model.specs.declared.Program.{Program}
use Rattle.model.specs.declared.Step.{Step}
use Rattle.model.specs.declared.Configuration.{Configuration}
use Rattle.rules_spec.specs.Step.{step_check, step_to}
use Rattle.rules_spec.specs.Walk.{walk}
use Rattle.done_spec.specs.Done.{all_done}
use Rattle.model_walk_spec.specs.declared.Ending.{Ending}
use Rattle.model_walk_spec.specs.declared.Ending.TheVariants.{Done, Cut, Stuck}
use Rattle.model_walk_spec.specs.Order.{in_order}

-- the step that is taken, or none
pub data Turn : Type 0 where
  takes : Step → Turn
  rests : Turn

-- the first of some steps that is allowed in c
unfoldable pub first_of : ℕ → Tables → Program → Configuration → List Step → Turn
first_of default t p c [] = rests
first_of default t p c (s ∷ ss) = elim (eqb (step_check default t p c s) 0) [ true ↦ takes s | false ↦ first_of default t p c ss ]

-- at most n steps from c on
unfoldable pub model_from : ℕ → Tables → Program → ℕ → Configuration → List Step
model_from default t p zero c = []
model_from default t p (suc n) c = elim (first_of default t p c in_order) [ takes s ↦ s ∷ model_from default t p n (step_to t p c s) | rests ↦ [] ]

-- "after 1,024"
abbrev pub most_steps : ℕ
most_steps = 1024

-- from the start c
abbrev pub model_steps : ℕ → Tables → Program → Configuration → List Step
model_steps default t p c = model_from default t p most_steps c

-- "done (program at its end, all queues empty, at whatever length), cut (1,024 steps and not done), or stuck (fewer, and not done)"
abbrev pub ending : Program → ℕ → Configuration → Ending
ending p n c = cond (all_done p c) Done (cond (leb most_steps n) Cut Stuck)

-- where the model walk from c comes to, and how it ends
abbrev pub model_reached : ℕ → Tables → Program → Configuration → Configuration
model_reached default t p c = (walk default t p c (model_steps default t p c)).configuration

unfoldable pub model_ending : ℕ → Tables → Program → Configuration → Ending
model_ending default t p c = ending p (length (model_steps default t p c)) (model_reached default t p c)
