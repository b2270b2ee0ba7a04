-- The actions of a plan: 003's, as a `step=` line has them, a verb and up to three numbers.
use Rattle.std.specs.Prelude.{cond, List, map, ℕ, eqb, get_or, set, replicate, take}
use Rattle.aeolus_model.specs.declared.Step.{Step}

pub record Plan : Type 0 where
  pub steps : List Step
  pub count : ℕ

abbrev pub no_step : Step
no_step = record { verb = 0; first = 0; second = 0; third = 0 }

unfoldable pub no_plan : Plan
no_plan = record { steps = replicate 1024 no_step; count = 0 }

-- the verbs, in the order of the paper
abbrev pub new_verb : ℕ
new_verb = 0

abbrev pub del_verb : ℕ
del_verb = 1

abbrev pub change_verb : ℕ
change_verb = 2

abbrev pub bind_verb : ℕ
bind_verb = 3

abbrev pub unbind_verb : ℕ
unbind_verb = 4

-- `new,id,type`, `del,id`, `change,id,from,to`, `bind,interface,requirer,provider`, `unbind` with the same three
pub data Action : Type 0 where
  new : ℕ → ℕ → Action
  del : ℕ → Action
  change : ℕ → ℕ → ℕ → Action
  bind unbind : ℕ → ℕ → ℕ → Action

unfoldable pub action_of : Step → Action
action_of s =
    cond (eqb s.verb new_verb) (new s.first s.second)
    (cond (eqb s.verb del_verb) (del s.first)
    (cond (eqb s.verb change_verb) (change s.first s.second s.third)
    (cond (eqb s.verb bind_verb) (bind s.first s.second s.third)
    (unbind s.first s.second s.third))))

abbrev pub step_of : Plan → ℕ → Step
step_of p n = get_or p.steps n no_step

-- the actions that a plan has
abbrev pub actions_of : Plan → List Action
actions_of p = map action_of (take p.count p.steps)

unfoldable pub with_step : Plan → ℕ → Step → Plan
with_step p n s = record { steps = set p.steps n s; count = p.count }

unfoldable pub with_steps : Plan → ℕ → Plan
with_steps p n = record { steps = p.steps; count = n }
