-- One step: `next` carries out the next instruction of the program, the other verbs are moves.
use Rattle.std.specs.Prelude.{Bool, ◌&&◌, cond, ℕ, suc, eqb, leb}
use Rattle.model.specs.declared.Tables.{Tables}
use Rattle.model.specs.declared.Program.{Program}
use Rattle.model.specs.declared.Step.{Step}
use Rattle.model.specs.declared.Configuration.{Configuration}
use Rattle.model.specs.declared.Stepped.{Stepped}
use Rattle.model.specs.View.{with_done}
use Rattle.model.specs.Verb.{next_verb}
use Rattle.rules_spec.specs.Refusal.{no_instruction_left, settle}
use Rattle.rules_spec.specs.Standing.{Standing, standing}
use Rattle.rules_spec.specs.Tickets.{instruction_of, pushed_to}
use Rattle.rules_spec.specs.Action.{Action, instruction_action, move_action, action_check, effect, concern}

abbrev pub is_next : Step → Bool
is_next s = eqb s.verb next_verb

-- instruction number n of the program
unfoldable pub action_at : Program → ℕ → Action
action_at p n = instruction_action (pushed_to p (instruction_of p n).id n) (instruction_of p n)

-- what the step does
unfoldable pub action : Program → Configuration → Step → Action
action p c s = cond (is_next s) (action_at p c.done) (move_action s)

-- its number, by the number of what it does
abbrev pub number_by : (Action → ℕ) → Program → Configuration → Step → ℕ
number_by checks p c s = cond (is_next s && leb p.count c.done) no_instruction_left (checks (action p c s))

-- at c, where the connections x stand
unfoldable pub step_check_with : ℕ → Tables → Program → Standing → Configuration → Step → ℕ
step_check_with default t p x c s = number_by (action_check default t x c) p c s

-- with the connections of the table
abbrev pub check_at : ℕ → Tables → Configuration → Action → ℕ
check_at default t c a = action_check default t (standing c) c a

abbrev pub step_check : ℕ → Tables → Program → Configuration → Step → ℕ
step_check default t p c s = step_check_with default t p (standing c) c s

unfoldable pub step_to : Tables → Program → Configuration → Step → Configuration
step_to t p c s = cond (is_next s) (with_done (effect t c (action p c s)) (suc c.done)) (effect t c (action p c s))

unfoldable pub step : ℕ → Tables → Program → Configuration → Step → Stepped
step default t p c s = settle (step_check default t p c s) (concern t (standing c) c (action p c s)) c (step_to t p c s)
