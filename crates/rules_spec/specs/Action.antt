-- The ten kinds of steps: six instructions and four moves, with their number and effect.
use Rattle.std.specs.Prelude.{cond, List, ℕ, suc, eqb}
use Rattle.model.specs.declared.Tables.{Tables}
use Rattle.model.specs.declared.Instruction.{Instruction}
use Rattle.model.specs.declared.Step.{Step}
use Rattle.model.specs.declared.Connection.{Connection}
use Rattle.model.specs.declared.Configuration.{Configuration}
use Rattle.model.specs.declared.Concerned.{Concerned}
use Rattle.model.specs.declared.Concerned.TheVariants.{NoPort}
use Rattle.model.specs.View.{instance}
use Rattle.model.specs.Verb.{add_verb, del_verb, pushb_verb, con_verb, dcon_verb, push_ticket_verb, wait_ticket_verb, fire_verb, end_verb, enter_verb}
use Rattle.rules_spec.specs.Standing.{Standing}
use Rattle.rules_spec.specs.Ports.{concerned}
use Rattle.rules_spec.specs.Tickets.{plain_push, ticket_push, not_above, has_stamp}
use Rattle.rules_spec.specs.Add.{add_check, added}
use Rattle.rules_spec.specs.Del.{del_check, deleted}
use Rattle.rules_spec.specs.PushB.{Push, push_with, plain, pushb_check, pushed}
use Rattle.rules_spec.specs.Con.{con_check, connected}
use Rattle.rules_spec.specs.DCon.{dcon_check, disconnected}
use Rattle.rules_spec.specs.Wait.{Waiting, whole, one, wait_check}
use Rattle.rules_spec.specs.Fire.{fire_check, fire_to, after_fire}
use Rattle.rules_spec.specs.End.{end_check, end_to}
use Rattle.rules_spec.specs.Enter.{enter_check, enter_to, after_enter}
use Rattle.rules_spec.specs.Finish.{finish_check, finished}

pub data Action : Type 0 where
  add : ℕ → ℕ → Action
  del : ℕ → Action
  pushb : ℕ → Push → Action
  con : Connection → Action
  dcon : Connection → Action
  wait : Waiting → Action
  fire : ℕ → ℕ → Action
  end : ℕ → ℕ → Action
  enter : ℕ → ℕ → Action
  finish : ℕ → Action

-- the connection that a `con` or `dcon` names
abbrev pub named : Instruction → Connection
named n = record { user = n.id; useport = n.number; provider = n.provider; provideport = n.provideport }

-- a push without ticket, and one with a ticket, after the pushes l
abbrev pub plainly : Instruction → Push
plainly n = plain (plain_push n)

abbrev pub ticketed : List ℕ → Instruction → Push
ticketed l n = push_with (ticket_push n) (not_above (suc n.provider) l)

-- a wait for the whole queue, and one for a push among l
abbrev pub for_all : Instruction → Waiting
for_all n = whole n.id

abbrev pub for_one : List ℕ → Instruction → Waiting
for_one l n = one n.id n.number (has_stamp (suc n.number) l)

-- the instruction of a `do` line, after the pushes l to its instance; a code that no line says counts as the wait
unfoldable pub instruction_action : List ℕ → Instruction → Action
instruction_action l n =
    cond (eqb n.verb add_verb) (add n.id n.number)
    (cond (eqb n.verb del_verb) (del n.id)
    (cond (eqb n.verb pushb_verb) (pushb n.id (plainly n))
    (cond (eqb n.verb con_verb) (con (named n))
    (cond (eqb n.verb dcon_verb) (dcon (named n))
    (cond (eqb n.verb push_ticket_verb) (pushb n.id (ticketed l n))
    (cond (eqb n.verb wait_ticket_verb) (wait (for_one l n))
    (wait (for_all n))))))))

-- the move of a `step` line other than `next`
unfoldable pub move_action : Step → Action
move_action s =
    cond (eqb s.verb fire_verb) (fire s.id s.number)
    (cond (eqb s.verb end_verb) (end s.id s.number)
    (cond (eqb s.verb enter_verb) (enter s.id s.number)
    (finish s.id)))

-- its number at c, where the connections x stand; those of `fire` and `enter`, which ask the ports, are given
abbrev pub check_by : (ℕ → ℕ → ℕ) → (ℕ → ℕ → ℕ) → ℕ → Tables → Standing → Configuration → Action → ℕ
check_by fires enters default t x c (add i k) = add_check c i
check_by fires enters default t x c (del i) = del_check x c i
check_by fires enters default t x c (pushb i b) = pushb_check default t c i b
check_by fires enters default t x c (con k) = con_check t x c k
check_by fires enters default t x c (dcon k) = dcon_check t x c k
check_by fires enters default t x c (wait w) = wait_check c w
check_by fires enters default t x c (fire i p) = fires i p
check_by fires enters default t x c (end i y) = end_check c i y
check_by fires enters default t x c (enter i p) = enters i p
check_by fires enters default t x c (finish i) = finish_check t c i

unfoldable pub action_check : ℕ → Tables → Standing → Configuration → Action → ℕ
action_check default t x c a = check_by (fire_check t x c) (enter_check t x c) default t x c a

unfoldable pub effect : Tables → Configuration → Action → Configuration
effect t c (add i k) = added t c i k
effect t c (del i) = deleted c i
effect t c (pushb i b) = pushed c i b.slot
effect t c (con k) = connected c k
effect t c (dcon k) = disconnected c k
effect t c (wait w) = c
effect t c (fire i p) = fire_to t c i p
effect t c (end i x) = end_to c i x
effect t c (enter i p) = enter_to t c i p
effect t c (finish i) = finished c i

-- the use port that the number n of the action is about
unfoldable pub concern : Tables → Standing → Configuration → Action → ℕ → Concerned
concern t x c (fire i p) n = concerned t x c i (instance c i) (after_fire t c i p) n
concern t x c (enter i p) n = concerned t x c i (instance c i) (after_enter t c i p) n
concern t x c (add i k) n = NoPort
concern t x c (del i) n = NoPort
concern t x c (pushb i b) n = NoPort
concern t x c (con k) n = NoPort
concern t x c (dcon k) n = NoPort
concern t x c (wait w) n = NoPort
concern t x c (end i y) n = NoPort
concern t x c (finish i) n = NoPort
