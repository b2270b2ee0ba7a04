-- Every kind of line of the two texts as it is written, and the number that the reader gives for that line, 0 where it is read: 2 before 3 before 4.
use Rattle.std.specs.Prelude.{ℕ, List, ◌++◌, Bool, not, ◌&&◌, ◌||◌, cond, eqb}
use Rattle.item_spec.specs.Reader.{bytes}
use Rattle.item_spec.specs.Write.{mask_text, one_text, two_text, three_text, four_text}
use Rattle.model.specs.declared.Instruction.{Instruction}
use Rattle.model.specs.declared.Step.{Step}
use Rattle.model.specs.Verb.{add_verb, del_verb, pushb_verb, con_verb, dcon_verb, wait_verb, push_ticket_verb, wait_ticket_verb, next_verb, fire_verb, end_verb, enter_verb, finish_verb}
use Rattle.read_spec.specs.Limits.{mask_ok, end_ok, id_ok, place_ok, port_ok, transition_ok, behavior_ok, ticket_ok, has_tickets, edition_ok, kind_ok, type_ok, initial_ok, ends_ok, use_ok}
use Rattle.rules_spec.specs.Refusal.{◌⇒◌∣◌}

-- a list to the line's end, and two of them
abbrev pub set_text : ℕ → List ℕ
set_text m = mask_text m ++ bytes "\n"

abbrev pub sets_text : ℕ → ℕ → List ℕ
sets_text m n = mask_text m ++ bytes "," ++ mask_text n ++ bytes "\n"

-- "a number beyond its limit"
abbrev pub limit_fault : Bool → ℕ
limit_fault ok = not ok ⇒ 3 ∣ 0

-- `sheet=`: another number than 1 and 2 is a form fault
unfoldable pub edition_fault : ℕ → ℕ
edition_fault e = not (edition_ok e) ⇒ 2 ∣ 0

-- `initial=` list, in a type of n places
unfoldable pub initial_text : ℕ → List ℕ
initial_text m = bytes "initial=" ++ set_text m

unfoldable pub initial_fault : ℕ → ℕ → ℕ
initial_fault n m = not (mask_ok n m) ⇒ 3 ∣ not (initial_ok m) ⇒ 4 ∣ 0

-- `tran=source,destination`, in a type of n places
unfoldable pub tran_text : ℕ × ℕ → List ℕ
tran_text y = bytes "tran=" ++ two_text y.0 y.1

unfoldable pub tran_fault : ℕ → ℕ × ℕ → ℕ
tran_fault n y = not (end_ok n y.0 && end_ok n y.1) ⇒ 3 ∣ not (ends_ok y.0 y.1) ⇒ 4 ∣ 0

-- `behavior=` list of transitions, in a type of k transitions
unfoldable pub behavior_text : ℕ → List ℕ
behavior_text m = bytes "behavior=" ++ set_text m

unfoldable pub behavior_fault : ℕ → ℕ → ℕ
behavior_fault k m = limit_fault (mask_ok k m)

-- `port=use,places,transitions` or `port=provide,places,transitions`; a code that no line says has no word, and so no form
unfoldable pub port_line_text : ℕ × ℕ × ℕ → List ℕ
port_line_text y =
    cond (eqb y.0 1) (bytes "port=use," ++ sets_text y.1 y.2)
    (cond (eqb y.0 0) (bytes "port=provide," ++ sets_text y.1 y.2)
    (bytes "port=\n"))

unfoldable pub port_fault : ℕ → ℕ → ℕ → ℕ × ℕ × ℕ → ℕ
port_fault n k m y =
    not (kind_ok y.0) ⇒ 2 ∣ not (mask_ok n y.1 && mask_ok k y.2) ⇒ 3 ∣ eqb y.0 1 && not (use_ok m y.1) ⇒ 4 ∣ 0

-- `do=`, in a sheet of n types that opens with e; a line of the other sheets has not the form due
unfoldable pub do_text : Instruction → List ℕ
do_text x =
    cond (eqb x.verb add_verb) (bytes "do=add," ++ two_text x.id x.number)
    (cond (eqb x.verb del_verb) (bytes "do=del," ++ one_text x.id)
    (cond (eqb x.verb pushb_verb) (bytes "do=pushb," ++ two_text x.id x.number)
    (cond (eqb x.verb con_verb) (bytes "do=con," ++ four_text x.id x.number x.provider x.provideport)
    (cond (eqb x.verb dcon_verb) (bytes "do=dcon," ++ four_text x.id x.number x.provider x.provideport)
    (cond (eqb x.verb wait_verb) (bytes "do=wait," ++ one_text x.id)
    (cond (eqb x.verb push_ticket_verb) (bytes "do=pushb," ++ three_text x.id x.number x.provider)
    (cond (eqb x.verb wait_ticket_verb) (bytes "do=wait," ++ two_text x.id x.number)
    (bytes "do=\n"))))))))

unfoldable pub do_fault : ℕ → ℕ → Instruction → ℕ
do_fault e n x =
    cond (eqb x.verb add_verb) (limit_fault (id_ok x.id && type_ok n x.number))
    (cond (eqb x.verb del_verb) (limit_fault (id_ok x.id))
    (cond (eqb x.verb pushb_verb) (cond (has_tickets e) 2 (limit_fault (id_ok x.id && behavior_ok x.number)))
    (cond (eqb x.verb con_verb || eqb x.verb dcon_verb) (limit_fault (id_ok x.id && (port_ok x.number && (id_ok x.provider && port_ok x.provideport))))
    (cond (eqb x.verb wait_verb) (limit_fault (id_ok x.id))
    (cond (eqb x.verb push_ticket_verb) (cond (has_tickets e) (limit_fault (id_ok x.id && (behavior_ok x.number && ticket_ok x.provider))) 2)
    (cond (eqb x.verb wait_ticket_verb) (cond (has_tickets e) (limit_fault (id_ok x.id && ticket_ok x.number)) 2)
    2))))))

-- `step=`
unfoldable pub step_text : Step → List ℕ
step_text x =
    cond (eqb x.verb next_verb) (bytes "step=next\n")
    (cond (eqb x.verb fire_verb) (bytes "step=fire," ++ two_text x.id x.number)
    (cond (eqb x.verb end_verb) (bytes "step=end," ++ two_text x.id x.number)
    (cond (eqb x.verb enter_verb) (bytes "step=enter," ++ two_text x.id x.number)
    (cond (eqb x.verb finish_verb) (bytes "step=finish," ++ one_text x.id)
    (bytes "step=\n")))))

unfoldable pub step_fault : Step → ℕ
step_fault x =
    cond (eqb x.verb next_verb) 0
    (cond (eqb x.verb fire_verb || eqb x.verb enter_verb) (limit_fault (id_ok x.id && place_ok x.number))
    (cond (eqb x.verb end_verb) (limit_fault (id_ok x.id && transition_ok x.number))
    (cond (eqb x.verb finish_verb) (limit_fault (id_ok x.id))
    2)))
