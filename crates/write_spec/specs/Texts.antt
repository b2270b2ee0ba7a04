-- The two texts as they are written, their lines in order, and the number of the first line that the reader refuses.
use Rattle.std.specs.Prelude.{ℕ, zero, suc, ◌+◌, ◌*◌, List, ◌++◌, length, get_or}
use Rattle.item_spec.specs.Reader.{bytes}
use Rattle.item_spec.specs.Write.{in_turn}
use Rattle.model.specs.declared.Tables.{Tables}
use Rattle.model.specs.declared.Instruction.{Instruction}
use Rattle.model.specs.declared.Program.{Program}
use Rattle.model.specs.declared.Step.{Step}
use Rattle.model.specs.declared.Answer.{Answer}
use Rattle.model.specs.Empty.{no_instruction, no_step}
use Rattle.model.specs.View.{type_of}
use Rattle.read_spec.specs.Limits.{depth_ok, types_ok, places_ok, transitions_ok, behaviors_ok, ports_ok, program_ok, steps_ok}
use Rattle.rules_spec.specs.Refusal.{or_number}
use Rattle.report_spec.specs.Report.{count_text}
use Rattle.write_spec.specs.Kinds.{limit_fault, edition_fault, initial_text, initial_fault, tran_text, tran_fault, behavior_text, behavior_fault, port_line_text, port_fault, do_text, do_fault, step_text, step_fault}

-- of f 0, f 1, .. n of them, the first that is no 0
unfoldable pub first_of : (ℕ → ℕ) → ℕ → ℕ
first_of f zero = 0
first_of f (suc n) = or_number (first_of f n) (f n)

-- what stands in slot j, counted over all types: the ends of a transition, a behavior, a port; instruction j, step j
abbrev pub transition_row : Tables → ℕ → ℕ × ℕ
transition_row t j = (get_or t.transitions.source j 0, get_or t.transitions.destination j 0)

abbrev pub behavior_row : Tables → ℕ → ℕ
behavior_row t j = get_or t.behaviors j 0

abbrev pub port_row : Tables → ℕ → ℕ × ℕ × ℕ
port_row t j = (get_or t.ports.uses j 0, get_or t.ports.places j 0, get_or t.ports.transitions j 0)

abbrev pub instruction_row : Program → ℕ → Instruction
instruction_row p j = get_or p.instructions j no_instruction

abbrev pub step_row : Answer → ℕ → Step
step_row a j = get_or a.steps j no_step

-- type i: its transitions stand from 32 i on, its behaviors from 8 i on, its ports from 16 i on
unfoldable pub type_text : Tables → ℕ → List ℕ
type_text t i =
    count_text (bytes "type=") i ++ (count_text (bytes "places=") (type_of t i).places ++ (initial_text (type_of t i).initial
    ++ (count_text (bytes "transitions=") (type_of t i).transitions ++ (in_turn (λ x. tran_text (transition_row t (i * 32 + x))) (type_of t i).transitions
    ++ (count_text (bytes "behaviors=") (type_of t i).behaviors ++ (in_turn (λ x. behavior_text (behavior_row t (i * 8 + x))) (type_of t i).behaviors
    ++ (count_text (bytes "ports=") (type_of t i).ports ++ in_turn (λ x. port_line_text (port_row t (i * 16 + x))) (type_of t i).ports)))))))

unfoldable pub type_fault : Tables → ℕ → ℕ
type_fault t i =
    or_number (limit_fault (places_ok (type_of t i).places)) (or_number (initial_fault (type_of t i).places (type_of t i).initial)
    (or_number (limit_fault (transitions_ok (type_of t i).transitions)) (or_number (first_of (λ x. tran_fault (type_of t i).places (transition_row t (i * 32 + x))) (type_of t i).transitions)
    (or_number (limit_fault (behaviors_ok (type_of t i).behaviors)) (or_number (first_of (λ x. behavior_fault (type_of t i).transitions (behavior_row t (i * 8 + x))) (type_of t i).behaviors)
    (or_number (limit_fault (ports_ok (type_of t i).ports))
    (first_of (λ x. port_fault (type_of t i).places (type_of t i).transitions (type_of t i).initial (port_row t (i * 16 + x))) (type_of t i).ports)))))))

unfoldable pub sheet_text : Tables → Program → List ℕ
sheet_text t p =
    count_text (bytes "sheet=") p.edition ++ (count_text (bytes "depth=") t.depth ++ (count_text (bytes "types=") t.count
    ++ (in_turn (type_text t) t.count ++ (count_text (bytes "program=") p.count ++ in_turn (λ j. do_text (instruction_row p j)) p.count))))

unfoldable pub sheet_fault : Tables → Program → ℕ
sheet_fault t p =
    or_number (edition_fault p.edition) (or_number (limit_fault (depth_ok t.depth)) (or_number (limit_fault (types_ok t.count)) (or_number (first_of (type_fault t) t.count)
    (or_number (limit_fault (program_ok p.count)) (first_of (λ j. do_fault p.edition t.count (instruction_row p j)) p.count)))))

unfoldable pub answer_text : Answer → List ℕ
answer_text a = count_text (bytes "answer=") 1 ++ (count_text (bytes "steps=") a.count ++ in_turn (λ j. step_text (step_row a j)) a.count)

unfoldable pub answer_fault : Answer → ℕ
answer_fault a = or_number (limit_fault (steps_ok a.count)) (first_of (λ j. step_fault (step_row a j)) a.count)

-- an answer of these steps
abbrev pub of_steps : List Step → Answer
of_steps xs = record { steps = xs; count = length xs }
