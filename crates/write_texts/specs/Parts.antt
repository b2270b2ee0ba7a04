-- The parts of a sheet as they are written: each kind of rows after its count, the types, the program.
use Rattle.std.specs.Prelude.{ℕ, List, ◌++◌, Bool}
use Rattle.item_spec.specs.Reader.{bytes}
use Rattle.item_spec.specs.Write.{in_turn}
use Rattle.model.specs.declared.ComponentType.{ComponentType}
use Rattle.model.specs.declared.Tables.{Tables}
use Rattle.model.specs.declared.Program.{Program}
use Rattle.model.specs.View.{type_of, source, destination, behavior_of, port_kind, group_places, group_transitions}
use Rattle.read_spec.specs.Limits.{types_ok, places_ok, transitions_ok, behaviors_ok, ports_ok, program_ok}
use Rattle.rules_spec.specs.Refusal.{or_number}
use Rattle.report_spec.specs.Report.{count_text}
use Rattle.write_spec.specs.Kinds.{limit_fault, initial_text, initial_fault, do_fault}
use Rattle.write_spec.specs.Texts.{first_of, instruction_row, type_fault}
use Rattle.read_sheet_lines.specs.declared.Known.{Known}
use Rattle.read_sheet_lines.specs.declared.Row.{Row}
use Rattle.read_sheet_lines.specs.declared.Rows.{Rows}
use Rattle.read_sheet_lines.specs.declared.Rows.TheVariants.{Transitions, Behaviors, Ports}
use Rattle.read_sheet_lines.specs.Rows.{transition_row, behavior_row, port_row}
use Rattle.write_lines.specs.Rows.{row_text, row_fault}
use Rattle.write_texts.specs.declared.parts.Part.{Part}
use Rattle.write_texts.specs.declared.parts.Part.TheVariants.{Types, Instructions}

-- row x of type i
abbrev pub row_at : Rows → Tables → ℕ → ℕ → Row
row_at Transitions t i x = transition_row (source t i x) (destination t i x)
row_at Behaviors t i x = behavior_row (behavior_of t i x)
row_at Ports t i x = port_row (port_kind t i x) (group_places t i x) (group_transitions t i x)

-- how many rows of a kind a type has, and may have
abbrev pub count_of : Rows → ComponentType → ℕ
count_of Transitions k = k.transitions
count_of Behaviors k = k.behaviors
count_of Ports k = k.ports

abbrev pub count_ok : Rows → ℕ → Bool
count_ok Transitions n = transitions_ok n
count_ok Behaviors n = behaviors_ok n
count_ok Ports n = ports_ok n

-- what rows are held to
abbrev pub known_of : ComponentType → Known
known_of k = record { places = k.places; initial = k.initial; transitions = k.transitions }

-- the rows of a kind, and with the line of their count
abbrev pub rows_text : Rows → Tables → ℕ → ℕ → List ℕ
rows_text k t i n = in_turn (λ x. row_text k (row_at k t i x)) n

abbrev pub rows_fault : Rows → Tables → ℕ → Known → ℕ → ℕ
rows_fault k t i c n = first_of (λ x. row_fault k c (row_at k t i x)) n

unfoldable pub kind_text : List ℕ → Rows → Tables → ℕ → List ℕ
kind_text key k t i = count_text key (count_of k (type_of t i)) ++ rows_text k t i (count_of k (type_of t i))

unfoldable pub kind_fault : Rows → Tables → ℕ → ℕ
kind_fault k t i = or_number (limit_fault (count_ok k (count_of k (type_of t i)))) (rows_fault k t i (known_of (type_of t i)) (count_of k (type_of t i)))

-- all three kinds
unfoldable pub kinds_text : Tables → ℕ → List ℕ
kinds_text t i = kind_text (bytes "transitions=") Transitions t i ++ kind_text (bytes "behaviors=") Behaviors t i ++ kind_text (bytes "ports=") Ports t i

-- the three first lines of a type
unfoldable pub head_text : Tables → ℕ → List ℕ
head_text t i = count_text (bytes "type=") i ++ count_text (bytes "places=") (type_of t i).places ++ initial_text (type_of t i).initial

unfoldable pub head_fault : Tables → ℕ → ℕ
head_fault t i = or_number (limit_fault (places_ok (type_of t i).places)) (initial_fault (type_of t i).places (type_of t i).initial)

-- the two first lines of a sheet
unfoldable pub first_text : ℕ → ℕ → List ℕ
first_text e d = count_text (bytes "sheet=") e ++ count_text (bytes "depth=") d

-- all types, and the program: how many there are, and may be
abbrev pub part_count : Part → Tables → Program → ℕ
part_count Types t p = t.count
part_count Instructions t p = p.count

abbrev pub part_ok : Part → ℕ → Bool
part_ok Types n = types_ok n
part_ok Instructions n = program_ok n

-- the number of type i, of instruction i, and of the whole part
abbrev pub line_fault : Part → Tables → Program → ℕ → ℕ
line_fault Types t p i = type_fault t i
line_fault Instructions t p i = do_fault p.edition t.count (instruction_row p i)

unfoldable pub part_fault : Part → Tables → Program → ℕ
part_fault k t p = or_number (limit_fault (part_ok k (part_count k t p))) (first_of (line_fault k t p) (part_count k t p))
