-- The reading of a sheet stops at its first faulty line.
-- Assumes nothing.
use Prim.Native.Nat.{ℕ, suc, ◌+◌, ◌*◌, ◌≤◌, ◌<◌}
use mathlib.Core.Bool.{true, ◌&&◌}
use mathlib.Core.List.{List, [], ◌∷◌, ◌++◌}
use mathlib.Core.Path.{◌≡◌, refl, sym, ap, ap₂, ◌∙◌}
use native.Mathlib.Omega.{arith}
use native.Mathlib.Nat.{zero-add}
use lib.Dec.{eqb, leb}
use borrow.Author.Tests.{leb-true, ltb-true}
use Rattle.sets.specs.Test.{any_below}
use Rattle.item_spec.specs.Reader.{bytes}
use Rattle.item_spec.proofs.Tests.{and_left, and_right}
use Rattle.model.specs.declared.Tables.{Tables}
use Rattle.model.specs.declared.Program.{Program}
use Rattle.model.specs.View.{type_of}
use Rattle.read_spec.specs.Limits.{depth_ok, types_ok, places_ok, transitions_ok, behaviors_ok, ports_ok, program_ok, mask_ok, end_ok, ends_ok, initial_ok, use_ok, kind_ok}
use Rattle.read_spec.specs.Lines.{each}
use Rattle.read_spec.specs.Kinds.{edition_line, initial_line, tran_line, behavior_line, port_line, do_line}
use Rattle.read_spec.specs.Fill.{headed, program_of}
use Rattle.read_spec.specs.Texts.{tran_at, behavior_at, port_at, type_lines, instruction_at, sheet}
use Rattle.rules_spec.specs.Refusal.{or_number}
use Rattle.report_spec.specs.Report.{count_text}
use Rattle.write_spec.specs.Kinds.{limit_fault, edition_fault, initial_text, initial_fault, tran_fault, behavior_fault, port_fault}
use Rattle.write_spec.specs.Texts.{transition_row, behavior_row, port_row, instruction_row, type_text, type_fault, sheet_text, sheet_fault}
use Rattle.write_spec.specs.Cleared.{spoken, cleared, cleared_program}
use Rattle.write_spec.specs.Round.{Digits, Mask, a_sheet}
use Rattle.write_spec.specs.Stops.{Row, text_of, fault_of, rows_from, Stopped, edition_row, due_row, count_row, row_of_initial, row_of_tran, row_of_behavior, row_of_port, row_of_do, type_rows, sheet_rows, SheetsStopAtTheFirst}
use Rattle.write_spec.proofs.Turns.{limit-met, clauses-met}
use Rattle.write_spec.proofs.Written.{says-edition, says-initial, says-tran, says-behavior, says-port}
use Rattle.write_spec.proofs.Verbs.{says-do}
use Rattle.write_spec.proofs.Columns.{up_to}
use Rattle.write_spec.proofs.Tables.{transitions_of, behaviors_of, ports_of, tran-none, behavior-none, port-none, tran-made, behavior-made, port-made, trans, behaves, gates, said_to, type-made, head-said, program_to, program-made, program-none}
use Rattle.write_spec.proofs.Lawful.{told, masked, edition-small}
use Rattle.write_spec.proofs.Faultless.{port-met, do-lawful, edition-met}
use Rattle.write_spec.proofs.Tells.{Tells, tells-line, tells-due, tells-count, tells-then, tells-map, tells-made, tells-rows, stops_then, stops-last, stopped-all, one_none, text-append, fault-append, text-turns, fault-turns, text-rows, fault-rows, text-all, fault-all}

-- ---- a line without fault has few digits
edition-few : (e : ℕ) → edition_fault e ≡ 0 → Digits e
edition-few e z = edition-small e (edition-met e z)

initial-few : (n m : ℕ) → n ≤ 32 → initial_fault n m ≡ 0 → Mask m
unfolding initial_fault
initial-few n m l e = masked n m l (clauses-met (mask_ok n m) (initial_ok m) e).0

tran-few : (n : ℕ) (y : ℕ × ℕ) → n ≤ 32 → tran_fault n y ≡ 0 → Digits y.0 × Digits y.1
unfolding tran_fault
tran-few n y l e =
    let h = (clauses-met (end_ok n y.0 && end_ok n y.1) (ends_ok y.0 y.1) e).0 in
    (omega (arith, ltb-true y.0 n (and_left (end_ok n y.0) (end_ok n y.1) h)), omega (arith, ltb-true y.1 n (and_right (end_ok n y.0) (end_ok n y.1) h)))

behavior-few : (k m : ℕ) → k ≤ 32 → behavior_fault k m ≡ 0 → Mask m
unfolding behavior_fault
behavior-few k m l e = masked k m l (limit-met (mask_ok k m) e)

port-few : (n k m : ℕ) (y : ℕ × ℕ × ℕ) → n ≤ 32 → k ≤ 32 → port_fault n k m y ≡ 0 → Mask y.1 × Mask y.2
unfolding port_fault
port-few n k m y l g e =
    let h = (port-met (kind_ok y.0) (mask_ok n y.1 && mask_ok k y.2) (eqb y.0 1) (use_ok m y.1) e).1 in
    (masked n y.1 l (and_left (mask_ok n y.1) (mask_ok k y.2) h), masked k y.2 g (and_right (mask_ok n y.1) (mask_ok k y.2) h))

sixteen : (n : ℕ) → (leb 1 n && leb n 16) ≡ true → n ≤ 16
sixteen n e = leb-true n 16 (and_right (leb 1 n) (leb n 16) e)

module _ (t : Tables) where
  -- ---- the rows of type i
  module _ (i : ℕ) where
    abbrev places : ℕ
    places = (type_of t i).places

    abbrev initial : ℕ
    initial = (type_of t i).initial

    abbrev transitions : ℕ
    transitions = (type_of t i).transitions

    abbrev tran_rows : List Row
    tran_rows = rows_from (λ j. row_of_tran places (transition_row t j) ∷ []) transitions (i * 32)

    abbrev behavior_rows : List Row
    behavior_rows = rows_from (λ j. row_of_behavior transitions (behavior_row t j) ∷ []) (type_of t i).behaviors (i * 8)

    abbrev port_rows : List Row
    port_rows = rows_from (λ j. row_of_port places transitions initial (port_row t j) ∷ []) (type_of t i).ports (i * 16)

    trans-tell : places ≤ 32 → Tells (each (tran_at places) transitions (i * 32) (transitions_of t (trans t i))) tran_rows (transitions_of t (trans t (suc i)))
    unfolding any_below tran_at
    trans-tell l =
        tells-rows (tran_at places) (λ j. row_of_tran places (transition_row t j) ∷ []) (λ j. transitions_of t (up_to (trans t i) (i * 32) j)) (i * 32) (i * 32 + transitions)
        (λ j h _. tells-map (tran_line places) _ (row_of_tran places (transition_row t j)) (transition_row t j) (tran-made t (trans t i) (i * 32) j h)
        (tran-few places (transition_row t j) l) (λ w. says-tran places (transition_row t j) w.0 w.1))
        transitions (transitions_of t (trans t i)) (tran-none t (trans t i) (i * 32)) refl

    behaviors-tell : transitions ≤ 32 → Tells (each (behavior_at transitions) (type_of t i).behaviors (i * 8) (behaviors_of t (behaves t i))) behavior_rows (behaviors_of t (behaves t (suc i)))
    unfolding any_below behavior_at
    behaviors-tell l =
        tells-rows (behavior_at transitions) (λ j. row_of_behavior transitions (behavior_row t j) ∷ []) (λ j. behaviors_of t (up_to (behaves t i) (i * 8) j)) (i * 8) (i * 8 + (type_of t i).behaviors)
        (λ j h _. tells-map (behavior_line transitions) _ (row_of_behavior transitions (behavior_row t j)) (behavior_row t j) (behavior-made t (behaves t i) (i * 8) j h)
        (behavior-few transitions (behavior_row t j) l) (says-behavior transitions (behavior_row t j) l))
        (type_of t i).behaviors (behaviors_of t (behaves t i)) (behavior-none t (behaves t i) (i * 8)) refl

    ports-tell : places ≤ 32 → transitions ≤ 32 → Tells (each (port_at places transitions initial) (type_of t i).ports (i * 16) (ports_of t (gates t i))) port_rows (ports_of t (gates t (suc i)))
    unfolding any_below port_at
    ports-tell l g =
        tells-rows (port_at places transitions initial) (λ j. row_of_port places transitions initial (port_row t j) ∷ []) (λ j. ports_of t (up_to (gates t i) (i * 16) j)) (i * 16) (i * 16 + (type_of t i).ports)
        (λ j h _. tells-map (port_line places transitions initial) _ (row_of_port places transitions initial (port_row t j)) (port_row t j) (port-made t (gates t i) (i * 16) j h)
        (port-few places transitions initial (port_row t j) l g) (λ w. says-port places transitions initial (port_row t j) l g w.0 w.1))
        (type_of t i).ports (ports_of t (gates t i)) (port-none t (gates t i) (i * 16)) refl

    type-tells : i < 16 → Tells (type_lines i (said_to t i)) (type_rows t i) (said_to t (suc i))
    unfolding type_lines type_rows
    type-tells small =
        tells-then _ _ (due_row (bytes "type=") i ∷ []) _ tt _ (tells-due (bytes "type=") i (omega arith)) λ _.
        tells-then _ _ (count_row (bytes "places=") places_ok places ∷ []) _ places _ (tells-count (bytes "places=") places_ok places (λ e. omega (arith, sixteen places e))) λ a.
        let few : places ≤ 32 = omega (arith, sixteen places (limit-met (places_ok places) (one_none (count_row (bytes "places=") places_ok places) a))) in
        tells-then _ _ (row_of_initial places initial ∷ []) _ initial _ (tells-line (initial_line places) (row_of_initial places initial) initial (initial-few places initial few) (says-initial places initial few)) λ _.
        tells-then _ _ (count_row (bytes "transitions=") transitions_ok transitions ∷ []) _ transitions _ (tells-count (bytes "transitions=") transitions_ok transitions (λ e. omega (arith, leb-true transitions 32 e))) λ c.
        let less : transitions ≤ 32 = leb-true transitions 32 (limit-met (transitions_ok transitions) (one_none (count_row (bytes "transitions=") transitions_ok transitions) c)) in
        tells-then _ _ tran_rows _ (transitions_of t (trans t (suc i))) _ (trans-tell few) λ _.
        tells-then _ _ (count_row (bytes "behaviors=") behaviors_ok (type_of t i).behaviors ∷ []) _ (type_of t i).behaviors _ (tells-count (bytes "behaviors=") behaviors_ok (type_of t i).behaviors (λ e. omega (arith, leb-true (type_of t i).behaviors 8 e))) λ _.
        tells-then _ _ behavior_rows _ (behaviors_of t (behaves t (suc i))) _ (behaviors-tell less) λ _.
        tells-then _ _ (count_row (bytes "ports=") ports_ok (type_of t i).ports ∷ []) _ (type_of t i).ports _ (tells-count (bytes "ports=") ports_ok (type_of t i).ports (λ e. omega (arith, leb-true (type_of t i).ports 16 e))) λ _.
        tells-made _ _ port_rows (ports_of t (gates t (suc i))) (type-made t i) (ports-tell few less)

    -- its lines are its text, and their number is its number
    type-text : text_of (type_rows t i) ≡ type_text t i
    unfolding text_of type_rows type_text
    type-text =
        ap (λ (l : List ℕ). count_text (bytes "type=") i ++ (count_text (bytes "places=") places ++ (initial_text initial ++ (count_text (bytes "transitions=") transitions ++ l))))
        (text-append tran_rows _ ∙ ap₂ ◌++◌ (text-rows (λ j. row_of_tran places (transition_row t j)) transitions (i * 32))
        (ap (λ (l : List ℕ). count_text (bytes "behaviors=") (type_of t i).behaviors ++ l)
        (text-append behavior_rows _ ∙ ap₂ ◌++◌ (text-rows (λ j. row_of_behavior transitions (behavior_row t j)) (type_of t i).behaviors (i * 8))
        (ap (λ (l : List ℕ). count_text (bytes "ports=") (type_of t i).ports ++ l) (text-rows (λ j. row_of_port places transitions initial (port_row t j)) (type_of t i).ports (i * 16))))))

    type-number : fault_of (type_rows t i) ≡ type_fault t i
    unfolding fault_of type_rows type_fault
    type-number =
        ap (λ (n : ℕ). or_number (limit_fault (places_ok places)) (or_number (initial_fault places initial) (or_number (limit_fault (transitions_ok transitions)) n)))
        (fault-append tran_rows _ ∙ ap₂ (λ (a b : ℕ). or_number a b) (fault-rows (λ j. row_of_tran places (transition_row t j)) transitions (i * 32))
        (ap (λ (n : ℕ). or_number (limit_fault (behaviors_ok (type_of t i).behaviors)) n)
        (fault-append behavior_rows _ ∙ ap₂ (λ (a b : ℕ). or_number a b) (fault-rows (λ j. row_of_behavior transitions (behavior_row t j)) (type_of t i).behaviors (i * 8))
        (ap (λ (n : ℕ). or_number (limit_fault (ports_ok (type_of t i).ports)) n) (fault-rows (λ j. row_of_port places transitions initial (port_row t j)) (type_of t i).ports (i * 16))))))

  types-tell : t.count ≤ 16 → Tells (each type_lines t.count 0 (headed t.depth t.count)) (rows_from (type_rows t) t.count 0) (cleared t)
  unfolding cleared
  types-tell few = tells-rows type_lines (type_rows t) (said_to t) 0 t.count (λ i l h. type-tells i (omega arith)) t.count (headed t.depth t.count) (sym (head-said t)) (zero-add t.count)

-- ---- the program
program-tells : (p : Program) (n : ℕ) → n ≤ 16 → Tells (each (instruction_at p.edition n) p.count 0 (program_of p.edition p.count)) (rows_from (λ j. row_of_do p.edition n (instruction_row p j) ∷ []) p.count 0) (cleared_program p)
unfolding cleared_program instruction_at
program-tells p n few =
    tells-rows (instruction_at p.edition n) (λ j. row_of_do p.edition n (instruction_row p j) ∷ []) (program_to p) 0 p.count
    (λ j _ _. tells-map (do_line p.edition n) _ (row_of_do p.edition n (instruction_row p j)) (spoken (instruction_row p j)) (program-made p j)
    (λ e. (told p.edition n (instruction_row p j) few (do-lawful p.edition n (instruction_row p j) e)).digits) (says-do p.edition n (instruction_row p j)))
    p.count (program_of p.edition p.count) (program-none p) (zero-add p.count)

-- ---- the sheet
module _ (t : Tables) (p : Program) where
  abbrev types_rows : List Row
  types_rows = rows_from (type_rows t) t.count 0

  abbrev program_rows : List Row
  program_rows = rows_from (λ j. row_of_do p.edition t.count (instruction_row p j) ∷ []) p.count 0

  sheet-stops : Stopped sheet [] (sheet_rows (t, p))
  unfolding sheet sheet_rows
  sheet-stops =
      stops_then _ _ (edition_row p.edition ∷ []) _ p.edition (tells-line edition_line (edition_row p.edition) p.edition (edition-few p.edition) (says-edition p.edition)) λ _.
      stops_then _ _ (count_row (bytes "depth=") depth_ok t.depth ∷ []) _ t.depth (tells-count (bytes "depth=") depth_ok t.depth (λ e. omega (arith, leb-true t.depth 8 e))) λ _.
      stops_then _ _ (count_row (bytes "types=") types_ok t.count ∷ []) _ t.count (tells-count (bytes "types=") types_ok t.count (λ e. omega (arith, sixteen t.count e))) λ a.
      let few : t.count ≤ 16 = sixteen t.count (limit-met (types_ok t.count) (one_none (count_row (bytes "types=") types_ok t.count) a)) in
      stops_then _ _ types_rows _ (cleared t) (types-tell t few) λ _.
      stops_then _ _ (count_row (bytes "program=") program_ok p.count ∷ []) _ p.count (tells-count (bytes "program=") program_ok p.count (λ e. omega (arith, leb-true p.count 256 e))) λ _.
      stops-last _ (λ q. (cleared t, q)) program_rows _ (program-tells p t.count few)

  sheet-text : text_of (sheet_rows (t, p)) ≡ sheet_text t p
  unfolding text_of sheet_rows sheet_text
  sheet-text =
      ap (λ (l : List ℕ). count_text (bytes "sheet=") p.edition ++ (count_text (bytes "depth=") t.depth ++ (count_text (bytes "types=") t.count ++ l)))
      (text-append types_rows _ ∙ ap₂ ◌++◌ (text-turns (type_rows t) 0 (type_text t) (λ x. sym (type-text t x) ∙ ap (λ (j : ℕ). text_of (type_rows t j)) (sym (zero-add x))) t.count)
      (ap (λ (l : List ℕ). count_text (bytes "program=") p.count ++ l) (text-all (λ j. row_of_do p.edition t.count (instruction_row p j)) p.count)))

  sheet-number : fault_of (sheet_rows (t, p)) ≡ sheet_fault t p
  unfolding fault_of sheet_rows sheet_fault
  sheet-number =
      ap (λ (n : ℕ). or_number (edition_fault p.edition) (or_number (limit_fault (depth_ok t.depth)) (or_number (limit_fault (types_ok t.count)) n)))
      (fault-append types_rows _ ∙ ap₂ (λ (a b : ℕ). or_number a b) (fault-turns (type_rows t) 0 (type_fault t) (λ x. sym (type-number t x) ∙ ap (λ (j : ℕ). fault_of (type_rows t j)) (sym (zero-add x))) t.count)
      (ap (λ (n : ℕ). or_number (limit_fault (program_ok p.count)) n) (fault-all (λ j. row_of_do p.edition t.count (instruction_row p j)) p.count)))

pub sheets-stop-at-the-first : SheetsStopAtTheFirst
unfolding SheetsStopAtTheFirst
sheets-stop-at-the-first = stopped-all a_sheet sheet_rows (λ x. sheet-text x.0 x.1) (λ x. sheet-number x.0 x.1) (λ x. sheet-stops x.0 x.1)
