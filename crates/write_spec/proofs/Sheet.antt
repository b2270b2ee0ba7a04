-- A written sheet is read as what it says, or refused with its number.
-- Assumes nothing.
use Prim.Native.Nat.{ℕ, suc, ◌+◌, ◌-◌, ◌*◌, ◌≤◌, ◌<◌}
use mathlib.Core.Bool.{Bool, ◌&&◌}
use mathlib.Core.Path.{◌≡◌, refl, sym, subst}
use native.Mathlib.Omega.{arith}
use lib.Dec.{leb}
use borrow.Author.Tests.{leb-true}
use Rattle.item_spec.proofs.Tests.{and_right}
use Rattle.item_spec.specs.Reader.{bytes}
use Rattle.item_spec.specs.Write.{in_turn}
use Rattle.sets.specs.Test.{any_below}
use Rattle.model.specs.declared.Tables.{Tables}
use Rattle.model.specs.declared.Program.{Program}
use Rattle.model.specs.View.{type_of}
use Rattle.read_spec.specs.Limits.{depth_ok, types_ok, places_ok, transitions_ok, behaviors_ok, ports_ok, program_ok}
use Rattle.read_spec.specs.Lines.{each}
use Rattle.read_spec.specs.Kinds.{tran_line, behavior_line, port_line, do_line}
use Rattle.read_spec.specs.Fill.{headed, program_of}
use Rattle.read_spec.specs.Texts.{tran_at, behavior_at, port_at, type_lines, instruction_at, sheet}
use Rattle.report_spec.specs.Report.{count_text}
use Rattle.write_spec.specs.Kinds.{edition_fault, limit_fault, initial_text, initial_fault, tran_text, tran_fault, behavior_text, behavior_fault, port_line_text, port_fault, do_text, do_fault}
use Rattle.write_spec.specs.Texts.{first_of, transition_row, behavior_row, port_row, instruction_row, type_text, type_fault, sheet_text, sheet_fault}
use Rattle.write_spec.specs.Cleared.{cleared, cleared_program}
use Rattle.write_spec.specs.Round.{Digits, Mask, Held}
use Rattle.write_spec.proofs.Turns.{limit-met}
use Rattle.write_spec.proofs.Says.{Says, says-line, says_then, says_map, says-made, says-rows, says_all, Ends, ends-then, ends-here}
use Rattle.write_spec.proofs.Written.{says-edition, says-due, says-count, says-initial, says-tran, says-behavior, says-port}
use Rattle.write_spec.proofs.Verbs.{says-do}
use Rattle.write_spec.proofs.Columns.{up_to}
use Rattle.write_spec.proofs.Tables.{transitions_of, behaviors_of, ports_of, tran-none, behavior-none, port-none, tran-made, behavior-made, port-made, trans, behaves, gates, said_to, type-made, head-said, program_to, program-made, program-none}

module _ (t : Tables) (p : Program) (held : Held t p) where
  module _ (said : ℕ → Bool) (lo : ℕ) where
    tran-turn : (n j : ℕ) → Digits (transition_row t j).0 × Digits (transition_row t j).1 → lo ≤ j → Says (tran_at n j (transitions_of t (up_to said lo j))) (tran_text (transition_row t j)) (tran_fault n (transition_row t j)) (transitions_of t (up_to said lo (suc j)))
    unfolding tran_at
    tran-turn n j w l =
        says_map (tran_line n) _ (tran-made t said lo j l)
        (says-tran n (transition_row t j) w.0 w.1)

    behavior-turn : (k j : ℕ) → Mask (behavior_row t j) → k ≤ 32 → lo ≤ j → Says (behavior_at k j (behaviors_of t (up_to said lo j))) (behavior_text (behavior_row t j)) (behavior_fault k (behavior_row t j)) (behaviors_of t (up_to said lo (suc j)))
    unfolding behavior_at
    behavior-turn k j w h l = says_map (behavior_line k) _ (behavior-made t said lo j l) (says-behavior k (behavior_row t j) h w)

    port-turn : (n k m j : ℕ) → Mask (port_row t j).1 × Mask (port_row t j).2 → n ≤ 32 → k ≤ 32 → lo ≤ j → Says (port_at n k m j (ports_of t (up_to said lo j))) (port_line_text (port_row t j)) (port_fault n k m (port_row t j)) (ports_of t (up_to said lo (suc j)))
    unfolding port_at
    port-turn n k m j w hn hk l =
        says_map (port_line n k m) _ (port-made t said lo j l)
        (says-port n k m (port_row t j) hn hk w.0 w.1)

  -- ---- the rows of type i
  -- row x of lo on
  at_row : (P : ℕ → Type 0) (lo n j : ℕ) → ((x : ℕ) → x < n → P (lo + x)) → lo ≤ j → j < lo + n → P j
  at_row P lo n j f l h = let e : lo + (j - lo) ≡ j = omega arith in subst P e (f (j - lo) (omega arith))

  -- the tables of which the first n types are said
  abbrev pub tables_to : ℕ → Tables
  tables_to n = said_to t n

  module _ (i : ℕ) (here : i < t.count) where
    abbrev places : ℕ
    places = (type_of t i).places

    abbrev initial : ℕ
    initial = (type_of t i).initial

    abbrev transitions : ℕ
    transitions = (type_of t i).transitions

    pub tran-rows : Says (each (tran_at places) transitions (i * 32) (transitions_of t (trans t i)))
        (in_turn (λ x. tran_text (transition_row t (i * 32 + x))) transitions) (first_of (λ x. tran_fault places (transition_row t (i * 32 + x))) transitions) (transitions_of t (trans t (suc i)))
    unfolding any_below
    tran-rows =
        says-rows (tran_at places) (λ j. tran_text (transition_row t j)) (λ j. tran_fault places (transition_row t j)) (λ j. transitions_of t (up_to (trans t i) (i * 32) j)) (i * 32) (i * 32 + transitions)
        (λ j l h. tran-turn (trans t i) (i * 32) places j (at_row (λ j. Digits (transition_row t j).0 × Digits (transition_row t j).1) (i * 32) transitions j (λ x b. held.transition i x here b) l h) l) transitions (transitions_of t (trans t i))
        (tran-none t (trans t i) (i * 32)) refl

    pub behavior-rows : transitions ≤ 32 → Says (each (behavior_at transitions) (type_of t i).behaviors (i * 8) (behaviors_of t (behaves t i)))
        (in_turn (λ x. behavior_text (behavior_row t (i * 8 + x))) (type_of t i).behaviors) (first_of (λ x. behavior_fault transitions (behavior_row t (i * 8 + x))) (type_of t i).behaviors) (behaviors_of t (behaves t (suc i)))
    unfolding any_below
    behavior-rows h =
        says-rows (behavior_at transitions) (λ j. behavior_text (behavior_row t j)) (λ j. behavior_fault transitions (behavior_row t j)) (λ j. behaviors_of t (up_to (behaves t i) (i * 8) j)) (i * 8) (i * 8 + (type_of t i).behaviors)
        (λ j l b. behavior-turn (behaves t i) (i * 8) transitions j (at_row (λ j. Mask (behavior_row t j)) (i * 8) (type_of t i).behaviors j (λ x b. held.behavior i x here b) l b) h l) (type_of t i).behaviors (behaviors_of t (behaves t i)) (behavior-none t (behaves t i) (i * 8)) refl

    pub port-rows : places ≤ 32 → transitions ≤ 32 → Says (each (port_at places transitions initial) (type_of t i).ports (i * 16) (ports_of t (gates t i)))
        (in_turn (λ x. port_line_text (port_row t (i * 16 + x))) (type_of t i).ports) (first_of (λ x. port_fault places transitions initial (port_row t (i * 16 + x))) (type_of t i).ports) (ports_of t (gates t (suc i)))
    unfolding any_below
    port-rows hn hk =
        says-rows (port_at places transitions initial) (λ j. port_line_text (port_row t j)) (λ j. port_fault places transitions initial (port_row t j)) (λ j. ports_of t (up_to (gates t i) (i * 16) j)) (i * 16) (i * 16 + (type_of t i).ports)
        (λ j l b. port-turn (gates t i) (i * 16) places transitions initial j (at_row (λ j. Mask (port_row t j).1 × Mask (port_row t j).2) (i * 16) (type_of t i).ports j (λ x b. held.port i x here b) l b) hn hk l) (type_of t i).ports (ports_of t (gates t i)) (port-none t (gates t i) (i * 16)) refl

    -- ---- type i
    pub sixteen : {n : ℕ} → limit_fault (leb 1 n && leb n 16) ≡ 0 → n ≤ 32
    sixteen {n} e = omega (arith, leb-true n 16 (and_right (leb 1 n) (leb n 16) (limit-met _ e)))

    type-says : i < 16 → Says (type_lines i (tables_to i)) (type_text t i) (type_fault t i) (tables_to (suc i))
    unfolding type_lines type_text type_fault
    type-says small =
        says_then _ _ (count_text (bytes "type=") i) _ 0 _ tt _ (says-line _ (says-due (bytes "type=") i (omega arith))) λ _.
        says_then _ _ (count_text (bytes "places=") places) _ (limit_fault (places_ok places)) _ places _ (says-line _ (says-count (bytes "places=") places_ok places (held.places i here))) λ a.
        says_then _ _ (initial_text initial) _ (initial_fault places initial) _ initial _ (says-line _ (says-initial places initial (sixteen a) (held.initial i here))) λ b.
        says_then _ _ (count_text (bytes "transitions=") transitions) _ (limit_fault (transitions_ok transitions)) _ transitions _ (says-line _ (says-count (bytes "transitions=") transitions_ok transitions (held.transitions i here))) λ c.
        let few : transitions ≤ 32 = leb-true transitions 32 (limit-met _ c) in
        says_then _ _ (in_turn (λ x. tran_text (transition_row t (i * 32 + x))) transitions) _ (first_of (λ x. tran_fault places (transition_row t (i * 32 + x))) transitions) _ (transitions_of t (trans t (suc i))) _ tran-rows λ _.
        says_then _ _ (count_text (bytes "behaviors=") (type_of t i).behaviors) _ (limit_fault (behaviors_ok (type_of t i).behaviors)) _ (type_of t i).behaviors _ (says-line _ (says-count (bytes "behaviors=") behaviors_ok (type_of t i).behaviors (held.behaviors i here))) λ _.
        says_then _ _ (in_turn (λ x. behavior_text (behavior_row t (i * 8 + x))) (type_of t i).behaviors) _ (first_of (λ x. behavior_fault transitions (behavior_row t (i * 8 + x))) (type_of t i).behaviors) _ (behaviors_of t (behaves t (suc i))) _ (behavior-rows few) λ _.
        says_then _ _ (count_text (bytes "ports=") (type_of t i).ports) _ (limit_fault (ports_ok (type_of t i).ports)) _ (type_of t i).ports _ (says-line _ (says-count (bytes "ports=") ports_ok (type_of t i).ports (held.ports i here))) λ _.
        says-made _ _ (type-made t i) (port-rows (sixteen a) few)

  -- ---- the sheet
  pub head-is : headed t.depth t.count ≡ tables_to 0
  head-is = head-said t

  types-say : t.count ≤ 16 → Says (each type_lines t.count 0 (headed t.depth t.count)) (in_turn (type_text t) t.count) (first_of (type_fault t) t.count) (cleared t)
  unfolding cleared
  types-say few = says_all type_lines (type_text t) (type_fault t) tables_to t.count (λ i h. type-says i h (omega arith)) (headed t.depth t.count) (sym head-is)

  do-turn : (n j : ℕ) → j < p.count → Says (instruction_at p.edition n j (program_to p j)) (do_text (instruction_row p j)) (do_fault p.edition n (instruction_row p j)) (program_to p (suc j))
  unfolding instruction_at
  do-turn n j h =
      says_map (do_line p.edition n) _ (program-made p j)
      (says-do p.edition n (instruction_row p j) (held.instruction j h))

  pub program-says : (n : ℕ) → Says (each (instruction_at p.edition n) p.count 0 (program_of p.edition p.count)) (in_turn (λ j. do_text (instruction_row p j)) p.count) (first_of (λ j. do_fault p.edition n (instruction_row p j)) p.count) (cleared_program p)
  unfolding cleared_program
  program-says n =
      says_all (instruction_at p.edition n) (λ j. do_text (instruction_row p j)) (λ j. do_fault p.edition n (instruction_row p j)) (program_to p) p.count (λ j h. do-turn n j h) (program_of p.edition p.count) (program-none p)

  pub sheet-says : Ends sheet (sheet_text t p) (sheet_fault t p) (cleared t, cleared_program p)
  unfolding sheet sheet_text sheet_fault
  sheet-says =
      ends-then _ _ (count_text (bytes "sheet=") p.edition) _ (edition_fault p.edition) _ p.edition _ (says-line _ (says-edition p.edition held.edition)) λ _.
      ends-then _ _ (count_text (bytes "depth=") t.depth) _ (limit_fault (depth_ok t.depth)) _ t.depth _ (says-line _ (says-count (bytes "depth=") depth_ok t.depth held.depth)) λ _.
      ends-then _ _ (count_text (bytes "types=") t.count) _ (limit_fault (types_ok t.count)) _ t.count _ (says-line _ (says-count (bytes "types=") types_ok t.count held.count)) λ a.
      ends-then _ _ (in_turn (type_text t) t.count) _ (first_of (type_fault t) t.count) _ (cleared t) _
      (types-say (leb-true t.count 16 (and_right (leb 1 t.count) (leb t.count 16) (limit-met _ a)))) λ _.
      ends-then _ _ (count_text (bytes "program=") p.count) _ (limit_fault (program_ok p.count)) _ p.count _ (says-line _ (says-count (bytes "program=") program_ok p.count held.instructions)) λ _.
      ends-here _ _ (program-says t.count)
