-- A sheet that is read is the text of what it gives.
-- Assumes nothing.
use Prim.Native.Nat.{ℕ, zero, suc, ◌+◌, ◌*◌, ◌≤◌, ◌<◌}
use mathlib.Core.List.{List, ◌++◌, append_assoc, append-nil}
use mathlib.Core.Path.{◌≡◌, refl, sym, ap, ap₂, ◌∙◌}
use native.Mathlib.Omega.{arith}
use native.Mathlib.Nat.{zero-add}
use lib.Dec.{leb}
use lib.ListN.{set}
use borrow.Author.Tests.{leb-true}
use Rattle.item_spec.specs.Reader.{bytes}
use Rattle.item_spec.specs.Write.{in_turn}
use Rattle.item_spec.proofs.Tests.{and_right}
use Rattle.model.specs.declared.ComponentType.{ComponentType}
use Rattle.model.specs.declared.Transitions.{Transitions}
use Rattle.model.specs.declared.Ports.{Ports}
use Rattle.model.specs.declared.Tables.{Tables}
use Rattle.model.specs.declared.Program.{Program}
use Rattle.model.specs.View.{type_of}
use Rattle.model.specs.Empty.{no_tables, no_program}
use Rattle.read_spec.specs.Limits.{depth_ok, types_ok, places_ok, transitions_ok, behaviors_ok, ports_ok, program_ok}
use Rattle.read_spec.specs.Lines.{on, each, at_end}
use Rattle.read_spec.specs.Kinds.{edition_line, due_line, count_line, initial_line, tran_line, behavior_line, port_line, do_line}
use Rattle.read_spec.specs.Fill.{headed, with_type, program_of}
use Rattle.read_spec.specs.Texts.{tran_at, behavior_at, port_at, type_lines, instruction_at, sheet}
use Rattle.read_spec.proofs.Slots.{type_slots, types-sound, transition_slots, transitions-sound, behavior_slots, behaviors-sound, port_slots, ports-sound, instruction_slots, instructions-sound}
use Rattle.report_spec.specs.Report.{count_text}
use Rattle.write_spec.specs.Kinds.{initial_text, tran_text, behavior_text, port_line_text, do_text}
use Rattle.write_spec.specs.Texts.{transition_row, behavior_row, port_row, instruction_row, type_text, sheet_text}
use Rattle.write_spec.proofs.Turns.{in_turn_from, turn-from, turn-same}
use Rattle.write_spec.proofs.Took.{takes-edition, takes-due, takes_count, takes-initial, takes-tran, takes-behavior, takes-port, takes-do, takes-rows, takes_all, end_back, on_value, on-rest, run-then, line-then}

-- the arrays have their lengths
record Whole (t : Tables) : Type 0 where
  types : type_slots.Sized t.types
  transitions : transition_slots.Sized t.transitions
  behaviors : behavior_slots.Sized t.behaviors
  ports : port_slots.Sized t.ports

-- what is said of the first i types stays
record Stays (i : ℕ) (t u : Tables) : Type 0 where
  depth : u.depth ≡ t.depth
  count : u.count ≡ t.count
  types : (q : ℕ) → q < i → type_of u q ≡ type_of t q
  transitions : (j : ℕ) → j < i * 32 → transition_row u j ≡ transition_row t j
  behaviors : (j : ℕ) → j < i * 8 → behavior_row u j ≡ behavior_row t j
  ports : (j : ℕ) → j < i * 16 → port_row u j ≡ port_row t j

-- a type's rows have room in their slots
record Few (k : ComponentType) : Type 0 where
  transitions : k.transitions ≤ 32
  behaviors : k.behaviors ≤ 8
  ports : k.ports ≤ 16

text_same : (t u : Tables) (i : ℕ) → Few (type_of t i) → Stays (suc i) t u → type_text u i ≡ type_text t i
unfolding type_text
text_same t u i few e =
    rw (e.types i (omega arith))
    (ap₂ parts (turn-same _ _ (type_of t i).transitions (λ x h. ap tran_text (e.transitions (i * 32 + x) (omega (arith, few.transitions)))))
    (ap₂ (λ (b p : List ℕ). (b, p)) (turn-same _ _ (type_of t i).behaviors (λ x h. ap behavior_text (e.behaviors (i * 8 + x) (omega (arith, few.behaviors)))))
    (turn-same _ _ (type_of t i).ports (λ x h. ap port_line_text (e.ports (i * 16 + x) (omega (arith, few.ports)))))))
  where
    parts : List ℕ → List ℕ × List ℕ → List ℕ
    parts a y =
        count_text (bytes "type=") i ++ (count_text (bytes "places=") (type_of t i).places ++ (initial_text (type_of t i).initial
        ++ (count_text (bytes "transitions=") (type_of t i).transitions ++ (a
        ++ (count_text (bytes "behaviors=") (type_of t i).behaviors ++ (y.0
        ++ (count_text (bytes "ports=") (type_of t i).ports ++ y.1)))))))

-- type i is read
record Read (i : ℕ) (t u : Tables) (s r : List ℕ) : Type 0 where
  is : s ≡ type_text u i ++ r
  few : Few (type_of u i)
  stays : Stays i t u
  whole : Whole u

module _ (i : ℕ) (t : Tables) (k : ComponentType) (xs : Transitions) (bs : List ℕ) (qs : Ports) (small : i < 16) (w : Whole t) where
  abbrev made : Tables
  made = record { depth = t.depth; count = t.count; types = set t.types i k; transitions = xs; behaviors = bs; ports = qs }

  own : type_of made i ≡ k
  own = types-sound.same t.types i k w.types small

  rows : List ℕ
  rows = count_text (bytes "transitions=") k.transitions ++ (in_turn (λ x. tran_text (transition_row made (i * 32 + x))) k.transitions
      ++ (count_text (bytes "behaviors=") k.behaviors ++ (in_turn (λ x. behavior_text (behavior_row made (i * 8 + x))) k.behaviors
      ++ (count_text (bytes "ports=") k.ports ++ in_turn (λ x. port_line_text (port_row made (i * 16 + x))) k.ports))))

  own-text : type_text made i ≡ count_text (bytes "type=") i ++ (count_text (bytes "places=") k.places ++ (initial_text k.initial ++ rows))
  unfolding type_text rows
  own-text = rw own

  read_made : (s s₄ s₆ s₈ r : List ℕ) → s ≡ count_text (bytes "type=") i ++ (count_text (bytes "places=") k.places ++ (initial_text k.initial ++ (count_text (bytes "transitions=") k.transitions ++ s₄)))
      → s₄ ≡ in_turn (λ x. tran_text (transition_row made (i * 32 + x))) k.transitions ++ (count_text (bytes "behaviors=") k.behaviors ++ s₆)
      → s₆ ≡ in_turn (λ x. behavior_text (behavior_row made (i * 8 + x))) k.behaviors ++ (count_text (bytes "ports=") k.ports ++ s₈)
      → s₈ ≡ in_turn (λ x. port_line_text (port_row made (i * 16 + x))) k.ports ++ r
      → s ≡ type_text made i ++ r
  unfolding rows
  read_made s s₄ s₆ s₈ r a b c d = a ∙ rw (b, c, d, own-text) (simp append_assoc)

read-type : (i : ℕ) (t u : Tables) (s r : List ℕ) → i < 16 → Whole t → type_lines i t s ≡ on u r → Read i t u s r
unfolding type_lines tran_at behavior_at port_at with_type
read-type i t u s r small w q =
    line-then (due_line (bytes "type=") i) _ s q λ _ s₁ e₁ q. line-then (count_line (bytes "places=") places_ok) _ s₁ q λ n s₂ e₂ q.
    let (x₂, ln) = takes_count (bytes "places=") places_ok s₁ e₂ in
    let hn : n ≤ 16 = leb-true n 16 (and_right (leb 1 n) (leb n 16) ln) in
    line-then (initial_line n) _ s₂ q λ m s₃ e₃ q. line-then (count_line (bytes "transitions=") transitions_ok) _ s₃ q λ k s₄ e₄ q.
    let (x₄, lk) = takes_count (bytes "transitions=") transitions_ok s₃ e₄ in
    let hk : k ≤ 32 = leb-true k 32 lk in
    run-then (each (tran_at n) k (i * 32) t.transitions s₄) _ q λ xs s₅ e₅ q. line-then (count_line (bytes "behaviors=") behaviors_ok) _ s₅ q λ b s₆ e₆ q.
    let (x₆, lb) = takes_count (bytes "behaviors=") behaviors_ok s₅ e₆ in
    let hb : b ≤ 8 = leb-true b 8 lb in
    run-then (each (behavior_at k) b (i * 8) t.behaviors s₆) _ q λ bs s₇ e₇ q. line-then (count_line (bytes "ports=") ports_ok) _ s₇ q λ p s₈ e₈ q.
    let (x₈, lp) = takes_count (bytes "ports=") ports_ok s₇ e₈ in
    let hp : p ≤ 16 = leb-true p 16 lp in
    run-then (each (port_at n k m) p (i * 16) t.ports s₈) _ q λ qs s₉ e₉ q.
    let f = takes-rows transition_slots transitions-sound (tran_line n) tran_text (takes-tran n) k (i * 32) t.transitions xs s₄ s₅ (omega arith) w.transitions e₅ in
    let g = takes-rows behavior_slots behaviors-sound (behavior_line k) behavior_text (takes-behavior k hk) b (i * 8) t.behaviors bs s₆ s₇ (omega arith) w.behaviors e₇ in
    let h = takes-rows port_slots ports-sound (port_line n k m) port_line_text (takes-port n k m (omega arith) hk) p (i * 16) t.ports qs s₈ s₉ (omega arith) w.ports e₉ in
    let kk : ComponentType = record { places = n; initial = m; transitions = k; behaviors = b; ports = p } in
    rw (← on_value q, ← on-rest q) record {
      is = read_made i t kk xs bs qs small w s s₄ s₆ s₈ s₉
          (takes-due (bytes "type=") i s e₁ ∙ ap (λ (l : List ℕ). count_text (bytes "type=") i ++ l) (x₂ ∙ ap (λ (l : List ℕ). count_text (bytes "places=") n ++ l) (takes-initial n (omega arith) s₂ m s₃ e₃ ∙ ap (λ (l : List ℕ). initial_text m ++ l) x₄)))
          (f.is ∙ ap (λ (l : List ℕ). in_turn (λ x. tran_text (transition_slots.at xs (i * 32 + x))) k ++ l) x₆)
          (g.is ∙ ap (λ (l : List ℕ). in_turn (λ x. behavior_text (behavior_slots.at bs (i * 8 + x))) b ++ l) x₈) h.is;
      few = rw (own i t kk xs bs qs small w) record { transitions = hk; behaviors = hb; ports = hp };
      stays = record {
        depth = refl;
        count = refl;
        types = λ q l. types-sound.other t.types i q kk (λ e. omega arith);
        transitions = f.below;
        behaviors = g.below;
        ports = h.below;
      };
      whole = record { types = types-sound.keeps t.types i kk w.types; transitions = f.sized; behaviors = g.sized; ports = h.sized };
    }

record Types (n i : ℕ) (t u : Tables) (s r : List ℕ) : Type 0 where
  is : s ≡ in_turn_from (type_text u) n i ++ r
  stays : Stays i t u
  whole : Whole u

read-types : (n i : ℕ) (t u : Tables) (s r : List ℕ) → i + n ≤ 16 → Whole t → each type_lines n i t s ≡ on u r → Types n i t u s r
unfolding each in_turn_from
read-types zero i t u s r l w q =
    rw (← on_value q, ← on-rest q) record {
      is = refl;
      stays = record { depth = refl; count = refl; types = λ q h. refl; transitions = λ j h. refl; behaviors = λ j h. refl; ports = λ j h. refl };
      whole = w;
    }
read-types (suc n) i t u s r l w q =
    run-then (type_lines i t s) _ q λ v s' e q.
    let x = read-type i t v s s' (omega arith) w e in
    let y = read-types n (suc i) v u s' r (omega arith) x.whole q in
    record {
      is = x.is ∙ rw (y.is, text_same v u i x.few y.stays) (sym (append_assoc (type_text v i) (in_turn_from (type_text u) n (suc i)) r));
      stays = record {
        depth = y.stays.depth ∙ x.stays.depth;
        count = y.stays.count ∙ x.stays.count;
        types = λ q h. y.stays.types q (omega arith) ∙ x.stays.types q h;
        transitions = λ j h. y.stays.transitions j (omega arith) ∙ x.stays.transitions j h;
        behaviors = λ j h. y.stays.behaviors j (omega arith) ∙ x.stays.behaviors j h;
        ports = λ j h. y.stays.ports j (omega arith) ∙ x.stays.ports j h;
      };
      whole = y.whole;
    }

sheet-made : (u : Tables) (v : Program) (s s₁ s₂ s₃ s₄ s₅ : List ℕ) → s ≡ count_text (bytes "sheet=") v.edition ++ s₁ → s₁ ≡ count_text (bytes "depth=") u.depth ++ s₂ → s₂ ≡ count_text (bytes "types=") u.count ++ s₃
    → s₃ ≡ in_turn (type_text u) u.count ++ s₄ → s₄ ≡ count_text (bytes "program=") v.count ++ s₅ → s₅ ≡ in_turn (λ j. do_text (instruction_row v j)) v.count → s ≡ sheet_text u v
unfolding sheet_text
sheet-made u v s s₁ s₂ s₃ s₄ s₅ a b c d e f = rw (a, b, c, d, e, f)

pub sheets-are-their-texts : (s r : List ℕ) (t : Tables) (p : Program) → sheet s ≡ on (t, p) r → s ≡ sheet_text t p
unfolding sheet sheet_text headed no_tables program_of no_program instruction_at type_text
sheets-are-their-texts s r t p q =
    line-then edition_line _ s q λ e s₁ e₁ q. line-then (count_line (bytes "depth=") depth_ok) _ s₁ q λ d s₂ e₂ q. line-then (count_line (bytes "types=") types_ok) _ s₂ q λ n s₃ e₃ q.
    let (x₃, ln) = takes_count (bytes "types=") types_ok s₂ e₃ in
    let hn : n ≤ 16 = leb-true n 16 (and_right (leb 1 n) (leb n 16) ln) in
    run-then (each type_lines n 0 (headed d n) s₃) _ q λ u s₄ e₄ q. line-then (count_line (bytes "program=") program_ok) _ s₄ q λ k s₅ e₅ q.
    let (x₅, lk) = takes_count (bytes "program=") program_ok s₄ e₅ in
    let hk : k ≤ 256 = leb-true k 256 lk in
    run-then (each (instruction_at e n) k 0 (program_of e k) s₅) _ q λ v s₆ e₆ q. run-then (at_end s₆) _ q λ _ s₇ e₇ q.
    let types = read-types n 0 (headed d n) u s₃ s₄ (omega arith) (record { types = (refl, tt); transitions = (refl, refl); behaviors = (refl, tt); ports = (refl, refl, refl) }) e₄ in
    let lines = takes_all (instruction_slots e k) (instructions-sound e k) (do_line e n) do_text (takes-do e n) k (program_of e k) v s₅ s₆ hk (refl, (refl, refl, refl)) e₆ in
    let tables : u ≡ t = ap (λ (x : Tables × Program). x.0) (on_value q) in
    let program : v ≡ p = ap (λ (x : Tables × Program). x.1) (on_value q) in
    rw (← tables, ← program)
    (sheet-made u v s s₁ s₂ s₃ s₄ s₅ (rw lines.sized.1.0 (takes-edition s e₁).0) (rw types.stays.depth (takes_count (bytes "depth=") depth_ok s₁ e₂).0) (rw types.stays.count x₃)
    (rw types.stays.count (types.is ∙ ap (λ (l : List ℕ). l ++ s₄) (sym (turn-from 0 (type_text u) (type_text u) (λ x. ap (type_text u) (sym (zero-add x))) n)))) (rw lines.sized.1.1 x₅) (rw lines.sized.1.1 (lines.is ∙ rw (end_back s₆ e₇) (append-nil _))))
