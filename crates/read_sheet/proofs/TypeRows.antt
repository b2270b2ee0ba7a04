-- The lines of a type with its rows by their kind are those of its definition.
-- Assumes nothing.
use Prim.Native.Nat.{ℕ, ◌*◌, ◌≤◌, ◌<◌}
use mathlib.Core.List.{List}
use mathlib.Core.Path.{◌≡◌, refl, ap, ◌∙◌}
use native.Mathlib.Omega.{arith}
use Rattle.item_spec.specs.Reader.{Reply, got, refused, read_on, bytes}
use Rattle.item_spec.specs.Reader as reader
use Rattle.model.specs.declared.Transitions.{Transitions}
use Rattle.model.specs.declared.Ports.{Ports}
use Rattle.model.specs.declared.Tables.{Tables}
use Rattle.read_spec.specs.Limits.{places_ok, transitions_ok, behaviors_ok, ports_ok}
use Rattle.read_spec.specs.Lines.{Run, Lines, run_on, hand_on, line_of, line, each, ◌>>=◌, ◌>>◌}
use Rattle.read_spec.specs.Kinds.{due_line, count_line, initial_line, tran_line, behavior_line, port_line}
use Rattle.read_spec.specs.Fill.{with_transition, with_port, with_type}
use Rattle.read_spec.specs.Texts.{tran_at, behavior_at, port_at, type_lines}
use Rattle.read_lines.proofs.Runs.{next-same, next-next, each_seen}
use Rattle.words.specs.Parts.{with_kind, type_of_words}
use Rattle.read_sheet_lines.specs.declared.Known.{Known}
use Rattle.read_sheet_lines.specs.declared.Row.{Row}
use Rattle.read_sheet_lines.specs.declared.Rows.{Rows}
use Rattle.read_sheet_lines.specs.declared.Rows.TheVariants as rows
use Rattle.read_sheet_lines.specs.Rows.{row_line}
use Rattle.read_sheet.specs.Rows.{per_type, row}

-- the slots before a type's rows
pub few-slots : (r : Rows) (i : ℕ) → i < 16 → i * per_type r ≤ 480
few-slots rows.Transitions i h = omega arith
few-slots rows.Behaviors i h = omega arith
few-slots rows.Ports i h = omega arith

-- the same tables but for the rows of one kind
abbrev ends : Tables → Transitions → Tables
ends t xs = record { depth = t.depth; count = t.count; types = t.types; transitions = xs; behaviors = t.behaviors; ports = t.ports }

abbrev sets : Tables → List ℕ → Tables
sets t bs = record { depth = t.depth; count = t.count; types = t.types; transitions = t.transitions; behaviors = bs; ports = t.ports }

abbrev groups : Tables → Ports → Tables
groups t qs = record { depth = t.depth; count = t.count; types = t.types; transitions = t.transitions; behaviors = t.behaviors; ports = qs }

abbrev pub known_of : ℕ → ℕ → ℕ → Known
known_of n m k = record { places = n; initial = m; transitions = k }

-- `type` of crate reading, with the rows of each kind put into the tables one by one
unfoldable pub type_rows : ℕ → Tables → Lines Tables
type_rows i t = do
  line (due_line (bytes "type=") i)
  n ← line (count_line (bytes "places=") places_ok)
  m ← line (initial_line n)
  k ← line (count_line (bytes "transitions=") transitions_ok)
  u ← each (row rows.Transitions (known_of n m k)) k (i * 32) t
  b ← line (count_line (bytes "behaviors=") behaviors_ok)
  v ← each (row rows.Behaviors (known_of n m k)) b (i * 8) u
  p ← line (count_line (bytes "ports=") ports_ok)
  w ← each (row rows.Ports (known_of n m k)) p (i * 16) v
  hand_on (with_kind w i (type_of_words n m k b p))

-- a line of which x was replied, and the row k of its value: it fills what the value fills, seen through h
row_made : {A X : Type 0} (x : Reply A) (s : List ℕ) (k : A → Row) (fill : Row → Tables) (made : A → X) (h : X → Tables) → ((a : A) → fill (k a) ≡ h (made a))
    → run_on (line_of (read_on x (λ a. reader.give (k a))) s) (λ r. hand_on (fill r)) ≡ run_on (run_on (line_of x s) (λ a. hand_on (made a))) (λ y. hand_on (h y))
row_made (got a r) s k fill made h e = ap (λ (t : Tables). hand_on t r) (e a)
row_made (refused n) s k fill made h e = refl

-- so many rows of a kind, then on: as many lines of a part of what they fill, which is seen through h
rows_then : {X Y : Type 0} (r : Rows) (c : Known) (h : Y → Tables) (part : ℕ → Y → Lines Y)
    → ((j : ℕ) (y : Y) (s : List ℕ) → row r c j (h y) s ≡ run_on (part j y s) (λ z. hand_on (h z)))
    → (n j : ℕ) (y : Y) (s : List ℕ) (on : Tables → Lines X) → run_on (each (row r c) n j (h y) s) on ≡ run_on (each part n j y s) (λ z. on (h z))
rows_then r c h part same n j y s on = ap (λ (x : Run Tables). run_on x on) (each_seen h part (row r c) same n j y s) ∙ next-next (each part n j y s) _ _

module _ (n m k i : ℕ) {X : Type 0} (t : Tables) (s : List ℕ) (on : Tables → Lines X) where
  pub transitions-then : run_on (each (row rows.Transitions (known_of n m k)) k (i * 32) t s) on ≡ run_on (each (tran_at n) k (i * 32) t.transitions s) (λ xs. on (ends t xs))
  unfolding tran_at row row_line with_transition
  transitions-then =
      rows_then rows.Transitions (known_of n m k) (ends t) (tran_at n) (λ j xs q. row_made (tran_line n q) q _ _ _ _ (λ a. refl)) k (i * 32) t.transitions s on

  pub behaviors-then : (b : ℕ) → run_on (each (row rows.Behaviors (known_of n m k)) b (i * 8) t s) on ≡ run_on (each (behavior_at k) b (i * 8) t.behaviors s) (λ bs. on (sets t bs))
  unfolding behavior_at row row_line
  behaviors-then b =
      rows_then rows.Behaviors (known_of n m k) (sets t) (behavior_at k) (λ j bs q. row_made (behavior_line k q) q _ _ _ _ (λ a. refl)) b (i * 8) t.behaviors s on

  pub ports-then : (p : ℕ) → run_on (each (row rows.Ports (known_of n m k)) p (i * 16) t s) on ≡ run_on (each (port_at n k m) p (i * 16) t.ports s) (λ qs. on (groups t qs))
  unfolding port_at row row_line with_port
  ports-then p =
      rows_then rows.Ports (known_of n m k) (groups t) (port_at n k m) (λ j qs q. row_made (port_line n k m q) q _ _ _ _ (λ a. refl)) p (i * 16) t.ports s on

pub type-rows : (i : ℕ) (t : Tables) (s : List ℕ) → type_rows i t s ≡ type_lines i t s
unfolding type_lines type_rows with_type
type-rows i t s =
    next-same (line (due_line (bytes "type=") i) s) _ _ (λ _ s.
    next-same (line (count_line (bytes "places=") places_ok) s) _ _ (λ n s.
    next-same (line (initial_line n) s) _ _ (λ m s.
    next-same (line (count_line (bytes "transitions=") transitions_ok) s) _ _ (λ k s.
    transitions-then n m k i t s _
    ∙ next-same (each (tran_at n) k (i * 32) t.transitions s) _ _ (λ xs s.
    next-same (line (count_line (bytes "behaviors=") behaviors_ok) s) _ _ (λ b s.
    behaviors-then n m k i (ends t xs) s _ b
    ∙ next-same (each (behavior_at k) b (i * 8) t.behaviors s) _ _ (λ bs s.
    next-same (line (count_line (bytes "ports=") ports_ok) s) _ _ (λ p s.
    ports-then n m k i (sets (ends t xs) bs) s _ p))))))))
