-- A type as a form has it is read as the sheet's type is: its rows are counted where they stand.
-- Assumes nothing.
use Prim.Native.Nat.{ℕ, suc, ◌+◌, ◌*◌, ◌≤◌, ◌<◌}
use mathlib.Core.List.{List, ◌++◌, append_assoc}
use mathlib.Core.Bool.{Bool, true, false}
use mathlib.Core.Path.{◌≡◌, refl, ap, ◌∙◌}
use native.Mathlib.Nat.{add-zero}
use borrow.Author.Tests.{leb-true}
use Rattle.item_spec.specs.Reader.{bytes}
use Rattle.item_spec.specs.Read.{key}
use Rattle.item_spec.specs.Write.{in_turn}
use Rattle.model.specs.declared.ComponentType.{ComponentType}
use Rattle.model.specs.declared.Tables.{Tables}
use Rattle.model.specs.declared.Program.{Program}
use Rattle.model.specs.Empty.{no_type}
use Rattle.model.specs.View.{type_of}
use Rattle.read_spec.specs.Limits.{places_ok, transitions_ok, behaviors_ok, ports_ok}
use Rattle.read_spec.specs.Lines.{Run, on, Lines, run_on, ◌>>=◌, hand_on, line, each}
use Rattle.read_spec.specs.Fill.{with_type}
use Rattle.read_lines.proofs.Runs.{next-same}
use Rattle.read_spec.specs.Kinds.{count_line, initial_line}
use Rattle.read_spec.specs.Texts.{tran_at, behavior_at, port_at}
use Rattle.report_spec.specs.Report.{count_text}
use Rattle.read_sheet.specs.Form.{lines_with, counted, type_form}
use Rattle.read_sheet.proofs.TypeRows.{transitions-then, behaviors-then, ports-then}
use Rattle.write_spec.specs.Kinds.{limit_fault, initial_text, initial_fault, tran_text, tran_fault, behavior_text, behavior_fault, port_line_text, port_fault}
use Rattle.write_spec.specs.Texts.{first_of, transition_row, behavior_row, port_row, type_fault}
use Rattle.write_spec.specs.Round.{Held}
use Rattle.write_spec.proofs.Turns.{or-both, first-zero, limit-met}
use Rattle.write_spec.proofs.Says.{says-line}
use Rattle.write_spec.proofs.Written.{says-count, says-initial}
use Rattle.write_spec.proofs.Columns.{column-set, up_next}
use Rattle.write_spec.proofs.Sheet.{tables_to, tran-rows, behavior-rows, port-rows, sixteen}
use Rattle.write_texts.specs.Form.{type_lines_text, type_rows_text}
use Rattle.form_spec.proofs.Rows.{Row, row-yes, row-no, Cells, cells-both, turn-cells, turn-yes, turn-no, turn-stop}
use Rattle.form_spec.proofs.EachKind.{type_row, initial-row, tran-row, behavior-row, port-row}

-- a run that goes on as a, at r, and what comes after it
pub goes : {A B : Type 0} (x : Run A) (f : A → Lines B) {a : A} {r : List ℕ} {y : Run B} → x ≡ on a r → f a r ≡ y → run_on x f ≡ y
goes x f e h = ap (λ z. run_on z f) e ∙ h

pub counted-as : (all : Bool) (k : List ℕ) (limit : ℕ → Bool) (s : List ℕ) (n : ℕ) → lines_with all k true s ≡ n → limit_fault (limit n) ≡ 0 → counted all k limit s ≡ on n s
unfolding counted
counted-as all k limit s n e l = rw (e, limit-met (limit n) l, counted) (ap (λ (i : ℕ). on i s) e)

-- a type of a form, with the rows of each kind in their group
unfoldable pub type_groups : ℕ → Tables → Lines Tables
type_groups i t = do
  n ← line (count_line (bytes "type=") places_ok)
  m ← line (initial_line n)
  k ← counted false (bytes "tran=") transitions_ok
  xs ← each (tran_at n) k (i * 32) t.transitions
  b ← counted false (bytes "behavior=") behaviors_ok
  bs ← each (behavior_at k) b (i * 8) t.behaviors
  p ← counted false (bytes "port=") ports_ok
  qs ← each (port_at n k m) p (i * 16) t.ports
  hand_on (with_type t i (record { places = n; initial = m; transitions = k; behaviors = b; ports = p }) xs bs qs)

pub type-groups : (i : ℕ) (t : Tables) (s : List ℕ) → type_form i t s ≡ type_groups i t s
unfolding type_form type_groups with_type
type-groups i t s =
    next-same (line (count_line (bytes "type=") places_ok) s) _ _ (λ n s.
    next-same (line (initial_line n) s) _ _ (λ m s.
    next-same (counted false (bytes "tran=") transitions_ok s) _ _ (λ k s.
    transitions-then n m k i t s _
    ∙ next-same (each (tran_at n) k (i * 32) t.transitions s) _ _ (λ xs s.
    next-same (counted false (bytes "behavior=") behaviors_ok s) _ _ (λ b s.
    behaviors-then n m k i _ s _ b
    ∙ next-same (each (behavior_at k) b (i * 8) t.behaviors s) _ _ (λ bs s.
    next-same (counted false (bytes "port=") ports_ok s) _ _ (λ p s. ports-then n m k i _ s _ p)))))))

-- no row of a type begins here
pub record Next (s : List ℕ) : Type 0 where
  pub trans : lines_with false (bytes "tran=") true s ≡ 0
  pub behaviors : lines_with false (bytes "behavior=") true s ≡ 0
  pub ports : lines_with false (bytes "port=") true s ≡ 0

-- a type of which no line is refused
pub record Clean (t : Tables) (i : ℕ) : Type 0 where
  pub places : limit_fault (places_ok (type_of t i).places) ≡ 0
  pub initial : initial_fault (type_of t i).places (type_of t i).initial ≡ 0
  pub transitions : limit_fault (transitions_ok (type_of t i).transitions) ≡ 0
  pub ends : first_of (λ x. tran_fault (type_of t i).places (transition_row t (i * 32 + x))) (type_of t i).transitions ≡ 0
  pub behaviors : limit_fault (behaviors_ok (type_of t i).behaviors) ≡ 0
  pub lists : first_of (λ x. behavior_fault (type_of t i).transitions (behavior_row t (i * 8 + x))) (type_of t i).behaviors ≡ 0
  pub ports : limit_fault (ports_ok (type_of t i).ports) ≡ 0
  pub groups : first_of (λ x. port_fault (type_of t i).places (type_of t i).transitions (type_of t i).initial (port_row t (i * 16 + x))) (type_of t i).ports ≡ 0

pub clean : (t : Tables) (i : ℕ) → type_fault t i ≡ 0 → Clean t i
unfolding type_fault
clean t i e =
    let (places, e₁) = or-both _ _ e in
    let (initial, e₂) = or-both _ _ e₁ in
    let (transitions, e₃) = or-both _ _ e₂ in
    let (ends, e₄) = or-both (first_of (λ x. tran_fault (type_of t i).places (transition_row t (i * 32 + x))) (type_of t i).transitions) _ e₃ in
    let (behaviors, e₅) = or-both _ _ e₄ in
    let (lists, e₆) = or-both (first_of (λ x. behavior_fault (type_of t i).transitions (behavior_row t (i * 8 + x))) (type_of t i).behaviors) _ e₅ in
    let (ports, groups) = or-both (limit_fault (ports_ok (type_of t i).ports)) _ e₆ in
    record { places = places; initial = initial; transitions = transitions; ends = ends; behaviors = behaviors; lists = lists; ports = ports; groups = groups }

module _ (t : Tables) (i : ℕ) where
  abbrev pub type_rows_of : List ℕ
  type_rows_of = type_lines_text t i ++ type_rows_text t i

  abbrev n : ℕ
  n = (type_of t i).places

  abbrev m : ℕ
  m = (type_of t i).initial

  abbrev trans : ℕ → List ℕ
  trans x = tran_text (transition_row t (i * 32 + x))

  abbrev behaviors : ℕ → List ℕ
  behaviors x = behavior_text (behavior_row t (i * 8 + x))

  abbrev ports : ℕ → List ℕ
  ports x = port_line_text (port_row t (i * 16 + x))

  -- the rows by kind, with s after them
  abbrev after₃ : List ℕ → List ℕ
  after₃ s = in_turn ports (type_of t i).ports ++ s

  abbrev after₂ : List ℕ → List ℕ
  after₂ s = in_turn behaviors (type_of t i).behaviors ++ after₃ s

  abbrev after₁ : List ℕ → List ℕ
  after₁ s = in_turn trans (type_of t i).transitions ++ after₂ s

  split : (s : List ℕ) → type_rows_of ++ s ≡ count_text (bytes "type=") n ++ (initial_text m ++ after₁ s)
  unfolding type_lines_text type_rows_text
  split s = simp append_assoc

  pub type-opens : (s : List ℕ) → Next (type_rows_of ++ s)
  unfolding key
  type-opens s = rw (split s) (record {
    trans = row-no (type_row n) (bytes "tran=") (initial_text m ++ after₁ s) false (λ z. refl);
    behaviors = row-no (type_row n) (bytes "behavior=") (initial_text m ++ after₁ s) false (λ z. refl);
    ports = row-no (type_row n) (bytes "port=") (initial_text m ++ after₁ s) false (λ z. refl);
  })

  module _ (c : Clean t i) where
    port-rows-of : (x : ℕ) → x < (type_of t i).ports → Row (bytes "port=") (ports x)
    port-rows-of x l = port-row _ _ _ (port_row t (i * 16 + x)) (first-zero (λ x. port_fault (type_of t i).places (type_of t i).transitions (type_of t i).initial (port_row t (i * 16 + x))) (type_of t i).ports c.groups x l)

    pub type-cells : Cells type_rows_of
    unfolding type_lines_text type_rows_text
    type-cells =
        cells-both (type_lines_text t i) (type_rows_text t i)
        (cells-both (count_text (bytes "type=") n) (initial_text m) (type_row n).cells (initial-row m).cells)
        (cells-both (in_turn trans (type_of t i).transitions ++ in_turn behaviors (type_of t i).behaviors) (in_turn ports (type_of t i).ports)
        (cells-both (in_turn trans (type_of t i).transitions) (in_turn behaviors (type_of t i).behaviors)
        (turn-cells trans (type_of t i).transitions (λ x l. (tran-row (transition_row t (i * 32 + x))).cells))
        (turn-cells behaviors (type_of t i).behaviors (λ x l. (behavior-row (behavior_row t (i * 8 + x))).cells)))
        (turn-cells ports (type_of t i).ports (λ x l. (port-rows-of x l).cells)))

    -- one of its lines begins with `type=`
    pub type-counted : (s : List ℕ) → lines_with true (bytes "type=") true (type_rows_of ++ s) ≡ suc (lines_with true (bytes "type=") true s)
    unfolding key
    type-counted s =
        ap (lines_with true (bytes "type=") true) (split s)
        ∙ row-yes (type_row n) (bytes "type=") (initial_text m ++ after₁ s) true (λ z. refl)
        ∙ ap suc (row-no (initial-row m) (bytes "type=") (after₁ s) true (λ z. refl)
        ∙ turn-no trans (bytes "tran=") (bytes "type=") (λ z. refl) (type_of t i).transitions (λ x l. tran-row (transition_row t (i * 32 + x))) (after₂ s)
        ∙ turn-no behaviors (bytes "behavior=") (bytes "type=") (λ z. refl) (type_of t i).behaviors (λ x l. behavior-row (behavior_row t (i * 8 + x))) (after₃ s)
        ∙ turn-no ports (bytes "port=") (bytes "type=") (λ z. refl) (type_of t i).ports port-rows-of s)

    -- ---- how many rows of a kind there are
    module _ (s : List ℕ) (next : Next s) where
      port-count : lines_with false (bytes "port=") true (after₃ s) ≡ (type_of t i).ports
      unfolding key
      port-count =
          turn-yes ports (bytes "port=") (bytes "port=") false (λ z. refl) (type_of t i).ports port-rows-of s
          ∙ ap (λ (z : ℕ). (type_of t i).ports + z) next.ports ∙ add-zero (type_of t i).ports

      behavior-count : lines_with false (bytes "behavior=") true (after₂ s) ≡ (type_of t i).behaviors
      unfolding key
      behavior-count =
          turn-yes behaviors (bytes "behavior=") (bytes "behavior=") false (λ z. refl) (type_of t i).behaviors (λ x l. behavior-row (behavior_row t (i * 8 + x))) (after₃ s)
          ∙ ap (λ (z : ℕ). (type_of t i).behaviors + z) (turn-stop ports (bytes "port=") (bytes "behavior=") (λ z. refl) (type_of t i).ports port-rows-of s next.behaviors) ∙ add-zero (type_of t i).behaviors

      tran-count : lines_with false (bytes "tran=") true (after₁ s) ≡ (type_of t i).transitions
      unfolding key
      tran-count =
          turn-yes trans (bytes "tran=") (bytes "tran=") false (λ z. refl) (type_of t i).transitions (λ x l. tran-row (transition_row t (i * 32 + x))) (after₂ s)
          ∙ ap (λ (z : ℕ). (type_of t i).transitions + z)
          (turn-stop behaviors (bytes "behavior=") (bytes "tran=") (λ z. refl) (type_of t i).behaviors (λ x l. behavior-row (behavior_row t (i * 8 + x))) (after₃ s)
          (turn-stop ports (bytes "port=") (bytes "tran=") (λ z. refl) (type_of t i).ports port-rows-of s next.trans))
          ∙ add-zero (type_of t i).transitions

      -- ---- read
      module _ (p : Program) (held : Held t p) (here : i < t.count) where
        abbrev g : ℕ → Tables
        g j = tables_to t p held j

        few : (type_of t i).transitions ≤ 32
        few = leb-true (type_of t i).transitions 32 (limit-met (transitions_ok (type_of t i).transitions) c.transitions)

        small : n ≤ 32
        small = sixteen t p held i here {n = n} c.places

        pub type-read : type_form i (g i) (type_rows_of ++ s) ≡ on (g (suc i)) s
        unfolding type_groups with_type
        type-read =
            ap (type_form i (g i)) (split s)
            ∙ type-groups i (g i) (count_text (bytes "type=") n ++ (initial_text m ++ after₁ s))
            ∙ goes (line (count_line (bytes "type=") places_ok) (count_text (bytes "type=") n ++ (initial_text m ++ after₁ s))) _
            ((says-line _ (says-count (bytes "type=") places_ok n (held.places i here))).goes c.places (initial_text m ++ after₁ s))
            (goes (line (initial_line n) (initial_text m ++ after₁ s)) _ ((says-line _ (says-initial n m small (held.initial i here))).goes c.initial (after₁ s))
            (goes (counted false (bytes "tran=") transitions_ok (after₁ s)) _ (counted-as false (bytes "tran=") transitions_ok (after₁ s) (type_of t i).transitions tran-count c.transitions)
            (goes (each (tran_at n) (type_of t i).transitions (i * 32) (g i).transitions (after₁ s)) _ ((tran-rows t p held i here).goes c.ends (after₂ s))
            (goes (counted false (bytes "behavior=") behaviors_ok (after₂ s)) _ (counted-as false (bytes "behavior=") behaviors_ok (after₂ s) (type_of t i).behaviors behavior-count c.behaviors)
            (goes (each (behavior_at (type_of t i).transitions) (type_of t i).behaviors (i * 8) (g i).behaviors (after₂ s)) _ ((behavior-rows t p held i here few).goes c.lists (after₃ s))
            (goes (counted false (bytes "port=") ports_ok (after₃ s)) _ (counted-as false (bytes "port=") ports_ok (after₃ s) (type_of t i).ports port-count c.ports)
            (goes (each (port_at n (type_of t i).transitions m) (type_of t i).ports (i * 16) (g i).ports (after₃ s)) _ ((port-rows t p held i here small few).goes c.groups s)
            (ap (λ (ks : List ComponentType). on (record { depth = t.depth; count = t.count; types = ks; transitions = (g (suc i)).transitions; behaviors = (g (suc i)).behaviors; ports = (g (suc i)).ports }) s)
            (column-set 16 no_type (type_of t) _ _ i (up_next i))))))))))
