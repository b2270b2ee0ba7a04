-- The parts joined are the texts and the numbers of writing/specs, and a text is measured before it is written.
-- Assumes nothing.
use Prim.Native.Nat.{ℕ, ◌≤◌, min}
use mathlib.Core.List.{List, ◌++◌, append_assoc}
use mathlib.Core.Bool.{Bool, true, false, not}
use mathlib.Core.Path.{◌≡◌, refl, sym, ap, ◌∙◌}
use mathlib.Core.Logic.{◌≢◌}
use native.Mathlib.Omega.{arith}
use lib.Dec.{eqb, leb}
use lib.ListN.{length, take, drop}
use lib.Seq.{take_at, drop_at}
use borrow.Author.Tests.{lt-leb, leb-true, leb-false, eqb-false, eq-eqb, ne_eqb}
use Rattle.item_spec.specs.Reader.{bytes}
use Rattle.item_spec.proofs.Tests.{by-test}
use Rattle.model.specs.declared.Tables.{Tables}
use Rattle.model.specs.declared.Program.{Program}
use Rattle.model.specs.View.{type_of}
use Rattle.read_spec.specs.Limits.{length_ok, depth_ok, types_ok, places_ok, transitions_ok, behaviors_ok, ports_ok}
use Rattle.rules_spec.specs.Refusal.{◌⇒◌∣◌, or_number}
use Rattle.write_items.specs.Written.{Written}
use Rattle.write_items.proofs.Laws.{fits_all}
use Rattle.form_cells.specs.Cells.{cells_of}
use Rattle.form_cells.proofs.Laws.{cells-length}
use Rattle.write_spec.specs.Kinds.{edition_fault, limit_fault, initial_fault}
use Rattle.write_spec.specs.Texts.{first_of, type_text, type_fault, sheet_text, sheet_fault}
use Rattle.write_spec.specs.Buffer.{write_number, penned, Penned}
use Rattle.write_spec.proofs.Turns.{or_assoc}
use Rattle.read_sheet_lines.specs.declared.Rows.TheVariants.{Transitions, Behaviors, Ports}
use Rattle.write_texts.specs.Parts.{known_of, rows_fault, kind_text, kind_fault, kinds_text, head_text, head_fault, first_text, part_fault}
use Rattle.write_texts.specs.Layouts.{part_text}
use Rattle.write_texts.specs.declared.parts.Part.TheVariants.{Types, Instructions}

pub type-parts : (t : Tables) (i : ℕ) → head_text t i ++ kinds_text t i ≡ type_text t i
unfolding head_text kinds_text kind_text type_text
type-parts t i = simp append_assoc

pub sheet-parts : (t : Tables) (p : Program) → first_text p.edition t.depth ++ part_text (bytes "types=") Types t p ++ part_text (bytes "program=") Instructions t p ≡ sheet_text t p
unfolding first_text part_text sheet_text
sheet-parts t p = simp append_assoc

two-pairs : (a b c d e f g h : ℕ) → or_number (or_number a b) (or_number (or_number c d) (or_number (or_number e f) (or_number g h)))
    ≡ or_number a (or_number b (or_number c (or_number d (or_number e (or_number f (or_number g h))))))
two-pairs a b c d e f g h =
    sym (or_assoc a b (or_number (or_number c d) (or_number (or_number e f) (or_number g h))))
    ∙ ap (λ (n : ℕ). or_number a (or_number b n)) (sym (or_assoc c d (or_number (or_number e f) (or_number g h))) ∙ ap (λ (n : ℕ). or_number c (or_number d n)) (sym (or_assoc e f (or_number g h))))

pub type-numbers : (t : Tables) (i : ℕ) → or_number (head_fault t i) (or_number (kind_fault Transitions t i) (or_number (kind_fault Behaviors t i) (kind_fault Ports t i))) ≡ type_fault t i
unfolding head_fault kind_fault type_fault
type-numbers t i =
    let v = type_of t i in
    two-pairs (limit_fault (places_ok v.places)) (initial_fault v.places v.initial) (limit_fault (transitions_ok v.transitions)) (rows_fault Transitions t i (known_of v) v.transitions)
    (limit_fault (behaviors_ok v.behaviors)) (rows_fault Behaviors t i (known_of v) v.behaviors) (limit_fault (ports_ok v.ports)) (rows_fault Ports t i (known_of v) v.ports)

pub sheet-numbers : (t : Tables) (p : Program) → or_number (edition_fault p.edition) (or_number (limit_fault (depth_ok t.depth)) (or_number (part_fault Types t p) (part_fault Instructions t p))) ≡ sheet_fault t p
unfolding part_fault sheet_fault
sheet-numbers t p =
    ap (λ (n : ℕ). or_number (edition_fault p.edition) (or_number (limit_fault (depth_ok t.depth)) n)) (sym (or_assoc (limit_fault (types_ok t.count)) (first_of (type_fault t) t.count) (part_fault Instructions t p)))

-- ---- the lent buffer
-- what is asked of a length, for a length cut at one byte more than a text may have
abbrev room : ℕ → ℕ → ℕ
room l r = not (length_ok l) ⇒ 1 ∣ not (leb l r) ⇒ 6 ∣ 0

measured : (w l r : ℕ) → w ≡ min 32769 l → room w r ≡ room l r
measured w l r e =
    by-test (leb l 32768) (λ h. let q : w ≡ l = omega (arith, leb-true l 32768 h) in rw q)
    (λ h. let q : w ≡ 32769 = omega (arith, leb-false l 32768 h) in rw (h, lt-leb w 32768 (omega arith)))

pub fault-number : (n k r : ℕ) (x : List ℕ) → k ≡ n → k ≢ 0 → k ≡ write_number n x r
unfolding write_number
fault-number n k r x e z = e ∙ rw (ne_eqb n 0 (λ q. z (e ∙ q)))

pub room-number : (n k w v r : ℕ) (x : List ℕ) → k ≡ n → k ≡ 0 → w ≡ min 32769 (length x) → v ≡ room w r → v ≡ write_number n x r
unfolding write_number
room-number n k w v r x none zero long is = is ∙ measured w (length x) r long ∙ rw (eq-eqb n 0 (sym none ∙ zero))

module _ (n r : ℕ) (x old : List ℕ) (number : r ≡ write_number n x (length old)) where
  -- nothing is written beside a number
  pub refused_all : r ≢ 0 → Penned n x old old r 0
  unfolding penned
  refused_all z =
      let some = ne_eqb (write_number n x (length old)) 0 (λ q. z (number ∙ q)) in
      record { refused-is = number; written_is = rw some; new_is = rw some }

  has_room : r ≡ 0 → length x ≤ length old
  unfolding write_number
  has_room z = fit (eqb n 0) (length_ok (length x)) (leb (length x) (length old)) refl refl (sym number ∙ z)
    where
      fit : (f p q : Bool) → eqb n 0 ≡ f → leb (length x) (length old) ≡ q → (not f ⇒ n ∣ not p ⇒ 1 ∣ not q ⇒ 6 ∣ 0) ≡ 0 → length x ≤ length old
      fit true true true d e h = leb-true (length x) (length old) e
      fit true true false d e h = absurd (omega arith)
      fit true false q d e h = absurd (omega arith)
      fit false p q d e h = absurd (eqb-false n 0 d h)

  -- all has room
  pub written_all : r ≡ 0 → {new : List ℕ} {b : ℕ} → Written old x new 0 b → Penned n x old new 0 b
  unfolding penned
  written_all z v =
      let nought = eq-eqb (write_number n x (length old)) 0 (sym number ∙ z) in
      let (all, bytes) = fits_all v (has_room z) in
      record { refused-is = sym z ∙ number; written_is = rw nought all; new_is = rw (nought, all) bytes }

-- ---- a form: lines that were written become cells
module _ (n r : ℕ) (x : List ℕ) where
  cells-number : write_number n x r ≡ write_number n (cells_of x) r
  unfolding write_number
  cells-number = rw (cells-length x)

  cells-penned : cells_of (penned n x r) ≡ penned n (cells_of x) r
  unfolding penned cells_of
  cells-penned = rw (← cells-number) (by-test (eqb (write_number n x r) 0) (λ e. rw e) (λ e. rw e))

pub in_cells : {n r b : ℕ} {x old mid new : List ℕ} → Penned n x old mid r b → new ≡ cells_of (take b mid) ++ drop b mid → Penned n (cells_of x) old new r b
in_cells {n} {r} {b} {x} {old} {mid} {new} p q =
    let y = penned n x (length old) in
    let front : take b mid ≡ y = ap (take b) p.new_is ∙ take_at y (drop b old) b (sym p.written_is) in
    let rest : drop b mid ≡ drop b old = ap (drop b) p.new_is ∙ drop_at y (drop b old) b (sym p.written_is) in
    let same = cells-penned n (length old) x in
    record {
      refused-is = p.refused-is ∙ cells-number n (length old) x;
      written_is = p.written_is ∙ sym (cells-length y) ∙ ap length same;
      new_is = q ∙ rw (front, rest, same);
    }
