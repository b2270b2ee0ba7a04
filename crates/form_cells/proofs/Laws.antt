-- Commas that wait for a value, a row byte by byte, and lines as cells.
-- Assumes nothing.
use Prim.Native.Nat.{ℕ, zero, suc, ◌+◌, ◌-◌, ◌≤◌, ◌<◌}
use mathlib.Core.List.{List, [], ◌∷◌, ◌++◌, append_assoc, append-nil}
use mathlib.Core.Bool.{Bool, true, false, not, ◌||◌, cond, true≢false, or-true, or-false}
use mathlib.Core.Path.{◌≡◌, refl, sym, ap, ◌∙◌}
use mathlib.Core.Logic.{◌≢◌}
use native.Mathlib.Omega.{arith}
use native.Mathlib.Numerals.{add-one}
use lib.Dec.{eqb}
use lib.ListN.{length, take, drop, get_or, set, replicate, length-drop, drop_of_length-le}
use borrow.Author.Tests.{eq-eqb, ne_eqb}
use lib.Seq.{take-suc, take_all, length-take-le, get_or-append_seam}
use Rattle.item_spec.specs.Reader.{Reply, got, refused}
use Rattle.item_spec.specs.Read.{key}
use Rattle.item_spec.proofs.Tests.{by-test}
use Rattle.read_items.proofs.Laws.{from}
use Rattle.write_items.specs.Written.{Written}
use Rattle.write_items.proofs.Laws.{none, then}
use Rattle.form_cells.specs.Cells.{gap, stands, first_after, commas_after, lines_from, unmarked, letter, separator_of, note_after, comma_for, plain_from, lines_by, lines_of, cell_byte, cells_of}

pub one-comma : (n c : ℕ) → replicate (n + 1) c ≡ replicate n c ++ (c ∷ [])
one-comma n c = rw (add-one n) (go n)
  where
    go : (n : ℕ) → replicate (suc n) c ≡ replicate n c ++ (c ∷ [])
    go zero = refl
    go (suc n) = ap (◌∷◌ c) (go n)

pub gap-none : (f : Bool) (n : ℕ) → n ≡ 0 → gap f n ≡ []
unfolding gap
gap-none f zero e = refl
gap-none f (suc n) e = absurd (omega arith)

pub gap-some : (f : Bool) (n : ℕ) → (n ≡ 0 → ⊥) → gap f n ≡ (cond f 61 44 ∷ []) ++ replicate (n - 1) 44
unfolding gap
gap-some f zero e = absurd (e refl)
gap-some f (suc n) e = ap (λ (m : ℕ). cond f 61 44 ∷ replicate m 44) (let q : n ≡ suc n - 1 = omega arith in q)

few-commas : (n c : ℕ) → commas_after n c ≤ n + 1
unfolding commas_after
few-commas n c = by-test (eqb c 44) (λ e. rw e (omega arith)) (λ e. by-test (eqb c 13) (λ f. rw (e, f) (omega arith)) (λ f. rw (e, f) (omega arith)))

-- ---- a byte of a row or of a note
module _ (m first : Bool) (commas c : ℕ) where
  abbrev pub part : List ℕ
  part = cond m [] (stands first commas c)

  abbrev pub first_then : Bool
  first_then = cond m first (first_after first commas c)

  abbrev pub commas_then : ℕ
  commas_then = cond m commas (commas_after commas c)

  part-few : commas_then ≤ commas + 1
  part-few = by-test m (λ e. rw e (omega arith)) (λ e. rw e (few-commas commas c))

plain-next : (d : ℕ) (noted first : Bool) (commas c : ℕ) (s : List ℕ) → let m = note_after noted c in let b = comma_for d c in
    lines_from first commas (plain_from d noted (c ∷ s)) ≡ part m first commas b ++ lines_from (first_then m first commas b) (commas_then m first commas b) (plain_from d m s)
unfolding lines_from plain_from
plain-next d noted first commas c s = by-test (note_after noted c) (λ e. rw e) (λ e. rw e)

-- ---- the rows past their mark, up to byte i
module _ (s old : List ℕ) (d : ℕ) where
  pub record Evened (i : ℕ) (noted first : Bool) (commas at : ℕ) (new : List ℕ) : Type 0 where
    pub few : commas ≤ i
    pub so_far : List ℕ
    pub written : Written old so_far new 0 at
    pub whole : so_far ++ lines_from first commas (plain_from d noted (drop i s)) ≡ lines_by d s

  pub evened-none : Evened 0 false true 0 0 old
  evened-none = record { few = omega arith; so_far = []; written = none old 0; whole = refl }

  pub evened-more : (i commas at : ℕ) (noted first : Bool) (new end : List ℕ) (next : ℕ) (after : Bool) (left : ℕ) (m : Bool) (b : ℕ) → Evened i noted first commas at new
      → i < length s → m ≡ note_after noted (get_or s i 0) → b ≡ comma_for d (get_or s i 0)
      → Written new (part m first commas b) end at next → after ≡ first_then m first commas b → left ≡ commas_then m first commas b
      → Evened (i + 1) m after left next end
  evened-more i commas at noted first new end next after left m b w l n q v e f =
      let c = get_or s i 0 in
      record {
        few = omega (arith, f, part-few m first commas b, w.few);
        so_far = w.so_far ++ part m first commas b;
        written = then w.written v;
        whole =
            rw (e, f) (append_assoc w.so_far (part m first commas b) _
            ∙ ap (◌++◌ w.so_far) (rw (n, q) (sym (plain-next d noted first commas c (drop (i + 1) s))) ∙ sym (ap (λ (x : List ℕ). lines_from first commas (plain_from d noted x)) (from s i l)))
            ∙ w.whole);
      }

  pub evened-all : (i commas at : ℕ) (noted first : Bool) (new : List ℕ) → Evened i noted first commas at new → length s ≤ i → (rows : List ℕ) → s ≡ unmarked rows → d ≡ separator_of s
      → Written old (lines_of rows) new 0 at
  unfolding lines_from plain_from lines_of
  evened-all i commas at noted first new w l rows r q =
      let e : w.so_far ≡ lines_by d s
      = sym (append-nil w.so_far) ∙ ap (◌++◌ w.so_far) (sym (ap (λ (x : List ℕ). lines_from first commas (plain_from d noted x)) (drop_of_length-le s {i = i} l))) ∙ w.whole in
      rw (← r, ← q, ← e) w.written

-- ---- the separator
pub not_on : (b : Bool) → not b ≡ true → b ≡ false
not_on true e = absurd (true≢false (sym e))
not_on false e = refl

pub not-off : (b : Bool) → not b ≡ false → b ≡ true
not-off true e = refl
not-off false e = absurd (true≢false e)

module _ (s : List ℕ) (i : ℕ) where
  pub separator-found : i < length s → letter (get_or s i 0) ≡ false → separator_of (drop i s) ≡ cond (eqb (get_or s i 0) 59 || eqb (get_or s i 0) 9) (get_or s i 0) 44
  unfolding separator_of
  separator-found l e = ap separator_of (from s i l) ∙ rw e

  pub separator-later : i < length s → letter (get_or s i 0) ≡ true → separator_of (drop i s) ≡ separator_of (drop (i + 1) s)
  unfolding separator_of
  separator-later l e = ap separator_of (from s i l) ∙ rw e

  pub separator-none : length s ≤ i → separator_of (drop i s) ≡ 44
  unfolding separator_of
  separator-none l = ap separator_of (drop_of_length-le s {i = i} l)

-- ---- notes, and the separator's place
module _ (noted : Bool) (c : ℕ) where
  pub note-ends : c ≡ 10 → false ≡ note_after noted c
  unfolding note_after
  note-ends e = rw (eq-eqb c 10 e)

  pub note-begins : c ≢ 10 → c ≡ 35 → true ≡ note_after noted c
  unfolding note_after
  note-begins a e = rw (ne_eqb c 10 a, eq-eqb c 35 e) (sym (or-true noted))

  pub note-goes-on : c ≢ 10 → c ≢ 35 → noted ≡ note_after noted c
  unfolding note_after
  note-goes-on a e = rw (ne_eqb c 10 a, ne_eqb c 35 e) (sym (or-false noted))

module _ (d c : ℕ) where
  pub separates : c ≡ d → 44 ≡ comma_for d c
  unfolding comma_for
  separates e = rw (eq-eqb c d e)

  pub separates-not : c ≢ d → c ≡ 44 → d ≡ comma_for d c
  unfolding comma_for
  separates-not a e = rw (ne_eqb c d a, eq-eqb c 44 e)

  pub stays : c ≢ d → c ≢ 44 → c ≡ comma_for d c
  unfolding comma_for
  stays a e = rw (ne_eqb c d a, ne_eqb c 44 e)

-- ---- the mark
pub marked : (s : List ℕ) {u : Unit {0}} {r : List ℕ} → got u r ≡ key (239 ∷ 187 ∷ 191 ∷ []) s → r ≡ unmarked s
unfolding unmarked
marked s e = ap (λ (x : Reply (Unit {0})). elim x [ got u r ↦ r | refused n ↦ s ]) e

pub mark-off : (s : List ℕ) (k : ℕ) → k ≤ length s → drop k s ≡ unmarked s → take (length s - k) (drop k s) ≡ unmarked s
mark-off s k l e = take_all (length s - k) (drop k s) (omega (arith, length-drop k s)) ∙ e

pub not-marked : (s : List ℕ) {n : ℕ} → refused n ≡ key (239 ∷ 187 ∷ 191 ∷ []) s → s ≡ unmarked s
unfolding unmarked
not-marked s e = ap (λ (x : Reply (Unit {0})). elim x [ got u r ↦ r | refused n ↦ s ]) e

-- ---- lines as cells
pub cells-append : (xs ys : List ℕ) → cells_of (xs ++ ys) ≡ cells_of xs ++ cells_of ys
unfolding cells_of
cells-append [] ys = refl
cells-append (x ∷ xs) ys = ap (◌∷◌ (cell_byte x)) (cells-append xs ys)

pub cells-length : (xs : List ℕ) → length (cells_of xs) ≡ length xs
unfolding cells_of
cells-length [] = refl
cells-length (x ∷ xs) = ap suc (cells-length xs)

set-seam : (xs ys : List ℕ) (c v n : ℕ) → n ≡ length xs → set (xs ++ (c ∷ ys)) n v ≡ xs ++ (v ∷ ys)
set-seam [] ys c v zero e = refl
set-seam [] ys c v (suc n) e = absurd (omega arith)
set-seam (x ∷ xs) ys c v zero e = absurd (omega arith)
set-seam (x ∷ xs) ys c v (suc n) e = ap (◌∷◌ x) (set-seam xs ys c v n (omega arith))

-- the first i bytes are cells
module _ (old : List ℕ) where
  abbrev pub up_to : ℕ → List ℕ
  up_to i = cells_of (take i old) ++ drop i old

  pub cells-none : old ≡ up_to 0
  unfolding cells_of
  cells-none = refl

  pub cells-more : (i : ℕ) → i < length old → set (up_to i) i (cell_byte (get_or old i 0)) ≡ up_to (i + 1)
  unfolding cells_of
  cells-more i l =
      let c = get_or old i 0 in
      let long : i ≡ length (cells_of (take i old)) = sym (cells-length (take i old) ∙ length-take-le i old (omega arith)) in
      ap (λ (ys : List ℕ). set (cells_of (take i old) ++ ys) i (cell_byte c)) (from old i l)
      ∙ set-seam (cells_of (take i old)) (drop (i + 1) old) c (cell_byte c) i long
      ∙ rw (add-one i, take-suc old i 0 l, cells-append (take i old) (c ∷ [])) (sym (append_assoc (cells_of (take i old)) (cell_byte c ∷ []) (drop (suc i) old)))

  pub cells_at : (i : ℕ) → i < length old → get_or (up_to i) i 0 ≡ get_or old i 0
  cells_at i l =
      let xs = cells_of (take i old) in
      let long : length xs ≡ i = cells-length (take i old) ∙ length-take-le i old (omega arith) in
      ap (λ (ys : List ℕ). get_or (xs ++ ys) i 0) (from old i l)
      ∙ ap (λ (n : ℕ). get_or (xs ++ (get_or old i 0 ∷ drop (i + 1) old)) n 0) (sym long)
      ∙ get_or-append_seam xs (get_or old i 0) (drop (i + 1) old) 0

  pub cells-turn : (text : List ℕ) (i v : ℕ) → text ≡ up_to i → i < length old → v ≡ cell_byte (get_or text i 0) → set text i v ≡ up_to (i + 1)
  cells-turn text i v e l q =
      let same : v ≡ cell_byte (get_or old i 0) = q ∙ ap (λ (xs : List ℕ). cell_byte (get_or xs i 0)) e ∙ ap cell_byte (cells_at i l) in
      rw (e, same) (cells-more i l)
