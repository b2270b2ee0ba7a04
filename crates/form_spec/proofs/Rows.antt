-- A line as a row of cells, and back; how rows are counted. `Row o x`: x is one line that opens with o, and the row of its cells stands for it.
-- Assumes nothing.
use Prim.Native.Nat.{ℕ, zero, suc, ◌+◌, ◌<◌}
use mathlib.Core.List.{List, [], ◌∷◌, ◌++◌, append_assoc}
use mathlib.Core.Bool.{Bool, true, false, not, ◌&&◌, ◌||◌, cond, true≢false, and-true}
use mathlib.Core.Path.{◌≡◌, refl, sym, ap, ◌∙◌}
use native.Mathlib.Omega.{arith}
use lib.Dec.{eqb}
use lib.ListN.{length}
use Rattle.item_spec.specs.Reader.{bytes}
use Rattle.item_spec.specs.Write.{in_turn}
use Rattle.item_spec.proofs.Tests.{and_left, and_right}
use Rattle.read_sheet.specs.Form.{begins, lines_with}
use Rattle.form_cells.specs.Cells.{gap, stands, first_after, commas_after, lines_from, note_after, comma_for, plain_from, all_ends, looked_at, cells_of}
use Rattle.form_cells.proofs.Laws.{cells-append}

-- ---- a byte that stands for itself in a cell: no LF, CR, comma, `=`, `#`
unfoldable pub plain : ℕ → Bool
plain c = not (eqb c 10 || (eqb c 13 || (eqb c 44 || (eqb c 61 || eqb c 35))))

unfoldable pub plains : List ℕ → Bool
plains [] = true
plains (c ∷ s) = plain c && plains s

pub plains-append : (xs ys : List ℕ) → plains xs ≡ true → plains ys ≡ true → plains (xs ++ ys) ≡ true
unfolding plains
plains-append [] ys p q = q
plains-append (x ∷ xs) ys p q = rw (and_left (plain x) (plains xs) p) (plains-append xs ys (and_right (plain x) (plains xs) p) q)

record None (a b c d e : Bool) : Type 0 where
  lf : a ≡ false
  cr : b ≡ false
  comma : c ≡ false
  equals : d ≡ false
  note : e ≡ false

nones : (a b c d e : Bool) → not (a || (b || (c || (d || e)))) ≡ true → None a b c d e
nones true b c d e h = absurd (true≢false (sym h))
nones false true c d e h = absurd (true≢false (sym h))
nones false false true d e h = absurd (true≢false (sym h))
nones false false false true e h = absurd (true≢false (sym h))
nones false false false false true h = absurd (true≢false (sym h))
nones false false false false false h = record { lf = refl; cr = refl; comma = refl; equals = refl; note = refl }

plain-none : (c : ℕ) → plain c ≡ true → None (eqb c 10) (eqb c 13) (eqb c 44) (eqb c 61) (eqb c 35)
unfolding plain
plain-none c h = nones (eqb c 10) (eqb c 13) (eqb c 44) (eqb c 61) (eqb c 35) h

-- ---- plain bytes in a row: as they are
pub plain_cells : (xs : List ℕ) → plains xs ≡ true → cells_of xs ≡ xs
unfolding plains cells_of
plain_cells [] p = refl
plain_cells (x ∷ xs) p =
    let n = plain-none x (and_left (plain x) (plains xs) p) in
    rw n.equals (ap (◌∷◌ x) (plain_cells xs (and_right (plain x) (plains xs) p)))

plain-run : (f : Bool) (xs s : List ℕ) → plains xs ≡ true → lines_from f 0 (xs ++ s) ≡ xs ++ lines_from f 0 s
unfolding plains lines_from stands first_after commas_after gap
plain-run f [] s p = refl
plain-run f (x ∷ xs) s p =
    let n = plain-none x (and_left (plain x) (plains xs) p) in
    rw (n.lf, n.cr, n.comma, and-true f) (ap (◌∷◌ x) (plain-run f xs s (and_right (plain x) (plains xs) p)))

-- a cell's value
pub record Cell (x : List ℕ) : Type 0 where
  pub all_plain : plains x ≡ true
  pub some : 0 < length x

after-comma : (f : Bool) (xs s : List ℕ) → plains xs ≡ true → 0 < length xs → lines_from f 1 (xs ++ s) ≡ cond f 61 44 ∷ (xs ++ lines_from false 0 s)
unfolding plains lines_from stands first_after commas_after gap
after-comma f [] s p l = absurd (omega arith)
after-comma f (x ∷ xs) s p l =
    let n = plain-none x (and_left (plain x) (plains xs) p) in
    rw (n.lf, n.cr, n.comma, none f) (ap (λ (ys : List ℕ). cond f 61 44 ∷ (x ∷ ys)) (plain-run false xs s (and_right (plain x) (plains xs) p)))
  where
    none : (f : Bool) → f && false ≡ false
    none true = refl
    none false = refl

next-cell : (f : Bool) (x s : List ℕ) → Cell x → lines_from f 0 (44 ∷ (x ++ s)) ≡ cond f 61 44 ∷ (x ++ lines_from false 0 s)
unfolding lines_from stands first_after commas_after
next-cell f x s c = after-comma f x s c.all_plain c.some

-- ---- the same where a row may have notes, and commas separate its cells
abbrev pub lines_in : Bool → ℕ → List ℕ → List ℕ
lines_in f n s = lines_from f n (plain_from 44 false s)

plain-off : (x : ℕ) (s : List ℕ) → plain x ≡ true → plain_from 44 false (x ∷ s) ≡ x ∷ plain_from 44 false s
unfolding plain_from note_after comma_for
plain-off x s p = let n = plain-none x p in rw (n.lf, n.note, n.comma)

plains-off : (xs s : List ℕ) → plains xs ≡ true → plain_from 44 false (xs ++ s) ≡ xs ++ plain_from 44 false s
unfolding plains
plains-off [] s p = refl
plains-off (x ∷ xs) s p = plain-off x (xs ++ s) (and_left (plain x) (plains xs) p) ∙ ap (◌∷◌ x) (plains-off xs s (and_right (plain x) (plains xs) p))

run_in : (f : Bool) (xs s : List ℕ) → plains xs ≡ true → lines_in f 0 (xs ++ s) ≡ xs ++ lines_in f 0 s
run_in f xs s p = ap (lines_from f 0) (plains-off xs s p) ∙ plain-run f xs (plain_from 44 false s) p

cell_in : (f : Bool) (x s : List ℕ) → Cell x → lines_in f 0 (44 ∷ (x ++ s)) ≡ cond f 61 44 ∷ (x ++ lines_in false 0 s)
unfolding plain_from note_after comma_for
cell_in f x s c = ap (λ (l : List ℕ). lines_from f 0 (44 ∷ l)) (plains-off x s c.all_plain) ∙ next-cell f x (plain_from 44 false s) c

-- ---- lines that are looked at: all of them, where they are not ends alone
pub record Looked (s : List ℕ) : Type 0 where
  pub whole : looked_at s ≡ s
  pub some : cond (all_ends s) [] s ≡ s

pub looked-none : Looked []
unfolding looked_at all_ends
looked-none = record { whole = refl; some = refl }

plain-looked : (xs s : List ℕ) → plains xs ≡ true → looked_at (xs ++ s) ≡ xs ++ looked_at s
unfolding plains looked_at all_ends
plain-looked [] s p = refl
plain-looked (x ∷ xs) s p =
    rw (plain-none x (and_left (plain x) (plains xs) p)).lf (ap (◌∷◌ x) (plain-looked xs s (and_right (plain x) (plains xs) p)))

-- ---- what comes after a value, to the line's end
pub record Rest (y : List ℕ) : Type 0 where
  pub cells : (s : List ℕ) → lines_in false 0 (cells_of y ++ s) ≡ y ++ lines_in true 0 s
  pub inside : (all : Bool) (k s : List ℕ) → lines_with all k false (y ++ s) ≡ lines_with all k true s
  pub looked : (s : List ℕ) → Looked s → looked_at (y ++ s) ≡ y ++ s

plain-inside : (all : Bool) (k xs s : List ℕ) → plains xs ≡ true → lines_with all k false (xs ++ s) ≡ lines_with all k false s
unfolding plains lines_with
plain-inside all k [] s p = refl
plain-inside all k (x ∷ xs) s p = rw (plain-none x (and_left (plain x) (plains xs) p)).lf (plain-inside all k xs s (and_right (plain x) (plains xs) p))

pub ends : Rest (bytes "\n")
unfolding lines_from stands first_after commas_after cells_of lines_with plain_from note_after comma_for looked_at all_ends
ends = record {
  cells = λ s. refl;
  inside = λ all k s. refl;
  looked = λ s p. ap (λ (l : List ℕ). 10 ∷ cond (all_ends s) [] l) p.whole ∙ ap (◌∷◌ 10) p.some;
}

looked-then : (v y s : List ℕ) → Cell v → Rest y → Looked s → looked_at ((v ++ y) ++ s) ≡ (v ++ y) ++ s
looked-then v y s d r p =
    ap looked_at (append_assoc v y s) ∙ plain-looked v (y ++ s) d.all_plain ∙ ap (λ (l : List ℕ). v ++ l) (r.looked s p) ∙ sym (append_assoc v y s)

cell-then : (c : Bool) (v y s : List ℕ) → Cell v → Rest y → lines_in c 0 (44 ∷ (cells_of (v ++ y) ++ s)) ≡ cond c 61 44 ∷ ((v ++ y) ++ lines_in true 0 s)
cell-then c v y s d r =
    ap (λ (xs : List ℕ). lines_in c 0 (44 ∷ (xs ++ s))) (cells-append v y ∙ ap (λ (xs : List ℕ). xs ++ cells_of y) (plain_cells v d.all_plain))
    ∙ ap (λ (xs : List ℕ). lines_in c 0 (44 ∷ xs)) (append_assoc v (cells_of y) s)
    ∙ cell_in c v (cells_of y ++ s) d
    ∙ ap (λ (xs : List ℕ). cond c 61 44 ∷ (v ++ xs)) (r.cells s)
    ∙ ap (λ (xs : List ℕ). cond c 61 44 ∷ xs) (sym (append_assoc v y (lines_in true 0 s)))

pub then-cell : (v y : List ℕ) → Cell v → Rest y → Rest (bytes "," ++ (v ++ y))
unfolding cells_of lines_with looked_at all_ends
then-cell v y d r = record {
  cells = λ s. cell-then false v y s d r;
  inside = λ all k s. ap (lines_with all k false) (append_assoc v y s) ∙ plain-inside all k v (y ++ s) d.all_plain ∙ r.inside all k s;
  looked = λ s p. ap (◌∷◌ 44) (looked-then v y s d r p);
}

-- ---- lines: the rows of their cells stand for them, and all of them are looked at
pub record Cells (x : List ℕ) : Type 0 where
  pub lines : (s : List ℕ) → lines_in true 0 (cells_of x ++ s) ≡ x ++ lines_in true 0 s
  pub looked : (s : List ℕ) → Looked s → Looked (x ++ s)

-- ---- a line
pub record Row (o x : List ℕ) : Type 0 where
  pub cells : Cells x
  pub counts : (all : Bool) (k s : List ℕ) → lines_with all k true (x ++ s) ≡ cond (begins k (x ++ s)) (suc (lines_with all k true s)) (cond all (lines_with all k true s) 0)
  pub rest : List ℕ
  pub opens : x ≡ o ++ rest

-- a key of which the first byte is h, `=`, a value and what comes after it
module _ (h : ℕ) (k v y : List ℕ) (p : plains (h ∷ k) ≡ true) (d : Cell v) (r : Rest y) where
  abbrev text : List ℕ
  text = (h ∷ k) ++ (61 ∷ (v ++ y))

  key-cells : (s : List ℕ) → lines_in true 0 (cells_of text ++ s) ≡ text ++ lines_in true 0 s
  unfolding cells_of
  key-cells s =
      ap (λ (xs : List ℕ). lines_in true 0 (xs ++ s)) (cells-append (h ∷ k) (61 ∷ (v ++ y)) ∙ ap (λ (xs : List ℕ). xs ++ (44 ∷ cells_of (v ++ y))) (plain_cells (h ∷ k) p))
      ∙ ap (lines_in true 0) (append_assoc (h ∷ k) (44 ∷ cells_of (v ++ y)) s)
      ∙ run_in true (h ∷ k) (44 ∷ (cells_of (v ++ y) ++ s)) p
      ∙ ap (λ (xs : List ℕ). (h ∷ k) ++ xs) (cell-then true v y s d r)
      ∙ sym (append_assoc (h ∷ k) (61 ∷ (v ++ y)) (lines_in true 0 s))

  key-looked : (s : List ℕ) → Looked s → Looked (text ++ s)
  unfolding looked_at all_ends plains
  key-looked s q = record {
    whole =
        ap looked_at (append_assoc (h ∷ k) (61 ∷ (v ++ y)) s) ∙ plain-looked (h ∷ k) (61 ∷ ((v ++ y) ++ s)) p
        ∙ ap (λ (l : List ℕ). (h ∷ k) ++ (61 ∷ l)) (looked-then v y s d r q) ∙ sym (append_assoc (h ∷ k) (61 ∷ (v ++ y)) s);
    some = rw (plain-none h (and_left (plain h) (plains k) p)).lf;
  }

  key-inside : (all : Bool) (j s : List ℕ) → lines_with all j false ((k ++ (61 ∷ (v ++ y))) ++ s) ≡ lines_with all j true s
  unfolding lines_with plains
  key-inside all j s =
      ap (lines_with all j false) (append_assoc k (61 ∷ (v ++ y)) s)
      ∙ plain-inside all j k (61 ∷ ((v ++ y) ++ s)) (and_right (plain h) (plains k) p)
      ∙ ap (lines_with all j false) (append_assoc v y s)
      ∙ plain-inside all j v (y ++ s) d.all_plain
      ∙ r.inside all j s

  key_counts : (all : Bool) (j s : List ℕ) → lines_with all j true (text ++ s) ≡ cond (begins j (text ++ s)) (suc (lines_with all j true s)) (cond all (lines_with all j true s) 0)
  unfolding lines_with plains
  key_counts all j s =
      let n = plain-none h (and_left (plain h) (plains k) p) in
      let q : lines_with all j (eqb h 10) ((k ++ (61 ∷ (v ++ y))) ++ s) ≡ lines_with all j true s = ap (λ (b : Bool). lines_with all j b ((k ++ (61 ∷ (v ++ y))) ++ s)) n.lf ∙ key-inside all j s in
      ap (λ (i : ℕ). cond (begins j (text ++ s)) (suc i) (cond all i 0)) q

  pub row : (x : List ℕ) → x ≡ text → Row ((h ∷ k) ++ (61 ∷ [])) x
  row x e = record {
    cells = rw e (record { lines = key-cells; looked = key-looked });
    counts = λ all j s. rw e (key_counts all j s);
    rest = v ++ y;
    opens = e ∙ sym (append_assoc (h ∷ k) (61 ∷ []) (v ++ y));
  }

-- ---- whether a line is counted
module _ {o x : List ℕ} (r : Row o x) (k s : List ℕ) where
  opened : begins k (x ++ s) ≡ begins k (o ++ (r.rest ++ s))
  opened = ap (λ (l : List ℕ). begins k (l ++ s)) r.opens ∙ ap (begins k) (append_assoc o r.rest s)

  pub row-yes : (all : Bool) → ((z : List ℕ) → begins k (o ++ z) ≡ true) → lines_with all k true (x ++ s) ≡ suc (lines_with all k true s)
  row-yes all f = r.counts all k s ∙ ap (λ (b : Bool). cond b (suc (lines_with all k true s)) (cond all (lines_with all k true s) 0)) (opened ∙ f (r.rest ++ s))

  pub row-no : (all : Bool) → ((z : List ℕ) → begins k (o ++ z) ≡ false) → lines_with all k true (x ++ s) ≡ cond all (lines_with all k true s) 0
  row-no all f = r.counts all k s ∙ ap (λ (b : Bool). cond b (suc (lines_with all k true s)) (cond all (lines_with all k true s) 0)) (opened ∙ f (r.rest ++ s))

-- ---- lines in turn
pub cells-none : Cells []
unfolding cells_of
cells-none = record { lines = λ s. refl; looked = λ s p. p }

pub cells-both : (x y : List ℕ) → Cells x → Cells y → Cells (x ++ y)
cells-both x y a b = record {
  lines = λ s.
      ap (λ (xs : List ℕ). lines_in true 0 (xs ++ s)) (cells-append x y)
      ∙ ap (lines_in true 0) (append_assoc (cells_of x) (cells_of y) s)
      ∙ a.lines (cells_of y ++ s)
      ∙ ap (λ (xs : List ℕ). x ++ xs) (b.lines s)
      ∙ sym (append_assoc x y (lines_in true 0 s));
  looked = λ s p. rw (append_assoc x y s) (a.looked (y ++ s) (b.looked s p));
}

module _ (f : ℕ → List ℕ) where
  pub turn-cells : (n : ℕ) → ((i : ℕ) → i < n → Cells (f i)) → Cells (in_turn f n)
  unfolding in_turn
  turn-cells zero r = cells-none
  turn-cells (suc n) r = cells-both (in_turn f n) (f n) (turn-cells n (λ i l. r i (omega arith))) (r n (omega arith))

  -- each of them has one line that is counted
  pub turn-counted : (all : Bool) (k : List ℕ) (n : ℕ) → ((i : ℕ) → i < n → (s : List ℕ) → lines_with all k true (f i ++ s) ≡ suc (lines_with all k true s))
      → (s : List ℕ) → lines_with all k true (in_turn f n ++ s) ≡ n + lines_with all k true s
  unfolding in_turn
  turn-counted all k zero r s = omega arith
  turn-counted all k (suc n) r s =
      let q = ap (lines_with all k true) (append_assoc (in_turn f n) (f n) s) ∙ turn-counted all k n (λ i l. r i (omega arith)) (f n ++ s) in
      q ∙ omega (arith, r n (omega arith) s)

-- all of one opening
module _ (f : ℕ → List ℕ) (o k : List ℕ) where
  pub turn-yes : (all : Bool) → ((z : List ℕ) → begins k (o ++ z) ≡ true) → (n : ℕ) → ((i : ℕ) → i < n → Row o (f i)) → (s : List ℕ) → lines_with all k true (in_turn f n ++ s) ≡ n + lines_with all k true s
  turn-yes all g n r = turn-counted f all k n (λ i l s. row-yes (r i l) k s all g)

  module _ (g : (z : List ℕ) → begins k (o ++ z) ≡ false) where
    pub turn-no : (n : ℕ) → ((i : ℕ) → i < n → Row o (f i)) → (s : List ℕ) → lines_with true k true (in_turn f n ++ s) ≡ lines_with true k true s
    unfolding in_turn
    turn-no zero r s = refl
    turn-no (suc n) r s =
        ap (lines_with true k true) (append_assoc (in_turn f n) (f n) s) ∙ turn-no n (λ i l. r i (omega arith)) (f n ++ s) ∙ row-no (r n (omega arith)) k s true g

    pub turn-stop : (n : ℕ) → ((i : ℕ) → i < n → Row o (f i)) → (s : List ℕ) → lines_with false k true s ≡ 0 → lines_with false k true (in_turn f n ++ s) ≡ 0
    unfolding in_turn
    turn-stop zero r s e = e
    turn-stop (suc n) r s e =
        ap (lines_with false k true) (append_assoc (in_turn f n) (f n) s) ∙ turn-stop n (λ i l. r i (omega arith)) (f n ++ s) (row-no (r n (omega arith)) k s false g)
