-- A row's line has the row's number.
-- Assumes nothing.
use Prim.Native.Nat.{ℕ, zero, suc, ◌+◌}
use mathlib.Core.List.{List, [], ◌∷◌, ◌++◌, append_assoc}
use mathlib.Core.Bool.{Bool, true, false, ◌||◌, cond, true≢false}
use mathlib.Core.Path.{◌≡◌, refl, sym, ap, ◌∙◌}
use native.Mathlib.Omega.{arith}
use lib.Dec.{eqb}
use lib.ListN.{replicate}
use borrow.Author.Tests.{eqb-true, eqb-false, ne_eqb}
use Rattle.item_spec.specs.Reader.{Reply, got, refused, bytes}
use Rattle.item_spec.specs.Read.{key}
use Rattle.item_spec.proofs.Tests.{by-test, or-not}
use Rattle.read_spec.specs.Place.{lfs}
use Rattle.form_cells.specs.Cells.{gap, stands, first_after, commas_after, lines_from, unmarked, letter, separator_of, note_after, comma_for, plain_from, lines_by, lines_of}
use Rattle.form_spec.specs.Said.{RowsKeepTheirNumbers}
use Rattle.form_spec.specs.Alike.{among}

-- ---- how many LF
pub lf-one : (c : ℕ) (s : List ℕ) → eqb c 10 ≡ true → lfs (c ∷ s) ≡ suc (lfs s)
unfolding lfs
lf-one c s e = rw (e, lfs)

pub lf-none : (c : ℕ) (s : List ℕ) → eqb c 10 ≡ false → lfs (c ∷ s) ≡ lfs s
unfolding lfs
lf-none c s e = rw (e, lfs)

lfs-append : (x y : List ℕ) → lfs (x ++ y) ≡ lfs x + lfs y
unfolding lfs
lfs-append [] y = omega arith
lfs-append (c ∷ x) y =
    by-test (eqb c 10) (λ e. omega (arith, lf-one c (x ++ y) e, lf-one c x e, lfs-append x y))
    (λ e. omega (arith, lf-none c (x ++ y) e, lf-none c x e, lfs-append x y))

commas-none : (n : ℕ) → lfs (replicate n 44) ≡ 0
unfolding lfs
commas-none zero = refl
commas-none (suc n) = commas-none n

gap-none : (f : Bool) (n : ℕ) → lfs (gap f n) ≡ 0
unfolding gap lfs
gap-none f zero = refl
gap-none true (suc n) = commas-none n
gap-none false (suc n) = commas-none n

-- a byte stands for as many LF as it is
byte-lfs : (f : Bool) (n c : ℕ) → lfs (stands f n c) ≡ lfs (c ∷ [])
unfolding stands lfs
byte-lfs f n c =
    by-test (eqb c 10) (λ e. rw (eqb-true c 10 e))
    λ a. by-test (eqb c 13) (λ e. rw (eqb-true c 13 e))
    λ b. by-test (eqb c 44) (λ e. rw (eqb-true c 44 e))
    λ d. rw (a, b, d) (omega (arith, lfs-append (gap f n) (c ∷ []), gap-none f n))

from-lfs : (f : Bool) (n : ℕ) (s : List ℕ) → lfs (lines_from f n s) ≡ lfs s
unfolding lines_from
from-lfs f n [] = refl
from-lfs f n (c ∷ s) =
    omega (arith, lfs-append (stands f n c) (lines_from (first_after f n c) (commas_after n c) s), byte-lfs f n c, from-lfs (first_after f n c) (commas_after n c) s, lfs-append (c ∷ []) s)

-- ---- rows, and those after them
from_cut : (f : Bool) (n : ℕ) (a b : List ℕ) → lines_from f n (a ++ (10 ∷ b)) ≡ lines_from f n (a ++ (10 ∷ [])) ++ lines_from true 0 b
unfolding lines_from stands first_after commas_after
from_cut f n [] b = refl
from_cut f n (c ∷ a) b =
    ap (λ (l : List ℕ). stands f n c ++ l) (from_cut (first_after f n c) (commas_after n c) a b)
    ∙ sym (append_assoc (stands f n c) (lines_from (first_after f n c) (commas_after n c) (a ++ (10 ∷ []))) (lines_from true 0 b))

-- ---- a separator is none of these
pub record Separator (d : ℕ) : Type 0 where
  pub no-lf : eqb d 10 ≡ false
  pub no_note : eqb d 35 ≡ false

pub separates : (c : ℕ) → eqb c 59 || eqb c 9 ≡ true → Separator c
separates c e = by-test (eqb c 59) (λ q. rw (eqb-true c 59 q) (record { no-lf = refl; no_note = refl })) (λ q. rw (eqb-true c 9 (or-not (eqb c 59) (eqb c 9) e q)) (record { no-lf = refl; no_note = refl }))

pub is-separator : (s : List ℕ) → Separator (separator_of s)
unfolding separator_of
is-separator [] = record { no-lf = refl; no_note = refl }
is-separator (c ∷ s) =
    by-test (letter c) (λ e. rw e (is-separator s)) (λ e. by-test (eqb c 59 || eqb c 9) (λ q. rw (e, q) (separates c q)) (λ q. rw (e, q) (record { no-lf = refl; no_note = refl })))

-- the first row's key ends before a byte that is neither a letter nor a separator
pub separator-cut : (x b : List ℕ) (h : ℕ) → ((b : List ℕ) → separator_of (h ∷ b) ≡ 44) → separator_of (x ++ (h ∷ b)) ≡ separator_of x
unfolding separator_of
separator-cut [] b h e = e b
separator-cut (c ∷ x) b h e = ap (λ (d : ℕ). cond (letter c) d (cond (eqb c 59 || eqb c 9) c 44)) (separator-cut x b h e)

-- ---- rows without notes
module _ (d : ℕ) (other : Separator d) where
  pub plain_end : (noted : Bool) (s : List ℕ) → plain_from d noted (10 ∷ s) ≡ 10 ∷ plain_from d false s
  unfolding plain_from note_after comma_for
  plain_end noted s = rw (ne_eqb 10 d (λ q. eqb-false d 10 other.no-lf (sym q)))

  plain-cut : (noted : Bool) (x b : List ℕ) → plain_from d noted (x ++ (10 ∷ b)) ≡ plain_from d noted x ++ (10 ∷ plain_from d false b)
  unfolding plain_from
  plain-cut noted [] b = plain_end noted b
  plain-cut noted (c ∷ x) b =
      let m = note_after noted c in
      let y = cond m [] (comma_for d c ∷ []) in
      ap (λ (l : List ℕ). y ++ l) (plain-cut m x b) ∙ sym (append_assoc y (plain_from d m x) (10 ∷ plain_from d false b))

  pub plain-last : (x : List ℕ) → plain_from d false (x ++ (10 ∷ [])) ≡ plain_from d false x ++ (10 ∷ [])
  unfolding plain_from
  plain-last x = plain-cut false x []

  -- a byte of a note is no LF, nor is a comma or the separator
  part-lfs : (noted : Bool) (c : ℕ) → lfs (cond (note_after noted c) [] (comma_for d c ∷ [])) ≡ lfs (c ∷ [])
  unfolding lfs note_after comma_for
  part-lfs noted c =
      by-test (eqb c 10) (λ e. rw (eqb-true c 10 e, ne_eqb 10 d (λ q. eqb-false d 10 other.no-lf (sym q))))
      λ a. by-test (noted || eqb c 35) (λ e. rw (a, e) (sym (lf-none c [] a)))
      λ e. by-test (eqb c d) (λ q. rw (a, e, q) (sym (lf-none c [] a)))
      λ q. by-test (eqb c 44) (λ k. rw (a, e, q, k) (lf-none d [] other.no-lf ∙ sym (lf-none c [] a))) (λ k. rw (a, e, q, k))

  plain-lfs : (noted : Bool) (s : List ℕ) → lfs (plain_from d noted s) ≡ lfs s
  unfolding plain_from
  plain-lfs noted [] = refl
  plain-lfs noted (c ∷ s) =
      let m = note_after noted c in
      omega (arith, lfs-append (cond m [] (comma_for d c ∷ [])) (plain_from d m s), part-lfs noted c, plain-lfs m s, lfs-append (c ∷ []) s)

  by-cut : (x b : List ℕ) → lines_by d (x ++ (10 ∷ b)) ≡ lines_by d (x ++ (10 ∷ [])) ++ lines_by d b
  by-cut x b =
      ap (lines_from true 0) (plain-cut false x b) ∙ from_cut true 0 (plain_from d false x) (plain_from d false b)
      ∙ ap (λ (l : List ℕ). lines_from true 0 l ++ lines_by d b) (sym (plain-last x))

  by-lfs : (s : List ℕ) → lfs (lines_by d s) ≡ lfs s
  by-lfs s = from-lfs true 0 (plain_from d false s) ∙ plain-lfs false s

-- ---- the mark
abbrev past : List ℕ → Reply (Unit {0}) → List ℕ
past z x = elim x [ got u r ↦ r | refused n ↦ z ]

abbrev mark : List ℕ
mark = 239 ∷ 187 ∷ 191 ∷ []

pub neither : (a b : Bool) → a || b ≡ false → (a ≡ false) × (b ≡ false)
neither true b e = absurd (true≢false e)
neither false b e = (refl, e)

past-cut : (k y z b : List ℕ) (h : ℕ) → among h k ≡ false → past (z ++ (h ∷ b)) (key k (y ++ (h ∷ b))) ≡ past z (key k y) ++ (h ∷ b)
unfolding key among
past-cut [] y z b h e = refl
past-cut (a ∷ k) [] z b h e = rw ((neither (eqb h a) (among h k) e).0, key)
past-cut (a ∷ k) (c ∷ y) z b h e = by-test (eqb c a) (λ q. rw (q, key) (past-cut k y z b h (neither (eqb h a) (among h k) e).1)) (λ q. rw (q, key))

-- rows after a byte that is none of the mark's
pub unmarked-cut : (a b : List ℕ) (h : ℕ) → among h mark ≡ false → unmarked (a ++ (h ∷ b)) ≡ unmarked a ++ (h ∷ b)
unfolding unmarked
unmarked-cut a b h e = past-cut mark a a b h e

past-lfs : (k y z : List ℕ) → among 10 k ≡ false → lfs z ≡ lfs y → lfs (past z (key k y)) ≡ lfs y
unfolding key among
past-lfs [] y z e q = refl
past-lfs (a ∷ k) [] z e q = q
past-lfs (a ∷ k) (c ∷ y) z e q =
    let (o, more) = neither (eqb 10 a) (among 10 k) e in
    by-test (eqb c a) (λ w. let n : lfs (c ∷ y) ≡ lfs y = lf-none c y (ne_eqb c 10 (λ u. eqb-false 10 a o (sym u ∙ eqb-true c a w))) in rw (w, key) (past-lfs k y z more (q ∙ n) ∙ sym n))
    (λ w. rw (w, key) q)

-- ---- the lines of rows, and of those after a byte that is no key's
pub lines_cut : (a b : List ℕ) (h : ℕ) → among h mark ≡ false → ((b : List ℕ) → separator_of (h ∷ b) ≡ 44)
    → lines_of (a ++ (h ∷ b)) ≡ lines_by (separator_of (unmarked a)) (unmarked a ++ (h ∷ b))
unfolding lines_of
lines_cut a b h e f =
    ap (λ (u : List ℕ). lines_by (separator_of u) u) (unmarked-cut a b h e) ∙ ap (λ (d : ℕ). lines_by d (unmarked a ++ (h ∷ b))) (separator-cut (unmarked a) b h f)

pub row_cut : (a b : List ℕ) → lines_of (a ++ (10 ∷ b)) ≡ lines_by (separator_of (unmarked a)) (unmarked a ++ (10 ∷ b))
unfolding among separator_of letter
row_cut a b = lines_cut a b 10 refl (λ b. refl)

pub rows_then : (a b : List ℕ) → lines_of (a ++ (10 ∷ b)) ≡ lines_of (a ++ (10 ∷ [])) ++ lines_by (separator_of (unmarked a)) b
rows_then a b =
    let d = separator_of (unmarked a) in
    row_cut a b ∙ by-cut d (is-separator (unmarked a)) (unmarked a) b ∙ ap (λ (l : List ℕ). l ++ lines_by d b) (sym (row_cut a []))

unmarked-lfs : (a : List ℕ) → lfs (unmarked a) ≡ lfs a
unfolding unmarked among
unmarked-lfs a = past-lfs mark a a refl refl

pub rows-keep-their-numbers : RowsKeepTheirNumbers
unfolding RowsKeepTheirNumbers
rows-keep-their-numbers a b = (
  ap lines_of (append_assoc a (bytes "\n") b) ∙ rows_then a b,
  ap lfs (row_cut a []) ∙ by-lfs (separator_of (unmarked a)) (is-separator (unmarked a)) (unmarked a ++ (10 ∷ []))
      ∙ omega (arith, lfs-append (unmarked a) (10 ∷ []), lfs-append a (10 ∷ []), unmarked-lfs a),
)
