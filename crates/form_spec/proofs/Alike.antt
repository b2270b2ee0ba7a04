-- Notes and empty rows at the end say nothing, and each separator says what the comma says.
-- Assumes nothing.
use Prim.Native.Nat.{ℕ, zero, suc}
use mathlib.Core.List.{List, [], ◌∷◌, ◌++◌, append_assoc}
use mathlib.Core.Bool.{Bool, true, false, cond, or-true}
use mathlib.Core.Path.{◌≡◌, refl, sym, ap, ◌∙◌}
use native.Mathlib.Omega.{arith}
use lib.Dec.{eqb}
use lib.ListN.{replicate}
use borrow.Author.Tests.{eq-eqb, ne_eqb, eqb-true, eqb-false}
use Rattle.item_spec.proofs.Tests.{by-test}
use Rattle.read_spec.specs.Place.{lfs}
use Rattle.form_cells.specs.Cells.{stands, first_after, commas_after, lines_from, unmarked, letter, separator_of, note_after, comma_for, plain_from, lines_by, lines_of, looked_at}
use Rattle.form_cells.proofs.Looked.{looked-twice}
use Rattle.form_spec.specs.Alike.{NotesSayNothing, EmptyRowsSayNothing, among, separated, SeparatorsSayTheSame}
use Rattle.form_spec.proofs.RowNumbers.{lf-one, lf-none, Separator, separates, is-separator, plain_end, plain-last, neither, lines_cut, row_cut, rows_then}

-- ---- notes
module _ (d : ℕ) where
  in-note : (n s : List ℕ) → lfs n ≡ 0 → plain_from d true (n ++ s) ≡ plain_from d true s
  unfolding plain_from note_after
  in-note [] s e = refl
  in-note (c ∷ n) s e = by-test (eqb c 10) (λ q. absurd (omega (arith, lf-one c n q, e))) (λ q. rw q (in-note n s (sym (lf-none c n q) ∙ e)))

  noted-row : (noted : Bool) (x n b : List ℕ) → lfs n ≡ 0 → plain_from d noted (x ++ (35 ∷ (n ++ (10 ∷ b)))) ≡ plain_from d noted (x ++ (10 ∷ b))
  unfolding plain_from note_after
  noted-row noted [] n b e = rw (or-true noted) (in-note n (10 ∷ b) e)
  noted-row noted (c ∷ x) n b e = ap (λ (l : List ℕ). cond (note_after noted c) [] (comma_for d c ∷ []) ++ l) (noted-row (note_after noted c) x n b e)

pub notes-say-nothing : NotesSayNothing
unfolding NotesSayNothing among separator_of letter
notes-say-nothing a n b e =
    lines_cut a (n ++ (10 ∷ b)) 35 refl (λ b. refl) ∙ ap (lines_from true 0) (noted-row (separator_of (unmarked a)) false (unmarked a) n b e) ∙ sym (row_cut a b)

-- ---- empty rows
module _ (d : ℕ) (other : Separator d) where
  empty-plain : (n : ℕ) → plain_from d false (replicate n d ++ (10 ∷ [])) ≡ replicate n 44 ++ (10 ∷ [])
  unfolding plain_from note_after comma_for
  empty-plain zero = plain_end d other false []
  empty-plain (suc n) = rw (other.no-lf, other.no_note, eq-eqb d d refl) (ap (◌∷◌ 44) (empty-plain n))

empty-line : (k n : ℕ) → lines_from true k (replicate n 44 ++ (10 ∷ [])) ≡ 10 ∷ []
unfolding lines_from stands first_after commas_after
empty-line k zero = refl
empty-line k (suc n) = empty-line (suc k) n

ends-in : (f : Bool) (k : ℕ) (z : List ℕ) → (y : List ℕ) × (lines_from f k (z ++ (10 ∷ [])) ≡ y ++ (10 ∷ []))
unfolding lines_from stands
ends-in f k [] = ([], refl)
ends-in f k (c ∷ z) =
    let (y, e) = ends-in (first_after f k c) (commas_after k c) z in
    (stands f k c ++ y, ap (λ (l : List ℕ). stands f k c ++ l) e ∙ sym (append_assoc (stands f k c) y (10 ∷ [])))

pub empty-rows-say-nothing : EmptyRowsSayNothing
unfolding EmptyRowsSayNothing
empty-rows-say-nothing a n =
    let d = separator_of (unmarked a) in
    let empty : lines_by d (replicate n d ++ (10 ∷ [])) ≡ 10 ∷ [] = ap (lines_from true 0) (empty-plain d (is-separator (unmarked a)) n) ∙ empty-line 0 n in
    let (y, e) = ends-in true 0 (plain_from d false (unmarked a)) in
    let ended : lines_of (a ++ (10 ∷ [])) ≡ y ++ (10 ∷ []) = row_cut a [] ∙ ap (lines_from true 0) (plain-last d (is-separator (unmarked a)) (unmarked a)) ∙ e in
    ap looked_at (rows_then a (replicate n d ++ (10 ∷ [])) ∙ ap (λ (l : List ℕ). lines_of (a ++ (10 ∷ [])) ++ l) empty ∙ ap (λ (l : List ℕ). l ++ (10 ∷ [])) ended ∙ append_assoc y (10 ∷ []) (10 ∷ []))
    ∙ looked-twice y ∙ ap looked_at (sym ended)

-- ---- separators
module _ (d : ℕ) (other : Separator d) where
  noted-same : (noted : Bool) (c : ℕ) → note_after noted (cond (eqb c 44) d c) ≡ note_after noted c
  unfolding note_after
  noted-same noted c = by-test (eqb c 44) (λ q. rw (eqb-true c 44 q, other.no-lf, other.no_note)) (λ q. rw q)

  byte-same : (c : ℕ) → eqb d c ≡ false → comma_for d (cond (eqb c 44) d c) ≡ comma_for 44 c
  unfolding comma_for
  byte-same c e =
      by-test (eqb c 44) (λ q. rw (eqb-true c 44 q, eq-eqb d d refl))
      λ q. let same : cond (eqb c 44) d c ≡ c = rw q in ap (comma_for d) same ∙ rw (q, ne_eqb c d (λ u. eqb-false d c e (sym u)))

  plain-same : (noted : Bool) (s : List ℕ) → among d s ≡ false → plain_from d noted (separated d s) ≡ plain_from 44 noted s
  unfolding plain_from separated among
  plain-same noted [] e = refl
  plain-same noted (c ∷ s) e =
      let (o, more) = neither (eqb d c) (among d s) e in
      rw (noted-same noted c, byte-same c o)
      (ap (λ (l : List ℕ). cond (note_after noted c) [] (comma_for 44 c ∷ []) ++ l) (plain-same (note_after noted c) s more))

pub separators-say-the-same : SeparatorsSayTheSame
unfolding SeparatorsSayTheSame
separators-say-the-same d s e h = ap (lines_from true 0) (plain-same d (separates d e) false s h)
