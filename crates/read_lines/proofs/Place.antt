-- The line at a place, byte by byte: its size, its number, and where a line starts.
-- Assumes nothing.
use Prim.Native.Nat.{ℕ, zero, suc, ◌+◌, ◌-◌, ◌<◌, ◌≤◌, zero-le, min}
use mathlib.Core.List.{List, [], ◌∷◌, ◌++◌}
use mathlib.Core.Path.{◌≡◌, refl, ap}
use native.Mathlib.Nat.{zero-min, min-zero, suc-min-suc}
use native.Mathlib.Numerals.{add-one}
use native.Mathlib.Omega.{arith}
use lib.Dec.{eqb}
use lib.ListN.{length, take, drop, get_or, drop_of_length-le}
use lib.Seq.{take-suc}
use borrow.Author.Tests.{eq-eqb, ne_eqb}
use Rattle.item_spec.proofs.Tests.{by-test}
use Rattle.read_spec.specs.Place.{up_to_lf, lfs, line_number, line_start}
use Rattle.read_items.proofs.Laws.{from}

-- ---- the size of a line
module _ (s : List ℕ) (i : ℕ) where
  pub size-lf : i < length s → get_or s i 0 ≡ 10 → length (up_to_lf (drop i s)) ≡ 0
  unfolding up_to_lf
  size-lf h e = rw (from s i h) (simp (eq-eqb (get_or s i 0) 10 e, up_to_lf))

  pub size-more : i < length s → (get_or s i 0 ≡ 10 → ⊥) → length (up_to_lf (drop i s)) ≡ suc (length (up_to_lf (drop (i + 1) s)))
  unfolding up_to_lf
  size-more h e = rw (from s i h) (simp (ne_eqb (get_or s i 0) 10 e, up_to_lf))

  pub size-over : length s ≤ i → length (up_to_lf (drop i s)) ≡ 0
  unfolding up_to_lf
  size-over h = rw (drop_of_length-le s h)

-- ---- how many LF are before a place
lfs-append : (s t : List ℕ) → lfs (s ++ t) ≡ lfs s + lfs t
unfolding lfs
lfs-append [] t = omega arith
lfs-append (c ∷ s) t =
    by-test (eqb c 10) (λ e. rw (e, lfs) (omega (arith, lfs-append s t))) (λ e. rw (e, lfs) (omega (arith, lfs-append s t)))

lfs-one : (c : ℕ) → c ≡ 10 → lfs (c ∷ []) ≡ 1
unfolding lfs
lfs-one c e = rw (eq-eqb c 10 e, lfs)

lfs-none : (c : ℕ) → (c ≡ 10 → ⊥) → lfs (c ∷ []) ≡ 0
unfolding lfs
lfs-none c e = rw (ne_eqb c 10 e, lfs)

pub lfs-few : (s : List ℕ) → lfs s ≤ length s
unfolding lfs
lfs-few [] = zero-le
lfs-few (c ∷ s) = by-test (eqb c 10) (λ t. rw (t, lfs) (omega (arith, lfs-few s))) (λ t. rw (t, lfs) (omega (arith, lfs-few s)))

module _ (s : List ℕ) (i : ℕ) (h : i < length s) where
  pub lfs-more : get_or s i 0 ≡ 10 → lfs (take (i + 1) s) ≡ suc (lfs (take i s))
  lfs-more e = rw (add-one, take-suc s i 0 h, lfs-append) (omega (arith, lfs-one (get_or s i 0) e))

  pub lfs-same : (get_or s i 0 ≡ 10 → ⊥) → lfs (take (i + 1) s) ≡ lfs (take i s)
  lfs-same e = rw (add-one, take-suc s i 0 h, lfs-append) (omega (arith, lfs-none (get_or s i 0) e))

to_end : (s : List ℕ) (at : ℕ) → take (min at (length s)) s ≡ take at s
to_end s zero = rw (zero-min (length s))
to_end [] (suc at) = rw (min-zero (suc at))
to_end (c ∷ s) (suc at) = rw (suc-min-suc at (length s)) (ap (λ (l : List ℕ). c ∷ l) (to_end s at))

pub number_is : (s : List ℕ) (at : ℕ) → suc (lfs (take (min at (length s)) s)) ≡ line_number s at
unfolding line_number
number_is s at = ap (λ (l : List ℕ). suc (lfs l)) (to_end s at)

one_less : (n : ℕ) → suc n - 1 ≡ n
one_less n = omega arith

-- ---- where a line starts, n lines further on
pub start-here : (s : List ℕ) → line_start 0 s ≡ 0
unfolding line_start
start-here s = refl

module _ (s : List ℕ) (i : ℕ) where
  pub start-lf : (n : ℕ) → (n ≡ 0 → ⊥) → i < length s → get_or s i 0 ≡ 10 → line_start n (drop i s) ≡ suc (line_start (n - 1) (drop (i + 1) s))
  unfolding line_start
  start-lf zero z h e = absurd (z refl)
  start-lf (suc n) z h e = rw (from s i h) (simp (eq-eqb (get_or s i 0) 10 e, one_less n, line_start))

  pub start-more : (n : ℕ) → (n ≡ 0 → ⊥) → i < length s → (get_or s i 0 ≡ 10 → ⊥) → line_start n (drop i s) ≡ suc (line_start n (drop (i + 1) s))
  unfolding line_start
  start-more zero z h e = absurd (z refl)
  start-more (suc n) z h e = rw (from s i h) (simp (ne_eqb (get_or s i 0) 10 e, line_start))

  pub start-over : (n : ℕ) → length s ≤ i → line_start n (drop i s) ≡ 0
  unfolding line_start
  start-over zero h = refl
  start-over (suc n) h = rw (drop_of_length-le s h)
