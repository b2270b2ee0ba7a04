-- What one byte of a path does to its last part.
-- Assumes nothing.
use Prim.Native.Nat.{ℕ, ◌+◌, ◌<◌, ◌≤◌}
use mathlib.Core.List.{List, ◌∷◌}
use mathlib.Core.Path.{◌≡◌}
use native.Mathlib.Numerals.{add-one}
use lib.ListN.{length, drop, get_or, drop_of_length-le}
use lib.Seq.{drop-cons}
use borrow.Author.Tests.{eq-eqb, ne_eqb}
use Rattle.program_input.specs.Last.{last_from}

-- the text from a place on is the byte there and the rest
here : (s : List ℕ) (i : ℕ) → i < length s → drop i s ≡ get_or s i 0 ∷ drop (i + 1) s
here s i h = rw (add-one, drop-cons s i 0)

module _ (so s : List ℕ) (i : ℕ) where
  pub last-anew : i < length s → get_or s i 0 ≡ 47 → last_from so (drop i s) ≡ last_from (drop (i + 1) s) (drop (i + 1) s)
  unfolding last_from
  last-anew h e = rw (here s i h) (simp (eq-eqb (get_or s i 0) 47 e, last_from))

  pub last_on : i < length s → (get_or s i 0 ≡ 47 → ⊥) → last_from so (drop i s) ≡ last_from so (drop (i + 1) s)
  unfolding last_from
  last_on h e = rw (here s i h) (simp (ne_eqb (get_or s i 0) 47 e, last_from))

  pub last-over : length s ≤ i → last_from so (drop i s) ≡ so
  unfolding last_from
  last-over h = rw (drop_of_length-le s h)
