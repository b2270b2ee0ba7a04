-- The line at a place of a text, without its LF, and its number.
use Rattle.std.specs.Prelude.{ℕ, zero, suc, List, [], ◌∷◌, true, false, eqb, take}

-- up to the first LF, or to the end where there is none
unfoldable pub up_to_lf : List ℕ → List ℕ
up_to_lf [] = []
up_to_lf (c ∷ s) = elim (eqb c 10) [ true ↦ [] | false ↦ c ∷ up_to_lf s ]

-- how many LF a text has
unfoldable pub lfs : List ℕ → ℕ
lfs [] = 0
lfs (c ∷ s) = elim (eqb c 10) [ true ↦ suc (lfs s) | false ↦ lfs s ]

-- the number of the line that starts at the place a, from 1
unfoldable pub line_number : List ℕ → ℕ → ℕ
line_number s a = suc (lfs (take a s))

-- the place where line n starts, n from 0: past n LFs, or the text's end
unfoldable pub line_start : ℕ → List ℕ → ℕ
line_start zero s = 0
line_start (suc n) [] = 0
line_start (suc n) (c ∷ s) = suc (elim (eqb c 10) [ true ↦ line_start n s | false ↦ line_start (suc n) s ])
