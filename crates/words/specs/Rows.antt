-- Rows of words in an array: n rows of w words each stand one after the other from `at` on, and past the end a word is 0.
use Rattle.std.specs.Prelude.{◌≡◌, cond, List, [], ◌∷◌, ℕ, suc, ◌+◌, ◌*◌, ◌≤◌, ◌<◌, ltb, get_or, set}
use Rattle.model.specs.View.{list_of}

abbrev pub word : List ℕ → ℕ → ℕ
word ws n = get_or ws n 0

-- the words of row k
abbrev pub row : List ℕ → ℕ → ℕ → ℕ → List ℕ
row ws at w k = list_of w (λ f. word ws (at + k * w + f))

-- the same, and no words past the last row
abbrev pub row_at : List ℕ → ℕ → ℕ → ℕ → ℕ → List ℕ
row_at ws at n w k = cond (ltb k n) (row ws at w k) []

-- each row made a record
abbrev pub rows : {A : Type 0} → (ℕ → List ℕ → A) → List ℕ → ℕ → ℕ → ℕ → List A
rows make ws at n w = list_of n (λ k. make k (row ws at w k))

-- word f of each row
abbrev pub column : List ℕ → ℕ → ℕ → ℕ → ℕ → List ℕ
column ws at n w f = rows (λ k r. word r f) ws at n w

-- the words xs put from p on
unfoldable pub puts : List ℕ → ℕ → List ℕ → List ℕ
puts ws p [] = ws
puts ws p (x ∷ xs) = puts (set ws p x) (suc p) xs

-- the words xs put into row k from its word f on: past the last row nothing is put
abbrev pub puts_in : List ℕ → ℕ → ℕ → ℕ → ℕ → ℕ → List ℕ → List ℕ
puts_in ws at n w k f xs = cond (ltb k n) (puts ws (at + k * w + f) xs) ws

-- the rows lie within the first 65,536 words, and word f in each of them
pub record Laid (at n w f : ℕ) : Type 0 where
  pub rows : at + n * w ≤ 65536
  pub column : f < w

-- r is the place of word f of row k
pub record Stands (at w k f r : ℕ) : Type 0 where
  pub place : r ≡ at + k * w + f
  pub small : r < 65536
