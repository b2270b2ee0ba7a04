-- Words in areas: lists of words, and records whose fields stand in columns, each of them an area of its own.
use Rattle.std.specs.Prelude.{cond, List, ℕ, ◌+◌, ◌*◌, ltb, get_or, set}
use Rattle.model.specs.View.{list_of}

abbrev pub word : List ℕ → ℕ → ℕ
word ws n = get_or ws n 0

-- n words from b on
abbrev pub area : List ℕ → ℕ → ℕ → List ℕ
area ws b n = list_of n (λ k. word ws (b + k))

-- the same words with x at place k of that area; past its end nothing changes
abbrev pub put_in : List ℕ → ℕ → ℕ → ℕ → ℕ → List ℕ
put_in ws b n k x = cond (ltb k n) (set ws (b + k) x) ws

-- field f of row k, where n rows have their fields in columns from b on; 0 past the last row
abbrev pub cell : List ℕ → ℕ → ℕ → ℕ → ℕ → ℕ
cell ws b n k f = get_or (area ws (b + f * n) n) k 0

-- the n rows, each made by h of its fields
abbrev pub rows : {A : Type 0} → List ℕ → ℕ → ℕ → ((ℕ → ℕ) → A) → List A
rows ws b n h = list_of n (λ k. h (λ f. word ws (b + f * n + k)))
