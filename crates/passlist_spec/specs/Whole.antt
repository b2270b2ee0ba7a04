-- What is claimed of the list of a text, whatever its bytes are. Proved in proofs/Whole.
use Rattle.std.specs.Prelude.{ℕ, suc, ◌<◌, Bool, true, false, List, [], ◌∷◌, ◌++◌, ◌≡◌, eqb, get_or}
use Rattle.std.specs.declared.option.Option.TheVariants.{None}
use Rattle.item_spec.specs.Write.{only_if}
use Rattle.register_spec.specs.Text.{head_text}
use Rattle.passlist_spec.specs.declared.Pass.{Pass}
use Rattle.passlist_spec.specs.declared.Standing.{Standing}
use Rattle.passlist_spec.specs.declared.Standing.TheVariants.{Passed}
use Rattle.passlist_spec.specs.Standing.{standing, passed_line}
use Rattle.passlist_spec.specs.Listed.{place_of, sum, none_counted, counts_text, lines_from, counted_all, list_text, wrong_with}

-- a row that stands so
abbrev pub stands_as : Pass → Standing → List ℕ → Bool
stands_as p x row = eqb (place_of x) (place_of (standing p row))

-- the lines of the rows that passed, in the rows' order
unfoldable pub passed_lines : Pass → List (List ℕ) → List ℕ
passed_lines p [] = []
passed_lines p (row ∷ rows) = only_if (stands_as p Passed row) (passed_line row) ++ passed_lines p rows

-- how many rows stand so
unfoldable pub how_many : Pass → Standing → List (List ℕ) → ℕ
how_many p x [] = 0
how_many p x (row ∷ rows) = elim (stands_as p x row) [ true ↦ suc (how_many p x rows) | false ↦ how_many p x rows ]

-- the rows that passed, and no other, are on the list, in the text's order; then the counts
unfoldable pub ListsExactly : Type 0
ListsExactly =
    (p : Pass) (s : List ℕ) (rows : List (List ℕ)) → lines_from [] s ≡ head_text ∷ rows
    → list_text p s ≡ passed_lines p rows ++ counts_text (counted_all p none_counted (head_text ∷ rows))

-- and these are what they say
unfoldable pub CountsExactly : Type 0
CountsExactly =
    (p : Pass) (rows : List (List ℕ)) (x : Standing) → place_of x < 8
    → get_or (counted_all p none_counted (head_text ∷ rows)) (place_of x) 0 ≡ sum 0 (how_many p x rows)

-- each is a row, and of the pass line's kind
abbrev pub AllRows : Pass → List (List ℕ) → Type 0
AllRows p [] = Unit
AllRows p (row ∷ rows) = (place_of (standing p row) < 6) × AllRows p rows

-- a register: the head, and then rows
abbrev pub IsRegister : Pass → List (List ℕ) → Type 0
IsRegister p [] = ⊥
IsRegister p (line ∷ rows) = (line ≡ head_text) × AllRows p rows

-- what is no register, an empty text too, is refused, and nothing else is
unfoldable pub TakenExactly : Type 0
TakenExactly = (p : Pass) (s : List ℕ) → (wrong_with p s ≡ None → IsRegister p (lines_from [] s)) × (IsRegister p (lines_from [] s) → wrong_with p s ≡ None)
