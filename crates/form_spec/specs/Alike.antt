-- What is not looked at in a form says nothing, and each separator says what the comma says. docs/FORM.md, "The file".
use Rattle.std.specs.Prelude.{ℕ, List, [], ◌∷◌, ◌++◌, Bool, true, false, ◌||◌, cond, ◌≡◌, eqb, replicate}
use Rattle.item_spec.specs.Reader.{byte, bytes}
use Rattle.read_spec.specs.Place.{lfs}
use Rattle.form_cells.specs.Cells.{tab, unmarked, separator_of, lines_by, lines_of, looked_at}

-- "From `#` on to its end a row has a note for people, which is not looked at": n, which has no end in it, after any rows and cells
unfoldable pub NotesSayNothing : Type 0
NotesSayNothing = (a n b : List ℕ) → lfs n ≡ 0 → lines_of (a ++ (bytes "#" ++ (n ++ (bytes "\n" ++ b)))) ≡ lines_of (a ++ (bytes "\n" ++ b))

-- "Rows of empty cells at the end are not looked at": one more, of so many separators, after any rows
unfoldable pub EmptyRowsSayNothing : Type 0
EmptyRowsSayNothing =
    (a : List ℕ) (n : ℕ)
    → looked_at (lines_of (a ++ (bytes "\n" ++ (replicate n (separator_of (unmarked a)) ++ bytes "\n")))) ≡ looked_at (lines_of (a ++ bytes "\n"))

-- whether h is a byte of s
unfoldable pub among : ℕ → List ℕ → Bool
among h [] = false
among h (c ∷ s) = eqb h c || among h s

-- rows with d in the place of commas
unfoldable pub separated : ℕ → List ℕ → List ℕ
separated d [] = []
separated d (c ∷ s) = cond (eqb c (byte ",")) d c ∷ separated d s

-- "A comma, a semicolon or a tab separates cells": rows that have no d stand for the same with d for each comma
unfoldable pub SeparatorsSayTheSame : Type 0
SeparatorsSayTheSame = (d : ℕ) (s : List ℕ) → eqb d (byte ";") || eqb d tab ≡ true → among d s ≡ false → lines_by d (separated d s) ≡ lines_by (byte ",") s
