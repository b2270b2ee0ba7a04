-- A row has a key in its first cell and values in the others. As a line it is `key=value,value`: the first comma of a row is an `=`, commas at its end
-- are not looked at, nor is a CR. Semicolons or tabs may stand in the place of commas, notes for people at the end of a row, and empty rows at the end.
use Rattle.std.specs.Prelude.{ℕ, zero, suc, List, [], ◌∷◌, ◌++◌, Bool, true, false, not, ◌&&◌, ◌||◌, cond, leb, eqb, replicate}
use Rattle.item_spec.specs.Reader.{got, refused, byte, bytes}
use Rattle.item_spec.specs.Read.{key}

-- CR of a line's end in files from some systems
abbrev pub return : ℕ
return = 13

-- what so many commas stand for that come before a value: `first` where the row had none before
unfoldable pub gap : Bool → ℕ → List ℕ
gap first zero = []
gap first (suc n) = cond first (byte "=") (byte ",") ∷ replicate n (byte ",")

-- the byte c, after so many commas: what it stands for, and what comes after it
unfoldable pub stands : Bool → ℕ → ℕ → List ℕ
stands first n c = cond (eqb c (byte "\n")) (bytes "\n") (cond (eqb c return || eqb c (byte ",")) [] (gap first n ++ (c ∷ [])))

unfoldable pub first_after : Bool → ℕ → ℕ → Bool
first_after first n c = cond (eqb c (byte "\n")) true (cond (eqb c return || eqb c (byte ",")) first (first && eqb n 0))

unfoldable pub commas_after : ℕ → ℕ → ℕ
commas_after n c = cond (eqb c (byte ",")) (suc n) (cond (eqb c return) n 0)

unfoldable pub lines_from : Bool → ℕ → List ℕ → List ℕ
lines_from first n [] = []
lines_from first n (c ∷ s) = stands first n c ++ lines_from (first_after first n c) (commas_after n c) s

-- the mark of UTF-8 that some spreadsheets put before the first row
unfoldable pub unmarked : List ℕ → List ℕ
unmarked s = elim (key (239 ∷ 187 ∷ 191 ∷ []) s) [ got u r ↦ r | refused n ↦ s ]

-- a to z, the letters of a key
unfoldable pub letter : ℕ → Bool
letter c = leb (byte "a") c && leb c (byte "z")

abbrev pub tab : ℕ
tab = 9

-- docs/FORM.md: "The byte after the first row's key decides": a semicolon, a tab, or else the comma
unfoldable pub separator_of : List ℕ → ℕ
separator_of [] = byte ","
separator_of (c ∷ s) = cond (letter c) (separator_of s) (cond (eqb c (byte ";") || eqb c tab) c (byte ","))

-- docs/FORM.md: "From `#` on to its end a row has a note for people": whether the byte after c may be of one
unfoldable pub note_after : Bool → ℕ → Bool
note_after noted c = not (eqb c (byte "\n")) && (noted || eqb c (byte "#"))

-- docs/FORM.md: "Nothing else separates cells": the separator d is a comma in the lines, and a comma, where it is none, what no line has
unfoldable pub comma_for : ℕ → ℕ → ℕ
comma_for d c = cond (eqb c d) (byte ",") (cond (eqb c (byte ",")) d c)

-- rows without their notes, and with commas for the separator d
unfoldable pub plain_from : ℕ → Bool → List ℕ → List ℕ
plain_from d noted [] = []
plain_from d noted (c ∷ s) = cond (note_after noted c) [] (comma_for d c ∷ []) ++ plain_from d (note_after noted c) s

-- the lines that rows stand for whose cells d separates
abbrev pub lines_by : ℕ → List ℕ → List ℕ
lines_by d s = lines_from true 0 (plain_from d false s)

-- the lines that rows of cells stand for
unfoldable pub lines_of : List ℕ → List ℕ
lines_of s = lines_by (separator_of (unmarked s)) (unmarked s)

-- nothing but the ends of lines
unfoldable pub all_ends : List ℕ → Bool
all_ends [] = true
all_ends (c ∷ s) = eqb c (byte "\n") && all_ends s

-- docs/FORM.md: "Rows of empty cells at the end are not looked at": lines up to the first end after which there are only ends
unfoldable pub looked_at : List ℕ → List ℕ
looked_at [] = []
looked_at (c ∷ s) = c ∷ cond (all_ends (c ∷ s)) [] (looked_at s)

-- lines as rows of cells
abbrev pub cell_byte : ℕ → ℕ
cell_byte c = cond (eqb c (byte "=")) (byte ",") c

unfoldable pub cells_of : List ℕ → List ℕ
cells_of [] = []
cells_of (c ∷ s) = cell_byte c ∷ cells_of s
