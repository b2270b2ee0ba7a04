-- A candidate's bytes as a marker is shown them: printable ASCII as it is, and the blank, the backslash, what means more there, and every other byte as `\xNN`.
use Rattle.std.specs.Prelude.{ℕ, ◌+◌, ◌-◌, ◌/◌, ◌%◌, Bool, true, false, ◌&&◌, ◌||◌, not, List, [], ◌∷◌, ◌++◌, leb, ltb, eqb}
use Rattle.item_spec.specs.Reader.{bytes, byte}
use Rattle.sitting_shown.specs.declared.Among.{Among}
use Rattle.sitting_shown.specs.declared.Among.TheVariants as among

-- from the exclamation mark to the tilde, the backslash aside
unfoldable pub plain : ℕ → Bool
plain b = leb (byte "!") b && (leb b (byte "~") && not (eqb b (byte "\\")))

unfoldable pub quote : ℕ → Bool
quote b = eqb b (byte "\"") || eqb b (byte "'")

-- what a browser may take for more than itself
unfoldable pub markup : ℕ → Bool
markup b = eqb b (byte "&") || (eqb b (byte "<") || (eqb b (byte ">") || quote b))

-- what ends a cell, or begins a quoted one
unfoldable pub separator : ℕ → Bool
separator b = eqb b (byte ",") || (eqb b (byte ";") || markup b)

-- what begins a cell that a spreadsheet works out
unfoldable pub formula : ℕ → Bool
formula b = eqb b (byte "=") || (eqb b (byte "+") || (eqb b (byte "-") || (eqb b (byte "@") || separator b)))

unfoldable pub more : Among → ℕ → Bool
more among.Line b = false
more among.Markup b = markup b
more among.Head b = formula b
more among.Cell b = separator b

-- what stands for itself there
unfoldable pub itself : Among → ℕ → Bool
itself a b = plain b && not (more a b)

-- 0 to 9, then a to f
unfoldable pub hex_digit : ℕ → ℕ
hex_digit d = elim (ltb d 10) [ true ↦ byte "0" + d | false ↦ byte "a" + (d - 10) ]

unfoldable pub shown_byte : Among → ℕ → List ℕ
shown_byte a b = elim (itself a b) [ true ↦ b ∷ [] | false ↦ bytes "\\x" ++ (hex_digit (b / 16 % 16) ∷ []) ++ (hex_digit (b % 16) ∷ []) ]

unfoldable pub shown : Among → List ℕ → List ℕ
shown a [] = []
shown a (b ∷ s) = shown_byte a b ++ shown a s

-- a name as a cell of a table
unfoldable pub cell : List ℕ → List ℕ
cell [] = []
cell (b ∷ s) = shown_byte among.Head b ++ shown among.Cell s
