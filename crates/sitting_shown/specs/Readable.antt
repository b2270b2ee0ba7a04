-- What holds of all that is shown. Proved in proofs/Readable.
use Rattle.std.specs.Prelude.{ℕ, ◌*◌, ◌≤◌, ◌<◌, List, [], ◌∷◌, ◌++◌, ◌≡◌, length, false}
use Rattle.sitting_shown.specs.declared.Among.{Among}
use Rattle.sitting_shown.specs.Shown.{separator, formula, more, shown, cell}

-- every member passes
abbrev pub Each : (ℕ → Type 0) → List ℕ → Type 0
Each P [] = Unit
Each P (b ∷ s) = P b × Each P s

abbrev pub Printable : ℕ → Type 0
Printable b = (33 ≤ b) × (b ≤ 126)

abbrev pub Byte : ℕ → Type 0
Byte b = b < 256

-- nothing but printable ASCII reaches a marker's terminal, whatever the text
unfoldable pub AlwaysPrintable : Type 0
AlwaysPrintable = (a : Among) (s : List ℕ) → Each Printable (shown a s)

-- nothing that means more there reaches markup or a cell: no byte of a candidate becomes a tag, a reference, an attribute's end, a cell's end
unfoldable pub NothingMore : Type 0
NothingMore = (a : Among) (s : List ℕ) → Each (λ b. more a b ≡ false) (shown a s)

-- two texts that look alike are one: what is shown can be read back
unfoldable pub NoTwoAlike : Type 0
NoTwoAlike = (a : Among) (s t : List ℕ) → Each Byte s → Each Byte t → shown a s ≡ shown a t → s ≡ t

-- a buffer of four times a text's length always has room
unfoldable pub FourTimes : Type 0
FourTimes = (a : Among) (s : List ℕ) → length (shown a s) ≤ 4 * length s

-- pieces that are shown one after the other show the text
unfoldable pub InPieces : Type 0
InPieces = (a : Among) (s t : List ℕ) → shown a (s ++ t) ≡ shown a s ++ shown a t

-- the same of a cell
unfoldable pub CellsArePrintable : Type 0
CellsArePrintable = (s : List ℕ) → Each Printable (cell s)

unfoldable pub CellsFourTimes : Type 0
CellsFourTimes = (s : List ℕ) → length (cell s) ≤ 4 * length s

-- a cell ends where it ends, and a spreadsheet works none out
unfoldable pub CellsAreWhole : Type 0
CellsAreWhole = (s : List ℕ) → Each (λ b. separator b ≡ false) (cell s)

abbrev pub First : (ℕ → Type 0) → List ℕ → Type 0
First P [] = Unit
First P (b ∷ s) = P b

unfoldable pub NoFormula : Type 0
NoFormula = (s : List ℕ) → First (λ b. formula b ≡ false) (cell s)

unfoldable pub NoTwoCellsAlike : Type 0
NoTwoCellsAlike = (s t : List ℕ) → Each Byte s → Each Byte t → cell s ≡ cell t → s ≡ t
