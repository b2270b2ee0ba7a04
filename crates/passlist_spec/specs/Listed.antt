-- The pass list of a register, line by line: the head is due first, then a row on each line.
use Rattle.std.specs.Prelude.{ℕ, ◌+◌, min, true, false, cond, List, [], ◌∷◌, ◌++◌, eqb, get_or, set}
use Rattle.std.specs.declared.option.Option.{Option}
use Rattle.std.specs.declared.option.Option.TheVariants.{Some, None}
use Rattle.item_spec.specs.Reader.{Reader, Reply, got, refused, byte, bytes, ◌>>◌}
use Rattle.item_spec.specs.Read.{key}
use Rattle.item_spec.specs.Write.{number_text, only_if}
use Rattle.register_spec.specs.Text.{head_text}
use Rattle.passlist_spec.specs.declared.Pass.{Pass}
use Rattle.passlist_spec.specs.declared.Standing.{Standing}
use Rattle.passlist_spec.specs.declared.Standing.TheVariants as stands
use Rattle.passlist_spec.specs.declared.Wrong.{Wrong}
use Rattle.passlist_spec.specs.declared.Wrong.TheVariants.{Register, Kind}
use Rattle.passlist_spec.specs.Row.{over}
use Rattle.passlist_spec.specs.Standing.{standing, passed_line}

-- the first line says what the columns are, and nothing else
unfoldable pub head_line : Reader (Unit {0})
head_line = do
  key head_text
  over

abbrev pub head_standing : Reply (Unit {0}) → Standing
head_standing (got u r) = stands.Head
head_standing (refused n) = stands.NoRow

-- how many lines stand as each is counted here: those that the list says first, in its order
abbrev pub place_of : Standing → ℕ
place_of stands.Passed = 0
place_of stands.Below = 1
place_of stands.Unfinished = 2
place_of stands.Refused = 3
place_of stands.Fault = 4
place_of stands.Absent = 5
place_of stands.OtherKind = 6
place_of stands.NoRow = 7
place_of stands.Head = 8

-- no count is above 2 ^ 64 - 1
abbrev pub sum : ℕ → ℕ → ℕ
sum a b = min (a + b) 18446744073709551615

-- before the first line
abbrev pub none_counted : List ℕ
none_counted = 0 ∷ 0 ∷ 0 ∷ 0 ∷ 0 ∷ 0 ∷ 0 ∷ 0 ∷ 0 ∷ []

-- a line after lines with these counts
unfoldable pub line_standing : Pass → List ℕ → List ℕ → Standing
line_standing p counts s = elim (eqb (get_or counts 8 0) 0) [ true ↦ head_standing (head_line s) | false ↦ standing p s ]

-- the line counted
unfoldable pub counted : Pass → List ℕ → List ℕ → List ℕ
counted p counts s = set counts (place_of (line_standing p counts s)) (sum (get_or counts (place_of (line_standing p counts s)) 0) 1)

-- what the list says of it: the name of one who passed
unfoldable pub line_text : Pass → List ℕ → List ℕ → List ℕ
line_text p counts s = only_if (eqb (place_of (line_standing p counts s)) 0) (passed_line s)

abbrev pub count_text : List ℕ → ℕ → List ℕ
count_text key n = key ++ number_text n ++ bytes "\n"

-- every row but those by which there is no list
unfoldable pub candidates : List ℕ → ℕ
candidates counts =
    sum (sum (sum (sum (sum (get_or counts 0 0) (get_or counts 1 0)) (get_or counts 2 0)) (get_or counts 3 0)) (get_or counts 4 0)) (get_or counts 5 0)

-- the list's end
unfoldable pub counts_text : List ℕ → List ℕ
counts_text counts =
    count_text (bytes "passed=") (get_or counts 0 0)
    ++ count_text (bytes "below=") (get_or counts 1 0)
    ++ count_text (bytes "unfinished=") (get_or counts 2 0)
    ++ count_text (bytes "refused=") (get_or counts 3 0)
    ++ count_text (bytes "fault=") (get_or counts 4 0)
    ++ count_text (bytes "absent=") (get_or counts 5 0)
    ++ count_text (bytes "candidates=") (candidates counts)

-- why there is no list, `None` where there is one: a line that is no row, or no head, and it is no register
unfoldable pub wrong_in : List ℕ → Option Wrong
wrong_in counts =
    cond (eqb (get_or counts 7 0) 0) (cond (eqb (get_or counts 8 0) 0) (Some Register) (cond (eqb (get_or counts 6 0) 0) None (Some Kind))) (Some Register)

-- ---- the whole register

-- what follows the last line's end is a line too
abbrev pub last_line : List ℕ → List (List ℕ)
last_line [] = []
last_line (b ∷ so) = (b ∷ so) ∷ []

-- its lines, each with its end, `so` being what the first has so far
unfoldable pub lines_from : List ℕ → List ℕ → List (List ℕ)
lines_from so [] = last_line so
lines_from so (c ∷ s) =
    elim (eqb c (byte "\n")) [
      | true ↦ (so ++ (c ∷ [])) ∷ lines_from [] s
      | false ↦ lines_from (so ++ (c ∷ [])) s
    ]

-- the counts after some lines
unfoldable pub counted_all : Pass → List ℕ → List (List ℕ) → List ℕ
counted_all p counts [] = counts
counted_all p counts (s ∷ ls) = counted_all p (counted p counts s) ls

-- what the list says of them
unfoldable pub lines_text : Pass → List ℕ → List (List ℕ) → List ℕ
lines_text p counts [] = []
lines_text p counts (s ∷ ls) = line_text p counts s ++ lines_text p (counted p counts s) ls

-- "a name is on the list exactly when its row is `done` with a mark of at least PASS", then the counts
unfoldable pub list_text : Pass → List ℕ → List ℕ
list_text p s = lines_text p none_counted (lines_from [] s) ++ counts_text (counted_all p none_counted (lines_from [] s))

unfoldable pub wrong_with : Pass → List ℕ → Option Wrong
wrong_with p s = wrong_in (counted_all p none_counted (lines_from [] s))
