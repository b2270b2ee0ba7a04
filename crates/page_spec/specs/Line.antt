-- A line of a text, n from 0, and what a page shows of it.
use Rattle.std.specs.Prelude.{ℕ, List, length, take, drop}
use Rattle.read_spec.specs.Place.{up_to_lf, line_number, line_start}

-- without its LF; empty past the last
unfoldable pub line_of : List ℕ → ℕ → List ℕ
line_of s n = up_to_lf (drop (line_start n s) s)

-- "at most 120 bytes"
abbrev pub widest : ℕ
widest = 120

unfoldable pub first_bytes : List ℕ → ℕ → List ℕ
first_bytes s n = take widest (line_of s n)

-- how many lines a text has: after its last LF there is one more, empty where the text ends in LF
unfoldable pub line_count : List ℕ → ℕ
line_count s = line_number s (length s)
