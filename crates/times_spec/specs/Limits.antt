-- The limits of C-14, each named once; ids and transitions keep to 01's.
use Rattle.std.specs.Prelude.{ℕ, Bool, ◌&&◌, leb}

-- "For this text alone a number may have seven digits."
abbrev pub seven_digits : ℕ
seven_digits = 7

-- "`par=` (1 to 1,000,000 seconds)"; "`rows=` (0 to 1,024)"; "seconds (0 to 86,400)"
abbrev pub par_ok : ℕ → Bool
par_ok n = leb 1 n && leb n 1000000

abbrev pub rows_ok : ℕ → Bool
rows_ok n = leb n 1024

abbrev pub seconds_ok : ℕ → Bool
seconds_ok n = leb n 86400
