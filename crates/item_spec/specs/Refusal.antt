-- The refusal numbers 1 to 6 of 01 by name: those of texts and of the lent buffer.
use Rattle.std.specs.Prelude.{ℕ}
use Rattle.item_spec.specs.declared.Refusal.{Refusal}
use Rattle.item_spec.specs.declared.Refusal.TheVariants as refusal

-- a text is too long
abbrev pub too_long : ℕ
too_long = 1

-- wrong key, order, form, or text ended early
abbrev pub bad_form : ℕ
bad_form = 2

-- a number beyond its limit
abbrev pub beyond_limit : ℕ
beyond_limit = 3

-- `initial` empty; `tran` with source equal to destination; a use port whose group has an initial place
abbrev pub bad_clause : ℕ
bad_clause = 4

-- bytes after the last line due
abbrev pub bytes_after : ℕ
bytes_after = 5

-- the lent report buffer is shorter than the report
abbrev pub buffer_short : ℕ
buffer_short = 6

-- the number of a text's refusal
abbrev pub number_of : Refusal → ℕ
number_of refusal.TooLong = too_long
number_of refusal.BadForm = bad_form
number_of refusal.BeyondLimit = beyond_limit
number_of refusal.BadClause = bad_clause
number_of refusal.BytesAfter = bytes_after
