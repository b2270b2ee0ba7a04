-- "Refusals: 40 bad row or key, text over 32,768 bytes, ended early or going on past its last row; 41 number beyond its limit; 42 pair
-- listed twice; in this order within a line, a too long text first." The readers' own numbers are 1 for the length, 2 for the form,
-- 3 for a limit, 4 for a clause and 5 past the end: a text of times gives them these names.
use Rattle.std.specs.Prelude.{ℕ, cond, eqb}
use Rattle.item_spec.specs.Refusal.{beyond_limit, bad_clause}

abbrev pub bad_times : ℕ
bad_times = 40

abbrev pub times_beyond_limit : ℕ
times_beyond_limit = 41

abbrev pub pair_listed_twice : ℕ
pair_listed_twice = 42

unfoldable pub times_number : ℕ → ℕ
times_number n = cond (eqb n beyond_limit) times_beyond_limit (cond (eqb n bad_clause) pair_listed_twice bad_times)
