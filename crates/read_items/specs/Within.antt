-- Lines of one to four numbers, each below its limit: the form whole (2), then the limits (3).
use Rattle.std.specs.Prelude.{ℕ, zero, suc, List, Bool, ◌&&◌, cond, ltb, eqb, get_or, set, replicate}
use Rattle.item_spec.specs.Refusal.{beyond_limit, number_of}
use Rattle.item_spec.specs.Reader.{Reader, byte, ◌>>=◌, ◌>>◌, give, check}
use Rattle.item_spec.specs.Read.{number, one_form, two_form, three_form, four_form}
use Rattle.read_items.specs.Reads.{Outcome, past, fault}
use Rattle.read_items.specs.declared.numbers.Four.{Four}
use Rattle.read_items.specs.declared.numbers.Limits.{Limits}
use Rattle.read_items.specs.declared.numbers.Limits.TheVariants as limits
use Rattle.read_items.specs.declared.numbers.Held.{Held}
use Rattle.item_spec.specs.declared.Refusal.{Refusal}
use Rattle.std.specs.declared.result.Result.{Result}
use Rattle.std.specs.declared.result.Result.TheVariants.{Ok, Err}

abbrev pub four : ℕ → ℕ → ℕ → ℕ → Four
four a b c e = record { first = a; second = b; third = c; fourth = e }

abbrev pub numbers_says : Result (Four × ℕ) Refusal → Outcome Four
numbers_says (Ok (x, n)) = past x n
numbers_says (Err r) = fault (number_of r)

-- the numbers of at most d digits, and 0 for those that the line has not
unfoldable pub numbers_within : ℕ → Limits → Reader Four
numbers_within d (limits.One j) = do
  a ← one_form d
  check (ltb a j) beyond_limit
  give (four a 0 0 0)
numbers_within d (limits.Two j k) = do
  (a, b) ← two_form d
  check (ltb a j && ltb b k) beyond_limit
  give (four a b 0 0)
numbers_within d (limits.Three j k l) = do
  (a, b, c) ← three_form d
  check (ltb a j && (ltb b k && ltb c l)) beyond_limit
  give (four a b c 0)
numbers_within d (limits.Four j k l m) = do
  (a, b, c, e) ← four_form d
  check (ltb a j && (ltb b k && (ltb c l && ltb e m))) beyond_limit
  give (four a b c e)

-- the same in one row
abbrev pub held_by : Limits → Held
held_by (limits.One j) = record { count = 1; first = j; second = 1; third = 1; fourth = 1 }
held_by (limits.Two j k) = record { count = 2; first = j; second = k; third = 1; fourth = 1 }
held_by (limits.Three j k l) = record { count = 3; first = j; second = k; third = l; fourth = 1 }
held_by (limits.Four j k l m) = record { count = 4; first = j; second = k; third = l; fourth = m }

abbrev pub within : Four → Held → Bool
within n h = ltb n.first h.first && (ltb n.second h.second && (ltb n.third h.third && ltb n.fourth h.fourth))

-- the byte that ends a number where so many are left, and these numbers, written from place k on into what was read so far
abbrev pub end_of : ℕ → ℕ
end_of left = cond (eqb left 1) (byte "\n") (byte ",")

unfoldable pub numbers_from : ℕ → ℕ → ℕ → List ℕ → Reader (List ℕ)
numbers_from d zero k l = give l
numbers_from d (suc n) k l = do
  a ← number d (end_of (suc n))
  numbers_from d n (suc k) (set l k a)

abbrev pub four_of : List ℕ → Four
four_of l = four (get_or l 0 0) (get_or l 1 0) (get_or l 2 0) (get_or l 3 0)

unfoldable pub numbers_held : ℕ → Held → Reader Four
numbers_held d h = do
  l ← numbers_from d h.count 0 (replicate 4 0)
  check (within (four_of l) h) beyond_limit
  give (four_of l)
