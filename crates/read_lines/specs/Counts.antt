-- A line of a count: its limit, and what each case of its answer says.
use Rattle.std.specs.Prelude.{ℕ, ◌≤◌, List, Bool, ◌&&◌, leb}
use Rattle.item_spec.specs.Reader.{Reply}
use Rattle.read_spec.specs.Limits.{depth_ok, types_ok, places_ok, transitions_ok, behaviors_ok, ports_ok, program_ok, steps_ok}
use Rattle.read_items.specs.Reads.{Outcome, past, fault, Reads}
use Rattle.read_lines.specs.declared.Limit.{Limit}
use Rattle.read_lines.specs.declared.Limit.TheVariants as limit
use Rattle.read_lines.specs.declared.Range.{Range}
use Rattle.item_spec.specs.Refusal.{number_of}
use Rattle.item_spec.specs.declared.Refusal.{Refusal}
use Rattle.std.specs.declared.result.Result.{Result}
use Rattle.std.specs.declared.result.Result.TheVariants.{Ok, Err}

-- the limit's test, and the numbers that it lies between
abbrev pub limit_ok : Limit → ℕ → Bool
limit_ok limit.Depth = depth_ok
limit_ok limit.Types = types_ok
limit_ok limit.Places = places_ok
limit_ok limit.Transitions = transitions_ok
limit_ok limit.Behaviors = behaviors_ok
limit_ok limit.Ports = ports_ok
limit_ok limit.Program = program_ok
limit_ok limit.Steps = steps_ok

abbrev pub range_of : Limit → Range
range_of limit.Depth = record { 0 = 0; 1 = 8 }
range_of limit.Types = record { 0 = 1; 1 = 16 }
range_of limit.Places = record { 0 = 1; 1 = 16 }
range_of limit.Transitions = record { 0 = 0; 1 = 32 }
range_of limit.Behaviors = record { 0 = 0; 1 = 8 }
range_of limit.Ports = record { 0 = 0; 1 = 16 }
range_of limit.Program = record { 0 = 0; 1 = 256 }
range_of limit.Steps = record { 0 = 0; 1 = 1024 }

abbrev pub greatest : Limit → ℕ
greatest l = (range_of l).1

-- a number from a to b
abbrev pub in_range : ℕ → ℕ → ℕ → Bool
in_range a b n = leb a n && leb n b

abbrev pub line_says : Result (ℕ × ℕ) Refusal → Outcome ℕ
line_says (Ok (a, n)) = past a n
line_says (Err r) = fault (number_of r)

abbrev pub Lies : ℕ → ℕ → Result (ℕ × ℕ) Refusal → Type 0
Lies a b (Ok (x, n)) = (a ≤ x) × (x ≤ b)
Lies a b (Err r) = Unit

-- the answer r is what a definition that replies m says of the text s, and a count that was read lies from a to b
pub record CountsIn (s : List ℕ) (a b : ℕ) (r : Result (ℕ × ℕ) Refusal) (m : Reply ℕ) : Type 0 where
  pub reads : Reads s (line_says r) m
  pub limited : Lies a b r

-- the same for a count with a limit's name
abbrev pub Counts : List ℕ → Limit → Result (ℕ × ℕ) Refusal → Reply ℕ → Type 0
Counts s l r m = CountsIn s (range_of l).0 (greatest l) r m
