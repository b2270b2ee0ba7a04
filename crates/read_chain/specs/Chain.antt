-- A line of one number or one list, a text that is not too long, and that no other answer fits.
use Rattle.std.specs.Prelude.{ℕ, ◌≤◌, List, true, false, ◌≡◌, length}
use Rattle.item_spec.specs.declared.Refusal.{Refusal}
use Rattle.read_spec.specs.Limits.{length_ok}
use Rattle.read_spec.specs.Lines.{Run, Lines, on, stop, run_on}
use Rattle.read_lines.specs.declared.LineFault.{LineFault}
use Rattle.read_lines.specs.Runs.{RunsTo, came, number_came}
use Rattle.std.specs.declared.result.Result.{Result}
use Rattle.std.specs.declared.result.Result.TheVariants.{Ok, Err}

-- a number that was read is no greater than n
abbrev pub Few : {R : Type 0} → ℕ → Result (ℕ × ℕ) (LineFault R) → Type 0
Few n (Ok (a, at)) = a ≤ n
Few n (Err f) = Unit

-- what was read of a line, whose fault is at the place at
abbrev pub placed : {A R : Type 0} → ℕ → Result A R → Result A (LineFault R)
placed at (Ok a) = Ok a
placed at (Err r) = Err (record { refusal = r; at = at })

-- "a text is too long": 1, at its start; and the lines m of a text that is not
unfoldable pub short : Lines (Unit {0})
short s = elim (length_ok (length s)) [ true ↦ on tt s | false ↦ stop 1 s ]

unfoldable pub shortly : {A : Type 0} → Lines A → Lines A
shortly m s = run_on (short s) (λ _. m)

-- no other answer fits: to lines of which no value is looked at, and to lines of one number
unfoldable pub NoOtherRun : Type 0
NoOtherRun = (s : List ℕ) (m : Run (Unit {0})) (r q : Result ℕ (LineFault Refusal)) → RunsTo s (came r tt) m → RunsTo s (came q tt) m → r ≡ q

unfoldable pub NoOtherNumber : Type 0
NoOtherNumber = (s : List ℕ) (m : Run ℕ) (r q : Result (ℕ × ℕ) (LineFault Refusal)) → RunsTo s (number_came r) m → RunsTo s (number_came q) m → r ≡ q
