-- What a count of lines comes to, at the place where they begin.
use Rattle.std.specs.Prelude.{ℕ, cond}
use Rattle.item_spec.specs.declared.Refusal.TheVariants.{BeyondLimit}
use Rattle.item_spec.specs.declared.Refusal.{Refusal}
use Rattle.read_lines.specs.declared.LineFault.{LineFault}
use Rattle.read_lines.specs.Counts.{in_range}
use Rattle.std.specs.declared.result.Result.{Result}
use Rattle.std.specs.declared.result.Result.TheVariants.{Ok, Err}

abbrev pub counted_run : ℕ → ℕ → ℕ → ℕ → Result (ℕ × ℕ) (LineFault Refusal)
counted_run at n least greatest = cond (in_range least greatest n) (Ok (n, at)) (Err (record { refusal = BeyondLimit; at = at }))
