-- "Demand 3 doesn't extend to it: the order of moves may alter the clock, and a case shows so."
use Rattle.std.specs.Prelude.{ℕ, List, ◌≡◌, ◌≢◌}
use Rattle.start_spec.specs.Paper.{Paper}
use Rattle.judge_spec.specs.Judged.{lent_bytes}
use Rattle.demands.specs.OnTexts.{AllAllowed, projection_on}
use Rattle.timing_spec.specs.Timed.{timed}

-- two answers to one sheet, all steps allowed, for each component the same moves and instructions in the same order: and two marks
unfoldable pub OrderMayAlterTheMark : Type 0
OrderMayAlterTheMark =
    (s : Paper) × (a : List ℕ) × (b : List ℕ) × (x : List ℕ)
    × AllAllowed s a × AllAllowed s b × ((i : ℕ) → projection_on s a i ≡ projection_on s b i)
    × ((timed s a x lent_bytes).mark ≢ (timed s b x lent_bytes).mark)
