-- What a step line's answer says: the step and the bytes used, or 01's number; and what follows a verb.
use Rattle.std.specs.Prelude.{ℕ, ◌&&◌, not, leb, eqb}
use Rattle.item_spec.specs.Refusal.{bad_clause, number_of}
use Rattle.item_spec.specs.declared.Refusal.{Refusal}
use Rattle.item_spec.specs.Reader.{Reader, ◌>>=◌, ◌>>◌, give, check}
use Rattle.read_spec.specs.Limits.{five_digits}
use Rattle.read_items.specs.Reads.{Outcome, past, fault}
use Rattle.read_items.specs.declared.numbers.Limits.{Limits}
use Rattle.read_items.specs.Within.{numbers_within}
use Rattle.aeolus_model.specs.declared.Step.{Step}
use Rattle.aeolus_model.specs.Action.{bind_verb}
use Rattle.aeolus_read_spec.specs.Kinds.{step}
use Rattle.std.specs.declared.result.Result.{Result}
use Rattle.std.specs.declared.result.Result.TheVariants.{Ok, Err}

abbrev pub step_says : Result (Step × ℕ) Refusal → Outcome Step
step_says (Ok (x, n)) = past x n
step_says (Err r) = fault (number_of r)

-- so many numbers, and of `bind` and `unbind` two ends that differ
unfoldable pub step_numbers : ℕ → Limits → Reader Step
step_numbers v l = do
  n ← numbers_within five_digits l
  check (not (leb bind_verb v && eqb n.second n.third)) bad_clause
  give (step v n.first n.second n.third)
