-- What a step line's answer says: the step and the bytes used, or 01's number.
use Rattle.std.specs.Prelude.{ℕ}
use Rattle.item_spec.specs.Reader.{Reader, ◌>>=◌, give}
use Rattle.item_spec.specs.Refusal.{number_of}
use Rattle.item_spec.specs.declared.Refusal.{Refusal}
use Rattle.model.specs.declared.Step.{Step}
use Rattle.read_spec.specs.Limits.{five_digits}
use Rattle.read_spec.specs.Kinds.{a_step}
use Rattle.read_items.specs.Reads.{Outcome, past, fault}
use Rattle.read_items.specs.declared.numbers.Limits.{Limits}
use Rattle.read_items.specs.Within.{numbers_within}
use Rattle.words.specs.declared.answer.StepWords.{StepWords}
use Rattle.words.specs.Parts.{said_step}
use Rattle.std.specs.declared.result.Result.{Result}
use Rattle.std.specs.declared.result.Result.TheVariants.{Ok, Err}

abbrev pub step_says : Result (StepWords × ℕ) Refusal → Outcome Step
step_says (Ok (x, n)) = past (said_step x) n
step_says (Err r) = fault (number_of r)

-- what follows a verb: so many numbers
unfoldable pub step_numbers : ℕ → Limits → Reader Step
step_numbers v l = do
  n ← numbers_within five_digits l
  give (a_step v n.first n.second)
