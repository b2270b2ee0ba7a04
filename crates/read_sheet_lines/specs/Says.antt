-- What each case of an answer says: the values of the line and the bytes used, or 01's number.
use Rattle.std.specs.Prelude.{ℕ}
use Rattle.item_spec.specs.Reader.{Reader, ◌>>=◌, give}
use Rattle.model.specs.declared.Instruction.{Instruction}
use Rattle.read_spec.specs.Limits.{five_digits}
use Rattle.read_spec.specs.Kinds.{an_instruction}
use Rattle.read_items.specs.Reads.{Outcome, past, fault}
use Rattle.read_items.specs.declared.numbers.Limits.{Limits}
use Rattle.read_items.specs.Within.{numbers_within}
use Rattle.read_sheet_lines.specs.declared.Row.{Row}
use Rattle.read_sheet_lines.specs.declared.Do.{Do}
use Rattle.item_spec.specs.Refusal.{number_of}
use Rattle.item_spec.specs.declared.Refusal.{Refusal}
use Rattle.std.specs.declared.result.Result.{Result}
use Rattle.std.specs.declared.result.Result.TheVariants.{Ok, Err}

abbrev pub row_says : Result (Row × ℕ) Refusal → Outcome Row
row_says (Ok (x, n)) = past x n
row_says (Err r) = fault (number_of r)

-- a `do` line as an instruction
abbrev pub instruction_in : Do → Instruction
instruction_in x = record { verb = x.verb; id = x.id; number = x.number; provider = x.provider; provideport = x.provideport }

abbrev pub instruction_says : Result (Do × ℕ) Refusal → Outcome Instruction
instruction_says (Ok (x, n)) = past (instruction_in x) n
instruction_says (Err r) = fault (number_of r)

-- what follows the verb of a `do` line: so many numbers
unfoldable pub do_numbers : ℕ → Limits → Reader Instruction
do_numbers v l = do
  n ← numbers_within five_digits l
  give (an_instruction v n.first n.second n.third n.fourth)
