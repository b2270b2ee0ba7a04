-- What each answer says beside the two arrays: of a row, of the rows, of a whole text.
use Rattle.std.specs.Prelude.{ℕ, List}
use Rattle.item_spec.specs.Refusal.{number_of}
use Rattle.item_spec.specs.declared.Refusal.{Refusal}
use Rattle.read_lines.specs.declared.LineFault.{LineFault}
use Rattle.read_lines.specs.Runs.{Came, onto, fault_at}
use Rattle.times_spec.specs.declared.Times.{Times}
use Rattle.std.specs.declared.result.Result.{Result}
use Rattle.std.specs.declared.result.Result.TheVariants.{Ok, Err}

-- times by their arrays
abbrev pub filled : ℕ → List ℕ → List ℕ → Times
filled par listed seconds = record { par = par; listed = listed; seconds = seconds }

-- of a row, read where its line starts: the bytes it used and the times, or its refusal
abbrev pub row_came : Result ℕ Refusal → Times → Came Times
row_came (Ok n) ts = onto ts n
row_came (Err r) ts = fault_at (number_of r) 0

-- of a text: the times of its par, or the refusal and the place of the line at fault
abbrev pub times_came : Result (ℕ × ℕ) (LineFault Refusal) → List ℕ → List ℕ → Came Times
times_came (Ok (par, at)) listed seconds = onto (filled par listed seconds) at
times_came (Err f) listed seconds = fault_at (number_of f.refusal) f.at
