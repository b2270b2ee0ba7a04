-- What the readers of cells say. A fault of form is 01's number 2.
use Rattle.std.specs.Prelude.{ℕ}
use Rattle.item_spec.specs.Refusal.{bad_form}
use Rattle.read_items.specs.Reads.{Outcome, past, fault}
use Rattle.passlist_spec.specs.declared.Said.{Said}
use Rattle.passlist_spec.specs.Row.{Mark}
use Rattle.std.specs.declared.option.Option.{Option}
use Rattle.std.specs.declared.option.Option.TheVariants.{Some, None}

abbrev pub said_says : Option (Said × ℕ) → Outcome Said
said_says (Some (a, n)) = past a n
said_says None = fault bad_form

abbrev pub mark_says : Option (Mark × ℕ) → Outcome Mark
mark_says (Some (a, n)) = past a n
mark_says None = fault bad_form
