-- Parts of the clauses of number 7 that a function says by itself: the rows of a type by their kind.
use Rattle.std.specs.Prelude.{ℕ, Bool}
use Rattle.model.specs.declared.Tables.{Tables}
use Rattle.read_spec.specs.Lawful.{transition_lawful, behavior_lawful, port_lawful}
use Rattle.hall_lawful.specs.declared.types.Part.{Part}

unfoldable pub part_lawful : Part → Tables → ℕ → ℕ → Bool
part_lawful Part.Transition = transition_lawful
part_lawful Part.Behavior = behavior_lawful
part_lawful Part.Port = port_lawful
