-- Every step before number k of the order is refused, and nothing has changed.
use Rattle.std.proofs.Common.{◌≡◌}
use Rattle.words.specs.Words.{tables_in, state_in, program_from}
use Rattle.step_walk.specs.Fits.{PortsFit}
use Rattle.model_walk_spec.specs.Order.{in_order}
use Rattle.model_walk_spec.specs.Walk.{first_of}
use Rattle.model_walk_lib.proofs.Tried.{rest}
use Rattle.model_walk_lib.proofs.turns.turn.Given as goal

abbrev pub invariant-loop-k : goal.invariant-loop-k
invariant-loop-k l =
    PortsFit (program_from l.program l.begun) → (state_in l.state ≡ state_in l.initial.state)
    × (first_of 8 (tables_in l.tables) (program_from l.program l.begun) (state_in l.initial.state) in_order
    ≡ rest 8 (tables_in l.tables) (program_from l.program l.begun) (state_in l.initial.state) l.k)
