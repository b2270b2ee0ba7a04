use Rattle.std.proofs.Common.{◌≡◌}
use Rattle.model.specs.View.{steps_of}
use Rattle.words.specs.Words.{tables_in, state_in, program_from, answer_in}
use Rattle.step_walk.specs.Held.{held_walk}
use Rattle.step_walk.proofs.Ahead.{rest}
use Rattle.step_walk.proofs.walk.Given as goal

abbrev pub invariant-loop-k : goal.invariant-loop-k
invariant-loop-k l =
    held_walk l.default (tables_in l.tables) (program_from l.program l.begun) (state_in l.initial.state) (steps_of (answer_in l.answer))
    ≡ rest l.default (tables_in l.tables) (program_from l.program l.begun) (answer_in l.answer) l.k (state_in l.state)
