-- The first k steps are written down, and the state is where they lead.
use Rattle.words.specs.Words.{tables_in, state_in, program_from, answer_in}
use Rattle.step_walk.specs.Fits.{PortsFit}
use Rattle.model_walk_lib.proofs.Onward.{Come}
use Rattle.model_walk_lib.proofs.model_steps.Given as goal

abbrev pub invariant-loop-k : goal.invariant-loop-k
invariant-loop-k l =
    PortsFit (program_from l.program l.begun)
    → Come 8 (tables_in l.tables) (program_from l.program l.begun) (state_in l.initial.state) l.k (answer_in l.answer).steps (state_in l.state)
