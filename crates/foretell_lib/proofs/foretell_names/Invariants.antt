-- What is left to go through tells the same as the whole program.
use Rattle.std.proofs.Common.{◌≡◌, ◌-◌}
use Rattle.words.specs.Words.{tables_in, program_in, program_from, state_in}
use Rattle.step_walk.specs.Fits.{PortsFit}
use Rattle.foretell_spec.specs.Names.{foretold_from}
use Rattle.foretell_lib.proofs.foretell_names.Given as goal

abbrev pub invariant-loop : goal.invariant-loop
invariant-loop l =
    PortsFit (program_from l.program l.begun)
    → foretold_from (tables_in l.tables) (program_from l.program l.begun) (program_in l.program).count (state_in l.initial.state)
    ≡ foretold_from (tables_in l.tables) (program_from l.program l.begun) (l.n - l.counter) (state_in l.state)
