use Rattle.aeolus_model.proofs.Puts.{universe-none}
use Rattle.aeolus_model.proofs.clear_universe.Statement.{statement}
use Rattle.aeolus_model.proofs.clear_universe.Tie as tie

returns : tie.Need-returns
returns c = universe-none

pub clear_universe_spec : {M : Type 1} → statement M
clear_universe_spec = tie.close (tie.spec
    returns)
