use Rattle.aeolus_model.proofs.Puts.{configuration-none}
use Rattle.aeolus_model.proofs.clear_deployed.Statement.{statement}
use Rattle.aeolus_model.proofs.clear_deployed.Tie as tie

returns : tie.Need-returns
returns c = configuration-none

pub clear_deployed_spec : {M : Type 1} → statement M
clear_deployed_spec = tie.close (tie.spec
    returns)
