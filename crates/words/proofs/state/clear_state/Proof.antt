use Rattle.words.proofs.InState.{start-in}
use Rattle.words.proofs.state.clear_state.Statement.{statement}
use Rattle.words.proofs.state.clear_state.Tie as tie

returns : tie.Need-returns
returns c = start-in

pub clear_state_spec : {M : Type 1} → statement M
clear_state_spec = tie.close (tie.spec
    returns)
