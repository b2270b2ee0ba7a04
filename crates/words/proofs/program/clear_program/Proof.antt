use Rattle.words.proofs.InTexts.{no_program_is}
use Rattle.words.proofs.program.clear_program.Statement.{statement}
use Rattle.words.proofs.program.clear_program.Tie as tie

returns : tie.Need-returns
returns c = no_program_is

pub clear_program_spec : {M : Type 1} → statement M
clear_program_spec = tie.close (tie.spec
    returns)
