use Rattle.words.proofs.InTexts.{none-begun}
use Rattle.words.proofs.begun.clear_begun.Statement.{statement}
use Rattle.words.proofs.begun.clear_begun.Tie as tie

returns : tie.Need-returns
returns c = none-begun 288

pub clear_begun_spec : {M : Type 1} → statement M
clear_begun_spec = tie.close (tie.spec
    returns)
