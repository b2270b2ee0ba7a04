use Rattle.words.proofs.InTexts.{no_answer_is}
use Rattle.words.proofs.answer.clear_answer.Statement.{statement}
use Rattle.words.proofs.answer.clear_answer.Tie as tie

returns : tie.Need-returns
returns c = no_answer_is

pub clear_answer_spec : {M : Type 1} → statement M
clear_answer_spec = tie.close (tie.spec
    returns)
