use mathlib.Core.Path.{refl}
use Rattle.words.specs.Words.{answer_in}
use borrow.Author.Rules.{rules}
use Rattle.words.proofs.answer.steps.Statement.{statement}
use Rattle.words.proofs.answer.steps.Tie as tie

returns : tie.Need-returns
unfolding answer_in
returns c = refl

pub steps_spec : {M : Type 1} → statement M
steps_spec = tie.close (tie.spec
    (λ c. search rules) returns)
