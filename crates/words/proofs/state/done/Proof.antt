use mathlib.Core.Path.{refl}
use Rattle.words.specs.Words.{state_in}
use borrow.Author.Rules.{rules}
use Rattle.words.proofs.state.done.Statement.{statement}
use Rattle.words.proofs.state.done.Tie as tie

returns : tie.Need-returns
unfolding state_in
returns c = refl

pub done_spec : {M : Type 1} → statement M
done_spec = tie.close (tie.spec
    (λ c. search rules) returns)
