use mathlib.Core.Path.{refl}
use Rattle.words.specs.Words.{program_in}
use borrow.Author.Rules.{rules}
use Rattle.words.proofs.program.edition.Statement.{statement}
use Rattle.words.proofs.program.edition.Tie as tie

returns : tie.Need-returns
unfolding program_in
returns c = refl

pub edition_spec : {M : Type 1} → statement M
edition_spec = tie.close (tie.spec
    (λ c. search rules) returns)
