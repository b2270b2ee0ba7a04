use mathlib.Core.Path.{refl}
use Rattle.words.specs.Words.{tables_in}
use borrow.Author.Rules.{rules}
use Rattle.words.proofs.tables.depth.Statement.{statement}
use Rattle.words.proofs.tables.depth.Tie as tie

returns : tie.Need-returns
unfolding tables_in
returns c = refl

pub depth_spec : {M : Type 1} → statement M
depth_spec = tie.close (tie.spec
    (λ c. search rules) returns)
