use mathlib.Core.Path.{sym, ◌∙◌}
use Prim.Native.Nat.{◌+◌, ◌*◌}
use Rattle.words.specs.Words.{tables_in}
use Rattle.words.proofs.InTables.{column-at}
use borrow.Author.Rules.{rules}
use Rattle.words.proofs.tables.behavior_of.Statement.{statement}
use Rattle.words.proofs.tables.behavior_of.Tie as tie

returns : tie.Need-returns
unfolding tables_in
returns c = let s = c.args in c.cell.ensures ∙ sym (column-at s.tables.now 1792 128 1 0 (s.k * 8 + s.b))

pub behavior_of_spec : {M : Type 1} → statement M
behavior_of_spec = tie.close (tie.spec
    (λ c. search rules) (λ c. search rules) (λ c κs. search rules) returns)
