use mathlib.Core.Path.{sym, ◌∙◌}
use Prim.Native.Nat.{◌+◌, ◌*◌}
use Rattle.words.specs.Words.{tables_in}
use Rattle.words.proofs.InTables.{column-at}
use borrow.Author.Rules.{rules}
use Rattle.words.proofs.tables.destination.Statement.{statement}
use Rattle.words.proofs.tables.destination.Tie as tie

returns : tie.Need-returns
unfolding tables_in
returns c = let s = c.args in c.cell.ensures ∙ sym (column-at s.tables.now 0 512 2 1 (s.k * 32 + s.x))

pub destination_spec : {M : Type 1} → statement M
destination_spec = tie.close (tie.spec
    (λ c. search rules) (λ c. search rules) (λ c κs. search rules) returns)
