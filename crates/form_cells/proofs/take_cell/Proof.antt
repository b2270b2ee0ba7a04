use mathlib.Core.Path.{refl}
use Rattle.write_items.proofs.Laws.{none}
use borrow.Author.Rules.{rules}
use Rattle.form_cells.proofs.take_cell.Statement.{statement}
use Rattle.form_cells.proofs.take_cell.Tie as tie

returns : tie.Need-returns-then-noted
returns c = rw c.if-noted.true (none _ _, (refl, refl))

returns-2 : tie.Need-returns
returns-2 c = rw c.if-noted.false c.take_byte.ensures

pub take_cell_spec : {M : Type 1} → statement M
take_cell_spec = tie.close (tie.spec
    returns (λ c κs. search rules) (λ c. search rules) returns-2)
