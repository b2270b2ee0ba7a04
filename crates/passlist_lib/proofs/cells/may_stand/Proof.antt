use borrow.Author.Rules.{rules}
use Rattle.passlist_spec.specs.Row.{in_cell}
use Rattle.passlist_lib.proofs.cells.may_stand.Statement.{statement}
use Rattle.passlist_lib.proofs.cells.may_stand.Tie as tie

returns : tie.Need-returns-in-Name
unfolding in_cell
returns c = rw (c.in-Name.is, in_cell) c.from_to.ensures

returns-2 : tie.Need-returns-in-Number
unfolding in_cell
returns-2 c = rw (c.in-Number.is, in_cell) c.from_to-in-Number.ensures

pub may_stand_spec : {M : Type 1} → statement M
may_stand_spec =
    tie.close
    (tie.spec
    (λ c. search rules) (λ c κs. search rules) (λ c. search rules) (λ c κs. search rules) returns returns-2)
