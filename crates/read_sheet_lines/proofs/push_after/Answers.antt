use borrow.Author.Tests.{eq-eqb, ne_eqb}
use Rattle.read_spec.specs.Kinds.{do_push_in}
use Rattle.read_sheet_lines.proofs.Limits.{ticketed-is, pushb-is}
use Rattle.read_sheet_lines.proofs.push_after.Goals as goal

pub returns-then-edition-eq2 : goal.returns-then-edition-eq2
returns-then-edition-eq2 c = rw (eq-eqb _ _ c.if-edition-eq2.true, do_push_in) (rw (ticketed-is 6) at c.do_numbers.ensures)

pub returns : goal.returns
returns c = rw (ne_eqb _ _ c.if-edition-eq2.false, do_push_in) (rw (pushb-is 2) at c.do_numbers-2.ensures)
