use borrow.Author.Rules.{rules}
use borrow.Author.Tests.{eq-eqb, ne_eqb}
use Rattle.write_items.proofs.Laws.{none, length-written}
use Rattle.passlist_spec.specs.Listed.{line_text}
use Rattle.passlist_lib.proofs.write_line.Statement.{statement}
use Rattle.passlist_lib.proofs.write_line.Tie as tie

same_length : tie.Need-shape_of-t-then-place_of-eq0
same_length c = length-written c.write_passed.ensures

returns : tie.Need-returns-then-place_of-eq0
unfolding line_text
returns c = rw (← c.line_standing.ensures, ← c.place_of.ensures.0, eq-eqb _ _ c.if-place_of-eq0.true) c.write_passed.ensures

returns-2 : tie.Need-returns
unfolding line_text
returns-2 c = rw (← c.line_standing.ensures, ← c.place_of.ensures.0, ne_eqb _ _ c.if-place_of-eq0.false) (none _ _)

pub write_line_spec : {M : Type 1} → statement M
write_line_spec =
    tie.close
    (tie.spec
    (λ c κs. search rules) (λ c κs. search rules) (λ c κs. search rules) same_length returns returns-2)
