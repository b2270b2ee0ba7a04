use borrow.Author.Rules.{rules}
use borrow.Author.Tests.{eq-eqb, ne_eqb}
use Rattle.passlist_spec.specs.Listed.{line_standing}
use Rattle.passlist_lib.proofs.line_standing.Statement.{statement}
use Rattle.passlist_lib.proofs.line_standing.Tie as tie

returns : tie.Need-returns-then-counts-eq0
unfolding line_standing
returns c = rw (eq-eqb _ _ c.if-counts-eq0.true, line_standing) c.head_standing.ensures

returns-2 : tie.Need-returns
unfolding line_standing
returns-2 c = rw (ne_eqb _ _ c.if-counts-eq0.false, line_standing) c.row_standing.ensures

pub line_standing_spec : {M : Type 1} → statement M
line_standing_spec =
    tie.close
    (tie.spec
    (λ c. search rules) (λ c κs. search rules) returns (λ c κs. search rules) returns-2)
