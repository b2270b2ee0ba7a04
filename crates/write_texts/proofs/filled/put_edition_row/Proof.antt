use borrow.Author.Tests.{eq-eqb, ne_eqb}
use Rattle.write_items.proofs.Laws.{none}
use Rattle.report_spec.specs.Report.{count_text}
use borrow.Author.Rules.{rules}
use Rattle.write_texts.proofs.filled.put_edition_row.Statement.{statement}
use Rattle.write_texts.proofs.filled.put_edition_row.Tie as tie

returns : tie.Need-returns-then-edition-eq1
returns c = rw (eq-eqb _ _ c.if-edition-eq1.true) (none _ _)

returns-2 : tie.Need-returns
unfolding count_text
returns-2 c = rw (ne_eqb _ _ c.if-edition-eq1.false) c.write_one.ensures

pub put_edition_row_spec : {M : Type 1} → statement M
put_edition_row_spec = tie.close (tie.spec
    returns (λ c κs. search rules) (λ c. search rules) returns-2)
