use Rattle.write_items.proofs.Laws.{none, then, length-written}
use Rattle.write_report.proofs.Parts.{last-plain, last_none, last_some}
use borrow.Author.Rules.{rules}
use Rattle.write_report.proofs.start.write_last.Statement.{statement}
use Rattle.write_report.proofs.start.write_last.Tie as tie

returns : tie.Need-returns-then-first-ne2
returns c = rw (last-plain _ _ c.if-first-ne2.true) (none _ _)

returns-2 : tie.Need-returns-then-stamp-eq0
returns-2 c =
    let n = c in
    let s = c in
    let b = c in
    rw (last_none _ _ b.if-first-ne2.false s.if-stamp-eq0.true) (then b.write_byte-p.ensures n.write_byte.ensures)

returns-3 : tie.Need-returns
returns-3 c =
    let n = c in
    let s = c in
    let b = c in
    rw (last_some _ _ b.if-first-ne2.false s.if-stamp-eq0.false) (then b.write_byte-p.ensures n.write_number.ensures)

pub write_last_spec : {M : Type 1} → statement M
write_last_spec =
    tie.close
    (tie.spec
    returns (λ c κs. search rules) (λ c κs. search rules) (λ c. length-written (returns-2 c)) returns-2 (λ c. search rules) (λ c κs. search rules)
    (λ c. length-written (returns-3 c)) returns-3)
