use Rattle.write_items.proofs.Laws.{none, then}
use Rattle.page_spec.specs.Page.{report_byte}
use Rattle.page_spec.specs.Piece.{piece_text, page_text}
use borrow.Author.Rules.{rules}
use Rattle.page_lib.proofs.reports.write_report_byte.Statement.{statement}
use Rattle.page_lib.proofs.reports.write_report_byte.Tie as tie

pub write_report_byte_spec : {M : Type 1} → statement M
unfolding report_byte page_text piece_text
write_report_byte_spec =
    tie.close
    (tie.spec
    (λ c κs. search rules) (λ c κs. search rules) (λ c. search rules)
    (λ c. rw (c.if-first.true, report_byte) (then c.write_key-p.ensures (then c.write_cell.ensures (none _ _)))) (λ c κs. search rules)
    (λ c. search rules) (λ c. rw (c.if-first.false, report_byte) (then c.write_cell-2.ensures (none _ _))))
