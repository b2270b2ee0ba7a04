use Rattle.write_items.proofs.Laws.{next}
use Rattle.write_texts.proofs.Whole.{type-parts}
use borrow.Author.Rules.{rules}
use Rattle.write_texts.proofs.lines_of.put_sheet_type.Statement.{statement}
use Rattle.write_texts.proofs.lines_of.put_sheet_type.Tie as tie

pub put_sheet_type_spec : {M : Type 1} → statement M
put_sheet_type_spec =
    tie.close
    (tie.spec
    (λ c κs. search rules) (λ c. search rules) (λ c. search rules) (λ c. search rules) (λ c κs. search rules) (λ c. search rules) (λ c. search rules)
    (λ c. rw (type-parts _ _) at (next c.put_head-used.ensures c.put_kinds.ensures)))
