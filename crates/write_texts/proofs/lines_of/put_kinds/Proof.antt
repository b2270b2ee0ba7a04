use Rattle.write_items.proofs.Laws.{next, used-fits}
use Rattle.write_texts.specs.Parts.{kinds_text}
use borrow.Author.Rules.{rules}
use Rattle.write_texts.proofs.lines_of.put_kinds.Statement.{statement}
use Rattle.write_texts.proofs.lines_of.put_kinds.Tie as tie

pub put_kinds_spec : {M : Type 1} → statement M
unfolding kinds_text
put_kinds_spec =
    tie.close
    (tie.spec
    (λ c κs. search rules) (λ c. search rules) (λ c. search rules) (λ c. search rules) (λ c κs. search rules) (λ c. search rules) (λ c. search rules)
    (λ c. search rules) (λ c. search rules) (λ c κs. search rules)
    (λ c. used-fits (next (next c.put_kind-used.ensures c.put_kind-used-2.ensures) c.put_kind.ensures) (search rules)) (λ c. search rules)
    (λ c. next (next c.put_kind-used.ensures c.put_kind-used-2.ensures) c.put_kind.ensures))
