use Rattle.write_items.proofs.Laws.{next}
use borrow.Author.Rules.{rules}
use Rattle.foretell_lib.specs.Foresees.{told_text}
use Rattle.foretell_lib.proofs.write_told.Statement.{statement}
use Rattle.foretell_lib.proofs.write_told.Tie as tie

pub write_told_spec : {M : Type 1} → statement M
unfolding told_text
write_told_spec =
    tie.close
    (tie.spec
    (λ c κs. search rules) (λ c. search rules) (λ c. search rules) (λ c. search rules) (λ c κs. search rules) (λ c. search rules) (λ c. search rules)
    (λ c. let w = c in next w.write_refused-used.ensures w.write_count.ensures))
