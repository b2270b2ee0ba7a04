use Rattle.write_items.proofs.Laws.{next}
use borrow.Author.Rules.{rules}
use Rattle.foretell_lib.specs.Foresees.{refused_text}
use Rattle.foretell_lib.proofs.write_refused.Statement.{statement}
use Rattle.foretell_lib.proofs.write_refused.Tie as tie

pub write_refused_spec : {M : Type 1} → statement M
unfolding refused_text
write_refused_spec =
    tie.close
    (tie.spec
    (λ c κs. search rules) (λ c. search rules) (λ c. search rules) (λ c. search rules) (λ c κs. search rules) (λ c. search rules) (λ c. search rules)
    (λ c. let w = c in next w.write_count-used.ensures w.write_count.ensures))
