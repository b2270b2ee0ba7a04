use Rattle.write_spec.specs.Kinds.{initial_text}
use borrow.Author.Rules.{rules}
use Rattle.write_lines.proofs.write_initial.Statement.{statement}
use Rattle.write_lines.proofs.write_initial.Tie as tie

pub write_initial_spec : {M : Type 1} → statement M
unfolding initial_text
write_initial_spec = tie.close (tie.spec
    (λ c κs. search rules) (λ c. search rules) (λ c. c.write_set.ensures))
