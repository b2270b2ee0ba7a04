use borrow.Author.Rules.{rules}
use Rattle.register_spec.specs.Text.{head_text}
use Rattle.register_lib.proofs.write_head.Statement.{statement}
use Rattle.register_lib.proofs.write_head.Tie as tie

pub write_head_spec : {M : Type 1} → statement M
unfolding head_text
write_head_spec = tie.close (tie.spec
    (λ c κs. search rules) (λ c. search rules) (λ c. c.write_key.ensures))
