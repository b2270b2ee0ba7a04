use borrow.Author.Tests.{ne_eqb}
use Rattle.write_spec.specs.Kinds.{port_line_text}
use borrow.Author.Rules.{rules}
use Rattle.write_lines.proofs.write_port.Statement.{statement}
use Rattle.write_lines.proofs.write_port.Tie as tie

pub write_port_spec : {M : Type 1} → statement M
unfolding port_line_text
write_port_spec =
    tie.close
    (tie.spec
    (λ c κs. search rules) (λ c κs. search rules) (λ c κs. search rules) (λ c. search rules) (λ c. rw c.in-0.is c.write_sets.ensures)
    (λ c. search rules) (λ c. rw c.in-1.is c.write_sets-in-1.ensures) (λ c. search rules)
    (λ c. rw (ne_eqb _ _ c.in_default.in_default-own.rest.1, ne_eqb _ _ c.in_default.in_default-own.rest.0.1) c.write_key.ensures))
