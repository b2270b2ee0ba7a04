use mathlib.Core.Path.{◌∙◌}
use borrow.Author.Rules.{rules}
use Rattle.write_texts.proofs.faults.line_fault.Statement.{statement}
use Rattle.write_texts.proofs.faults.line_fault.Tie as tie

pub line_fault_spec : {M : Type 1} → statement M
line_fault_spec =
    tie.close
    (tie.spec
    (λ c. search rules) (λ c κs. search rules) (λ c. search rules) (λ c κs. search rules) (λ c κs. search rules) (λ c κs. search rules)
    (λ c κs. search rules) (λ c. rw c.in-Types.is c.type_fault.ensures)
    (λ c. rw c.in-Instructions.is (c.do_fault.ensures ∙ rw (c.instruction_at.ensures, c.types.ensures, c.edition.ensures))))
