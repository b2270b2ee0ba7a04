use Rattle.write_items.proofs.Laws.{then}
use Rattle.sitting_spec.specs.End.{instruction_text}
use borrow.Author.Rules.{rules}
use Rattle.sitting_lib.proofs.write_instruction.Statement.{statement}
use Rattle.sitting_lib.proofs.write_instruction.Tie as tie

returns : tie.Need-returns
unfolding instruction_text
returns c =
    let place = then (then (then c.write_number-a.ensures c.write_byte-b.ensures) c.write_number-c.ensures) c.write_byte-d.ensures in
    then place (rw c.line_of-line.ensures at c.show_first.ensures)

pub write_instruction_spec : {M : Type 1} → statement M
write_instruction_spec = tie.close (tie.spec
    (λ c κs. search rules) (λ c κs. search rules) (λ c κs. search rules) (λ c κs. search rules) (λ c κs. search rules) (λ c κs. search rules)
    (λ c. search rules) returns)
