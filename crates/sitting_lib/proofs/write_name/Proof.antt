use Rattle.write_items.proofs.Laws.{then}
use Rattle.sitting_spec.specs.Candidate.{name_text}
use borrow.Author.Rules.{rules}
use Rattle.sitting_lib.proofs.write_name.Statement.{statement}
use Rattle.sitting_lib.proofs.write_name.Tie as tie

returns : tie.Need-returns
unfolding name_text
returns c = then (then c.write_key-a.ensures c.show_cell-b.ensures) c.write_byte.ensures

pub write_name_spec : {M : Type 1} → statement M
write_name_spec = tie.close (tie.spec
    (λ c κs. search rules) (λ c κs. search rules) (λ c κs. search rules) (λ c. search rules) returns)
