use borrow.Author.Rules.{rules}
use Rattle.write_items.proofs.Laws.{then, length-written}
use Rattle.passlist_lib.proofs.write_count.Statement.{statement}
use Rattle.passlist_lib.proofs.write_count.Tie as tie

same_length : tie.Need-shape_of-t
same_length c = length-written (then (then c.write_key-a.ensures c.write_number-b.ensures) c.write_byte.ensures)

returns : tie.Need-returns
returns c = then (then c.write_key-a.ensures c.write_number-b.ensures) c.write_byte.ensures

pub write_count_spec : {M : Type 1} → statement M
write_count_spec =
    tie.close
    (tie.spec
    (λ c κs. search rules) (λ c κs. search rules) (λ c κs. search rules) same_length returns)
