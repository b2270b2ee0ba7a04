use borrow.Author.Rules.{rules}
use Rattle.write_items.proofs.Laws.{then, length-written}
use Rattle.passlist_spec.specs.Listed.{counts_text}
use Rattle.passlist_lib.proofs.write_counts.Statement.{statement}
use Rattle.passlist_lib.proofs.write_counts.Tie as tie

same_length : tie.Need-shape_of-t
same_length c =
    length-written
    (then (then (then (then (then (then c.write_count-a.ensures c.write_count-b.ensures) c.write_count-c.ensures) c.write_count-d.ensures) c.write_count-e.ensures) c.write_count-f.ensures)
    c.write_count.ensures)

returns : tie.Need-returns
unfolding counts_text
returns c =
    rw (← c.candidates_of.ensures)
    (then (then (then (then (then (then c.write_count-a.ensures c.write_count-b.ensures) c.write_count-c.ensures) c.write_count-d.ensures) c.write_count-e.ensures) c.write_count-f.ensures)
    c.write_count.ensures)

pub write_counts_spec : {M : Type 1} → statement M
write_counts_spec =
    tie.close
    (tie.spec
    (λ c. search rules) (λ c κs. search rules) (λ c. search rules) (λ c κs. search rules) (λ c. search rules) (λ c κs. search rules)
    (λ c. search rules) (λ c κs. search rules) (λ c. search rules) (λ c κs. search rules) (λ c. search rules) (λ c κs. search rules)
    (λ c κs. search rules) (λ c κs. search rules) same_length returns)
