use Rattle.write_items.proofs.Laws.{then}
use Rattle.sitting_spec.specs.End.{where_text}
use borrow.Author.Rules.{rules}
use Rattle.sitting_lib.proofs.lines.write_where.Statement.{statement}
use Rattle.sitting_lib.proofs.lines.write_where.Tie as tie

returns : tie.Need-returns
unfolding where_text
returns c = then (then (then c.write_key-a.ensures c.write_at-b.ensures) c.write_byte-c.ensures) c.write_place.ensures

pub write_where_spec : {M : Type 1} → statement M
write_where_spec = tie.close (tie.spec
    (λ c κs. search rules) (λ c κs. search rules) (λ c κs. search rules) (λ c κs. search rules) (λ c. search rules) returns)
