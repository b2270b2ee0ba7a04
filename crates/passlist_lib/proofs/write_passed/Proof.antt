use borrow.Author.Rules.{rules}
use lib.ListN.{length-take}
use native.Mathlib.Omega.{arith}
use Rattle.write_items.proofs.Laws.{then, length-written}
use Rattle.passlist_spec.specs.Standing.{passed_line}
use Rattle.passlist_lib.proofs.write_passed.Statement.{statement}
use Rattle.passlist_lib.proofs.write_passed.Tie as tie

slice-aggregate-write-key-2 : tie.Need-slice_bounds-write_key-end-2
slice-aggregate-write-key-2 c = simp length-take (omega (arith, c.name_size-n.ensures.0))

same_length : tie.Need-shape_of-t
same_length c = length-written (then (then c.write_key-a.ensures c.write_key-b.ensures) c.write_byte.ensures)

returns : tie.Need-returns
unfolding passed_line
returns c = rw c.name_size-n.ensures.1 at (then (then c.write_key-a.ensures c.write_key-b.ensures) c.write_byte.ensures)

pub write_passed_spec : {M : Type 1} → statement M
write_passed_spec =
    tie.close
    (tie.spec
    (λ c κs. search rules) (λ c κs. search rules) slice-aggregate-write-key-2 (λ c κs. search rules) (λ c κs. search rules) same_length returns)
