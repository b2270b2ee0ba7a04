use Rattle.register_spec.specs.Text.{further_cells, unreadable_text}
use Rattle.write_items.proofs.Laws.{then}
use borrow.Author.Rules.{rules}
use Rattle.register_lib.proofs.write_unreadable.Statement.{statement}
use Rattle.register_lib.proofs.write_unreadable.Tie as tie

returns : tie.Need-returns
unfolding unreadable_text further_cells
returns c = let key = c in then key.show_cell-a.ensures key.write_key.ensures

pub write_unreadable_spec : {M : Type 1} → statement M
write_unreadable_spec = tie.close (tie.spec
    (λ c κs. search rules) (λ c κs. search rules) (λ c. search rules) returns)
