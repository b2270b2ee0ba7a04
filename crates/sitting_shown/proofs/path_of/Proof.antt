use borrow.Author.Rules.{rules}
use Rattle.write_items.proofs.Laws.{then}
use Rattle.sitting_shown.proofs.Pieces.{written-counts}
use Rattle.sitting_shown.proofs.path_of.Statement.{statement}
use Rattle.sitting_shown.proofs.path_of.Tie as tie

pub path_of_spec : {M : Type 1} → statement M
path_of_spec =
    tie.close
    (tie.spec
    (λ c κs. search rules) (λ c κs. search rules) (λ c. search rules)
    (λ c.
    let d = c in
    let all = then d.write_key-at.ensures d.write_key.ensures in
    (all, written-counts all)))
