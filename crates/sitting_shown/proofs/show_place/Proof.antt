use borrow.Author.Rules.{rules}
use Rattle.sitting_shown.proofs.Pieces.{written-counts}
use Rattle.sitting_shown.proofs.show_place.Statement.{statement}
use Rattle.sitting_shown.proofs.show_place.Tie as tie

pub show_place_spec : {M : Type 1} → statement M
show_place_spec = tie.close (tie.spec
    (λ c κs. search rules) (λ c. (c.write_place.ensures, written-counts c.write_place.ensures)))
