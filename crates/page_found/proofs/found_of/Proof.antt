use borrow.Author.Rules.{rules}
use Rattle.page_found.specs.Found.{found_of}
use Rattle.page_found.proofs.found_of.Statement.{statement}
use Rattle.page_found.proofs.found_of.Tie as tie

pub found_of_spec : {M : Type 1} → statement M
unfolding found_of
found_of_spec =
    tie.close
    (tie.spec
    (λ c κs. search rules) (λ c κs. search rules) (λ c κs. search rules) (λ c. rw (c.group_of.ensures, c.looked_at.ensures, c.next_of.ensures)))
