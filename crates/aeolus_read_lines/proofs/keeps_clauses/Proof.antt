use borrow.Author.Rules.{rules}
use Rattle.aeolus_read_lines.proofs.keeps_clauses.Statement.{statement}
use Rattle.aeolus_read_lines.proofs.keeps_clauses.Tie as tie

pub keeps_clauses_spec : {M : Type 1} → statement M
keeps_clauses_spec =
    tie.close (tie.spec
    (λ c κs. search rules) (λ c κs. search rules) (λ c κs. search rules) (λ c κs. search rules)
    (λ c. rw (c.listed.ensures, c.initial_of.ensures, c.number_at-fresh.ensures, c.place_of-place.ensures)))
