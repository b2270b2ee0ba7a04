use borrow.Author.Rules.{rules}
use Rattle.aeolus_read_sheet.proofs.types.mark_provided.Statement.{statement}
use Rattle.aeolus_read_sheet.proofs.types.mark_provided.Tie as tie

pub mark_provided_spec : {M : Type 1} → statement M
mark_provided_spec = tie.close (tie.spec
    (λ c κs. search rules) (λ c κs. search rules) (λ c κs. search rules)
    (λ c. rw (c.put_provides.ensures, c.with.ensures, c.provides_of-provided.ensures)))
