use borrow.Author.Rules.{rules}
use Rattle.aeolus_read_sheet.proofs.types.mark_required.Statement.{statement}
use Rattle.aeolus_read_sheet.proofs.types.mark_required.Tie as tie

pub mark_required_spec : {M : Type 1} → statement M
mark_required_spec = tie.close (tie.spec
    (λ c κs. search rules) (λ c κs. search rules) (λ c κs. search rules)
    (λ c. rw (c.put_requires.ensures, c.with.ensures, c.requires_of-required.ensures)))
