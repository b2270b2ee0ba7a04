use borrow.Author.Rules.{rules}
use Rattle.words.proofs.state.changed.Statement.{statement}
use Rattle.words.proofs.state.changed.Tie as tie

returns : tie.Need-returns-then-here
returns c = rw c.if-here.true c.with.ensures

returns-2 : tie.Need-returns-else-here
returns-2 c = rw c.if-here.false (rw (← c.only.ensures) c.without.ensures)

pub changed_spec : {M : Type 1} → statement M
changed_spec = tie.close (tie.spec
    (λ c κs. search rules) (λ c κs. search rules) (λ c κs. search rules) returns returns-2)
