use borrow.Author.Tests.{lt-ltb, le-ltb}
use borrow.Author.Rules.{rules}
use Rattle.sitting_lib.proofs.next_left.Statement.{statement}
use Rattle.sitting_lib.proofs.next_left.Tie as tie

returns : tie.Need-returns-then-k-count
returns c = rw (lt-ltb _ _ c.if-k-count.true) c.begins_at.ensures

returns-2 : tie.Need-returns
returns-2 c = rw (le-ltb _ _ c.if-k-count.false)

pub next_left_spec : {M : Type 1} → statement M
next_left_spec = tie.close (tie.spec
    (λ c κs. search rules) returns returns-2)
