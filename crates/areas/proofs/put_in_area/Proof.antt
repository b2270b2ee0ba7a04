use borrow.Author.Rules.{rules}
use borrow.Author.Tests.{lt-ltb, le-ltb}
use Rattle.areas.proofs.put_in_area.Statement.{statement}
use Rattle.areas.proofs.put_in_area.Tie as tie

returns : tie.Need-returns-then-k-n
returns c = rw (lt-ltb _ _ c.if-k-n.true) c.put_at.ensures

returns-2 : tie.Need-returns-else-k-n
returns-2 c = rw (le-ltb _ _ c.if-k-n.false)

pub put_in_area_spec : {M : Type 1} → statement M
put_in_area_spec = tie.close (tie.spec
    (λ c. search rules) (λ c κs. search rules) (λ c. search rules) returns returns-2)
