use borrow.Author.Tests.{lt-ltb, le-ltb}
use borrow.Author.Rules.{rules}
use Rattle.sitting_lib.proofs.lines.write_ended.Statement.{statement}
use Rattle.sitting_lib.proofs.lines.write_ended.Tie as tie

returns : tie.Need-returns-then-not-pointed
returns c = rw c.if-not-pointed.true c.write_key.ensures

returns-2 : tie.Need-returns-then-place-less
returns-2 c = rw (c.if-not-pointed.false, ← c.less.ensures, lt-ltb _ _ c.if-place-less.true) c.write_key-then-place-less.ensures

returns-3 : tie.Need-returns
returns-3 c = rw (c.if-not-pointed.false, ← c.less.ensures, le-ltb _ _ c.if-place-less.false) c.write_key-2.ensures

pub write_ended_spec : {M : Type 1} → statement M
write_ended_spec = tie.close (tie.spec
    (λ c κs. search rules) (λ c. search rules) returns (λ c κs. search rules) (λ c κs. search rules) (λ c. search rules) returns-2
    (λ c κs. search rules) (λ c. search rules) returns-3)
