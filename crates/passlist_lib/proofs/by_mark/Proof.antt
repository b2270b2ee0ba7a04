use native.Mathlib.Omega.{arith}
use borrow.Author.Tests.{le-leb, lt-leb}
use Rattle.passlist_lib.proofs.by_mark.Statement.{statement}
use Rattle.passlist_lib.proofs.by_mark.Tie as tie

pub by_mark_spec : {M : Type 1} → statement M
by_mark_spec =
    tie.close
    (tie.spec
    (λ c. let a = c.args in rw (le-leb a.n a.m (omega arith))) (λ c. let a = c.args in rw (lt-leb a.n a.m (omega arith))))
