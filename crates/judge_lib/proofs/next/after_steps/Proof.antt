use native.Mathlib.Omega.{arith}
use Rattle.judge_lib.proofs.Onward.{none_told, some-told}
use borrow.Author.Rules.{rules}
use Rattle.judge_lib.proofs.next.after_steps.Statement.{statement}
use Rattle.judge_lib.proofs.next.after_steps.Tie as tie

returns : tie.Need-returns-then-refused-ne0
returns c = none_told _ _ _ _ _ c.if-refused-ne0.true

returns-2 : tie.Need-returns
returns-2 c =
    let x = c in
    some-told _ _ _ _ _ c.if-refused-ne0.false c.write_next-used.ensures (omega (arith, x.requires.0.few, x.requires.1))

pub after_steps_spec : {M : Type 1} → statement M
after_steps_spec =
    tie.close (tie.spec
    (λ c. omega (arith, c.requires.0.small)) (λ c. search rules) returns (λ c κs. search rules) (λ c. search rules) returns-2)
