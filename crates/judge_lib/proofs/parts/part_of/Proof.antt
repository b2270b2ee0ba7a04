use mathlib.Core.Path.{refl}
use Rattle.judge_lib.proofs.Places.{part-taken}
use borrow.Author.Rules.{rules}
use Rattle.judge_lib.proofs.parts.part_of.Statement.{statement}
use Rattle.judge_lib.proofs.parts.part_of.Tie as tie

returns : tie.Need-returns
returns c =
    let x = c.args in
    let at = c.smaller-at in
    rw (← at.ensures.0) (record { block = refl; place = refl; holds = part-taken x.s.now at.result _ x.size c.smaller.ensures.0 })

pub part_of_spec : {M : Type 1} → statement M
part_of_spec =
    tie.close
    (tie.spec
    (λ c κs. search rules) (λ c. search rules) (λ c κs. search rules) (λ c. search rules) (λ c. search rules) (λ c. search rules) (λ c. search rules)
    returns)
