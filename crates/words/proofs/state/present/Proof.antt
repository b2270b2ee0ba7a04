use mathlib.Core.Path.{sym, ◌∙◌}
use borrow.Author.Rules.{rules}
use Rattle.words.proofs.InState.{present-in, present-past}
use Rattle.words.proofs.state.present.Statement.{statement}
use Rattle.words.proofs.state.present.Tie as tie

returns : tie.Need-returns-then-i-lt32
returns c = c.member.ensures ∙ sym (present-in _ _ c.if-i-lt32.true)

returns-2 : tie.Need-returns-else-i-lt32
returns-2 c = sym (present-past _ _ c.if-i-lt32.false)

pub present_spec : {M : Type 1} → statement M
present_spec = tie.close (tie.spec
    (λ c. search rules) (λ c κs. search rules) returns returns-2)
