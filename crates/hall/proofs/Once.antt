-- No other outcome fits: each promise is an equation with the definition, and words that say the same are the same.
-- Assumes nothing.
use mathlib.Core.Path.{◌≡◌, sym, ◌∙◌}
use Rattle.words.proofs.Whole.{state-words}
use Rattle.step_ports.specs.declared.Answered.{Answered}
use Rattle.hall.specs.Once.{NoOtherLeft, NoOtherWords}

same_answer : (a b : Answered) → a.refused ≡ b.refused → a.port ≡ b.port → a ≡ b
same_answer a b e f = λ j. record { refused = e j; port = f j }

pub left-once : NoOtherLeft
unfolding NoOtherLeft
left-once t p c s a b d e h g = (same_answer a b (h.0 ∙ sym g.0) (h.1 ∙ sym g.1), h.2 ∙ sym g.2)

pub words-once : NoOtherWords
unfolding NoOtherLeft NoOtherWords
words-once tables program before s m n ws vs a b h g =
    let same = left-once _ _ _ s m n _ _ h g in
    (same.0, state-words ws vs a.many b.many a.small b.small same.1)
