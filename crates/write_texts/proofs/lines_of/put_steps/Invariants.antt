-- The steps below j are written.
use Rattle.words.specs.Words.{answer_in}
use Rattle.write_items.proofs.Turns.{Turns}
use Rattle.write_spec.specs.Kinds.{step_text}
use Rattle.write_spec.specs.Texts.{step_row}
use Rattle.write_texts.proofs.lines_of.put_steps.Given as goal

abbrev pub invariant-loop-j : goal.invariant-loop-j
invariant-loop-j l = Turns (λ j. step_text (step_row (answer_in l.answer) j)) l.count l.j l.initial.t l.t l.used
