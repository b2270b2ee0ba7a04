-- `model_walk_lib::write_model` meets its contract: the answer's words hold the model's steps, and their text goes into the lent buffer.
use mathlib.Core.Path.{refl}
use native.Mathlib.Omega.{arith}
use borrow.Author.Rules.{rules}
use Rattle.words.specs.Words.{tables_in, program_from, state_in, answer_in}
use Rattle.step_walk.specs.Fits.{PortsFit}
use Rattle.write_spec.proofs.Trips.{penned-within}
use Rattle.done_spec.specs.Done.{all_done}
use Rattle.model_walk_spec.specs.OnTexts.{Said}
use Rattle.model_walk_lib.proofs.Onward.{answer-full}
use Rattle.model_walk_lib.proofs.Texted.{Holds, held-so, refused-so, written-so, counted}
use Rattle.model_walk_lib.proofs.write_model.Statement.{statement}
use Rattle.model_walk_lib.proofs.write_model.Tie as tie

-- what the walk goes on from
abbrev at : tie.After-put_steps → Said
at s = let a = s.args in (tables_in a.tables.now, program_from a.program.now a.begun.now, state_in a.state.now)

walked : (s : tie.After-put_steps) → PortsFit (at s).1
    → Holds (at s) (answer_in s.put_steps.new.answer) s.model_steps-steps.result
walked s fits =
    let m = s in
    let e = s.model_steps-steps.ensures in
    held-so (at s) _ (answer_in m.model_steps-steps.new.answer) m.model_steps-steps.result s.put_steps.ensures (answer-full _) e.0 (e.1 fits).0

returns : tie.Need-returns-then-text-ne0
returns c =
    let w = c in
    let s = c in (
      λ fits.
          let h = walked c.before.before.before.before.before.before.before.before.before fits in
          rw c.no_model.ensures (refused-so (at c.before.before.before.before.before.before.before.before.before) _ h.full h.few h.is w.write_answer-text.ensures c.if-text-ne0.true),
      rw c.no_model.ensures (omega arith, refl),
    )

returns-2 : tie.Need-returns
unfolding all_done
returns-2 c =
    let w = c in
    let g = c in
    let s = c in
    let m = c in (
      λ fits.
          let h = walked c.before.before.before.before.before.before.before.before fits in
          written-so (at c.before.before.before.before.before.before.before.before) _ h.full h.few h.is w.write_answer-text.ensures c.if-text-ne0.false _ _ _ h.size (m.model_steps-steps.ensures.1 fits).1 g.ending_of-ending.ensures,
      counted _ _ (penned-within w.write_answer-text.ensures),
    )

pub write_model_spec : {M : Type 1} → statement M
write_model_spec =
    tie.close
    (tie.spec
    (λ c κs. search rules) (λ c κs. search rules) (λ c κs. search rules) (λ c κs. search rules) (λ c κs. search rules) (λ c. search rules) returns
    (λ c. search rules) returns-2)
