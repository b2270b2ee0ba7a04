-- No other outcome fits what a model walk promises, and 6 never comes where the longest answer has room.
-- Assumes nothing.
use mathlib.Core.Path.{◌≡◌, refl, sym, ◌∙◌}
use mathlib.Core.Logic.{⊎_elim}
use Prim.Native.Nat.{ℕ}
use native.Mathlib.Omega.{arith}
use lib.ListN.{length}
use borrow.Author.Tests.{le-leb}
use Rattle.judge_spec.specs.Course.{Course, faulty, reached, paper_course}
use Rattle.judge_spec.proofs.Alone.{paper-numbered}
use Rattle.model_walk_spec.specs.OnTexts.{Said, model_text, ModelsAreShort}
use Rattle.model_walk_spec.proofs.OnTexts.{models-are-short}
use Rattle.model_walk_lib.specs.Models.{model_in, answering, NoOtherModel, SixNever}

pub model-once : NoOtherModel
unfolding NoOtherModel
model-once s old r q b c x y = (x.answer-is ∙ sym y.answer-is, x.buffer-is ∙ sym y.buffer-is)

pub six-never : SixNever
unfolding SixNever ModelsAreShort model_in
six-never s room h = go (paper_course s) refl
  where
    go : (z : Course Said) → paper_course s ≡ z → (answering s room z).refused ≡ 6 → ⊥
    go (faulty x n at) q e = ⊎_elim (λ l. omega (arith, l.1, e)) (λ l. omega (arith, l, e)) (paper-numbered s x n at q).range
    go (reached x) q e =
        let z : ◌≡◌ {A = ℕ} 0 6 = rw (le-leb (length (model_text x)) room (omega (arith, models-are-short x, h)), model_in) at e in omega (arith, z)
