-- The words of an answer that hold the model's steps, written as its text.
-- Assumes nothing.
use mathlib.Core.Path.{◌≡◌, refl, sym, ap, ◌∙◌}
use mathlib.Core.Logic.{◌≢◌}
use mathlib.Core.Bool.{true, false}
use mathlib.Core.List.{List, []}
use Prim.Native.Nat.{ℕ, ◌≤◌, ◌<◌}
use native.Mathlib.Omega.{arith}
use lib.Dec.{leb}
use lib.ListN.{length, take, get_or}
use lib.Seq.{length-take-le, get_or-take}
use borrow.Author.Tests.{le-leb}
use Rattle.item_spec.proofs.Tests.{by-test}
use Rattle.io.specs.Counts.{IsPrefixLen}
use Rattle.model.specs.declared.Text.TheVariants as text
use Rattle.model.specs.declared.Step.{Step}
use Rattle.model.specs.declared.Answer.{Answer}
use Rattle.model.specs.declared.Configuration.{Configuration}
use Rattle.model.specs.Empty.{no_step}
use Rattle.model.specs.View.{steps_of}
use Rattle.read_spec.specs.Limits.{length_ok}
use Rattle.judge_spec.specs.Course.{default_depth}
use Rattle.judge_spec.specs.Judged.{over}
use Rattle.write_spec.specs.Kinds.{step_fault}
use Rattle.write_spec.specs.Texts.{step_row, answer_text, answer_fault, of_steps}
use Rattle.write_spec.specs.Buffer.{write_number, penned, Penned}
use Rattle.write_spec.specs.Steps.{SaidStep, SaidSteps}
use Rattle.write_spec.proofs.Turns.{first-none}
use Rattle.write_spec.proofs.Steps.{every-at, listed}
use Rattle.words.specs.Parts.{with_steps}
use Rattle.model_walk_spec.specs.declared.Ending.{Ending}
use Rattle.model_walk_spec.specs.Walk.{model_reached, ending, model_ending}
use Rattle.model_walk_spec.specs.Claims.{StepsAreSaid}
use Rattle.model_walk_spec.specs.OnTexts.{Said, model_of, model_text, ModelsAreShort}
use Rattle.model_walk_spec.proofs.Claims.{steps-are-said}
use Rattle.model_walk_spec.proofs.OnTexts.{models-are-short}
use Rattle.model_walk_lib.specs.declared.Modelled.{Modelled}
use Rattle.model_walk_lib.specs.Models.{no_model, model_in, bytes_in}

module _ (x : Said) (a : Answer) (full : length a.steps ≡ 1024) (few : a.count ≤ 1024) (is : steps_of a ≡ model_of x) where
  pub count-is : a.count ≡ length (model_of x)
  count-is = sym (length-take-le a.count a.steps (omega arith)) ∙ ap length is

  text-so : answer_text a ≡ model_text x
  unfolding model_text
  text-so = listed a (omega arith) ∙ ap (λ (ss : List Step). answer_text (of_steps ss)) is

  said : SaidSteps (model_of x)
  unfolding StepsAreSaid
  said = steps-are-said default_depth x.0 x.1 x.2

  none-at : (j : ℕ) → j < a.count → step_fault (step_row a j) ≡ 0
  none-at j h =
      let e : step_row a j ≡ get_or (model_of x) j no_step = sym (get_or-take a.count a.steps j no_step h) ∙ ap (λ (ss : List Step). get_or ss j no_step) is in
      rw e (every-at SaidStep (model_of x) said.every j (omega (arith, count-is))).0

  fault-so : answer_fault a ≡ 0
  unfolding answer_fault
  fault-so = rw (le-leb a.count 1024 few) (first-none (λ j. step_fault (step_row a j)) a.count none-at)

  -- 6 or nothing
  abbrev room : List ℕ → ℕ
  room old = length old

  module _ {old new : List ℕ} {n w : ℕ} (k : Penned (answer_fault a) (answer_text a) old new n w) where
    -- with the fault and the text written out
    number-so : n ≡ write_number 0 (model_text x) (length old)
    number-so = rw (← fault-so, ← text-so) k.refused-is

    short : length_ok (length (model_text x)) ≡ true
    unfolding ModelsAreShort
    short = le-leb (length (model_text x)) 32768 (omega (arith, models-are-short x))

    fits-so : leb (length (model_text x)) (length old) ≡ true → (n ≡ 0) × (w ≡ length (model_text x)) × (new ≡ over (model_text x) old)
    unfolding write_number penned over
    fits-so e =
        let zero : write_number 0 (model_text x) (length old) ≡ 0 = rw (short, e) in
        let size : w ≡ length (model_text x) = k.written_is ∙ rw (fault-so, text-so, zero) refl in
        (number-so ∙ zero, size, k.new_is ∙ rw (fault-so, text-so, zero, size) refl)

    short-so : leb (length (model_text x)) (length old) ≡ false → (n ≡ 6) × (w ≡ 0) × (new ≡ over [] old)
    unfolding write_number penned over
    short-so e =
        let six : write_number 0 (model_text x) (length old) ≡ 6 = rw (short, e) in
        let size : w ≡ 0 = k.written_is ∙ rw (fault-so, text-so, six) refl in
        (number-so ∙ six, size, k.new_is ∙ rw (fault-so, text-so, six, size) refl)

    pub refused-so : n ≢ 0 → (no_model n text.Neither 0 ≡ model_in (length old) x) × (new ≡ over (bytes_in (length old) x) old)
    unfolding model_in bytes_in
    refused-so z =
        by-test (leb (length (model_text x)) (length old)) (λ e. absurd (z (fits-so e).0))
        (λ e. let (six, _, same) = short-so e in (rw (e, model_in, six), rw (e, bytes_in) same))

    pub written-so : n ≡ 0 → (s : ℕ) (d : Configuration) (y : Ending) → s ≡ a.count → d ≡ model_reached default_depth x.0 x.1 x.2 → y ≡ ending x.1 s d
        → (◌≡◌ {A = Modelled} (record { refused = 0; text = text.Neither; line = 0; ending = y; steps = s; written = w }) (model_in (length old) x)) × (new ≡ over (bytes_in (length old) x) old)
    unfolding model_in bytes_in model_ending
    written-so z s d y size reached ends =
        by-test (leb (length (model_text x)) (length old))
        (λ e.
        let (_, long, same) = fits-so e in
        let all : s ≡ length (model_of x) = size ∙ count-is in
        (rw (e, model_in, ends, reached, all, long), rw (e, bytes_in) same))
        (λ e. absurd (omega (arith, z, (short-so e).0)))

-- so many steps of an answer
pub record Holds (x : Said) (a : Answer) (n : ℕ) : Type 0 where
  pub full : length a.steps ≡ 1024
  pub few : a.count ≤ 1024
  pub is : steps_of a ≡ model_of x
  pub size : n ≡ a.count

pub held-so : (x : Said) (a b : Answer) (n : ℕ) → a ≡ with_steps b n → length b.steps ≡ 1024 → n ≤ 1024 → take n b.steps ≡ model_of x → Holds x a n
held-so x a b n e full few is = rw e (record { full = full; few = few; is = is; size = refl })

pub counted : (n : ℕ) (new : List ℕ) → n ≤ length new → IsPrefixLen n new
counted n new h = (h, sym (length-take-le n new h))
