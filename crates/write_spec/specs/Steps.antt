-- A list of steps as an answer: which lists an answer can say, and that each has its text.
use Rattle.std.specs.Prelude.{ℕ, ◌≤◌, List, [], ◌∷◌, ◌≡◌, length}
use Rattle.model.specs.declared.Step.{Step}
use Rattle.model.specs.declared.Answer.{Answer}
use Rattle.model.specs.View.{steps_of}
use Rattle.read_spec.specs.Lines.{on}
use Rattle.read_spec.specs.Texts.{answer}
use Rattle.write_spec.specs.Kinds.{step_fault}
use Rattle.write_spec.specs.Texts.{answer_text, of_steps}
use Rattle.write_spec.specs.Cleared.{spoken_step}

-- a line says the step: it is not refused, and the step has 0 where its line has no number
abbrev pub SaidStep : Step → Type 0
SaidStep x = (step_fault x ≡ 0) × (spoken_step x ≡ x)

unfoldable pub Every : (Step → Type 0) → List Step → Type 0
Every P [] = Unit {0}
Every P (x ∷ xs) = P x × Every P xs

-- lines say them all, and they are few enough
pub record SaidSteps (xs : List Step) : Type 0 where
  pub few : length xs ≤ 1024
  pub every : Every SaidStep xs

-- what an answer that is read has; and whatever has that has its text, which is read as just those steps
unfoldable pub StepsHaveTheirText : Type 0
StepsHaveTheirText = (xs : List Step) → SaidSteps xs → (a : Answer) × (answer (answer_text (of_steps xs)) ≡ on a []) × (steps_of a ≡ xs)

unfoldable pub AnswersAreTheirTexts : Type 0
AnswersAreTheirTexts = (s r : List ℕ) (a : Answer) → answer s ≡ on a r → SaidSteps (steps_of a) × (s ≡ answer_text (of_steps (steps_of a)))
