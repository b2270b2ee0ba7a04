-- The same of the texts themselves: of a paper that is read, a sheet with or without a start, and of the text of its model walk, which is an answer to it.
use Rattle.std.specs.Prelude.{◌≡◌, ◌≢◌, List, ◌∷◌, ◌++◌, ℕ, ◌<◌, ◌≤◌, length}
use Rattle.model.specs.declared.Tables.{Tables}
use Rattle.model.specs.declared.Program.{Program}
use Rattle.model.specs.declared.Configuration.{Configuration}
use Rattle.model.specs.declared.Step.{Step}
use Rattle.start_spec.specs.Paper.{Paper}
use Rattle.judge_spec.specs.Course.{reached, default_depth, paper_course}
use Rattle.write_spec.specs.Texts.{answer_text, of_steps}
use Rattle.demands.specs.OnTexts.{answer_steps, AllRead, verdict_on}
use Rattle.model_walk_spec.specs.declared.Ending.{Ending}
use Rattle.model_walk_spec.specs.Walk.{model_steps, model_ending}

-- what a paper says: its tables, its program, and where it begins
abbrev pub Said : Type 0
Said = Tables × Program × Configuration

-- the model walk of it
abbrev pub model_of : Said → List Step
model_of (t, p, c) = model_steps default_depth t p c

unfoldable pub model_text : Said → List ℕ
model_text x = answer_text (of_steps (model_of x))

abbrev pub ending_of : Said → Ending
ending_of (t, p, c) = model_ending default_depth t p c

-- "Prove that the judge allows all of it": given the model's text the judge refuses nothing and accepts every step
pub record Allows (s : Paper) (x : Said) : Type 0 where
  pub says : answer_steps (model_text x) ≡ model_of x
  pub refused : (verdict_on s (model_text x)).refused ≡ 0
  pub accepted : (verdict_on s (model_text x)).accepted ≡ length (model_of x)

unfoldable pub JudgeAllowsIt : Type 0
JudgeAllowsIt = (s : Paper) (x : Said) → paper_course s ≡ reached x → Allows s x

-- "a walk shorter than 1,024 ended only where no step at all is allowed": every answer that goes on from it is refused at that very step
unfoldable pub NoAnswerGoesOn : Type 0
NoAnswerGoesOn =
    (s : Paper) (a : List ℕ) (x : Said) (m : Step) (more : List Step)
    → paper_course s ≡ reached x
    → length (model_of x) < 1024
    → AllRead s a
    → answer_steps a ≡ model_of x ++ m ∷ more
    → ((verdict_on s a).accepted ≡ length (model_of x)) × ((verdict_on s a).refused ≢ 0)

-- 1 never comes: a text has at most 17,428 bytes
unfoldable pub ModelsAreShort : Type 0
ModelsAreShort = (x : Said) → length (model_text x) ≤ 17428
