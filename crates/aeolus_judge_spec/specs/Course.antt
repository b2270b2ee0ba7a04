-- How far the two texts come: "length of the sheet, of the answer, then the sheet's lines, the answer's lines, the actions, the weak demands".
use Rattle.std.specs.Prelude.{List, ℕ}
use Rattle.model.specs.declared.Text.TheVariants as text
use Rattle.aeolus_model.specs.Model.{Universe, nothing}
use Rattle.aeolus_model.specs.Action.{Plan, actions_of}
use Rattle.aeolus_read_spec.specs.Texts.{sheet, plan}
use Rattle.aeolus_rules_spec.specs.Run.{Ran, run}
use Rattle.judge_spec.specs.Course.{Course, reached, ◌>>=◌, ◌>>◌, short, read}

-- what the two texts say, where both are read; the answer is read with the sheet's number of types
unfoldable pub both : List ℕ → List ℕ → Course (Universe × Plan)
both s a = do
  short text.Sheet s
  short text.Answer a
  u ← read text.Sheet sheet s
  p ← read text.Answer (plan u.count) a
  reached (u, p)

-- the run of the plan, and the universe that its report is told with
unfoldable pub course : List ℕ → List ℕ → Course (Universe × Ran)
course s a = do
  (u, p) ← both s a
  reached (u, run u nothing (actions_of p))
