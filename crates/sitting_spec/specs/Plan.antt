-- The block of a plan on the Aeolus paper. Such a paper has no program to carry out, so that nothing refused is `allowed`, not done.
use Rattle.std.specs.Prelude.{ℕ, Bool, true, false, ◌||◌, not, cond, List, ◌++◌, eqb}
use Rattle.item_spec.specs.Refusal.{too_long}
use Rattle.item_spec.specs.Reader.{bytes}
use Rattle.model.specs.declared.Text.{Text}
use Rattle.model.specs.declared.Text.TheVariants as text
use Rattle.judge_spec.specs.Judged.{lent_bytes}
use Rattle.aeolus_rules_spec.specs.Refusal.{unmet_at_the_end}
use Rattle.aeolus_judge_spec.specs.Judged.{Judgement, judged, printed}
use Rattle.sitting_spec.specs.End.{told_text, asked_text}

-- nothing is refused, or a step is; the plan's text is; the sheet is
abbrev pub plan_text : Text → ℕ → List ℕ
plan_text text.Neither n = cond (eqb n 0) (bytes "allowed") (bytes "refused")
plan_text text.Sheet n = bytes "paper"
plan_text text.Answer n = bytes "fault"
plan_text text.Times n = bytes "paper"
plan_text text.Start n = bytes "paper"

-- a line of the plan is at fault: no one line is after 1, nor after 70, which is of the last configuration
abbrev pub plan_at_fault : Text → ℕ → Bool
plan_at_fault text.Neither n = not (eqb n 0 || eqb n unmet_at_the_end)
plan_at_fault text.Sheet n = false
plan_at_fault text.Answer n = not (eqb n too_long)
plan_at_fault text.Times n = false
plan_at_fault text.Start n = false

-- of what the judge says; no instruction is asked for
abbrev pub plan_end_with : List ℕ → Judgement → List ℕ
plan_end_with a j =
    told_text (plan_text j.verdict.text j.verdict.refused) (plan_at_fault j.verdict.text j.verdict.refused) j.place a ++ bytes "\ninstruction=-\n"

-- the seven lines
unfoldable pub plan_end : List ℕ → List ℕ → List ℕ
plan_end s a = plan_end_with a (judged s a lent_bytes)

unfoldable pub plan_block : List ℕ → List ℕ → List ℕ
plan_block s a = printed s a ++ plan_end s a

-- a plan of no steps: what is refused beside it is the paper's own
unfoldable pub empty_plan : List ℕ
empty_plan = bytes "plan=1\nsteps=0\n"
