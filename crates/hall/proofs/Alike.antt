-- What the readers give is lawful to the screen, and stepping it through an answer from the empty start is the walk.
-- Assumes nothing.
use mathlib.Core.Path.{◌≡◌, refl, ap, ◌∙◌}
use mathlib.Core.Logic.{by_cases}
use mathlib.Core.Bool.{true}
use mathlib.Core.List.{List, [], ◌∷◌}
use Prim.Native.Nat.{ℕ, suc, ◌<◌}
use native.Mathlib.Decide.{ℕ_discrete}
use native.Mathlib.Omega.{arith}
use lib.ListN.{get_or, length, length-take}
use lib.Seq.{get_or-take}
use borrow.Author.Tests.{eq-eqb, ne_eqb}
use Rattle.item_spec.proofs.Tests.{and_right}
use Rattle.sets.proofs.Laws.{all-at}
use Rattle.model.specs.declared.Tables.{Tables}
use Rattle.model.specs.declared.Program.{Program}
use Rattle.model.specs.declared.Step.{Step}
use Rattle.model.specs.declared.Answer.{Answer}
use Rattle.model.specs.declared.Configuration.{Configuration}
use Rattle.model.specs.Empty.{no_step, start}
use Rattle.model.specs.View.{steps_of}
use Rattle.read_spec.specs.Limits.{steps_ok}
use Rattle.read_spec.specs.Lawful.{Lawful, step_lawful, answer_lawful, SheetsAreLawful, AnswersAreLawful}
use Rattle.read_spec.proofs.Lawful.{sheets-are-lawful, answers-are-lawful}
use Rattle.rules_spec.specs.Step.{step_check, step_to, step}
use Rattle.rules_spec.specs.Walk.{one_more, walk_by, walk, walk_answer}
use Rattle.rules_spec.specs.Proper.{Proper}
use Rattle.rules_spec.proofs.Walks.{step-on, step-stop}
use Rattle.rules_spec.proofs.Tables.{facts}
use Rattle.rules_spec.proofs.Proper.{start-proper, step-proper}
use Rattle.judge_spec.specs.Course.{default_depth}
use Rattle.hall.specs.Screen.{lent_lawful, hall_step}
use Rattle.hall.specs.Agree.{hall_walk, ProperIsLawful, SheetsBreakNone, HallWalksAlike}
use Rattle.hall.proofs.Proper.{proper-is-lawful}

pub sheets-break-none : SheetsBreakNone
unfolding SheetsBreakNone SheetsAreLawful Lawful lent_lawful
sheets-break-none x r t p c s e one = let law = sheets-are-lawful x r t p e in rw (law.0, law.1, eq-eqb p.edition 1 one)

-- each step of the list is one that an answer line can say
abbrev Steps : List Step → Type 0
Steps ss = (j : ℕ) → j < length ss → step_lawful (get_or ss j no_step) ≡ true

steps-lawful : (a : Answer) → answer_lawful a ≡ true → Steps (steps_of a)
unfolding answer_lawful
steps-lawful a e j l =
    let b : j < a.count = omega (arith, length-take a.count a.steps) in
    ap step_lawful (get_or-take a.count a.steps j no_step b) ∙ all-at a.count _ (and_right (steps_ok a.count) _ e) j b

module _ (t : Tables) (p : Program) (law : Lawful t p) (one : p.edition ≡ 1) where
  -- a lawful step at a point of a walk gets the rules' answer
  ruled : (c : Configuration) (s : Step) → Proper default_depth t p c → step_lawful s ≡ true → hall_step t p c s ≡ step default_depth t p c s
  unfolding ProperIsLawful Lawful hall_step lent_lawful
  ruled c s h e = rw (law.0, law.1, eq-eqb p.edition 1 one, e, proper-is-lawful t p c one h)

  alike : (ss : List Step) (c : Configuration) → Proper default_depth t p c → Steps ss → hall_walk t p c ss ≡ walk default_depth t p c ss
  unfolding hall_walk walk
  alike [] c h f = refl
  alike (s ∷ ss) c h f =
      let rest : Steps ss = λ j l. f (suc j) (omega arith) in
      let first = ruled c s h (f 0 (omega arith)) in
      by_cases (ℕ_discrete (step_check default_depth t p c s) 0)
      (λ e.
      let same = first ∙ step-on default_depth t p c s e in
      rw (walk_by, same, step-on default_depth t p c s e, same, step-on default_depth t p c s e)
      (ap one_more (alike ss (step_to t p c s) (step-proper default_depth t p (facts default_depth t p (omega arith) law) c s h e) rest)))
      (λ n.
      let same = first ∙ step-stop default_depth t p c s n in
      rw (walk_by, same, step-stop default_depth t p c s n, ne_eqb (step_check default_depth t p c s) 0 n, same, step-stop default_depth t p c s n))

pub hall-walks-alike : HallWalksAlike
unfolding HallWalksAlike SheetsAreLawful AnswersAreLawful walk_answer
hall-walks-alike x r y q t p a e f one =
    alike t p (sheets-are-lawful x r t p e) one (steps_of a) start (start-proper default_depth t p) (steps-lawful a (answers-are-lawful y q a f))
