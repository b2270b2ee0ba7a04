-- The model's text beside its paper: it is read as the model's steps, and the judge's walk is the model walk.
-- Assumes nothing.
use mathlib.Core.Path.{◌≡◌, refl, ap, ◌∙◌}
use mathlib.Core.Logic.{◌≢◌}
use mathlib.Core.Bool.{true}
use mathlib.Core.List.{List, [], ◌∷◌, ◌++◌}
use Prim.Native.Nat.{ℕ, suc}
use native.Mathlib.Omega.{arith}
use lib.ListN.{length}
use borrow.Author.Tests.{le-leb}
use Rattle.model.specs.declared.Tables.{Tables}
use Rattle.model.specs.declared.Program.{Program}
use Rattle.model.specs.declared.Step.{Step}
use Rattle.model.specs.declared.Configuration.{Configuration}
use Rattle.start_spec.specs.Paper.{Paper}
use Rattle.read_spec.specs.Limits.{length_ok}
use Rattle.read_spec.specs.Lawful.{step_lawful, answer_lawful}
use Rattle.sets.specs.Test.{all_below}
use Rattle.rules_spec.specs.Step.{step_check, step_to}
use Rattle.rules_spec.specs.Walk.{one_more, walk, walk_from}
use Rattle.rules_spec.proofs.Walks.{walk-cases, walk-on, allowed-head, allowed-tail}
use Rattle.report_spec.specs.Report.{report}
use Rattle.judge_spec.specs.Course.{reached, read, default_depth, paper_course, course}
use Rattle.judge_spec.specs.Judged.{walk_verdict}
use Rattle.judge_spec.specs.declared.Verdict.{Verdict}
use Rattle.judge_spec.proofs.Alone.{paper-read, beside-answer}
use Rattle.write_spec.specs.Texts.{answer_fault, of_steps}
use Rattle.write_spec.specs.Kinds.{step_fault}
use Rattle.write_spec.specs.Round.{AnswersAreShort}
use Rattle.write_spec.specs.Steps.{SaidStep, Every, SaidSteps, StepsHaveTheirText, AnswersAreTheirTexts}
use Rattle.write_spec.specs.Texts.{step_row}
use Rattle.write_spec.proofs.Turns.{first-none}
use Rattle.write_spec.proofs.Answer.{answers-are-short, answer-lawful}
use Rattle.write_spec.proofs.Steps.{every-at, steps-have-their-text}
use Rattle.demands.specs.OnTexts.{answer_steps, verdict_on, walk_on, ReachedIsTheWalk}
use Rattle.demands.proofs.OnTexts.{tables-are, program-is, begin-is, reached-is-the-walk, read_goes, verdict-is}
use Rattle.model_walk_spec.specs.Claims.{AllAreAllowed, EndsWhereNoneIsAllowed, StepsAreSaid}
use Rattle.model_walk_spec.specs.OnTexts.{Said, model_of, model_text, JudgeAllowsIt, NoAnswerGoesOn, ModelsAreShort}
use Rattle.model_walk_spec.proofs.Order.{every-right}
use Rattle.model_walk_spec.proofs.Claims.{all-are-allowed, ends-where-none-is-allowed, steps-are-said}

said : (x : Said) → SaidSteps (model_of x)
unfolding StepsAreSaid
said (t, p, c) = steps-are-said default_depth t p c

-- ---- steps that lines say have no fault, and are lawful
fault-none : (xs : List Step) → SaidSteps xs → answer_fault (of_steps xs) ≡ 0
unfolding answer_fault
fault-none xs s =
    rw (le-leb (length xs) 1024 s.few) (first-none (λ j. step_fault (step_row (of_steps xs) j)) (length xs) (λ j h. (every-at SaidStep xs s.every j h).0))

said-lawful : (m : Step) → SaidStep m → step_lawful m ≡ true
unfolding answer_lawful all_below Every
said-lawful m e = answer-lawful (of_steps (m ∷ [])) (fault-none (m ∷ []) (record { few = omega arith; every = (e, tt) }))

pub models-are-short : ModelsAreShort
unfolding ModelsAreShort model_text AnswersAreShort
models-are-short x = answers-are-short (of_steps (model_of x)) (fault-none (model_of x) (said x))

-- ---- the model's text beside its paper
reads_so : (s : Paper) (x : Said) → paper_course s ≡ reached x → course s (model_text x) ≡ reached (walk default_depth x.0 x.1 x.2 (model_of x))
unfolding course read walk_from StepsHaveTheirText ModelsAreShort model_text
reads_so s x e =
    let (y, is, steps) = steps-have-their-text (model_of x) (said x) in
    let l : length_ok (length (model_text x)) ≡ true = le-leb (length (model_text x)) 32768 (omega (arith, models-are-short x)) in
    rw (course, beside-answer s (model_text x) l, e, read, is, steps) refl

pub judge-allows-it : JudgeAllowsIt
unfolding JudgeAllowsIt AllAreAllowed StepsHaveTheirText answer_steps model_text
judge-allows-it s (t, p, c) e =
    let x : Said = (t, p, c) in
    let (y, is, steps) = steps-have-their-text (model_of x) (said x) in
    let v = verdict-is s (model_text x) _ (reads_so s x e) in
    let (none, all) = all-are-allowed default_depth t p c in
    record {
      says = rw (is, answer_steps) steps;
      refused = ap (λ (v : Verdict). v.refused) v ∙ none;
      accepted = ap (λ (v : Verdict). v.accepted) v ∙ all;
    }

-- ---- what goes on from a walk that is allowed to where a step is refused
module _ (default : ℕ) (t : Tables) (p : Program) (m : Step) (more : List Step) where
  pub goes_on : (xs : List Step) (c : Configuration) → (walk default t p c xs).refused ≡ 0 → step_check default t p (walk default t p c xs).configuration m ≢ 0
      → ((walk default t p c (xs ++ m ∷ more)).accepted ≡ length xs) × ((walk default t p c (xs ++ m ∷ more)).refused ≢ 0)
  unfolding walk one_more
  goes_on [] c e n = walk-cases default t p (λ w. (w.accepted ≡ 0) × (w.refused ≢ 0)) c m more (λ z. absurd (n z)) (λ z. (refl, z))
  goes_on (s ∷ xs) c e n =
      let h = allowed-head default t p c s xs e in
      let q = walk-on default t p c s xs h in
      let (a, b) = goes_on xs (step_to t p c s) (allowed-tail default t p c s xs e) (rw q at n) in
      rw (walk-on default t p c s (xs ++ m ∷ more) h) (ap suc a, b)

-- walks on the paper are walks of what it says
walks-so : (s : Paper) (x : Said) → paper_course s ≡ reached x → (ss : List Step) → walk_on s ss ≡ walk default_depth x.0 x.1 x.2 ss
walks-so s x e ss =
    let k = paper-read s x e in
    rw (tables-are s k.sheet-is k.begun, program-is s k.sheet-is k.begun, begin-is s k.sheet-is k.begun) refl

pub no-answer-goes-on : NoAnswerGoesOn
unfolding NoAnswerGoesOn EndsWhereNoneIsAllowed AllAreAllowed ReachedIsTheWalk AnswersAreTheirTexts Every
no-answer-goes-on s a (t, p, c) m more e l (w, r) is =
    let x : Said = (t, p, c) in
    let g = read_goes s a (w, r) in
    let q : walk_on s (answer_steps a) ≡ walk default_depth t p c (model_of x ++ m ∷ more) = walks-so s x e (answer_steps a) ∙ ap (walk default_depth t p c) is in
    let every : Every SaidStep (model_of x ++ m ∷ more) = rw is at g.said.every in
    let n = ends-where-none-is-allowed default_depth t p c m l (said-lawful m (every-right SaidStep (model_of x) (m ∷ more) every).0) in
    let (count, refused) = goes_on default_depth t p m more (model_of x) c (all-are-allowed default_depth t p c).0 n in
    let v : verdict_on s a ≡ walk_verdict w (length (report w)) = verdict-is s a w r in
    let y : w ≡ walk default_depth t p c (model_of x ++ m ∷ more) = reached-is-the-walk s a w r ∙ q in
    rw (v, y) (count, refused)
