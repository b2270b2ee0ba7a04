-- The board's demands 2 and 3 on the texts themselves: for every paper, a sheet with or without a start, and every answer that are read without fault.
use Rattle.std.specs.Prelude.{◌≡◌, List, [], ◌∷◌, ◌++◌, ℕ, take}
use Rattle.model.specs.declared.Tables.{Tables}
use Rattle.model.specs.declared.Program.{Program}
use Rattle.model.specs.declared.Step.{Step}
use Rattle.model.specs.declared.Walked.{Walked}
use Rattle.model.specs.declared.Configuration.{Configuration}
use Rattle.model.specs.Empty.{no_tables, no_program, start}
use Rattle.model.specs.View.{steps_of, queue_of}
use Rattle.read_spec.specs.Lines.{on, stop}
use Rattle.read_spec.specs.Texts.{sheet, answer}
use Rattle.rules_spec.specs.Action.{Action}
use Rattle.rules_spec.specs.Walk.{walk}
use Rattle.start_spec.specs.Paper.{Paper}
use Rattle.judge_spec.specs.Course.{faulty, reached, outset, course, default_depth}
use Rattle.judge_spec.specs.declared.Verdict.{Verdict}
use Rattle.judge_spec.specs.Judged.{judged, printed, lent_bytes}
use Rattle.write_spec.specs.Texts.{answer_text, of_steps}
use Rattle.demands.specs.Safe.{Safe}
use Rattle.demands.specs.Queues.{Story, begun, story}
use Rattle.demands.specs.Exchange.{Exchangeable}
use Rattle.demands.specs.Agree.{projection}

-- the tables and the program of a sheet, the steps of an answer, where they are read
unfoldable pub sheet_tables : Paper → Tables
sheet_tables s = elim (sheet s.sheet) [ on x r ↦ x.0 | stop n r ↦ no_tables ]

unfoldable pub own_program : Paper → Program
own_program s = elim (sheet s.sheet) [ on x r ↦ x.1 | stop n r ↦ no_program ]

-- where a paper begins: its program, with what had been pushed before the first instruction, and its configuration
unfoldable pub outset_of : Paper → Program × Configuration
outset_of s = elim (outset default_depth (sheet_tables s) (own_program s) s.beginning) [ reached x ↦ x | faulty x n at ↦ (own_program s, start) ]

unfoldable pub sheet_program : Paper → Program
sheet_program s = (outset_of s).0

unfoldable pub begin_of : Paper → Configuration
begin_of s = (outset_of s).1

unfoldable pub answer_steps : List ℕ → List Step
answer_steps a = elim (answer a) [ on y r ↦ steps_of y | stop n r ↦ [] ]

-- all texts are read without fault
abbrev pub AllRead : Paper → List ℕ → Type 0
AllRead s a = (w : Walked) × (course s a ≡ reached w)

-- the judge's verdict, where the report has room
abbrev pub verdict_on : Paper → List ℕ → Verdict
verdict_on s a = (judged s a lent_bytes).verdict

-- all steps of the answer are allowed
abbrev pub AllAllowed : Paper → List ℕ → Type 0
AllAllowed s a = (verdict_on s a).refused ≡ 0

-- on the paper s: the walk of some steps, and what component i was pushed and has finished in it
abbrev pub walk_on : Paper → List Step → Walked
walk_on s ss = walk default_depth (sheet_tables s) (sheet_program s) (begin_of s) ss

abbrev pub story_on : Paper → ℕ → List Step → Story ℕ
story_on s i ss = story default_depth (sheet_tables s) (sheet_program s) i (begin_of s) ss (begun (sheet_program s) (begin_of s) i)

-- the first n steps of the answer; their walk ends at the n-th accepted point, or at the last one
abbrev pub up_to : ℕ → List ℕ → List Step
up_to n a = take n (answer_steps a)

-- the moves of component i and the instructions carried out that name it, in order
abbrev pub projection_on : Paper → List ℕ → ℕ → List Action
projection_on s a i = projection (sheet_program s) i (answer_steps a)

-- what the judge comes to is the walk of all steps of the answer
unfoldable pub ReachedIsTheWalk : Type 0
ReachedIsTheWalk = (s : Paper) (a : List ℕ) (w : Walked) → course s a ≡ reached w → w ≡ walk_on s (answer_steps a)

-- "At each accepted point an active use port is connected to an active provide port"
unfoldable pub SafeOnTexts : Type 0
SafeOnTexts = (s : Paper) (a : List ℕ) (n : ℕ) → AllRead s a → Safe (sheet_tables s) (walk_on s (up_to n a)).configuration

-- "the behaviors a component has finished since it was added, followed by those still queued, are those pushed to it since then, in that
-- order"
unfoldable pub QueuesOnTexts : Type 0
QueuesOnTexts =
    (s : Paper) (a : List ℕ) (n i : ℕ)
    → AllRead s a
    → (story_on s i (up_to n a)).finished ++ queue_of (walk_on s (up_to n a)).configuration i ≡ (story_on s i (up_to n a)).pushed

-- what two answers to the paper s print is equal byte for byte, and so is every field of the verdict, what is written and the place handed
-- back, whatever the room
pub record SameReports (s : Paper) (a b : List ℕ) : Type 0 where
  pub printed-alike : printed s a ≡ printed s b
  pub verdicts-alike : (room : ℕ) → (judged s a room).verdict ≡ (judged s b room).verdict
  pub bytes-alike : (room : ℕ) → (judged s a room).bytes ≡ (judged s b room).bytes
  pub places-alike : (room : ℕ) → (judged s a room).place ≡ (judged s b room).place

-- "If, for each component number, the moves of that component and the program instructions naming it are the same and come in the same
-- order in both answers, the two reports are equal byte for byte"
unfoldable pub ReportsAgreeOnTexts : Type 0
ReportsAgreeOnTexts =
    (s : Paper) (a b : List ℕ)
    → AllAllowed s a
    → AllAllowed s b
    → ((i : ℕ) → projection_on s a i ≡ projection_on s b i)
    → SameReports s a b

-- two neighbouring steps m and n of the answer a are "two neighbouring moves, of two components with no connection between them at that point"
pub record Exchanged (s : Paper) (a : List ℕ) : Type 0 where
  pub before : List Step
  pub m : Step
  pub n : Step
  pub after : List Step
  pub these : answer_steps a ≡ before ++ m ∷ n ∷ after
  pub exchangeable : Exchangeable default_depth (sheet_tables s) (sheet_program s) (begin_of s) before m n

-- the steps with those two exchanged, and the one text that says them
abbrev pub exchanged_steps : {s : Paper} {a : List ℕ} → Exchanged s a → List Step
exchanged_steps x = x.before ++ x.n ∷ x.m ∷ x.after

abbrev pub exchanged_text : {s : Paper} {a : List ℕ} → Exchanged s a → List ℕ
exchanged_text x = answer_text (of_steps (exchanged_steps x))

-- "leaves such an answer allowed throughout": the exchanged text is read as the exchanged steps, all are allowed, and the reports are the same
unfoldable pub MovesExchangeOnTexts : Type 0
MovesExchangeOnTexts =
    (s : Paper) (a : List ℕ) (x : Exchanged s a)
    → AllAllowed s a
    → (answer_steps (exchanged_text x) ≡ exchanged_steps x) × AllAllowed s (exchanged_text x) × SameReports s a (exchanged_text x)
