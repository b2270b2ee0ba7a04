-- "Four shams are tried against the promises: a judge that refuses all, one that answers with one fixed report, one that walks the first
-- step and then only counts, one that invents the accepted count." No such judge keeps the promise: for each, a paper and an answer that catch it.
use Rattle.std.specs.Prelude.{ℕ, suc, List, [], ◌∷◌, true, false, ◌≡◌, ◌≢◌, eqb, length}
use Rattle.model.specs.declared.Tables.{Tables}
use Rattle.model.specs.declared.Program.{Program}
use Rattle.model.specs.declared.Step.{Step}
use Rattle.model.specs.declared.Walked.{Walked}
use Rattle.model.specs.declared.Concerned.TheVariants.{NoPort}
use Rattle.model.specs.declared.Configuration.{Configuration}
use Rattle.model.specs.View.{steps_of}
use Rattle.read_spec.specs.Lines.{on, stop}
use Rattle.read_spec.specs.Texts.{answer}
use Rattle.rules_spec.specs.Step.{step}
use Rattle.start_spec.specs.Paper.{Paper}
use Rattle.judge_spec.specs.declared.Verdict.{Verdict}
use Rattle.judge_spec.specs.declared.Place.{Place}
use Rattle.judge_spec.specs.Course.{Course, reached, all_under, default_depth, ◌>>=◌}
use Rattle.judge_spec.specs.Judged.{Judgement, judged, ending, over, printed, lent_bytes}
use Rattle.judge_spec.specs.Once.{Promised}

-- what any judge gives: the verdict, the lent buffer afterwards, the place of the line at fault
pub record Given : Type 0 where
  pub verdict : Verdict
  pub after : List ℕ
  pub place : Place

-- of a paper, an answer and a lent buffer
abbrev pub Judge : Type 0
Judge = Paper → List ℕ → List ℕ → Given

abbrev pub Keeps : Judge → Paper → List ℕ → List ℕ → Type 0
Keeps j s a old = Promised s a old (j s a old).verdict (j s a old).after (j s a old).place

-- whatever 8,192 bytes are lent, there are two texts for which the promise isn't kept
abbrev pub Caught : Judge → Type 0
Caught j = (old : List ℕ) → length old ≡ lent_bytes → (s : Paper) × (a : List ℕ) × (Keeps j s a old → ⊥)

abbrev pub given : Judgement → List ℕ → Given
given j old = record { verdict = j.verdict; after = over j.bytes old; place = j.place }

-- not every judge is caught: this one keeps the promise for all texts and buffers
abbrev pub judging : Judge
judging s a old = given (judged s a (length old)) old

unfoldable pub OneKeeps : Type 0
OneKeeps = (s : Paper) (a old : List ℕ) → Keeps judging s a old

-- it refuses all, with whatever numbers
unfoldable pub RefusesAll : Type 0
RefusesAll = (j : Judge) → ((s : Paper) (a old : List ℕ) → (j s a old).verdict.refused ≢ 0) → Caught j

-- it answers with one fixed report: what it leaves in a buffer is the same for all texts
unfoldable pub FixedReport : Type 0
FixedReport = (j : Judge) → ((s t : Paper) (a b old : List ℕ) → (j s a old).after ≡ (j t b old).after) → Caught j

-- and no fixed bytes are the print of all texts
unfoldable pub FixedPrint : Type 0
FixedPrint = (r : List ℕ) → (s : Paper) × (a : List ℕ) × (printed s a ≢ r)

-- it walks the first step and then only counts
unfoldable pub count_on : Tables → Program → Configuration → List Step → Walked
count_on t p c [] = record { accepted = 0; refused = 0; port = NoPort; configuration = c }
count_on t p c (s ∷ ss) =
    elim (eqb (step default_depth t p c s).refused 0) [
      | true ↦ record { accepted = suc (length ss); refused = 0; port = NoPort; configuration = (step default_depth t p c s).configuration }
      | false ↦ record { accepted = 0; refused = (step default_depth t p c s).refused; port = (step default_depth t p c s).port; configuration = c }
    ]

unfoldable pub counting_course : Paper → List ℕ → Course Walked
counting_course s a = do
  (t, p, c, y) ← all_under default_depth s a
  reached (count_on t p c (steps_of y))

abbrev pub counting : Judge
counting s a old = given (ending s a (length old) (counting_course s a)) old

unfoldable pub CountsOn : Type 0
CountsOn = Caught counting

-- it invents the accepted count: from the sheet alone, from the answer alone
unfoldable pub InventsCount : Type 0
InventsCount =
    (count : List ℕ → ℕ) (j : Judge)
    → (((s : Paper) (a old : List ℕ) → (j s a old).verdict.accepted ≡ count s.sheet) → Caught j)
    × (((s : Paper) (a old : List ℕ) → (j s a old).verdict.accepted ≡ count a) → Caught j)

-- two of its inventions: the number of the answer's line `steps=`, and one more than is accepted
unfoldable pub steps_said : List ℕ → ℕ
steps_said a = elim (answer a) [ on y r ↦ y.count | stop n r ↦ 0 ]

unfoldable pub InventsSteps : Type 0
InventsSteps = (j : Judge) → ((s : Paper) (a old : List ℕ) → (j s a old).verdict.accepted ≡ steps_said a) → Caught j

unfoldable pub InventsOneMore : Type 0
InventsOneMore = (j : Judge) → ((s : Paper) (a old : List ℕ) → (j s a old).verdict.accepted ≡ suc (judged s a (length old)).verdict.accepted) → Caught j
