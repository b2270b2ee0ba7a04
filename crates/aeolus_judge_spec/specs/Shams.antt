-- "the four shams are told apart": a judge that refuses all, one that answers with one fixed report, one that carries out the first action and then
-- only counts, one that invents the accepted count. No such judge keeps the promise: for each, two texts that catch it.
use Rattle.std.specs.Prelude.{ℕ, suc, List, [], ◌∷◌, true, false, ◌≡◌, ◌≢◌, eqb, length}
use Rattle.read_spec.specs.Lines.{on, stop}
use Rattle.judge_spec.specs.declared.Place.{Place}
use Rattle.judge_spec.specs.Judged.{over, lent_bytes}
use Rattle.judge_spec.specs.Course.{Course, reached, ◌>>=◌}
use Rattle.aeolus_model.specs.Model.{Universe, nothing}
use Rattle.aeolus_model.specs.Action.{Action, actions_of}
use Rattle.aeolus_read_spec.specs.Texts.{plan}
use Rattle.aeolus_rules_spec.specs.Action.{act}
use Rattle.aeolus_rules_spec.specs.Run.{Ran}
use Rattle.aeolus_judge_spec.specs.declared.Verdict.{Verdict}
use Rattle.aeolus_judge_spec.specs.Course.{both}
use Rattle.aeolus_judge_spec.specs.Judged.{Judgement, judged, printed, ending}
use Rattle.aeolus_judge_spec.specs.Once.{Promised}

-- what any judge gives: the verdict, the lent buffer afterwards, the place of the line at fault
pub record Given : Type 0 where
  pub verdict : Verdict
  pub after : List ℕ
  pub place : Place

-- of a sheet, an answer and a lent buffer
abbrev pub Judge : Type 0
Judge = List ℕ → List ℕ → List ℕ → Given

abbrev pub Keeps : Judge → List ℕ → List ℕ → List ℕ → Type 0
Keeps j s a old = Promised s a old (j s a old).verdict (j s a old).after (j s a old).place

-- whatever 8,192 bytes are lent, there are two texts for which the promise isn't kept
abbrev pub Caught : Judge → Type 0
Caught j = (old : List ℕ) → length old ≡ lent_bytes → (s : List ℕ) × (a : List ℕ) × (Keeps j s a old → ⊥)

abbrev pub given : Judgement → List ℕ → Given
given j old = record { verdict = j.verdict; after = over j.bytes old; place = j.place }

-- not every judge is caught: this one keeps the promise for all texts and buffers
abbrev pub judging : Judge
judging s a old = given (judged s a (length old)) old

unfoldable pub OneKeeps : Type 0
OneKeeps = (s a old : List ℕ) → Keeps judging s a old

-- it refuses all, with whatever numbers
unfoldable pub RefusesAll : Type 0
RefusesAll = (j : Judge) → ((s a old : List ℕ) → (j s a old).verdict.refused ≢ 0) → Caught j

-- it answers with one fixed report: what it leaves in a buffer is the same for all texts
unfoldable pub FixedReport : Type 0
FixedReport = (j : Judge) → ((s a t b old : List ℕ) → (j s a old).after ≡ (j t b old).after) → Caught j

-- and no fixed bytes are the print of all texts
unfoldable pub FixedPrint : Type 0
FixedPrint = (r : List ℕ) → (s : List ℕ) × (a : List ℕ) × (printed s a ≢ r)

-- it carries out the first action and then only counts
unfoldable pub count_on : Universe → List Action → Ran
count_on u [] = record { accepted = 0; refused = 0; configuration = nothing }
count_on u (a ∷ rest) =
    elim (eqb (act u nothing a).refused 0) [
      | true ↦ record { accepted = suc (length rest); refused = 0; configuration = (act u nothing a).configuration }
      | false ↦ record { accepted = 0; refused = (act u nothing a).refused; configuration = nothing }
    ]

unfoldable pub counting_course : List ℕ → List ℕ → Course (Universe × Ran)
counting_course s a = do
  (u, p) ← both s a
  reached (u, count_on u (actions_of p))

abbrev pub counting : Judge
counting s a old = given (ending s a (length old) (counting_course s a)) old

unfoldable pub CountsOn : Type 0
CountsOn = Caught counting

-- it invents the accepted count: from the sheet alone, from the answer alone
unfoldable pub InventsCount : Type 0
InventsCount =
    (count : List ℕ → ℕ) (j : Judge)
    → (((s a old : List ℕ) → (j s a old).verdict.accepted ≡ count s) → Caught j)
    × (((s a old : List ℕ) → (j s a old).verdict.accepted ≡ count a) → Caught j)

-- two of its inventions: the number of the answer's line `steps=`, read with sixteen types, and one more than is accepted
unfoldable pub steps_said : List ℕ → ℕ
steps_said a = elim (plan 16 a) [ on p r ↦ p.count | stop n r ↦ 0 ]

unfoldable pub InventsSteps : Type 0
InventsSteps = (j : Judge) → ((s a old : List ℕ) → (j s a old).verdict.accepted ≡ steps_said a) → Caught j

unfoldable pub InventsOneMore : Type 0
InventsOneMore = (j : Judge) → ((s a old : List ℕ) → (j s a old).verdict.accepted ≡ suc (judged s a (length old)).verdict.accepted) → Caught j
