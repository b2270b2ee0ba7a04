-- "Demand 3 alone would admit the first two, so it speaks of steps that demand 2's rules allow": a judge that refuses all and one that
-- answers with one fixed report meet both sentences of demand 3, where the judge itself says which steps are allowed.
use Rattle.std.specs.Prelude.{ℕ, Bool, true, false, List, ◌≡◌}
use Rattle.start_spec.specs.Paper.{Paper}
use Rattle.demands.specs.OnTexts.{projection_on, Exchanged, exchanged_text}

-- what a judge says of a paper and an answer: whether all steps are allowed, and what it prints
pub record Said : Type 0 where
  pub allowed : Bool
  pub bytes : List ℕ

abbrev pub ReportingJudge : Type 0
ReportingJudge = Paper → List ℕ → Said

-- demand 3 of a judge, by its own word for what is allowed
pub record DemandThree (j : ReportingJudge) : Type 0 where
  pub agree : (s : Paper) (a b : List ℕ) → (j s a).allowed ≡ true → (j s b).allowed ≡ true → ((i : ℕ) → projection_on s a i ≡ projection_on s b i) → (j s a).bytes ≡ (j s b).bytes
  pub exchange : (s : Paper) (a : List ℕ) (x : Exchanged s a) → (j s a).allowed ≡ true → (j s (exchanged_text x)).allowed ≡ true

-- it refuses all, whatever it prints
unfoldable pub RefusingIsAdmitted : Type 0
RefusingIsAdmitted = (print : Paper → List ℕ → List ℕ) → DemandThree (λ s a. record { allowed = false; bytes = print s a })

-- it answers all with one fixed report
unfoldable pub FixedIsAdmitted : Type 0
FixedIsAdmitted = (x : Said) → DemandThree (λ s a. x)
