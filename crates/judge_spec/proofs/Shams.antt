-- No sham keeps the promise. Three pairs catch them: an answer of no step, one of six `next` where the program has five instructions, and where it has six.
-- Assumes nothing.
use Prim.Native.Nat.{ℕ}
use mathlib.Core.List.{List}
use mathlib.Core.Path.{◌≡◌, refl, sym, ap, ◌∙◌}
use mathlib.Core.Logic.{by_cases}
use native.Mathlib.Omega.{arith}
use native.Mathlib.Decide.{ℕ_discrete}
use lib.ListN.{length, get_or}
use Rattle.start_spec.specs.Paper.{Paper, nothing_up}
use Rattle.judge_spec.specs.declared.Verdict.{Verdict}
use Rattle.judge_spec.specs.Cases.{P, P+}
use Rattle.judge_spec.specs.Shams.{Judge, Keeps, Caught, counting, OneKeeps, RefusesAll, FixedReport, FixedPrint, CountsOn, InventsCount, InventsSteps, InventsOneMore}
use Rattle.judge_spec.proofs.Cases.{only, Told, computed}

pub one-keeps : OneKeeps
unfolding OneKeeps
one-keeps s a old = record { judges = record { verdict-is = refl; buffer-is = refl }; places = record { place_is = refl } }

-- what a judge that keeps its promise gives for two texts of which it is told what comes of them
module _ (j : Judge) {old : List ℕ} (long : length old ≡ 8192) {s : Paper} {a : List ℕ} {n r d : ℕ} (t : Told s a n r d) (k : Keeps j s a old) where
  accepts : (j s a old).verdict.accepted ≡ n
  accepts = ap (λ (v : Verdict). v.accepted) k.judges.verdict-is ∙ rw long t.accepted-is

  refuses : (j s a old).verdict.refused ≡ r
  refuses = ap (λ (v : Verdict). v.refused) k.judges.verdict-is ∙ rw long t.refused-is

  begins : get_or (j s a old).after 9 0 ≡ d
  begins = ap (λ (l : List ℕ). get_or l 9 0) k.judges.buffer-is ∙ rw long (t.digit-is old)

pub refuses-all : RefusesAll
unfolding RefusesAll
refuses-all j never old long = (nothing_up P, only 0, λ k. never (nothing_up P) (only 0) old (refuses j long computed.none k))

pub fixed-report : FixedReport
unfolding FixedReport
fixed-report j same old long =
    by_cases (ℕ_discrete (get_or (j (nothing_up P) (only 6) old).after 9 0) 53)
    (λ e. (nothing_up P, only 0, λ k. omega (arith, e, begins j long computed.none k, ap (λ (l : List ℕ). get_or l 9 0) (same (nothing_up P) (nothing_up P) (only 0) (only 6) old))))
    (λ e. (nothing_up P, only 6, λ k. e (begins j long computed.six k)))

pub fixed-print : FixedPrint
unfolding FixedPrint
fixed-print r =
    by_cases (ℕ_discrete (get_or r 9 0) 53)
    (λ e. (nothing_up P, only 0, λ q. omega (arith, e, computed.none.prints, ap (λ (l : List ℕ). get_or l 9 0) q)))
    (λ e. (nothing_up P, only 6, λ q. e (sym (ap (λ (l : List ℕ). get_or l 9 0) q) ∙ computed.six.prints)))

pub counts-on : CountsOn
unfolding CountsOn
counts-on old long =
    let counted : (counting (nothing_up P) (only 6) old).verdict.accepted ≡ 6 = rw long computed.counted in
    (nothing_up P, only 6, λ k. omega (arith, accepts counting long computed.six k, counted))

pub invents-count : InventsCount
unfolding InventsCount
invents-count count j = (sheet, answer)
  where
    sheet : ((s : Paper) (a old : List ℕ) → (j s a old).verdict.accepted ≡ count s.sheet) → Caught j
    sheet is old long =
        by_cases (ℕ_discrete (count P) 5)
        (λ e. (nothing_up P, only 0, λ k. omega (arith, e, is (nothing_up P) (only 0) old, accepts j long computed.none k)))
        (λ e. (nothing_up P, only 6, λ k. e (sym (is (nothing_up P) (only 6) old) ∙ accepts j long computed.six k)))

    answer : ((s : Paper) (a old : List ℕ) → (j s a old).verdict.accepted ≡ count a) → Caught j
    answer is old long =
        by_cases (ℕ_discrete (count (only 6)) 5)
        (λ e. (nothing_up P+, only 6, λ k. omega (arith, e, is (nothing_up P+) (only 6) old, accepts j long computed.all k)))
        (λ e. (nothing_up P, only 6, λ k. e (sym (is (nothing_up P) (only 6) old) ∙ accepts j long computed.six k)))

pub invents-steps : InventsSteps
unfolding InventsSteps
invents-steps j is old long = (nothing_up P, only 6, λ k. omega (arith, computed.said, is (nothing_up P) (only 6) old, accepts j long computed.six k))

pub invents-one-more : InventsOneMore
unfolding InventsOneMore
invents-one-more j is old long = (nothing_up P, only 0, λ k. omega (arith, is (nothing_up P) (only 0) old, ap (λ (v : Verdict). v.accepted) k.judges.verdict-is))
