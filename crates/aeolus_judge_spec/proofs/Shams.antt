-- No sham keeps the promise. Three answers catch them: of no step, one whose second step is refused, and one that a second sheet refuses.
-- Assumes nothing.
use Prim.Native.Nat.{ℕ}
use mathlib.Core.List.{List}
use mathlib.Core.Path.{◌≡◌, refl, sym, ap, ◌∙◌}
use mathlib.Core.Logic.{by_cases}
use native.Mathlib.Omega.{arith}
use native.Mathlib.Decide.{ℕ_discrete}
use lib.ListN.{length, get_or}
use Rattle.aeolus_judge_spec.specs.declared.Verdict.{Verdict}
use Rattle.aeolus_judge_spec.specs.Cases.{W, L}
use Rattle.aeolus_judge_spec.specs.Judged.{judged}
use Rattle.aeolus_judge_spec.specs.Shams.{Judge, Keeps, Caught, counting, OneKeeps, RefusesAll, FixedReport, FixedPrint, CountsOn, InventsCount, InventsSteps, InventsOneMore}
use Rattle.aeolus_judge_spec.proofs.Cases.{nothing_done, twice, moving, Told, computed}

pub one-keeps : OneKeeps
unfolding OneKeeps
one-keeps s a old = record { verdict-is = refl; buffer-is = refl; place_is = refl }

-- what a judge that keeps its promise gives for two texts of which it is told what comes of them
module _ (j : Judge) {old : List ℕ} (long : length old ≡ 8192) {s a : List ℕ} where
  accepts : {n : ℕ} → (judged s a 8192).verdict.accepted ≡ n → Keeps j s a old → (j s a old).verdict.accepted ≡ n
  accepts is k = ap (λ (v : Verdict). v.accepted) k.verdict-is ∙ rw long is

  refuses : {n r d : ℕ} → Told s a n r d → Keeps j s a old → (j s a old).verdict.refused ≡ r
  refuses t k = ap (λ (v : Verdict). v.refused) k.verdict-is ∙ rw long t.refused-is

  begins : {n r d : ℕ} → Told s a n r d → Keeps j s a old → get_or (j s a old).after 9 0 ≡ d
  begins t k = ap (λ (l : List ℕ). get_or l 9 0) k.buffer-is ∙ rw long (t.digit-is old)

pub refuses-all : RefusesAll
unfolding RefusesAll
refuses-all j never old long = (W, nothing_done, λ k. never W nothing_done old (refuses j long computed.none k))

pub fixed-report : FixedReport
unfolding FixedReport
fixed-report j same old long =
    by_cases (ℕ_discrete (get_or (j W twice old).after 9 0) 49)
    (λ e. (W, nothing_done, λ k. omega (arith, e, begins j long computed.none k, ap (λ (l : List ℕ). get_or l 9 0) (same W nothing_done W twice old))))
    (λ e. (W, twice, λ k. e (begins j long computed.two_steps k)))

pub fixed-print : FixedPrint
unfolding FixedPrint
fixed-print r =
    by_cases (ℕ_discrete (get_or r 9 0) 49)
    (λ e. (W, nothing_done, λ q. omega (arith, e, computed.none.prints, ap (λ (l : List ℕ). get_or l 9 0) q)))
    (λ e. (W, twice, λ q. e (sym (ap (λ (l : List ℕ). get_or l 9 0) q) ∙ computed.two_steps.prints)))

pub counts-on : CountsOn
unfolding CountsOn
counts-on old long =
    let counted : (counting W twice old).verdict.accepted ≡ 2 = rw long computed.counted in
    (W, twice, λ k. omega (arith, accepts counting long computed.two_steps.accepted-is k, counted))

pub invents-count : InventsCount
unfolding InventsCount
invents-count count j = (sheet, answer)
  where
    sheet : ((s a old : List ℕ) → (j s a old).verdict.accepted ≡ count s) → Caught j
    sheet is old long =
        by_cases (ℕ_discrete (count W) 1)
        (λ e. (W, nothing_done, λ k. omega (arith, e, is W nothing_done old, accepts j long computed.none.accepted-is k)))
        (λ e. (W, twice, λ k. e (sym (is W twice old) ∙ accepts j long computed.two_steps.accepted-is k)))

    answer : ((s a old : List ℕ) → (j s a old).verdict.accepted ≡ count a) → Caught j
    answer is old long =
        by_cases (ℕ_discrete (count moving) 1)
        (λ e. (W, moving, λ k. omega (arith, e, is W moving old, accepts j long computed.moves k)))
        (λ e. (L, moving, λ k. e (sym (is L moving old) ∙ accepts j long computed.moves_not k)))

pub invents-steps : InventsSteps
unfolding InventsSteps
invents-steps j is old long = (W, twice, λ k. omega (arith, computed.said, is W twice old, accepts j long computed.two_steps.accepted-is k))

pub invents-one-more : InventsOneMore
unfolding InventsOneMore
invents-one-more j is old long = (W, nothing_done, λ k. omega (arith, is W nothing_done old, ap (λ (v : Verdict). v.accepted) k.verdict-is))
