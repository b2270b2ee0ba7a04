-- The report's parts: a line that may be absent, and where no more lines come.
-- Assumes nothing.
use Prim.Native.Nat.{ℕ, zero, suc, ◌-◌, ◌≤◌}
use mathlib.Core.Path.{◌≡◌, refl, ap, ◌∙◌}
use mathlib.Core.Logic.{◌≢◌, by_cases}
use mathlib.Core.Bool.{Bool, true, false}
use mathlib.Core.List.{List, [], ◌++◌, append_assoc, append-nil}
use native.Mathlib.Omega.{arith}
use native.Mathlib.Decide.{dec_lt}
use borrow.Author.Tests.{eq-eqb, ne_eqb}
use Rattle.sets.specs.Test.{tally}
use Rattle.item_spec.proofs.Tests.{by-test}
use Rattle.item_spec.specs.Write.{only_if, number_text, in_turn}
use Rattle.write_items.specs.Written.{Written}
use Rattle.write_items.proofs.Laws.{none}
use Rattle.model.specs.declared.Walked.{Walked}
use Rattle.item_spec.specs.Reader.{bytes}
use Rattle.model.specs.declared.Configuration.{Configuration}
use Rattle.report_spec.specs.Report.{report, report_with}
use Rattle.read_spec.specs.Limits.{has_tickets}
use Rattle.start_spec.specs.Round.{last_text, start_text}
use Rattle.write_report.specs.Lines.{ending_part, head_part, instances_part, rows_part, connections_part}

-- ---- a line that may be absent

pub line-there : {old l new : List ℕ} {b : Bool} {used : ℕ} → b ≡ true → Written old l new 0 used → Written old (only_if b l) new 0 used
line-there h w = rw h w

pub line-absent : {old : List ℕ} {b : Bool} (l : List ℕ) → b ≡ false → Written old (only_if b l) old 0 0
line-absent {old} l h = rw h (none old 0)

-- ---- no line stands where a test fails, and so many pass it

module _ (p : ℕ → Bool) (f : ℕ → List ℕ) (silent : (i : ℕ) → p i ≡ false → f i ≡ []) (s : ℕ) where
  at_least : (n : ℕ) → s ≤ n → tally s p ≤ tally n p
  unfolding tally
  at_least zero h = let e : s ≡ 0 = omega arith in rw e (omega arith)
  at_least (suc n) h =
      by_cases (dec_lt n s)
      (λ l. let e : s ≡ suc n = omega arith in rw e (omega arith))
      (λ l. omega (arith, at_least n (omega arith)))

  -- where as many pass below s as below n, no line comes from s on
  pub all-written : (n : ℕ) → s ≤ n → tally n p ≡ tally s p → in_turn f n ≡ in_turn f s
  unfolding in_turn tally
  all-written zero h e = ap (in_turn f) (let z : 0 ≡ s = omega arith in z)
  all-written (suc n) h e =
      by_cases (dec_lt n s)
      (λ l. ap (in_turn f) (let z : suc n ≡ s = omega arith in z))
      (λ l. by-test (p n)
      (λ on. absurd (omega (arith, at_least n (omega arith), rw on at e)))
      (λ off.
      let same : tally n p ≡ tally s p = omega (arith, rw off at e) in
      ap (◌++◌ (in_turn f n)) (silent n off) ∙ append-nil (in_turn f n) ∙ all-written n (omega arith) same))

pub parts : (w : Walked) → head_part w.accepted w.refused w.port w.configuration.done ++ instances_part w.configuration ++ connections_part w.configuration ≡ report w
unfolding head_part ending_part instances_part connections_part report report_with
parts w = simp append_assoc

pub start-parts : (e : ℕ) (l : List ℕ) (c : Configuration) → bytes "start=1\n" ++ rows_part e l c ++ connections_part c ≡ start_text e l c
unfolding rows_part connections_part start_text
start-parts e l c = simp append_assoc

-- ---- the last ticket of a line

a-ticket : (k : ℕ) → k ≢ 0 → last_text k ≡ number_text (k - 1)
unfolding last_text
a-ticket zero z = absurd (z refl)
a-ticket (suc k) z = ap number_text (let q : k ≡ suc k - 1 = omega arith in q)

module _ (e stamp : ℕ) where
  pub last-plain : e ≢ 2 → only_if (has_tickets e) (bytes "," ++ last_text stamp) ≡ []
  last-plain n = rw (ne_eqb e 2 n)

  pub last_none : e ≡ 2 → stamp ≡ 0 → only_if (has_tickets e) (bytes "," ++ last_text stamp) ≡ bytes "," ++ bytes "-"
  unfolding last_text
  last_none h z = rw (eq-eqb e 2 h, z) refl

  pub last_some : e ≡ 2 → stamp ≢ 0 → only_if (has_tickets e) (bytes "," ++ last_text stamp) ≡ bytes "," ++ number_text (stamp - 1)
  last_some h n = rw (eq-eqb e 2 h) (ap (◌++◌ (bytes ",")) (a-ticket stamp n))
