-- Line by line: the reader's reply to each, 3 for six digits, and the first of the rows.
-- Assumes nothing.
use Prim.Native.Nat.{ℕ, zero, suc, ◌≤◌, ◌<◌}
use mathlib.Core.Bool.{Bool, true, ◌&&◌}
use mathlib.Core.List.{List}
use mathlib.Core.Path.{◌≡◌, refl}
use mathlib.Core.Logic.{by_cases}
use native.Mathlib.Omega.{arith}
use native.Mathlib.Decide.{ℕ_discrete}
use lib.Dec.{leb}
use borrow.Author.Tests.{leb-true, ltb-true, eq-eqb, ne_eqb}
use Rattle.item_spec.specs.Reader.{Reader}
use Rattle.item_spec.proofs.Tests.{by-test, and_left, and_right}
use Rattle.model.specs.declared.Instruction.{Instruction}
use Rattle.model.specs.declared.Step.{Step}
use Rattle.read_spec.specs.Limits.{depth_ok, types_ok, places_ok, transitions_ok, behaviors_ok, ports_ok, program_ok, steps_ok, end_ok, id_ok, type_ok, behavior_ok, port_ok, place_ok, transition_ok, ticket_ok, has_tickets}
use Rattle.write_spec.specs.Kinds.{limit_fault, tran_fault, do_fault, step_fault}
use Rattle.write_spec.specs.Texts.{first_of}
use Rattle.write_spec.specs.Cleared.{spoken, spoken_step}
use Rattle.write_spec.specs.Round.{Digits, DigitsOf, DigitsOfStep}
use Rattle.write_spec.specs.Lines.{Replied, HasWord, EachLineIsReplied, SixDigitsGetThree, FirstIsTheFirst}
use Rattle.write_spec.proofs.Says.{SaysLine}
use Rattle.write_spec.proofs.Written.{says-count, says-tran, says-initial, says-behavior, says-port}
use Rattle.write_spec.proofs.Verbs.{says-do, says-step}

replied : {A : Type 0} {m : Reader A} {x : List ℕ} {n : ℕ} {a : A} → SaysLine m x n a → Replied m x n a
replied w = record { reads = w.reads; refuses = w.refuses }

pub each-line-is-replied : EachLineIsReplied
each-line-is-replied = record {
  count = λ k limit n h. replied (says-count k limit n h);
  initial = λ n m l h. replied (says-initial n m l h);
  tran = λ n y h g. replied (says-tran n y h g);
  behavior = λ k m l h. replied (says-behavior k m l h);
  port = λ n k m y l e h g. replied (says-port n k m y l e h g);
  instruction = λ e n x h. replied (says-do e n x h);
  step = λ x h. replied (says-step x h);
}

-- a limit that only numbers of five digits keep
over : (ok : Bool) (P : Type 0) → (P → ⊥) → (ok ≡ true → P) → limit_fault ok ≡ 3
over ok P never keeps = by-test ok (λ e. absurd (never (keeps e))) (λ e. rw e refl)

at_most : (k n : ℕ) → k < 100000 → leb n k ≡ true → Digits n
at_most k n h e = omega (arith, leb-true n k e)

-- two numbers within their limits, and one
two-kept : (ok : Bool) (a b most : ℕ) → most < 100000 → (ok ≡ true → b ≤ most) → id_ok a && ok ≡ true → Digits a × Digits b
two-kept ok a b most h least e = let l = least (and_right (id_ok a) ok e) in (at_most 31 a (omega arith) (and_left (id_ok a) ok e), omega arith)

-- a verb that is none of those below it
past : (n v : ℕ) → n ≤ v → (v ≡ n → ⊥) → suc n ≤ v
past n v h d = omega arith

some : (v : ℕ) → (v ≡ 0 → ⊥) → 1 ≤ v
some v d = omega arith

seven : (v : ℕ) → v ≤ 7 → 7 ≤ v → v ≡ 7
seven v h g = omega arith

do-three : (ed n : ℕ) (x : Instruction) → n ≤ 16 → HasWord ed x.verb → (DigitsOf (spoken x) → ⊥) → do_fault ed n x ≡ 3
unfolding do_fault spoken
do-three ed n x few word never =
    by_cases (ℕ_discrete x.verb 0)
    (λ e. rw e (over (id_ok x.id && type_ok n x.number) (DigitsOf (record { verb = 0; id = x.id; number = x.number; provider = 0; provideport = 0 })) (λ d. never (rw e d))
    (λ k. let (a, b) = two-kept _ x.id x.number 16 (omega arith) (λ q. omega (arith, ltb-true x.number n q)) k in (a, b, omega arith, omega arith))))
    (λ n₀. by_cases (ℕ_discrete x.verb 1)
    (λ e. rw e (over (id_ok x.id) (DigitsOf (record { verb = 1; id = x.id; number = 0; provider = 0; provideport = 0 })) (λ d. never (rw e d)) (λ k. (at_most 31 x.id (omega arith) k, omega arith, omega arith, omega arith))))
    (λ n₁. by_cases (ℕ_discrete x.verb 2)
    (λ e. by-test (has_tickets ed) (λ t. absurd (word.plain t e)) (λ f. rw (e, f) (over (id_ok x.id && behavior_ok x.number) (DigitsOf (record { verb = 2; id = x.id; number = x.number; provider = 0; provideport = 0 })) (λ d. never (rw e d))
    (λ k. let (a, b) = two-kept _ x.id x.number 7 (omega arith) (λ q. omega (arith, leb-true x.number 7 q)) k in (a, b, omega arith, omega arith)))))
    (λ n₂. by_cases (ℕ_discrete x.verb 3)
    (λ e. rw e (over (id_ok x.id && (port_ok x.number && (id_ok x.provider && port_ok x.provideport))) (DigitsOf x) (λ d. never (rw e d)) ends-kept))
    (λ n₃. by_cases (ℕ_discrete x.verb 4)
    (λ e. rw e (over (id_ok x.id && (port_ok x.number && (id_ok x.provider && port_ok x.provideport))) (DigitsOf x) (λ d. never (rw e d)) ends-kept))
    (λ n₄. by_cases (ℕ_discrete x.verb 5)
    (λ e. rw e (over (id_ok x.id) (DigitsOf (record { verb = 5; id = x.id; number = 0; provider = 0; provideport = 0 })) (λ d. never (rw e d)) (λ k. (at_most 31 x.id (omega arith) k, omega arith, omega arith, omega arith))))
    (λ n₅. by_cases (ℕ_discrete x.verb 6)
    (λ e. by-test (has_tickets ed) (λ t. rw (e, t) (over (id_ok x.id && (behavior_ok x.number && ticket_ok x.provider)) (DigitsOf (record { verb = 6; id = x.id; number = x.number; provider = x.provider; provideport = 0 })) (λ d. never (rw e d)) push_kept)) (λ f. absurd ((word.ticket f).0 e)))
    (λ n₆. let e = seven x.verb word.known (past 6 _ (past 5 _ (past 4 _ (past 3 _ (past 2 _ (past 1 _ (some _ n₀) n₁) n₂) n₃) n₄) n₅) n₆) in
    by-test (has_tickets ed) (λ t. rw (e, t) (over (id_ok x.id && ticket_ok x.number) (DigitsOf (record { verb = 7; id = x.id; number = x.number; provider = 0; provideport = 0 })) (λ d. never (rw e d))
    (λ k. let (a, b) = two-kept _ x.id x.number 255 (omega arith) (λ q. omega (arith, leb-true x.number 255 q)) k in (a, b, omega arith, omega arith)))) (λ f. absurd ((word.ticket f).1 e)))))))))
  where
    push_kept : id_ok x.id && (behavior_ok x.number && ticket_ok x.provider) ≡ true → DigitsOf (record { verb = 6; id = x.id; number = x.number; provider = x.provider; provideport = 0 })
    push_kept k =
        let r = and_right (id_ok x.id) _ k in (
          at_most 31 x.id (omega arith) (and_left (id_ok x.id) _ k),
          at_most 7 x.number (omega arith) (and_left (behavior_ok x.number) _ r),
          at_most 255 x.provider (omega arith) (and_right (behavior_ok x.number) _ r),
          omega arith,
        )

    ends-kept : id_ok x.id && (port_ok x.number && (id_ok x.provider && port_ok x.provideport)) ≡ true → DigitsOf x
    ends-kept k =
        let r = and_right (id_ok x.id) _ k in
        let q = and_right (port_ok x.number) _ r in (
          at_most 31 x.id (omega arith) (and_left (id_ok x.id) _ k),
          at_most 15 x.number (omega arith) (and_left (port_ok x.number) _ r),
          at_most 31 x.provider (omega arith) (and_left (id_ok x.provider) _ q),
          at_most 15 x.provideport (omega arith) (and_right (id_ok x.provider) _ q),
        )

step-three : (x : Step) → x.verb ≤ 4 → (DigitsOfStep (spoken_step x) → ⊥) → step_fault x ≡ 3
unfolding step_fault spoken_step
step-three x known never =
    by_cases (ℕ_discrete x.verb 0)
    (λ e. absurd (never (rw e (omega arith, omega arith))))
    (λ n₀. by_cases (ℕ_discrete x.verb 1)
    (λ e. rw e (over (id_ok x.id && place_ok x.number) (DigitsOfStep x) (λ d. never (rw e d)) (two-kept _ x.id x.number 15 (omega arith) (leb-true x.number 15))))
    (λ n₁. by_cases (ℕ_discrete x.verb 2)
    (λ e. rw e (over (id_ok x.id && transition_ok x.number) (DigitsOfStep x) (λ d. never (rw e d)) (two-kept _ x.id x.number 31 (omega arith) (leb-true x.number 31))))
    (λ n₂. by_cases (ℕ_discrete x.verb 3)
    (λ e. rw e (over (id_ok x.id && place_ok x.number) (DigitsOfStep x) (λ d. never (rw e d)) (two-kept _ x.id x.number 15 (omega arith) (leb-true x.number 15))))
    (λ n₃. let e : x.verb ≡ 4 = omega arith in
    rw e (over (id_ok x.id) (DigitsOfStep (record { verb = 4; id = x.id; number = 0 })) (λ d. never (rw e d)) (λ k. (at_most 31 x.id (omega arith) k, omega arith)))))))

pub six-digits-get-three : SixDigitsGetThree
unfolding tran_fault
six-digits-get-three = record {
  depth = λ n h. over (depth_ok n) _ h (at_most 8 n (omega arith));
  types = λ n h. over (types_ok n) _ h (λ e. at_most 16 n (omega arith) (and_right (leb 1 n) _ e));
  places = λ n h. over (places_ok n) _ h (λ e. at_most 16 n (omega arith) (and_right (leb 1 n) _ e));
  transitions = λ n h. over (transitions_ok n) _ h (at_most 32 n (omega arith));
  behaviors = λ n h. over (behaviors_ok n) _ h (at_most 8 n (omega arith));
  ports = λ n h. over (ports_ok n) _ h (at_most 16 n (omega arith));
  program = λ n h. over (program_ok n) _ h (at_most 256 n (omega arith));
  steps = λ n h. over (steps_ok n) _ h (at_most 1024 n (omega arith));
  tran = λ n y l h. by-test (end_ok n y.0 && end_ok n y.1)
      (λ e. absurd (h (omega (arith, ltb-true y.0 n (and_left (end_ok n y.0) _ e)), omega (arith, ltb-true y.1 n (and_right (end_ok n y.0) _ e))))) (λ e. rw e refl);
  instruction = do-three;
  step = step-three;
}

pub first-is-the-first : FirstIsTheFirst
unfolding FirstIsTheFirst first_of
first-is-the-first f zero h = absurd (h refl)
first-is-the-first f (suc n) h =
    by_cases (ℕ_discrete (first_of f n) 0)
    (λ e. (n, omega arith, rw (eq-eqb (first_of f n) 0 e) refl, none n e))
    (λ e. let (i, l, is, before) = first-is-the-first f n e in (i, omega arith, rw (ne_eqb (first_of f n) 0 e) is, before))
  where
    none : (m : ℕ) → first_of f m ≡ 0 → (j : ℕ) → j < m → f j ≡ 0
    none zero e j l = absurd (omega arith)
    none (suc m) e j l =
        by_cases (ℕ_discrete (first_of f m) 0)
        (λ z. by_cases (ℕ_discrete j m) (λ q. rw q (rw (eq-eqb (first_of f m) 0 z) at e)) (λ q. none m z j (omega arith)))
        (λ z. absurd (z (rw (ne_eqb (first_of f m) 0 z) at e)))
