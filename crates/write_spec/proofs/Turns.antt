-- Lines in turn, and the first of their numbers, as runs of lines go through them: from the first one on.
-- Assumes nothing.
use Prim.Native.Nat.{ℕ, zero, suc, ◌+◌, ◌<◌}
use mathlib.Core.List.{List, [], ◌++◌, append_assoc, append-nil}
use mathlib.Core.Path.{◌≡◌, refl, sym, ap, ap₂, ◌∙◌}
use mathlib.Core.Bool.{Bool, true, false, not}
use mathlib.Core.Logic.{◌≢◌, by_cases, ⊎_elim}
use native.Mathlib.Omega.{arith}
use native.Mathlib.Decide.{ℕ_discrete}
use native.Mathlib.Nat.{add-zero, add-suc, suc-add}
use borrow.Author.Tests.{eq-eqb, ne_eqb}
use Rattle.item_spec.specs.Write.{in_turn}
use Rattle.sets.proofs.Laws.{below-cases}
use Rattle.rules_spec.specs.Refusal.{◌⇒◌∣◌, or_number}
use Rattle.write_spec.specs.Kinds.{limit_fault}
use Rattle.write_spec.specs.Texts.{first_of}

-- f i, f (i + 1), .. n of them; the first of their numbers that is no 0
unfoldable pub in_turn_from : (ℕ → List ℕ) → ℕ → ℕ → List ℕ
in_turn_from f zero i = []
in_turn_from f (suc n) i = f i ++ in_turn_from f n (suc i)

unfoldable pub first_from : (ℕ → ℕ) → ℕ → ℕ → ℕ
first_from f zero i = 0
first_from f (suc n) i = or_number (f i) (first_from f n (suc i))

pub or-zero : (a b : ℕ) → a ≡ 0 → or_number a b ≡ b
or-zero a b e = rw (eq-eqb a 0 e)

pub or_some : (a b : ℕ) → a ≢ 0 → or_number a b ≡ a
or_some a b e = rw (ne_eqb a 0 e)

pub or_assoc : (a b c : ℕ) → or_number a (or_number b c) ≡ or_number (or_number a b) c
or_assoc a b c =
    by_cases (ℕ_discrete a 0) (λ e. or-zero a (or_number b c) e ∙ ap (λ (n : ℕ). or_number n c) (sym (or-zero a b e)))
    (λ e. or_some a (or_number b c) e ∙ sym (ap (λ (n : ℕ). or_number n c) (or_some a b e) ∙ or_some a c e))

pub or-none : (a : ℕ) → or_number a 0 ≡ a
or-none a = by_cases (ℕ_discrete a 0) (λ e. or-zero a 0 e ∙ sym e) (λ e. or_some a 0 e)

-- one more at the end
turn_last : (f : ℕ → List ℕ) (n i : ℕ) → in_turn_from f (suc n) i ≡ in_turn_from f n i ++ f (i + n)
unfolding in_turn_from
turn_last f zero i = rw (add-zero i) (append-nil (f i))
turn_last f (suc n) i = rw (turn_last f n (suc i), suc-add i n, add-suc i n) (sym (append_assoc (f i) (in_turn_from f n (suc i)) (f (suc (i + n)))))

first-last : (f : ℕ → ℕ) (n i : ℕ) → first_from f (suc n) i ≡ or_number (first_from f n i) (f (i + n))
unfolding first_from
first-last f zero i = rw (add-zero i) (or-none (f i))
first-last f (suc n) i = rw (first-last f n (suc i), suc-add i n, add-suc i n) (or_assoc (f i) (first_from f n (suc i)) (f (suc (i + n))))

-- those that are said of slots from i on
module _ (i : ℕ) where
  pub turn-from : (f g : ℕ → List ℕ) → ((x : ℕ) → f x ≡ g (i + x)) → (n : ℕ) → in_turn f n ≡ in_turn_from g n i
  unfolding in_turn in_turn_from
  turn-from f g e zero = refl
  turn-from f g e (suc n) = ap₂ ◌++◌ (turn-from f g e n) (e n) ∙ sym (turn_last g n i)

  pub first-from : (f g : ℕ → ℕ) → ((x : ℕ) → f x ≡ g (i + x)) → (n : ℕ) → first_of f n ≡ first_from g n i
  unfolding first_of first_from
  first-from f g e zero = refl
  first-from f g e (suc n) = ap₂ (λ (a b : ℕ). or_number a b) (first-from f g e n) (e n) ∙ sym (first-last g n i)

pub turn-same : (f g : ℕ → List ℕ) (n : ℕ) → ((x : ℕ) → x < n → f x ≡ g x) → in_turn f n ≡ in_turn g n
unfolding in_turn
turn-same f g zero e = refl
turn-same f g (suc n) e = ap₂ ◌++◌ (turn-same f g n (λ x h. e x (omega arith))) (e n (omega arith))

pub first-none : (f : ℕ → ℕ) (n : ℕ) → ((x : ℕ) → x < n → f x ≡ 0) → first_of f n ≡ 0
unfolding first_of
first-none f zero e = refl
first-none f (suc n) e = or-zero (first_of f n) (f n) (first-none f n (λ x h. e x (omega arith))) ∙ e n (omega arith)

-- ---- what no fault tells
pub or-both : (a b : ℕ) → or_number a b ≡ 0 → (a ≡ 0) × (b ≡ 0)
or-both a b e = by_cases (ℕ_discrete a 0) (λ z. (z, sym (or-zero a b z) ∙ e)) (λ z. absurd (z (sym (or_some a b z) ∙ e)))

pub first-zero : (f : ℕ → ℕ) (n : ℕ) → first_of f n ≡ 0 → (x : ℕ) → x < n → f x ≡ 0
unfolding first_of
first-zero f zero e x h = absurd (omega arith)
first-zero f (suc n) e x h =
    let (before, last) = or-both (first_of f n) (f n) e in
    ⊎_elim (λ q. rw q last) (λ l. first-zero f n before x l) (below-cases h)

pub limit-met : (b : Bool) → limit_fault b ≡ 0 → b ≡ true
limit-met true e = refl
limit-met false e = absurd (omega arith)

pub clauses-met : (p q : Bool) → (not p ⇒ 3 ∣ not q ⇒ 4 ∣ 0) ≡ 0 → (p ≡ true) × (q ≡ true)
clauses-met true true e = (refl, refl)
clauses-met true false e = absurd (omega arith)
clauses-met false q e = absurd (omega arith)
