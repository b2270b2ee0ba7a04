-- The columns of the tables as the lines fill them, slot by slot.
-- Assumes nothing.
use Prim.Native.Nat.{ℕ, zero, suc, ◌≤◌}
use mathlib.Core.List.{◌∷◌}
use mathlib.Core.Bool.{Bool, false, ◌&&◌, ◌||◌, cond, or-false, or-true}
use mathlib.Core.Path.{◌≡◌, refl, sym, ap, ap₂, ◌∙◌}
use mathlib.Core.Logic.{by_cases}
use native.Mathlib.Omega.{arith}
use native.Mathlib.Decide.{ℕ_discrete, dec_lt}
use lib.Dec.{eqb, leb, ltb, eqb-suc-suc, eqb-zero-suc, eqb-suc-zero}
use lib.ListN.{set, replicate}
use borrow.Author.Tests.{eq-eqb, ne_eqb, eqb-true, lt-ltb, le-ltb, le-leb, lt-leb}
use Rattle.item_spec.proofs.Tests.{by-test}
use Rattle.model.specs.View.{list_of}
use Rattle.model.proofs.View.{list_same}
use Rattle.write_spec.specs.Cleared.{column}

module _ {A : Type 0} where
  set-list : (n : ℕ) (f : ℕ → A) (j : ℕ) (v : A) → set (list_of n f) j v ≡ list_of n (λ r. cond (eqb r j) v (f r))
  unfolding list_of
  set-list zero f j v = refl
  set-list (suc n) f zero v = ap₂ ◌∷◌ refl (list_same n (λ r. f (suc r)) (λ r. cond (eqb (suc r) 0) v (f (suc r))) (λ r h. rw (eqb-suc-zero r)))
  set-list (suc n) f (suc j) v =
      ap₂ ◌∷◌ (rw (eqb-zero-suc j)) (set-list n (λ r. f (suc r)) j v ∙ list_same n _ (λ r. cond (eqb (suc r) (suc j)) v (f (suc r))) (λ r h. rw (eqb-suc-suc r j)))

  none_list : (n : ℕ) (z : A) → list_of n (λ r. z) ≡ replicate n z
  unfolding list_of
  none_list zero z = refl
  none_list (suc n) z = ap (◌∷◌ z) (none_list n z)

  module _ (n : ℕ) (z : A) (f : ℕ → A) where
    pub column-same : (p q : ℕ → Bool) → ((r : ℕ) → p r ≡ q r) → column n p z f ≡ column n q z f
    unfolding column
    column-same p q e = list_same n _ _ (λ r h. rw (e r))

    pub column-none : (p : ℕ → Bool) → ((r : ℕ) → p r ≡ false) → column n p z f ≡ replicate n z
    unfolding column
    column-none p e = list_same n _ (λ r. z) (λ r h. rw (e r)) ∙ none_list n z

    -- one slot more
    pub column-set : (p q : ℕ → Bool) (j : ℕ) → ((r : ℕ) → q r ≡ (eqb r j || p r)) → set (column n p z f) j (f j) ≡ column n q z f
    unfolding column
    column-set p q j e = set-list n _ j (f j) ∙ list_same n _ _ (λ r h. rw (e r) (at r))
      where
        at : (r : ℕ) → cond (eqb r j) (f j) (cond (p r) (f r) z) ≡ cond (eqb r j || p r) (f r) z
        at r = by-test (eqb r j) (λ q. rw (q, eqb-true r j q)) (λ q. rw q)

-- ---- which slots
-- below j
pub up_none : (r : ℕ) → ltb r 0 ≡ false
up_none r = le-ltb r 0 (omega arith)

pub up_next : (j r : ℕ) → ltb r (suc j) ≡ (eqb r j || ltb r j)
up_next j r =
    by_cases (ℕ_discrete r j) (λ e. rw (eq-eqb r j e, lt-ltb r (suc j) (omega arith)))
    (λ e. rw (ne_eqb r j e) (by_cases (dec_lt r j) (λ l. lt-ltb r (suc j) (omega arith) ∙ sym (lt-ltb r j l)) (λ l. le-ltb r (suc j) (omega arith) ∙ sym (le-ltb r j (omega arith)))))

-- those before, and from lo up to j
abbrev pub up_to : (ℕ → Bool) → ℕ → ℕ → ℕ → Bool
up_to p lo j r = p r || (leb lo r && ltb r j)

pub to_none : (p : ℕ → Bool) (lo r : ℕ) → up_to p lo lo r ≡ p r
to_none p lo r = ap (λ (b : Bool). p r || b) (by_cases (dec_lt r lo) (λ l. rw (lt-leb lo r l)) (λ l. rw (le-leb lo r (omega arith)) (le-ltb r lo (omega arith)))) ∙ or-false (p r)

pub to-next : (p : ℕ → Bool) (lo j : ℕ) → lo ≤ j → (r : ℕ) → up_to p lo (suc j) r ≡ (eqb r j || up_to p lo j r)
to-next p lo j h r =
    by_cases (ℕ_discrete r j)
    (λ e. rw (eq-eqb r j e, lt-ltb r (suc j) (omega arith), le-leb lo r (omega arith)) (or-true (p r)))
    (λ e. rw (ne_eqb r j e) (ap (λ (b : Bool). p r || (leb lo r && b)) (up_next j r ∙ rw (ne_eqb r j e))))
