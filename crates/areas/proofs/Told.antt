-- Areas and rows that say the same are the same words.
-- Assumes nothing.
use mathlib.Core.Path.{◌≡◌, sym, ap, ◌∙◌, subst}
use mathlib.Core.List.{List}
use mathlib.Core.Logic.{by_cases}
use Prim.Native.Nat.{ℕ, ◌+◌, ◌-◌, ◌*◌, ◌/◌, ◌%◌, ◌≤◌, ◌<◌}
use native.Mathlib.Nat.{zero-add, mod-lt, div-lt_iff_lt-mul, div-add-mod'}
use native.Mathlib.Omega.{arith}
use native.Mathlib.Decide.{dec_lt}
use lib.ListN.{length}
use lib.Seq.{ext_get_or}
use Rattle.areas.specs.Area.{word, area, rows}
use Rattle.areas.proofs.Areas.{item_of}

module _ (ws vs : List ℕ) (b n : ℕ) where
  pub area-words : area ws b n ≡ area vs b n → (p : ℕ) → b ≤ p → p < b + n → word ws p ≡ word vs p
  area-words e p l h =
      subst (λ (x : ℕ). word ws x ≡ word vs x) (let q : b + (p - b) ≡ p = omega arith in q)
      (item_of n (λ k. word ws (b + k)) (λ k. word vs (b + k)) 0 e (p - b) (omega arith))

  -- rows of w fields, each of which can be picked out of its row
  pub rows_words : {A : Type 0} (h : (ℕ → ℕ) → A) (w : ℕ) (pick : A → ℕ → ℕ) → ((φ : ℕ → ℕ) (f : ℕ) → f < w → pick (h φ) f ≡ φ f)
      → rows ws b n h ≡ rows vs b n h → (f k : ℕ) → f < w → k < n → word ws (b + f * n + k) ≡ word vs (b + f * n + k)
  rows_words {A} h w pick own e f k l g =
      sym (own (λ i. word ws (b + i * n + k)) f l)
      ∙ ap (λ (a : A). pick a f) (item_of n (λ j. h (λ i. word ws (b + i * n + j))) (λ j. h (λ i. word vs (b + i * n + j))) (h (λ _. 0)) e k g)
      ∙ own (λ i. word vs (b + i * n + k)) f l

-- all of their words, where they stand from the start on
module _ (ws vs : List ℕ) (n : ℕ) (some : 0 < n) where
  pub rows_told : {A : Type 0} (h : (ℕ → ℕ) → A) (w : ℕ) (pick : A → ℕ → ℕ) → ((φ : ℕ → ℕ) (f : ℕ) → f < w → pick (h φ) f ≡ φ f)
      → rows ws 0 n h ≡ rows vs 0 n h → (p : ℕ) → p < w * n → word ws p ≡ word vs p
  rows_told h w pick own e p l =
      subst (λ (x : ℕ). word ws x ≡ word vs x) (ap (λ (x : ℕ). x + p % n) (zero-add (p / n * n)) ∙ div-add-mod' p n)
      (rows_words ws vs 0 n h w pick own e (p / n) (p % n) ((div-lt_iff_lt-mul some).1 l) (mod-lt p some))

-- three areas, one after the other
module _ (ws vs : List ℕ) (b n₁ n₂ n₃ : ℕ) where
  pub areas-words : area ws b n₁ ≡ area vs b n₁ → area ws (b + n₁) n₂ ≡ area vs (b + n₁) n₂ → area ws (b + n₁ + n₂) n₃ ≡ area vs (b + n₁ + n₂) n₃
      → (p : ℕ) → b ≤ p → p < b + n₁ + n₂ + n₃ → word ws p ≡ word vs p
  areas-words e f g p l h =
      by_cases (dec_lt p (b + n₁)) (λ x. area-words ws vs b n₁ e p l x) (λ x.
      by_cases (dec_lt p (b + n₁ + n₂)) (λ y. area-words ws vs (b + n₁) n₂ f p (omega arith) y) (λ y. area-words ws vs (b + n₁ + n₂) n₃ g p (omega arith) h))

-- as many words, and each of them the same
pub words_same : (ws vs : List ℕ) (n : ℕ) → length ws ≡ n → length vs ≡ n → ((k : ℕ) → k < n → word ws k ≡ word vs k) → ws ≡ vs
words_same ws vs n a b e = ext_get_or 0 ws vs (a ∙ sym b) (λ k h. e k (rw a at h))
