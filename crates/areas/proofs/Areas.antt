-- What one word put into its area does to that area, to the rows it is a field of, and to every other: nothing.
-- Assumes nothing.
use mathlib.Core.Path.{◌≡◌, refl, sym, ap, ap₂, ◌∙◌, fun_ext}
use mathlib.Core.Logic.{◌⊎◌, inl, inr, ◌≢◌, by_cases}
use mathlib.Core.Bool.{cond}
use mathlib.Core.List.{List, ◌∷◌}
use Prim.Native.Nat.{ℕ, zero, suc, ◌+◌, ◌*◌, ◌/◌, ◌%◌, ◌≤◌, ◌<◌}
use native.Mathlib.Nat.{mod-eq_of_lt, mul-add-mod_self_right, mul-div_cancel, mul-le-mul_right, suc-mul}
use native.Mathlib.Omega.{arith}
use native.Mathlib.Decide.{ℕ_discrete, dec_lt}
use lib.Dec.{eqb}
use lib.ListN.{length, get_or, set, replicate, length-set}
use lib.Seq.{get_or-set_same, get_or-set_other, set_out, ext_get_or}
use borrow.Author.Tests.{lt-ltb, le-ltb, eq-eqb, ne_eqb}
use Rattle.model.specs.View.{list_of}
use Rattle.model.proofs.View.{past_end, list_at, list_same, length-list}
use Rattle.areas.specs.Area.{word, area, put_in, cell, rows}

-- ---- lists made of n items

module _ {A : Type 0} (n : ℕ) (f : ℕ → A) (d : A) where
  pub list-past : (k : ℕ) → n ≤ k → get_or (list_of n f) k d ≡ d
  list-past k h = past_end (list_of n f) d (length-list n f) h

  -- the same but for item i
  pub list_put : (g : ℕ → A) (i : ℕ) → ((j : ℕ) → j < n → j ≢ i → g j ≡ f j) → list_of n g ≡ set (list_of n f) i (g i)
  list_put g i e =
      ext_get_or d (list_of n g) (set (list_of n f) i (g i)) (length-list n g ∙ sym (length-set (list_of n f) i (g i) ∙ length-list n f))
      (λ j h. at j (rw (length-list n g) at h))
    where
      at : (j : ℕ) → j < n → get_or (list_of n g) j d ≡ get_or (set (list_of n f) i (g i)) j d
      at j h =
          by_cases (ℕ_discrete j i)
          (λ here.
          list_at n g d j h ∙ ap g here
          ∙ sym (ap (λ (x : ℕ). get_or (set (list_of n f) i (g i)) x d) here ∙ get_or-set_same (list_of n f) i (g i) d (rw (length-list n f, ← here) h)))
          (λ other. list_at n g d j h ∙ e j h other ∙ sym (get_or-set_other (list_of n f) i j (g i) d other ∙ list_at n f d j h))

  pub list-out : (i : ℕ) (x : A) → n ≤ i → set (list_of n f) i x ≡ list_of n f
  list-out i x h = set_out (list_of n f) i x (rw (length-list n f) h)

-- items that are the same as lists are the same one by one
pub item_of : {A : Type 0} (n : ℕ) (f g : ℕ → A) (d : A) → list_of n f ≡ list_of n g → (k : ℕ) → k < n → f k ≡ g k
item_of {A} n f g d e k h = sym (list_at n f d k h) ∙ ap (λ (xs : List A). get_or xs k d) e ∙ list_at n g d k h

-- ---- a word put into an area

module _ (ws : List ℕ) (b n k x : ℕ) where
  pub length-put-in : length (put_in ws b n k x) ≡ length ws
  length-put-in = by_cases (dec_lt k n) (λ h. rw (lt-ltb k n h) (length-set ws (b + k) x)) (λ h. rw (le-ltb k n (let l : n ≤ k = omega arith in l)))

  put_other : (p : ℕ) → (k < n → p ≢ b + k) → word (put_in ws b n k x) p ≡ word ws p
  put_other p d =
      by_cases (dec_lt k n) (λ h. rw (lt-ltb k n h) (get_or-set_other ws (b + k) p x 0 (d h))) (λ h. rw (le-ltb k n (let l : n ≤ k = omega arith in l)))

  pub put_same : k < n → b + n ≤ length ws → word (put_in ws b n k x) (b + k) ≡ x
  put_same h l = rw (lt-ltb k n h) (get_or-set_same ws (b + k) x 0 (omega arith))

  -- a word before the area or after it, and a whole area there
  pub word-beside : (p : ℕ) → (p < b) ⊎ (b + n ≤ p) → word (put_in ws b n k x) p ≡ word ws p
  word-beside p (inl l) = put_other p (λ h e. omega arith)
  word-beside p (inr l) = put_other p (λ h e. omega arith)

  pub area-beside : (c m : ℕ) → (c + m ≤ b) ⊎ (b + n ≤ c) → area (put_in ws b n k x) c m ≡ area ws c m
  area-beside c m (inl l) = list_same m _ _ (λ j h. word-beside (c + j) (inl (omega arith)))
  area-beside c m (inr l) = list_same m _ _ (λ j h. word-beside (c + j) (inr (omega arith)))

  -- the area itself
  pub area-put : b + n ≤ length ws → area (put_in ws b n k x) b n ≡ set (area ws b n) k x
  area-put l =
      by_cases (dec_lt k n)
      (λ h.
      list_put n (λ j. word ws (b + j)) 0 (λ j. word (put_in ws b n k x) (b + j)) k (λ j g d. put_other (b + j) (λ _ e. d (omega arith)))
      ∙ ap (set (area ws b n) k) (put_same h l))
      (λ h. let m : n ≤ k = omega arith in rw (le-ltb k n m) (sym (list-out n (λ j. word ws (b + j)) 0 k x m)))

-- ---- rows whose fields stand in columns

rows_same : (n f g j k : ℕ) → j < n → k < n → f * n + j ≡ g * n + k → j ≡ k
rows_same n f g j k h l e =
    sym (mod-eq_of_lt h) ∙ sym (mul-add-mod_self_right f n j) ∙ ap (λ (x : ℕ). x % n) e ∙ mul-add-mod_self_right g n k ∙ mod-eq_of_lt l

columns-same : (n f g j k : ℕ) → j < n → k < n → f * n + j ≡ g * n + k → f ≡ g
columns-same n f g j k h l e =
    let z : zero < n = omega arith in
    let r = rows_same n f g j k h l e in
    sym (mul-div_cancel f z) ∙ ap (λ (x : ℕ). x / n) (let q : f * n ≡ g * n = omega arith in q) ∙ mul-div_cancel g z

-- column f ends within w columns
within : (n f w : ℕ) → f < w → f * n + n ≤ w * n
within n f w h = rw (suc-mul) at (mul-le-mul_right n h)

-- two places of columns of n words are apart where the columns or the rows are
apart : (n f g j k : ℕ) → j < n → k < n → (f ≢ g) ⊎ (j ≢ k) → f * n + j ≢ g * n + k
apart n f g j k h l (inl d) e = d (columns-same n f g j k h l e)
apart n f g j k h l (inr d) e = d (rows_same n f g j k h l e)

module _ {A : Type 0} (ws : List ℕ) (b n : ℕ) (h : (ℕ → ℕ) → A) where
  abbrev row : ℕ → A
  row k = h (λ f. word ws (b + f * n + k))

  -- a row by its fields
  pub row-at : (k : ℕ) → get_or (rows ws b n h) k (h (λ _. 0)) ≡ h (cell ws b n k)
  row-at k =
      by_cases (dec_lt k n)
      (λ l. list_at n row (h (λ _. 0)) k l ∙ ap h (fun_ext (λ f. sym (list_at n (λ j. word ws (b + f * n + j)) 0 k l))))
      (λ l.
      let m : n ≤ k = omega arith in
      list-past n row (h (λ _. 0)) k m ∙ ap h (fun_ext (λ f. sym (list-past n (λ j. word ws (b + f * n + j)) 0 k m))))

  -- one field put: the row has it, and every other row is as it was
  module _ (c k x : ℕ) (l : b + c * n + n ≤ length ws) where
    abbrev vs : List ℕ
    vs = put_in ws (b + c * n) n k x

    far : (f j : ℕ) → j < n → k < n → (f ≢ c) ⊎ (j ≢ k) → word vs (b + f * n + j) ≡ word ws (b + f * n + j)
    far f j g i d = put_other ws (b + c * n) n k x (b + f * n + j) (λ _ e. apart n f c j k g i d (omega arith))

    own : (f : ℕ) → k < n → word vs (b + f * n + k) ≡ cond (eqb f c) x (cell ws b n k f)
    own f i =
        by_cases (ℕ_discrete f c)
        (λ e. rw (eq-eqb f c e, e) (put_same ws (b + c * n) n k x i l))
        (λ e. rw (ne_eqb f c e) (far f k i i (inl e) ∙ sym (list_at n (λ j. word ws (b + f * n + j)) 0 k i)))

    pub cell-put : (f : ℕ) → k < n → cell vs b n k f ≡ cond (eqb f c) x (cell ws b n k f)
    cell-put f i = list_at n (λ j. word vs (b + f * n + j)) 0 k i ∙ own f i

    pub row_put : rows vs b n h ≡ set (rows ws b n h) k (h (λ f. cond (eqb f c) x (cell ws b n k f)))
    row_put =
        by_cases (dec_lt k n)
        (λ i.
        list_put n row (h (λ _. 0)) (λ j. h (λ f. word vs (b + f * n + j))) k (λ j g d. ap h (fun_ext (λ f. far f j g i (inr d))))
        ∙ ap (λ (a : A). set (rows ws b n h) k a) (ap h (fun_ext (λ f. own f i))))
        (λ i.
        let m : n ≤ k = omega arith in
        rw (le-ltb k n m) (sym (list-out n row (h (λ _. 0)) k _ m)))

  -- a word put before the w columns or after them
  pub rows-beside : (w c m k x : ℕ) → (c + m ≤ b) ⊎ (b + w * n ≤ c)
      → ((φ ψ : ℕ → ℕ) → ((f : ℕ) → f < w → φ f ≡ ψ f) → h φ ≡ h ψ) → rows (put_in ws c m k x) b n h ≡ rows ws b n h
  rows-beside w c m k x o only =
      list_same n _ _ (λ j i. only _ _ (λ f g. put_other ws c m k x (b + f * n + j) (λ l e. clear f j g i l o e)))
    where
      clear : (f j : ℕ) → f < w → j < n → k < m → (c + m ≤ b) ⊎ (b + w * n ≤ c) → b + f * n + j ≢ c + k
      clear f j g i l (inl q) e = omega arith
      clear f j g i l (inr q) e = let z : f * n + n ≤ w * n = within n f w g in omega arith

-- ---- words that are all 0

pub no_word : (m k : ℕ) → word (replicate m 0) k ≡ 0
no_word zero k = refl
no_word (suc m) zero = refl
no_word (suc m) (suc k) = no_word m k

pub all_alike : {A : Type 0} (n : ℕ) (f : ℕ → A) (a : A) → ((k : ℕ) → f k ≡ a) → list_of n f ≡ replicate n a
unfolding list_of
all_alike zero f a e = refl
all_alike (suc n) f a e = ap₂ ◌∷◌ (e 0) (all_alike n (λ k. f (suc k)) a (λ k. e (suc k)))

pub no_words : (m b n : ℕ) → area (replicate m 0) b n ≡ replicate n 0
no_words m b n = all_alike n (λ k. word (replicate m 0) (b + k)) 0 (λ k. no_word m (b + k))

pub no_rows : {A : Type 0} (m b n : ℕ) (h : (ℕ → ℕ) → A) → rows (replicate m 0) b n h ≡ replicate n (h (λ _. 0))
no_rows m b n h =
    all_alike n (λ k. h (λ f. word (replicate m 0) (b + f * n + k))) (h (λ _. 0)) (λ k. ap h (fun_ext (λ f. no_word m (b + f * n + k))))
