-- Words put into a row stand where they were put, and no other word changes: so what the rows say changes in one record.
-- Assumes nothing.
use mathlib.Core.Path.{◌≡◌, refl, sym, ap, ◌∙◌}
use mathlib.Core.Logic.{◌⊎◌, inl, inr, ◌≢◌, by_cases}
use mathlib.Core.List.{List, [], ◌∷◌, ◌++◌}
use Prim.Native.Nat.{ℕ, suc, ◌+◌, ◌*◌, ◌≤◌, ◌<◌}
use native.Mathlib.Omega.{arith}
use native.Mathlib.Numerals.{add-one}
use native.Mathlib.Nat.{mul-le-mul_right}
use native.Mathlib.Decide.{dec_lt}
use lib.ListN.{length, get_or, set, take, replicate, length-set}
use lib.Seq.{get_or-set_same, get_or-set_other, set_out, take-suc, length-take-le}
use borrow.Author.Tests.{lt-ltb, le-ltb}
use Rattle.model.specs.View.{list_of}
use Rattle.model.proofs.View.{past_end, list_at, list_same, length-list}
use Rattle.areas.proofs.Areas.{list_put, no_word, all_alike}
use Rattle.words.specs.Rows.{word, row, row_at, rows, puts, puts_in}

-- ---- rows lie apart

pub below : (j k w : ℕ) → j < k → j * w + w ≤ k * w
below j k w h = let e : suc j * w ≤ k * w = mul-le-mul_right w h in omega arith

-- ---- words put

pub puts-length : (xs ws : List ℕ) (p : ℕ) → length (puts ws p xs) ≡ length ws
unfolding puts
puts-length [] ws p = refl
puts-length (x ∷ xs) ws p = puts-length xs (set ws p x) (suc p) ∙ length-set ws p x

pub puts-far : (xs ws : List ℕ) (p m : ℕ) → (m < p) ⊎ (p + length xs ≤ m) → word (puts ws p xs) m ≡ word ws m
unfolding puts
puts-far [] ws p m o = refl
puts-far (x ∷ xs) ws p m (inl h) = puts-far xs (set ws p x) (suc p) m (inl (omega arith)) ∙ get_or-set_other ws p m x 0 (λ e. omega arith)
puts-far (x ∷ xs) ws p m (inr h) = puts-far xs (set ws p x) (suc p) m (inr (omega arith)) ∙ get_or-set_other ws p m x 0 (λ e. omega arith)

-- one more word put
pub puts-more : (xs ws : List ℕ) (p x : ℕ) → puts ws p (xs ++ (x ∷ [])) ≡ set (puts ws p xs) (p + length xs) x
unfolding puts
puts-more [] ws p x = ap (λ (q : ℕ). set ws q x) (let e : p ≡ p + 0 = omega arith in e)
puts-more (y ∷ xs) ws p x =
    puts-more xs (set ws p y) (suc p) x
    ∙ ap (λ (q : ℕ). set (puts (set ws p y) (suc p) xs) q x) (let e : suc p + length xs ≡ p + suc (length xs) = omega arith in e)

-- ---- one row

module _ (ws : List ℕ) (b w : ℕ) where
  abbrev part : List ℕ → List ℕ
  part vs = list_of w (λ f. word vs (b + f))

  part-set : (f x : ℕ) → f < w → b + w ≤ length ws → part (set ws (b + f) x) ≡ set (part ws) f x
  part-set f x h l =
      list_put w (λ g. word ws (b + g)) 0 (λ g. word (set ws (b + f) x) (b + g)) f (λ j k d. get_or-set_other ws (b + f) (b + j) x 0 (λ e. d (omega arith)))
      ∙ ap (set (part ws) f) (get_or-set_same ws (b + f) x 0 (omega arith))

-- the words of a row after some of them are put
part-puts : (xs ws : List ℕ) (b w f : ℕ) → f + length xs ≤ w → b + w ≤ length ws → list_of w (λ g. word (puts ws (b + f) xs) (b + g)) ≡ puts (list_of w (λ g. word ws (b + g))) f xs
unfolding puts
part-puts [] ws b w f h l = refl
part-puts (x ∷ xs) ws b w f h l =
    ap (λ (p : ℕ). list_of w (λ g. word (puts (set ws (b + f) x) p xs) (b + g))) (let e : suc (b + f) ≡ b + suc f = omega arith in e)
    ∙ part-puts xs (set ws (b + f) x) b w (suc f) (omega arith) (rw (length-set ws (b + f) x) l)
    ∙ ap (λ (r : List ℕ). puts r (suc f) xs) (part-set ws b w f x (omega arith) l)

-- ---- all rows of one kind

-- the words from `at` on lie apart from those from `there` on
abbrev pub Apart : ℕ → ℕ → ℕ → ℕ → Type 0
Apart at size there other = (at + size ≤ there) ⊎ (there + other ≤ at)

-- past the last row nothing is put
puts_none : (ws xs : List ℕ) (at n w k f : ℕ) → n ≤ k → puts_in ws at n w k f xs ≡ ws
puts_none ws xs at n w k f h = rw (le-ltb k n h)

puts-here : (ws xs : List ℕ) (at n w k f : ℕ) → k < n → puts_in ws at n w k f xs ≡ puts ws (at + k * w + f) xs
puts-here ws xs at n w k f h = rw (lt-ltb k n h)

module _ (ws xs : List ℕ) (at n w k f : ℕ) (fits : f + length xs ≤ w) where
  pub in-length : length (puts_in ws at n w k f xs) ≡ length ws
  in-length =
      by_cases (dec_lt k n)
      (λ h. ap length (puts-here ws xs at n w k f h) ∙ puts-length xs ws (at + k * w + f))
      (λ h. ap length (puts_none ws xs at n w k f (omega arith)))

  -- a word beside the rows
  pub in-far : (m : ℕ) → (m < at) ⊎ (at + n * w ≤ m) → word (puts_in ws at n w k f xs) m ≡ word ws m
  in-far m o =
      by_cases (dec_lt k n)
      (λ h. ap (λ (vs : List ℕ). word vs m) (puts-here ws xs at n w k f h) ∙ puts-far xs ws (at + k * w + f) m (beside h o))
      (λ h. ap (λ (vs : List ℕ). word vs m) (puts_none ws xs at n w k f (omega arith)))
    where
      beside : k < n → (m < at) ⊎ (at + n * w ≤ m) → (m < at + k * w + f) ⊎ (at + k * w + f + length xs ≤ m)
      beside h (inl l) = inl (omega arith)
      beside h (inr l) = let b : k * w + w ≤ n * w = below k n w h in inr (omega arith)

module _ {A : Type 0} (make : ℕ → List ℕ → A) (at n w : ℕ) where
  pub rows_same : (ws vs : List ℕ) → ((m : ℕ) → at ≤ m → m < at + n * w → word vs m ≡ word ws m) → rows make vs at n w ≡ rows make ws at n w
  rows_same ws vs e =
      list_same n (λ k. make k (row vs at w k)) (λ k. make k (row ws at w k))
      (λ k h. ap (make k) (list_same w (λ f. word vs (at + k * w + f)) (λ f. word ws (at + k * w + f))
      (λ f l. let b : k * w + w ≤ n * w = below k n w h in e (at + k * w + f) (omega arith) (omega arith))))

  -- rows beside those that words are put into
  pub rows-far : (ws xs : List ℕ) (there m v k f : ℕ) → f + length xs ≤ v → Apart at (n * w) there (m * v)
      → rows make (puts_in ws there m v k f xs) at n w ≡ rows make ws at n w
  rows-far ws xs there m v k f l (inl a) = rows_same ws (puts_in ws there m v k f xs) (λ g b h. in-far ws xs there m v k f l g (inl (omega arith)))
  rows-far ws xs there m v k f l (inr a) = rows_same ws (puts_in ws there m v k f xs) (λ g b h. in-far ws xs there m v k f l g (inr (omega arith)))

  -- the row that words are put into
  pub rows-put : (d : A) (ws xs : List ℕ) (k f : ℕ) → f + length xs ≤ w → at + n * w ≤ length ws
      → rows make (puts_in ws at n w k f xs) at n w ≡ set (rows make ws at n w) k (make k (puts (row ws at w k) f xs))
  rows-put d ws xs k f l full = by_cases (dec_lt k n) here past
    where
      vs : List ℕ
      vs = puts ws (at + k * w + f) xs

      apart : (j : ℕ) → j ≢ k → (g : ℕ) → g < w → (at + j * w + g < at + k * w + f) ⊎ (at + k * w + f + length xs ≤ at + j * w + g)
      apart j d g h =
          by_cases (dec_lt j k)
          (λ b. let c : j * w + w ≤ k * w = below j k w b in inl (omega arith))
          (λ b. let c : k * w + w ≤ j * w = below k j w (omega arith) in inr (omega arith))

      other : (j : ℕ) → j < n → j ≢ k → make j (row vs at w j) ≡ make j (row ws at w j)
      other j h d =
          ap (make j) (list_same w (λ g. word vs (at + j * w + g)) (λ g. word ws (at + j * w + g)) (λ g b. puts-far xs ws (at + k * w + f) (at + j * w + g) (apart j d g b)))

      here : k < n → rows make (puts_in ws at n w k f xs) at n w ≡ set (rows make ws at n w) k (make k (puts (row ws at w k) f xs))
      here h =
          ap (λ (us : List ℕ). rows make us at n w) (puts-here ws xs at n w k f h)
          ∙ list_put n (λ j. make j (row ws at w j)) d (λ j. make j (row vs at w j)) k other
          ∙ ap (λ (r : List ℕ). set (rows make ws at n w) k (make k r))
          (let b : k * w + w ≤ n * w = below k n w h in part-puts xs ws (at + k * w) w f l (omega arith))

      past : (k < n → ⊥) → rows make (puts_in ws at n w k f xs) at n w ≡ set (rows make ws at n w) k (make k (puts (row ws at w k) f xs))
      past h =
          ap (λ (us : List ℕ). rows make us at n w) (puts_none ws xs at n w k f (omega arith))
          ∙ sym (set_out (rows make ws at n w) k (make k (puts (row ws at w k) f xs)) (rw (length-list n (λ j. make j (row ws at w j))) (omega arith)))

  -- a field of record k
  pub rows_at : {B : Type 0} (d : A) (get : A → B) (ws : List ℕ) (k : ℕ) → get (make k []) ≡ get d
      → get (get_or (rows make ws at n w) k d) ≡ get (make k (row_at ws at n w k))
  rows_at d get ws k e =
      by_cases (dec_lt k n)
      (λ h. rw (lt-ltb k n h) (ap get (list_at n (λ j. make j (row ws at w j)) d k h)))
      (λ h. let l : n ≤ k = omega arith in rw (le-ltb k n l) (ap get (past_end (rows make ws at n w) d (length-list n (λ j. make j (row ws at w j))) l) ∙ sym e))

-- ---- words that are all 0

pub rows_none : {A : Type 0} (make : ℕ → List ℕ → A) (d : A) (at n w m : ℕ) → ((k : ℕ) → make k (replicate w 0) ≡ d)
    → rows make (replicate m 0) at n w ≡ replicate n d
rows_none make d at n w m e =
    all_alike n (λ k. make k (row (replicate m 0) at w k)) d
    (λ k. ap (make k) (all_alike w (λ f. word (replicate m 0) (at + k * w + f)) 0 (λ f. no_word m (at + k * w + f))) ∙ e k)

-- ---- the words of a list put one after the other

module _ (ws : List ℕ) (p : ℕ) (xs : List ℕ) where
  pub puts-start : ws ≡ puts ws p (take 0 xs)
  unfolding puts
  puts-start = refl

  pub puts-step : (vs : List ℕ) (k : ℕ) → k < length xs → vs ≡ puts ws p (take k xs) → set vs (p + k) (get_or xs k 0) ≡ puts ws p (take (k + 1) xs)
  puts-step vs k h e =
      ap (λ (us : List ℕ). set us (p + k) (get_or xs k 0)) e
      ∙ ap (λ (n : ℕ). set (puts ws p (take k xs)) (p + n) (get_or xs k 0)) (sym (length-take-le k xs (omega arith)))
      ∙ sym (ap (puts ws p) (ap (λ (n : ℕ). take n xs) (add-one k) ∙ take-suc xs k 0 h) ∙ puts-more (take k xs) ws p (get_or xs k 0))
