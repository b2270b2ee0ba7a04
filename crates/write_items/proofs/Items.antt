-- What each item's text is made of, and a loop's turn for it.
-- Assumes nothing.
use Prim.Native.Nat.{ℕ, zero, suc, ◌+◌, ◌-◌, ◌/◌, ◌%◌, ◌^◌, ◌≤◌, ◌<◌}
use mathlib.Core.Path.{◌≡◌, refl, ap, sym, ◌∙◌}
use mathlib.Core.List.{List, [], ◌∷◌, ◌++◌, append_assoc, append-nil}
use mathlib.Core.Bool.{false}
use mathlib.Core.Logic.{◌≢◌, ⊎_elim}
use native.Mathlib.Nat.{le_of_suc-le-suc, eq-or-lt_of_le}
use native.Mathlib.Omega.{arith}
use native.Mathlib.Numerals.{add-one}
use lib.Count.{count_trailing_zeros, under}
use lib.ListN.{length, take, get_or}
use lib.Seq.{take-suc}
use borrow.Author.Tests.{lt-ltb, le-ltb}
use Rattle.model.specs.View.{list_of}
use Rattle.model.proofs.View.{list-snoc, list-head}
use Rattle.sets.specs.Mask.{member, least, later}
use Rattle.sets.proofs.Laws.{member-zero, member-suc}
use Rattle.sets.proofs.Members.{rest-start, least-of, least_lt, later-own, later-other}
use Rattle.item_spec.proofs.Tests.{by-test}
use Rattle.item_spec.proofs.Bits.{below-has, below-not, below-same}
use Rattle.item_spec.specs.Write.{digits_in, number_text, members_below, more_text, list_text, mask_text}

-- ---- digits

pub digits-none : (n v : ℕ) → n ≡ 0 → digits_in n v ≡ []
unfolding digits_in
digits-none zero v e = refl
digits-none (suc n) v e = absurd (omega arith)

pub digits_last : (n v : ℕ) → (n ≡ 0 → ⊥) → v < 10 → digits_in n v ≡ (48 + v) ∷ []
unfolding digits_in
digits_last zero v h l = absurd (h refl)
digits_last (suc n) v h l = rw (lt-ltb v 10 l, digits_in)

pub digits_more : (n v : ℕ) → (n ≡ 0 → ⊥) → 10 ≤ v → digits_in n v ≡ digits_in (n - 1) (v / 10) ++ ((48 + v % 10) ∷ [])
unfolding digits_in
digits_more zero v h l = absurd (h refl)
digits_more (suc n) v h l =
    let e : n ≡ suc n - 1 = omega arith in
    rw (le-ltb v 10 l, digits_in) (ap (λ (m : ℕ). digits_in m (v / 10) ++ ((48 + v % 10) ∷ [])) e)

pub number-one : (v : ℕ) → v < 10 → number_text v ≡ (48 + v) ∷ []
unfolding number_text
number-one v l = digits_last 20 v (λ z. omega arith) l

pub number-two : (v : ℕ) → 10 ≤ v → v < 100 → number_text v ≡ ((48 + v / 10) ∷ []) ++ ((48 + v % 10) ∷ [])
unfolding number_text
number-two v h l = digits_more 20 v (λ z. omega arith) h ∙ ap (λ (xs : List ℕ). xs ++ ((48 + v % 10) ∷ [])) (digits_last 19 (v / 10) (λ z. omega arith) (omega arith))

-- ---- bytes copied

pub one_more : (xs : List ℕ) (i : ℕ) → i < length xs → take (i + 1) xs ≡ take i xs ++ (get_or xs i 0 ∷ [])
one_more xs i h = rw (add-one i) (take-suc xs i 0 h)

-- ---- a list

more-snoc : (xs : List ℕ) (v : ℕ) → more_text (xs ++ (v ∷ [])) ≡ more_text xs ++ (43 ∷ number_text v)
unfolding more_text
more-snoc [] v = append-nil (43 ∷ number_text v)
more-snoc (x ∷ xs) v =
    ap (◌++◌ (43 ∷ number_text x)) (more-snoc xs v) ∙ sym (append_assoc (43 ∷ number_text x) (more_text xs) (43 ∷ number_text v))

module _ (f : ℕ → ℕ) where
  -- those after the first, up to the i-th
  abbrev pub further : ℕ → List ℕ
  further i = more_text (list_of (i - 1) (λ r. f (suc r)))

  pub list-none : (n : ℕ) → n ≡ 0 → list_text (list_of n f) ≡ 45 ∷ []
  unfolding list_text list_of
  list-none zero e = refl
  list-none (suc n) e = absurd (omega arith)

  pub list-some : (n : ℕ) → (n ≡ 0 → ⊥) → list_text (list_of n f) ≡ number_text (f 0) ++ further n
  unfolding list_text
  list-some n h = ap list_text (list-head n f (omega arith))

  pub further-none : further 1 ≡ []
  unfolding more_text list_of
  further-none = refl

  pub further-turn : (i : ℕ) → 1 ≤ i → further (i + 1) ≡ further i ++ (43 ∷ number_text (f i))
  further-turn zero h = absurd (omega arith)
  further-turn (suc n) h =
      let e : suc n + 1 - 1 ≡ suc n = omega arith in
      let d : suc n - 1 ≡ n = omega arith in
      rw (e, d, list-snoc n (λ r. f (suc r))) (more-snoc (list_of n (λ r. f (suc r))) (f (suc n)))

-- ---- the members of a mask, the least first

-- none below the least
least-low : (d m j : ℕ) → j < count_trailing_zeros d m → member j m ≡ false
unfolding count_trailing_zeros
least-low zero m j h = absurd (omega arith)
least-low (suc d) m j h = go (m % 2) refl j h (λ i l. least-low d (m / 2) i l)
  where
    go : (r : ℕ) → m % 2 ≡ r → (j : ℕ) → j < under r (count_trailing_zeros d (m / 2)) → ((i : ℕ) → i < count_trailing_zeros d (m / 2) → member i (m / 2) ≡ false) → member j m ≡ false
    go zero e zero l half = member-zero m ∙ rw e
    go zero e (suc i) l half = member-suc i m ∙ half i (omega arith)
    go (suc r) e j l half = absurd (omega arith)

low-none : (n m : ℕ) → n ≤ least m → members_below n m ≡ []
unfolding members_below
low-none zero m h = refl
low-none (suc n) m h = below-not n m (least-low 32 m n h) ∙ low-none n m (omega arith)

module _ (m : ℕ) (some : m ≢ 0) (fits : m < 2 ^ 32) where
  low-later : members_below (least m) (later m) ≡ []
  low-later =
      below-same (least m) (later m) m (λ j h. later-other m m (rest-start m fits) some j (λ e. omega arith)) ∙ low-none (least m) m (omega arith)

  least-up : (n : ℕ) → least m < n → members_below n m ≡ least m ∷ members_below n (later m)
  least-up zero h = absurd (omega arith)
  least-up (suc n) h =
      ⊎_elim
      (λ e. rw (
        ← e,
        below-has (least m) m (least-of m m (rest-start m fits) some),
        low-none (least m) m (omega arith),
        below-not (least m) (later m) (later-own m m (rest-start m fits) some),
        low-later,
      ))
      (λ l.
      let other = later-other m m (rest-start m fits) some n (λ e. omega arith) in
      by-test (member n m)
      (λ t. rw (below-has n m t, below-has n (later m) (other ∙ t), least-up n l))
      (λ f. rw (below-not n m f, below-not n (later m) (other ∙ f)) (least-up n l)))
      (eq-or-lt_of_le (le_of_suc-le-suc h))

  pub members-least : members_below 32 m ≡ least m ∷ members_below 32 (later m)
  members-least = least-up 32 (least_lt m m (rest-start m fits) some)

  pub mask-some : mask_text m ≡ number_text (least m) ++ more_text (members_below 32 (later m))
  unfolding mask_text list_text
  mask-some = ap list_text members-least

  pub more-some : more_text (members_below 32 m) ≡ (43 ∷ number_text (least m)) ++ more_text (members_below 32 (later m))
  unfolding more_text
  more-some = ap more_text members-least

pub mask-none : mask_text 0 ≡ 45 ∷ []
unfolding mask_text list_text members_below member
mask-none = refl

pub more-none : more_text (members_below 32 0) ≡ []
unfolding more_text members_below member
more-none = refl
