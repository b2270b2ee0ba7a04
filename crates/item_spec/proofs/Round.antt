-- What was written, with anything after it, is read as what it was: numbers of at most d digits for each d from 1 to 7, keys, lists, masks, the shapes of lines.
-- Assumes nothing.
use Prim.Native.Nat.{ℕ, zero, suc, ◌+◌, ◌-◌, ◌*◌, ◌/◌, ◌%◌, ◌^◌, ◌<◌, ◌≤◌, min}
use mathlib.Core.List.{List, [], ◌∷◌, ◌++◌, append_assoc, foldl, foldl-append}
use mathlib.Core.Bool.{true, false, true≢false}
use mathlib.Core.Path.{◌≡◌, refl, sym, ap, ◌∙◌}
use native.Mathlib.Nat.{le_refl, lt_of_lt_of_le}
use native.Mathlib.Numerals.{add-one}
use native.Mathlib.Omega.{arith}
use lib.Pow.{pow_mono}
use lib.Dec.{eqb, ltb, eqb-suc-zero}
use borrow.Author.Tests.{eq-eqb, ne_eqb, ltb-true, ltb-false, lt-leb}
use Rattle.sets.specs.Mask.{member, collect, with}
use Rattle.sets.proofs.Laws.{collect-is, gather-in, gather-out}
use Rattle.item_spec.specs.Reader.{got, refused, byte, bytes}
use Rattle.item_spec.specs.Read.{key, digit, number, number_from, Set, list, members_from, one_form, two_form, three_form, four_form, list_form, lists_form}
use Rattle.item_spec.specs.Write.{number_text, members_below, members, more_text, list_text, mask_text, one_text, two_text, three_text, four_text}
use Rattle.item_spec.proofs.Tests.{by-test}
use Rattle.item_spec.proofs.Laws.{number-digit, number-end, number-other, list-digit, list-end, list-plus, true-digit, true-follows, digits_lt, tenth-lt, text-digit, text-last}
use Rattle.item_spec.proofs.Bits.{below-has, below-not, below-bound}

pub key-round : (k s : List ℕ) → key k (k ++ s) ≡ got tt s
unfolding key
key-round [] s = refl
key-round (a ∷ k) s = rw (eq-eqb a a refl, key) (key-round k s)

-- ---- a number's digits, for any reader that takes them one by one: it begins as `start`, and is `go k v` after k digits of value v
record Takes {X : Type 0} (d : ℕ) (start : List ℕ → X) (go : ℕ → ℕ → List ℕ → X) : Type 0 where
  begins : (x : ℕ) (s : List ℕ) → start ((byte "0" + x) ∷ s) ≡ go 0 0 ((byte "0" + x) ∷ s)
  goes : (k v x : ℕ) (s : List ℕ) → digit d k v (byte "0" + x) ≡ true → go k v ((byte "0" + x) ∷ s) ≡ go (suc k) (v * 10 + ((byte "0" + x) - byte "0")) s

-- it took the k digits of v, at most n
record Took {X : Type 0} (start : List ℕ → X) (go : ℕ → ℕ → List ℕ → X) (n v : ℕ) (s : List ℕ) : Type 0 where
  k : ℕ
  some : eqb k 0 ≡ false
  few : k ≤ n
  reads : start (number_text v ++ s) ≡ go k v s

module _ {X : Type 0} (d : ℕ) (start : List ℕ → X) (go : ℕ → ℕ → List ℕ → X) (T : Takes d start go) where
  takes-digit : (k v x w : ℕ) (s : List ℕ) → x < 10 → k < d → (eqb k 0 ≡ false → v ≡ 0 → ⊥) → v * 10 + x ≡ w → go k v ((byte "0" + x) ∷ s) ≡ go (suc k) w s
  takes-digit k v x w s h f z e =
      T.goes k v x s (true-digit (record { low = omega arith; high = omega arith; few = f; leads = z })) ∙ ap (λ (y : ℕ). go (suc k) y s) (omega arith)

  takes_one : (n v : ℕ) (s : List ℕ) → 1 ≤ n → n ≤ d → v < 10 → Took start go n v s
  takes_one n v s low l h = record {
    k = 1;
    some = refl;
    few = low;
    reads = rw (text-digit v h) (T.begins v s ∙ takes-digit 0 0 v v s h (omega arith) (λ z e. true≢false z) (omega arith));
  }

  takes-more : (n v : ℕ) (s : List ℕ) → n < d → 10 ≤ v → v < 10 ^ 20 → Took start go n (v / 10) ((byte "0" + v % 10) ∷ s) → Took start go (suc n) v s
  takes-more n v s l h g w = record {
    k = suc w.k;
    some = eqb-suc-zero w.k;
    few = omega (arith, w.few);
    reads =
        rw (text-last v h g, append_assoc (number_text (v / 10)) ((byte "0" + v % 10) ∷ []) s)
        (w.reads ∙ takes-digit w.k (v / 10) (v % 10) v s (omega arith) (omega (arith, w.few)) (λ z e. omega arith) (omega arith));
  }

  takes-number : (n v : ℕ) (s : List ℕ) → 1 ≤ n → n ≤ 7 → n ≤ d → v < 10 ^ n → Took start go n v s
  takes-number zero v s low high l h = absurd (omega arith)
  takes-number (suc zero) v s low high l h = takes_one 1 v s low l h
  takes-number (suc (suc n)) v s low high l h =
      by-test (ltb v 10)
      (λ e. takes_one (suc (suc n)) v s low l (ltb-true v 10 e))
      (λ e. takes-more (suc n) v s l (ltb-false v 10 e) (digits_lt (suc (suc n)) 20 (omega arith) h)
      (takes-number (suc n) (v / 10) ((byte "0" + v % 10) ∷ s) (omega arith) (omega arith) (omega arith) (tenth-lt (suc n) v h)))

-- ---- lists of numbers and the masks they give
-- strictly ascending from t on, all below b
abbrev pub Ascends : ℕ → ℕ → List ℕ → Type 0
Ascends b t [] = Unit
Ascends b t (v ∷ vs) = (t ≤ v) × (v < b) × Ascends b (suc v) vs

-- the empty list, the list x with v as one more member, and the list of vs
abbrev pub empty : Set
empty = record { mask = 0; top = 0 }

abbrev pub added : Set → ℕ → Set
added x v = record { mask = with v x.mask; top = suc v }

abbrev pub listed : List ℕ → Set
listed vs = foldl added empty vs

ascends-last : (b : ℕ) (x : Set) (l : List ℕ) (v : ℕ) → Ascends b x.top l → (foldl added x l).top ≤ v → v < b → Ascends b x.top (l ++ (v ∷ []))
ascends-last b x [] v a h g = (h, g, tt)
ascends-last b x (y ∷ l) v a h g = (a.0, a.1, ascends-last b (added x y) l v a.2 h g)

-- l is the members of m that are below n, all of them below b
pub record Members (b n m : ℕ) (l : List ℕ) : Type 0 where
  pub back : (listed l).mask ≡ collect n (λ i. member i m)
  pub top : (listed l).top ≤ n
  pub none : (listed l).top ≡ 0 → (listed l).mask ≡ 0
  pub ascends : Ascends b 0 l

module _ (b n m : ℕ) (l : List ℕ) (w : Members b n m l) where
  members-same : member n m ≡ false → Members b (suc n) m l
  members-same e = record {
    back = w.back ∙ gather-out n _ e ∙ ap (λ (k : ℕ). collect k (λ i. member i m)) (add-one n);
    top = omega (arith, w.top);
    none = w.none;
    ascends = w.ascends;
  }

  members-more : n < 32 → n < b → member n m ≡ true → Members b (suc n) m (l ++ (n ∷ []))
  members-more h g e =
      let x : listed (l ++ (n ∷ [])) ≡ added (listed l) n = foldl-append added _ l (n ∷ []) in
      record {
        back = rw x (ap (with n) w.back ∙ gather-in n _ h e ∙ ap (λ (k : ℕ). collect k (λ i. member i m)) (add-one n));
        top = rw x (le_refl (suc n));
        none = rw x (λ z. absurd (omega arith));
        ascends = ascends-last b _ l n w.ascends w.top g;
      }

pub members-are : (b n m : ℕ) → n ≤ 32 → n ≤ b → Members b n m (members_below n m)
unfolding members_below collect
members-are b zero m h g = record { back = refl; top = le_refl 0; none = λ e. refl; ascends = tt }
members-are b (suc n) m h g =
    let w = members-are b n m (omega arith) (omega arith) in
    by-test (member n m)
    (λ e. rw (below-has n m e) (members-more b n m _ w h g e))
    (λ e. rw (below-not n m e) (members-same b n m _ w e))

pub mask-members : (m : ℕ) → m < 2 ^ 32 → (listed (members m)).mask ≡ m
mask-members m h = (members-are 32 32 m (le_refl 32) (le_refl 32)).back ∙ sym (collect-is 32 _ m h (λ j l. refl))

-- one more than the greatest member of m, 0 where it has none
pub top_of : ℕ → ℕ
top_of m = (listed (members m)).top

pub top_within : (n m : ℕ) → n ≤ 32 → m < 2 ^ n → top_of m ≤ n
unfolding top_of
top_within n m h g = rw (top_of, below-bound 32 m n g h) (members-are n n m h (le_refl n)).top

pub top-none : (m : ℕ) → m < 2 ^ 32 → top_of m ≡ 0 → m ≡ 0
unfolding top_of
top-none m h e = sym (mask-members m h) ∙ (members-are 32 32 m (le_refl 32) (le_refl 32)).none e

-- a mask as the list that is read
abbrev pub set_of : ℕ → Set
set_of m = record { mask = m; top = top_of m }

-- how many members d digits can write: 32, or 10 where d is 1
abbrev pub writable : ℕ → ℕ
writable d = min 32 (10 ^ d)

-- ---- what may end a number or a list: no digit, and no `+`
pub record Ends (e : ℕ) : Type 0 where
  pub low : e < byte "0"
  pub no_plus : eqb (byte "+") e ≡ false

pub comma : Ends (byte ",")
comma = record { low = omega arith; no_plus = refl }

pub lf : Ends (byte "\n")
lf = record { low = omega arith; no_plus = refl }

no_digit : (e x : ℕ) → e < byte "0" → eqb (byte "0" + x) e ≡ false
no_digit e x h = ne_eqb (byte "0" + x) e (λ z. omega arith)

number-takes-low : (d : ℕ) {e : ℕ} → e < byte "0" → Takes d (number d e) (number_from d e)
number-takes-low d {e} h = record { begins = λ x s. refl; goes = λ k v x s. number-digit d e k v (byte "0" + x) s (no_digit e x h) }

module _ (d : ℕ) {e : ℕ} (h : Ends e) where
  number-takes : Takes d (number d e) (number_from d e)
  number-takes = record { begins = λ x s. refl; goes = λ k v x s. number-digit d e k v (byte "0" + x) s (no_digit e x h.low) }

  members-take : (m t : ℕ) → Takes d (members_from d e m t 0 0) (members_from d e m t)
  members-take m t = record {
    begins = λ x s. refl;
    goes = λ k v x s. list-digit d e m t k v (byte "0" + x) s (no_digit e x h.low) (no_digit (byte "+") x (omega arith));
  }

  list-takes : Takes d (list d e) (members_from d e 0 0)
  unfolding list
  list-takes = record { begins = λ x s. rw (no_digit (byte "-") x (omega arith), list); goes = (members-take 0 0).goes }

-- ---- what was written is read, for each d from 1 to 7
module _ (d : ℕ) (low : 1 ≤ d) (high : d ≤ 7) where
  takes : {X : Type 0} {start : List ℕ → X} {go : ℕ → ℕ → List ℕ → X} → Takes d start go → {v : ℕ} → v < 10 ^ d → (s : List ℕ) → Took start go d v s
  takes T {v} h s = takes-number d _ _ T d v s low high (le_refl d) h

  -- a number below 10 ^ d, and the byte e that ends it
  pub number-round : {e : ℕ} → Ends e → (v : ℕ) → v < 10 ^ d → (s : List ℕ) → number d e (number_text v ++ (e ∷ s)) ≡ got v s
  number-round {e} h v g s =
      let w = takes (number-takes d h) g (e ∷ s) in
      w.reads ∙ number-end d e w.k v e s (eq-eqb e e refl) w.some

  -- the same of any end below the digits; and with another byte in its place
  pub number-ended : {e : ℕ} → e < byte "0" → (v : ℕ) → v < 10 ^ d → (s : List ℕ) → number d e (number_text v ++ (e ∷ s)) ≡ got v s
  number-ended {e} h v g s =
      let w = takes (number-takes-low d h) g (e ∷ s) in
      w.reads ∙ number-end d e w.k v e s (eq-eqb e e refl) w.some

  pub number-unended : {e : ℕ} → e < byte "0" → (v : ℕ) → v < 10 ^ d → (c : ℕ) (s : List ℕ) → c < byte "0" → eqb c e ≡ false → number d e (number_text v ++ (c ∷ s)) ≡ refused 2
  unfolding digit
  number-unended {e} h v g c s l z =
      let w = takes (number-takes-low d h) g (c ∷ s) in
      w.reads ∙ number-other d e w.k v c s z (rw (lt-leb (byte "0") c l))

  -- another byte than the one that ends it
  pub number_past : {e : ℕ} → Ends e → (c : ℕ) → c < byte "0" → eqb c e ≡ false → (v : ℕ) → v < 10 ^ d → (s : List ℕ) → number d e (number_text v ++ (c ∷ s)) ≡ refused 2
  unfolding digit
  number_past {e} h c l z v g s =
      let w = takes (number-takes d h) g (c ∷ s) in
      w.reads ∙ number-other d e w.k v c s z (rw (lt-leb 48 c l))

  more-round : {e : ℕ} → Ends e → (vs : List ℕ) (x : Set) (k v : ℕ) (s : List ℕ) → eqb k 0 ≡ false → x.top ≤ v → Ascends (10 ^ d) (suc v) vs →
      members_from d e x.mask x.top k v (more_text vs ++ (e ∷ s)) ≡ got (foldl added (added x v) vs) s
  unfolding more_text
  more-round {e} h [] x k v s z l a = list-end d e x.mask x.top k v e s (eq-eqb e e refl) (true-follows k x.top v z l)
  more-round {e} h (y ∷ vs) x k v s z l a =
      let w = takes (members-take d h (with v x.mask) (suc v)) a.1 (more_text vs ++ (e ∷ s)) in
      rw (append_assoc (number_text y) (more_text vs) (e ∷ s))
      (list-plus d e x.mask x.top k v (byte "+") _ h.no_plus refl (true-follows k x.top v z l) ∙ w.reads ∙ more-round h vs (added x v) w.k y s w.some a.0 a.2)

  -- numbers below 10 ^ d, ascending
  pub list-round : {e : ℕ} → Ends e → (vs : List ℕ) → Ascends (10 ^ d) 0 vs → (s : List ℕ) → list d e (list_text vs ++ (e ∷ s)) ≡ got (listed vs) s
  unfolding list_text list key
  list-round {e} h [] a s = rw (eq-eqb e e refl, key)
  list-round {e} h (v ∷ vs) a s =
      let w = takes (list-takes d h) a.1 (more_text vs ++ (e ∷ s)) in
      rw (append_assoc (number_text v) (more_text vs) (e ∷ s)) (w.reads ∙ more-round h vs empty w.k v s w.some a.0 a.2)

  -- a mask whose members d digits can write
  pub mask-round : {e : ℕ} → Ends e → (m : ℕ) → m < 2 ^ writable d → (s : List ℕ) → list d e (mask_text m ++ (e ∷ s)) ≡ got (set_of m) s
  unfolding mask_text top_of
  mask-round h m g s =
      let w = members-are (10 ^ d) (writable d) m (omega arith) (omega arith) in
      list-round h (members m) (rw (below-bound 32 m (writable d) g (omega arith)) w.ascends) s
      ∙ ap (λ (x : ℕ). got (record { mask = x; top = top_of m }) s) (mask-members m (lt_of_lt_of_le g (pow_mono {j = 32} (omega arith))))

  -- the shapes of lines
  pub one-round : (a : ℕ) → a < 10 ^ d → (s : List ℕ) → one_form d (one_text a ++ s) ≡ got a s
  unfolding one_form one_text
  one-round a ha s = simp append_assoc (number-round lf a ha s)

  pub two-round : (a b : ℕ) → a < 10 ^ d → b < 10 ^ d → (s : List ℕ) → two_form d (two_text a b ++ s) ≡ got (a, b) s
  unfolding two_form two_text one_text
  two-round a b ha hb s = simp append_assoc (rw (number-round comma a ha, number-round lf b hb))

  pub three-round : (a b c : ℕ) → a < 10 ^ d → b < 10 ^ d → c < 10 ^ d → (s : List ℕ) → three_form d (three_text a b c ++ s) ≡ got (a, b, c) s
  unfolding three_form three_text two_text one_text
  three-round a b c ha hb hc s = simp append_assoc (rw (number-round comma a ha, number-round comma b hb, number-round lf c hc))

  -- numbers more or fewer than a shape has
  pub one_of_two : (a b : ℕ) → a < 10 ^ d → (s : List ℕ) → one_form d (two_text a b ++ s) ≡ refused 2
  unfolding one_form two_text
  one_of_two a b ha s = simp append_assoc (number_past lf (byte ",") (omega arith) refl a ha _)

  pub two-of-three : (a b c : ℕ) → a < 10 ^ d → b < 10 ^ d → (s : List ℕ) → two_form d (three_text a b c ++ s) ≡ refused 2
  unfolding two_form three_text two_text
  two-of-three a b c ha hb s = simp append_assoc (rw (number-round comma a ha, number_past lf (byte ",") (omega arith) refl b hb))

  pub three-of-two : (a b : ℕ) → a < 10 ^ d → b < 10 ^ d → (s : List ℕ) → three_form d (two_text a b ++ s) ≡ refused 2
  unfolding three_form two_text one_text
  three-of-two a b ha hb s = simp append_assoc (rw (number-round comma a ha, number_past comma (byte "\n") (omega arith) refl b hb))

  pub four-round : (a b c e : ℕ) → a < 10 ^ d → b < 10 ^ d → c < 10 ^ d → e < 10 ^ d → (s : List ℕ) → four_form d (four_text a b c e ++ s) ≡ got (a, b, c, e) s
  unfolding four_form four_text three_text two_text one_text
  four-round a b c e ha hb hc he s = simp append_assoc (rw (number-round comma a ha, number-round comma b hb, number-round comma c hc, number-round lf e he))

  pub set-round : (m : ℕ) → m < 2 ^ writable d → (s : List ℕ) → list_form d (mask_text m ++ bytes "\n" ++ s) ≡ got (set_of m) s
  unfolding list_form
  set-round m h s = simp append_assoc (mask-round lf m h s)

  pub sets-round : (m n : ℕ) → m < 2 ^ writable d → n < 2 ^ writable d → (s : List ℕ) → lists_form d (mask_text m ++ bytes "," ++ mask_text n ++ bytes "\n" ++ s) ≡ got (set_of m, set_of n) s
  unfolding lists_form
  sets-round m n h g s = simp append_assoc (rw (mask-round comma m h, mask-round lf n g))
