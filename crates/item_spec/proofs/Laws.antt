-- One step of each reader at a byte c, one digit of a number's text, and a reader's reply taken apart.
-- Assumes nothing.
use Prim.Native.Nat.{ℕ, zero, suc, ◌+◌, ◌-◌, ◌*◌, ◌/◌, ◌%◌, ◌^◌, ◌<◌, ◌≤◌}
use mathlib.Core.List.{List, [], ◌∷◌, ◌++◌}
use mathlib.Core.Bool.{true, false, not}
use mathlib.Core.Path.{◌≡◌, refl, sym, ap, ◌∙◌}
use native.Mathlib.Nat.{pow-suc, lt_of_lt_of_le, pow-le-pow_right}
use native.Mathlib.Omega.{arith}
use lib.Dec.{eqb, leb, ltb, lit<}
use borrow.Author.Tests.{ne_eqb, leb-true, ltb-true, eqb-false, not-true, le-leb, lt-ltb, le-ltb}
use Rattle.sets.specs.Mask.{with}
use Rattle.item_spec.specs.Reader.{Reply, Reader, got, refused, read_on, byte}
use Rattle.item_spec.specs.Read.{digit, number_from, follows, members_from}
use Rattle.item_spec.specs.Write.{digits_in, number_text}
use Rattle.item_spec.proofs.Tests.{by-test, and_left, and_right, or-not}

-- ---- one step of a number, after k digits of value v
module _ (d e k v c : ℕ) (s : List ℕ) where
  pub number-none : eqb c e ≡ true → eqb k 0 ≡ true → number_from d e k v (c ∷ s) ≡ refused 2
  unfolding number_from
  number-none p q = simp (p, q, number_from)

  pub number-end : eqb c e ≡ true → eqb k 0 ≡ false → number_from d e k v (c ∷ s) ≡ got v s
  unfolding number_from
  number-end p q = simp (p, q, number_from)

  pub number-digit : eqb c e ≡ false → digit d k v c ≡ true → number_from d e k v (c ∷ s) ≡ number_from d e (suc k) (v * 10 + (c - byte "0")) s
  unfolding number_from
  number-digit p q = simp (p, q, number_from)

  pub number-other : eqb c e ≡ false → digit d k v c ≡ false → number_from d e k v (c ∷ s) ≡ refused 2
  unfolding number_from
  number-other p q = simp (p, q, number_from)

-- ---- one step of a list, after members of mask m, all below t, and k digits of value v
module _ (d e m t k v c : ℕ) (s : List ℕ) where
  pub list-end : eqb c e ≡ true → follows k t v ≡ true → members_from d e m t k v (c ∷ s) ≡ got (record { mask = with v m; top = suc v }) s
  unfolding members_from
  list-end p q = simp (p, q, members_from)

  pub list-end-no : eqb c e ≡ true → follows k t v ≡ false → members_from d e m t k v (c ∷ s) ≡ refused 2
  unfolding members_from
  list-end-no p q = simp (p, q, members_from)

  pub list-plus : eqb c e ≡ false → eqb c (byte "+") ≡ true → follows k t v ≡ true → members_from d e m t k v (c ∷ s) ≡ members_from d e (with v m) (suc v) 0 0 s
  unfolding members_from
  list-plus p r q = simp (p, r, q, members_from)

  pub list-plus-no : eqb c e ≡ false → eqb c (byte "+") ≡ true → follows k t v ≡ false → members_from d e m t k v (c ∷ s) ≡ refused 2
  unfolding members_from
  list-plus-no p r q = simp (p, r, q, members_from)

  pub list-digit : eqb c e ≡ false → eqb c (byte "+") ≡ false → digit d k v c ≡ true →
      members_from d e m t k v (c ∷ s) ≡ members_from d e m t (suc k) (v * 10 + (c - byte "0")) s
  unfolding members_from
  list-digit p r q = simp (p, r, q, members_from)

  pub list-other : eqb c e ≡ false → eqb c (byte "+") ≡ false → digit d k v c ≡ false → members_from d e m t k v (c ∷ s) ≡ refused 2
  unfolding members_from
  list-other p r q = simp (p, r, q, members_from)

-- ---- what the tests of a digit and of a next member say
pub record Digit (d k v c : ℕ) : Type 0 where
  pub low : byte "0" ≤ c
  pub high : c ≤ byte "9"
  pub few : k < d
  pub leads : eqb k 0 ≡ false → v ≡ 0 → ⊥

pub digit-true : (d k v c : ℕ) → digit d k v c ≡ true → Digit d k v c
unfolding digit
digit-true d k v c e =
    let e₁ = and_right (leb (byte "0") c) _ e in
    let e₂ = and_right (leb c (byte "9")) _ e₁ in
    let e₃ = and_right (ltb k d) _ e₂ in
    record {
      low = leb-true (byte "0") c (and_left _ _ e);
      high = leb-true c (byte "9") (and_left _ _ e₁);
      few = ltb-true k d (and_left _ _ e₂);
      leads = λ z. eqb-false v 0 (not-true (eqb v 0) (or-not (eqb k 0) _ e₃ z));
    }

pub true-digit : {d k v c : ℕ} → Digit d k v c → digit d k v c ≡ true
unfolding digit
true-digit {d} {k} {v} {c} w =
    rw (digit, le-leb (byte "0") c w.low, le-leb c (byte "9") w.high, lt-ltb k d w.few)
    (by-test (eqb k 0) (λ z. rw z) (λ z. rw (z, ne_eqb v 0 (w.leads z))))

pub follows-true : (k t v : ℕ) → follows k t v ≡ true → (eqb k 0 ≡ false) × (t ≤ v)
follows-true k t v e = (not-true (eqb k 0) (and_left (not (eqb k 0)) (leb t v) e), leb-true t v (and_right (not (eqb k 0)) (leb t v) e))

pub true-follows : (k t v : ℕ) → eqb k 0 ≡ false → t ≤ v → follows k t v ≡ true
true-follows k t v z h = rw (z, le-leb t v h)

-- ---- a number's text, digit by digit
pub digits_lt : (k n : ℕ) → k ≤ n → {v : ℕ} → v < 10 ^ k → v < 10 ^ n
digits_lt k n l h = lt_of_lt_of_le h (pow-le-pow_right (lit< tt) l)

pub tenth-lt : (n v : ℕ) → v < 10 ^ suc n → v / 10 < 10 ^ n
tenth-lt n v h = omega (arith, rw (pow-suc 10 n) at h)

-- with more digits allowed, the text is the same
digits_more : (n v : ℕ) → v < 10 ^ suc n → digits_in (suc n) v ≡ digits_in (suc (suc n)) v
unfolding digits_in
digits_more zero v h = rw (lt-ltb v 10 h, digits_in)
digits_more (suc n) v h =
    by-test (ltb v 10)
    (λ e. rw (e, digits_in))
    (λ e. rw (e, digits_in) (ap (λ (l : List ℕ). l ++ ((byte "0" + v % 10) ∷ [])) (digits_more n (v / 10) (tenth-lt (suc n) v h))))

pub text-digit : (v : ℕ) → v < 10 → number_text v ≡ (byte "0" + v) ∷ []
unfolding number_text digits_in
text-digit v h = rw (lt-ltb v 10 h, digits_in)

pub text-last : (v : ℕ) → 10 ≤ v → v < 10 ^ 20 → number_text v ≡ number_text (v / 10) ++ ((byte "0" + v % 10) ∷ [])
unfolding number_text digits_in
text-last v h g = rw (le-ltb v 10 h, digits_in) (ap (λ (l : List ℕ). l ++ ((byte "0" + v % 10) ∷ [])) (digits_more 18 (v / 10) (tenth-lt 19 v g)))

-- ---- a reply that is `got`
pub not-got : {A : Type 0} {n : ℕ} {a : A} {r : List ℕ} → refused n ≡ got a r → ⊥
not-got {n = n} {a = a} {r = r} e = let z : ◌≡◌ {A = ℕ} 0 1 = cc in omega arith

pub not-both : {A W : Type 0} {x : Reply A} {n : ℕ} {a : A} {r : List ℕ} → x ≡ refused n → x ≡ got a r → W
not-both p q = absurd (not-got (sym p ∙ q))

pub got-value : {A : Type 0} {a b : A} {s r : List ℕ} → got a s ≡ got b r → a ≡ b
got-value {a = a} {b = b} {s = s} {r = r} e = cc

pub got-rest : {A : Type 0} {a b : A} {s r : List ℕ} → got a s ≡ got b r → s ≡ r
got-rest {a = a} {b = b} {s = s} {r = r} e = cc

-- a reply of two readers, one after the other
pub record Bound {A B : Type 0} (x : Reply A) (f : A → Reader B) (b : B) (r : List ℕ) : Type 0 where
  pub value : A
  pub rest : List ℕ
  pub first : x ≡ got value rest
  pub then : f value rest ≡ got b r

pub bound : {A B : Type 0} (x : Reply A) (f : A → Reader B) {b : B} {r : List ℕ} → read_on x f ≡ got b r → Bound x f b r
bound (got a s) f e = record { value = a; rest = s; first = refl; then = e }
bound (refused n) f e = absurd (not-got e)

-- the same, handed on: the value and the rest are variables there
pub bound-to : {A B W : Type 0} (x : Reply A) (f : A → Reader B) {b : B} {r : List ℕ} → read_on x f ≡ got b r →
    ((a : A) (t : List ℕ) → x ≡ got a t → f a t ≡ got b r → W) → W
bound-to x f q k = let u = bound x f q in k u.value u.rest u.first u.then
