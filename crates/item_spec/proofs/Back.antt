-- What was read is what is written: the bytes that a reader took are those that its value is written with, for numbers of at most d digits (d up to 7), keys,
-- lists with members below 32, the shapes of lines; and the value is within its bounds.
-- Assumes nothing.
use Prim.Native.Nat.{ℕ, zero, suc, ◌+◌, ◌-◌, ◌*◌, ◌^◌, ◌<◌, ◌≤◌}
use mathlib.Core.List.{List, [], ◌∷◌, ◌++◌, append_assoc, append-nil}
use mathlib.Core.Bool.{true, false, true≢false}
use mathlib.Core.Path.{◌≡◌, refl, sym, ap, ap₂, ◌∙◌}
use native.Mathlib.Nat.{pow-suc, le_step, lt_of_lt_of_le}
use native.Mathlib.Omega.{arith}
use lib.Pow.{pow_pos, pow_mono}
use lib.Dec.{eqb, ltb, eqb-suc-zero}
use borrow.Author.Tests.{ltb-true, ltb-false, eqb-true}
use Rattle.sets.specs.Mask.{member, with}
use Rattle.sets.proofs.Laws.{collect-lt, add-lt, with-add}
use Rattle.item_spec.specs.Reader.{Reader, got, read_on, byte, bytes}
use Rattle.item_spec.specs.Read.{key, digit, number, number_from, Set, follows, list, members_from, one_form, two_form, three_form, four_form, list_form, lists_form}
use Rattle.item_spec.specs.Write.{number_text, members, members_below, more_text, list_text, mask_text, one_text, two_text, three_text, four_text}
use Rattle.item_spec.proofs.Tests.{by-test}
use Rattle.item_spec.proofs.Laws.{number-none, number-end, number-digit, number-other, list-end, list-end-no, list-plus, list-plus-no, list-digit, list-other, Digit, digit-true, follows-true, digits_lt, text-digit, text-last, not-got, not-both, got-value, got-rest, bound-to}
use Rattle.item_spec.proofs.Bits.{members-add}

-- ---- a key
pub key_back : (k s : List ℕ) {r : List ℕ} → key k s ≡ got tt r → s ≡ k ++ r
unfolding key
key_back [] s q = got-rest q
key_back (a ∷ k) [] q = absurd (not-got q)
key_back (a ∷ k) (b ∷ s) q =
    by-test (eqb b a)
    (λ p. rw (eqb-true b a p, key_back k s (rw (p, key) at q)))
    (λ p. absurd (not-got (rw (p, key) at q)))

-- ---- digits
-- the k digits of value v that were taken
unfoldable begun : ℕ → ℕ → List ℕ
begun zero v = []
begun (suc k) v = number_text v

begun-some : (k v : ℕ) → eqb k 0 ≡ false → begun k v ≡ number_text v
unfolding begun
begun-some zero v e = absurd (true≢false e)
begun-some (suc k) v e = refl

-- one digit more: the value keeps within its digits, and the bytes taken are its text
value-lt : {d k v c : ℕ} → Digit d k v c → v < 10 ^ k → v * 10 + (c - byte "0") < 10 ^ suc k
value-lt {k = k} w h = rw (pow-suc 10 k) (omega (arith, w.high, w.low))

begun-digit : (d k v c : ℕ) → Digit d k v c → v < 10 ^ k → d ≤ 7 → begun k v ++ (c ∷ []) ≡ begun (suc k) (v * 10 + (c - byte "0"))
unfolding begun
begun-digit d zero v c w h l =
    sym (text-digit (v * 10 + (c - byte "0")) (omega (arith, w.high, w.low)) ∙ ap (λ (x : ℕ). x ∷ []) (omega (arith, w.low)))
begun-digit d (suc k) v c w h l =
    sym (text-last (v * 10 + (c - byte "0")) (omega (arith, w.leads (eqb-suc-zero k))) (digits_lt (suc (suc k)) 20 (omega (arith, w.few)) (value-lt w h))
    ∙ ap₂ (λ (x y : ℕ). number_text x ++ (y ∷ [])) (omega (arith, w.high, w.low)) (omega (arith, w.high, w.low)))

-- the same in a text, after what stands in front of the number and before the rest
taken-digit : (d k v c : ℕ) (front s : List ℕ) → Digit d k v c → v < 10 ^ k → d ≤ 7 → (front ++ begun k v) ++ (c ∷ s) ≡ (front ++ begun (suc k) (v * 10 + (c - byte "0"))) ++ s
taken-digit d k v c front s w h l = rw (← begun-digit d k v c w h l) (simp append_assoc)

-- ---- the members of a list
-- the members that were taken, each with the `+` after it
unfoldable front : List ℕ → List ℕ
front [] = []
front (v ∷ vs) = list_text (v ∷ vs) ++ bytes "+"

more-last : (l : List ℕ) (v : ℕ) → more_text (l ++ (v ∷ [])) ≡ more_text l ++ (byte "+" ∷ number_text v)
unfolding more_text
more-last [] v = append-nil (byte "+" ∷ number_text v)
more-last (x ∷ l) v = rw (more-last l v) (sym (append_assoc (byte "+" ∷ number_text x) (more_text l) (byte "+" ∷ number_text v)))

list-last : (l : List ℕ) (v : ℕ) → list_text (l ++ (v ∷ [])) ≡ front l ++ number_text v
unfolding list_text more_text front
list-last [] v = append-nil (number_text v)
list-last (x ∷ l) v = rw (more-last l v) (simp append_assoc)

front-last : (l : List ℕ) (v : ℕ) → front (l ++ (v ∷ [])) ≡ list_text (l ++ (v ∷ [])) ++ bytes "+"
unfolding front
front-last [] v = refl
front-last (x ∷ l) v = refl

-- v as one more member, above all others
module _ (m v : ℕ) (h : m < 2 ^ v) where
  with-lt : with v m < 2 ^ suc v
  with-lt =
      by-test (ltb v 32)
      (λ e. rw (with-add v m h (ltb-true v 32 e)) (add-lt v m h))
      (λ e. lt_of_lt_of_le (collect-lt 32 _) (pow_mono (le_step (ltb-false v 32 e))))

  members-with : v < 32 → members (with v m) ≡ members m ++ (v ∷ [])
  members-with l = ap members (with-add v m h l) ∙ members-add 32 m v h l

  mask-with : v < 32 → mask_text (with v m) ≡ front (members m) ++ number_text v
  unfolding mask_text
  mask-with l = ap list_text (members-with l) ∙ list-last (members m) v

  front-with : v < 32 → (s : List ℕ) → (front (members m) ++ number_text v) ++ (byte "+" ∷ s) ≡ (front (members (with v m)) ++ begun 0 0) ++ s
  unfolding mask_text begun
  front-with l s = rw (← mask-with l, mask_text, members-with l, front-last (members m) v) (simp append_assoc)

-- ---- what was read
-- s is the text of v, the byte e and r, and v is below 10 ^ d
abbrev pub Numbered : ℕ → ℕ → List ℕ → ℕ → List ℕ → Type 0
Numbered d e s v r = (s ≡ number_text v ++ (e ∷ r)) × (v < 10 ^ d)

-- a list's mask is within its top, and is not 0 where the top is not
pub record Topped (x : Set) : Type 0 where
  pub within : x.mask < 2 ^ x.top
  pub some : 0 < x.top → 0 < x.mask

-- s is the text of the list x, the byte e and r
abbrev pub Listed : ℕ → List ℕ → Set → List ℕ → Type 0
Listed e s x r = (s ≡ mask_text x.mask ++ (e ∷ r)) × Topped x

-- the same, where members of mask m, all below t, and k digits of value v were taken before s
abbrev ListFrom : ℕ → ℕ → List ℕ → Set → List ℕ → Type 0
ListFrom d e s x r = (m t k v : ℕ) → m < 2 ^ t → v < 10 ^ k → members_from d e m t k v s ≡ got x r →
    Listed e ((front (members m) ++ begun k v) ++ s) x r × (t < x.top)

module _ (d : ℕ) (l : d ≤ 7) where
  -- where k digits of value v were taken before s
  number-from : (e : ℕ) (s : List ℕ) (w : ℕ) (r : List ℕ) (k v : ℕ) → k ≤ d → v < 10 ^ k → number_from d e k v s ≡ got w r → Numbered d e (begun k v ++ s) w r
  unfolding number_from
  number-from e [] w r k v m h q = absurd (not-got q)
  number-from e (c ∷ s) w r k v m h q =
      by-test (eqb c e)
      (λ p. by-test (eqb k 0)
      (λ z. not-both (number-none d e k v c s p z) q)
      (λ z. let g = sym (number-end d e k v c s p z) ∙ q in
      rw (← got-value g, ← got-rest g, begun-some k v z, eqb-true c e p) (refl, digits_lt k d m h)))
      (λ p. by-test (digit d k v c)
      (λ z. let y = digit-true d k v c z in
      rw (taken-digit d k v c [] s y h l) (number-from e s w r (suc k) (v * 10 + (c - byte "0")) y.few (value-lt y h) (sym (number-digit d e k v c s p z) ∙ q)))
      (λ z. not-both (number-other d e k v c s p z) q))

  pub number-back : (e : ℕ) (s : List ℕ) {v : ℕ} {r : List ℕ} → number d e s ≡ got v r → Numbered d e s v r
  unfolding begun
  number-back e s q = number-from e s _ _ 0 0 (omega arith) (omega arith) q

  module _ (e c : ℕ) (s : List ℕ) (x : Set) (r : List ℕ) (top : x.top ≤ 32) (again : ListFrom d e s x r)
      (m t k v : ℕ) (h : m < 2 ^ t) (g : v < 10 ^ k) (q : members_from d e m t k v (c ∷ s) ≡ got x r) where
    abbrev Goal : Type 0
    Goal = Listed e ((front (members m) ++ begun k v) ++ (c ∷ s)) x r × (t < x.top)

    member-lt : follows k t v ≡ true → m < 2 ^ v
    member-lt z = lt_of_lt_of_le h (pow_mono (follows-true k t v z).1)

    list-at-end : eqb c e ≡ true → follows k t v ≡ true → Goal
    list-at-end p z =
        let y = sym (list-end d e m t k v c s p z) ∙ q in
        let f = follows-true k t v z in
        let i = member-lt z in
        let b : v < 32 = omega (arith, ap (λ (u : Set). u.top) (got-value y)) in
        rw (← got-value y, ← got-rest y, begun-some k v f.0, eqb-true c e p, ← mask-with m v i b)
        ((refl, record { within = with-lt m v i; some = λ n. rw (with-add v m i b) (omega (arith, pow_pos v)) }), omega (arith, f.1))

    list-at-plus : eqb c e ≡ false → eqb c (byte "+") ≡ true → follows k t v ≡ true → Goal
    list-at-plus p z f =
        let a = again (with v m) (suc v) 0 0 (with-lt m v (member-lt f)) (omega arith) (sym (list-plus d e m t k v c s p z f) ∙ q) in
        let y = follows-true k t v f in
        (rw (begun-some k v y.0, eqb-true c (byte "+") z, front-with m v (member-lt f) (omega (arith, a.1)) s) a.0, omega (arith, y.1, a.1))

    list-at-digit : eqb c e ≡ false → eqb c (byte "+") ≡ false → digit d k v c ≡ true → Goal
    list-at-digit p z f =
        let y = digit-true d k v c f in
        rw (taken-digit d k v c (front (members m)) s y g l) (again m t (suc k) (v * 10 + (c - byte "0")) h (value-lt y g) (sym (list-digit d e m t k v c s p z f) ∙ q))

    list-step : Goal
    list-step =
        by-test (eqb c e)
        (λ p. by-test (follows k t v) (list-at-end p) (λ z. not-both (list-end-no d e m t k v c s p z) q))
        (λ p. by-test (eqb c (byte "+"))
        (λ z. by-test (follows k t v) (list-at-plus p z) (λ f. not-both (list-plus-no d e m t k v c s p z f) q))
        (λ z. by-test (digit d k v c) (list-at-digit p z) (λ f. not-both (list-other d e m t k v c s p z f) q)))

  list-from : (e : ℕ) (s : List ℕ) (x : Set) (r : List ℕ) → x.top ≤ 32 → ListFrom d e s x r
  unfolding members_from
  list-from e [] x r top m t k v h g q = absurd (not-got q)
  list-from e (c ∷ s) x r top m t k v h g q = list-step e c s x r top (list-from e s x r top) m t k v h g q

  -- a list with members below 32
  pub list_back : (e : ℕ) (s : List ℕ) {x : Set} {r : List ℕ} → list d e s ≡ got x r → x.top ≤ 32 → Listed e s x r
  unfolding list front begun mask_text list_text members_below member
  list_back e [] q top = absurd (not-got q)
  list_back e (c ∷ s) q top =
      by-test (eqb c (byte "-"))
      (λ p. bound-to (key (e ∷ []) s) _ (rw (p, list) at q) λ u t k y.
      rw (eqb-true c (byte "-") p, key_back (e ∷ []) s k, ← got-value y, ← got-rest y) (refl, record { within = omega arith; some = λ n. n }))
      (λ p. (list-from e (c ∷ s) _ _ top 0 0 0 0 (omega arith) (omega arith) (rw (p, list) at q)).0)

  -- the shapes of lines: a number or a list, the byte that ends it, and what comes after
  number-then : {B W : Type 0} (e : ℕ) (s : List ℕ) (f : ℕ → Reader B) {b : B} {r : List ℕ} → read_on (number d e s) f ≡ got b r →
      ((a : ℕ) (t : List ℕ) → Numbered d e s a t → f a t ≡ got b r → W) → W
  number-then e s f q k = bound-to (number d e s) f q (λ a t p. k a t (number-back e s p))

  list-then : {B W : Type 0} (e : ℕ) (s : List ℕ) (f : Set → Reader B) {b : B} {r : List ℕ} → read_on (list d e s) f ≡ got b r →
      ((a : Set) (t : List ℕ) → (a.top ≤ 32 → Listed e s a t) → f a t ≡ got b r → W) → W
  list-then e s f q k = bound-to (list d e s) f q (λ a t p. k a t (list_back e s p))

  pub one-back : (s : List ℕ) {a : ℕ} {r : List ℕ} → one_form d s ≡ got a r → (s ≡ one_text a ++ r) × (a < 10 ^ d)
  unfolding one_form one_text
  one-back s q = let a = number-back _ s q in (simp append_assoc a.0, a.1)

  pub two_back : (s : List ℕ) {x : ℕ × ℕ} {r : List ℕ} → two_form d s ≡ got x r → (s ≡ two_text x.0 x.1 ++ r) × (x.0 < 10 ^ d) × (x.1 < 10 ^ d)
  unfolding two_form two_text one_text
  two_back s q =
      number-then _ s _ q λ _ t a q. number-then _ t _ q λ _ _ b q.
      rw (← got-value q, ← got-rest q) (simp append_assoc (cc (a.0, b.0)), a.1, b.1)

  pub three_back : (s : List ℕ) {x : ℕ × ℕ × ℕ} {r : List ℕ} → three_form d s ≡ got x r →
      (s ≡ three_text x.0 x.1 x.2 ++ r) × (x.0 < 10 ^ d) × (x.1 < 10 ^ d) × (x.2 < 10 ^ d)
  unfolding three_form three_text two_text one_text
  three_back s q =
      number-then _ s _ q λ _ t a q. number-then _ t _ q λ _ u b q. number-then _ u _ q λ _ _ c q.
      rw (← got-value q, ← got-rest q) (simp append_assoc (cc (a.0, b.0, c.0)), a.1, b.1, c.1)

  pub four-back : (s : List ℕ) {x : ℕ × ℕ × ℕ × ℕ} {r : List ℕ} → four_form d s ≡ got x r →
      (s ≡ four_text x.0 x.1 x.2 x.3 ++ r) × (x.0 < 10 ^ d) × (x.1 < 10 ^ d) × (x.2 < 10 ^ d) × (x.3 < 10 ^ d)
  unfolding four_form four_text three_text two_text one_text
  four-back s q =
      number-then _ s _ q λ _ t a q. number-then _ t _ q λ _ u b q. number-then _ u _ q λ _ v c q. number-then _ v _ q λ _ _ e q.
      rw (← got-value q, ← got-rest q) (simp append_assoc (cc (a.0, b.0, c.0, e.0)), a.1, b.1, c.1, e.1)

  pub set_back : (s : List ℕ) {x : Set} {r : List ℕ} → list_form d s ≡ got x r → x.top ≤ 32 → (s ≡ mask_text x.mask ++ bytes "\n" ++ r) × Topped x
  unfolding list_form
  set_back s q h = let a = list_back _ s q h in (simp append_assoc a.0, a.1)

  pub sets-back : (s : List ℕ) {x : Set × Set} {r : List ℕ} → lists_form d s ≡ got x r → x.0.top ≤ 32 → x.1.top ≤ 32 →
      (s ≡ mask_text x.0.mask ++ bytes "," ++ mask_text x.1.mask ++ bytes "\n" ++ r) × Topped x.0 × Topped x.1
  unfolding lists_form
  sets-back s q =
      list-then _ s _ q λ _ t a q. list-then _ t _ q λ _ _ b q.
      rw (← got-value q, ← got-rest q) λ h g. (simp append_assoc (cc ((a h).0, (b g).0)), (a h).1, (b g).1)
