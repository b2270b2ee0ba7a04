-- The text from a place on, and what one byte there does to a key, a number and a list.
-- Assumes nothing.
use Prim.Native.Nat.{ℕ, zero, suc, ◌+◌, ◌-◌, ◌*◌, ◌<◌, ◌≤◌, min}
use mathlib.Core.List.{List, [], ◌∷◌}
use mathlib.Core.Bool.{Bool, true, false}
use mathlib.Core.Path.{◌≡◌, refl, sym, ap, ◌∙◌}
use native.Mathlib.Numerals.{add-one}
use native.Mathlib.Nat.{pow-suc, zero-min, min-zero, suc-min-suc}
use native.Mathlib.Omega.{arith}
use lib.Dec.{eqb, lit<, lit≤}
use lib.ListN.{length, length-drop, drop, get_or, drop_of_length-le}
use lib.Seq.{drop-cons}
use borrow.Author.Tests.{eq-eqb, ne_eqb}
use Rattle.item_spec.specs.Reader.{Reply, Reader, got, refused, byte, give, ◌>>◌}
use Rattle.item_spec.specs.Read.{given, key, upon, digit, number_from, follows, members_from, list, Set}
use Rattle.item_spec.proofs.Tests.{by-test}
use Rattle.item_spec.proofs.Laws.{Digit, digit-true, follows-true, digits_lt}
use Rattle.read_items.specs.Turn.{Small}
use Rattle.read_items.specs.declared.Digits.{Digits}
use Rattle.read_items.specs.declared.Digits.TheVariants.{Five, Seven}
use Rattle.read_items.specs.Says.{most}
use Rattle.read_items.specs.Reads.{Outcome, Reads}
use Rattle.std.specs.declared.result.Result.{Result}
use Rattle.std.specs.declared.result.Result.TheVariants.{Ok, Err}
use Rattle.std.specs.Result.{IsErrAnd}

-- a test that fails
unless : (b : Bool) → (b ≡ true → ⊥) → b ≡ false
unless true h = absurd (h refl)
unless false h = refl

-- ---- the text from a place on
-- it is the byte there and the text from i + 1 on
pub from : (s : List ℕ) (i : ℕ) → i < length s → drop i s ≡ get_or s i 0 ∷ drop (i + 1) s
from s i h = rw (add-one, drop-cons s i 0)

-- past the end as at the end
pub from_end : (s : List ℕ) (at : ℕ) → drop (min at (length s)) s ≡ drop at s
from_end s zero = rw (zero-min (length s))
from_end [] (suc at) = rw (min-zero (suc at))
from_end (c ∷ s) (suc at) = rw (suc-min-suc at (length s)) (from_end s at)

-- ---- a text shorter than a key does not have it
key-few : (k s : List ℕ) → length s < length k → key k s ≡ refused 2
unfolding key
key-few [] s h = absurd (omega arith)
key-few (a ∷ k) [] h = refl
key-few (a ∷ k) (b ∷ s) h = by-test (eqb b a) (λ t. rw (t, key) (key-few k s (omega arith))) (λ f. rw (f, key))

pub key-short : (k s : List ℕ) (i : ℕ) → length s - i < length k → key k (drop i s) ≡ refused 2
key-short k s i h = key-few k (drop i s) (rw (length-drop i s) h)

-- ---- a key, of which j bytes have been met, at the place i
module _ (k s : List ℕ) (j i : ℕ) where
  pub key-same : j < length k → i < length s → get_or s i 0 ≡ get_or k j 0 → key (drop j k) (drop i s) ≡ key (drop (j + 1) k) (drop (i + 1) s)
  unfolding key
  key-same h g e = rw (from k j h, from s i g) (simp (eq-eqb (get_or s i 0) (get_or k j 0) e, key))

  pub key-other : j < length k → i < length s → (get_or s i 0 ≡ get_or k j 0 → ⊥) → key (drop j k) (drop i s) ≡ refused 2
  unfolding key
  key-other h g e = rw (from k j h, from s i g) (simp (ne_eqb (get_or s i 0) (get_or k j 0) e, key))

  pub key-done : length k ≤ j → key (drop j k) (drop i s) ≡ got tt (drop i s)
  unfolding key
  key-done h = rw (drop_of_length-le k h)

-- ---- digits
pub most-few : (d : Digits) → most d ≤ 7
most-few Five = lit≤ tt
most-few Seven = lit≤ tt

pub not_digit : (d k v c : ℕ) → (Digit d k v c → ⊥) → digit d k v c ≡ false
not_digit d k v c h = unless (digit d k v c) (λ e. h (digit-true d k v c e))

pub small-none : Small 0 0
small-none = record { few = lit≤ tt; below = lit< tt }

pub small-fits : (k v : ℕ) → Small k v → v < 10000000
small-fits k v w = digits_lt k 7 w.few w.below

pub small-below : (k v : ℕ) → Small k v → k < 7 → v < 1000000
small-below k v w h = digits_lt k 6 (omega arith) w.below

pub small-more : (k v c : ℕ) → Small k v → k < 7 → byte "0" ≤ c → c ≤ byte "9" → Small (k + 1) (v * 10 + (c - byte "0"))
small-more k v c w h l g = record { few = omega arith; below = rw (add-one, pow-suc) (omega (arith, w.below)) }

pub number-over : (d e k v i : ℕ) (s : List ℕ) → length s ≤ i → number_from d e k v (drop i s) ≡ refused 2
unfolding number_from
number-over d e k v i s h = rw (drop_of_length-le s h)

-- ---- members
pub not-follows : (k t v : ℕ) → ((eqb k 0 ≡ false) × (t ≤ v) → ⊥) → follows k t v ≡ false
not-follows k t v h = unless (follows k t v) (λ e. h (follows-true k t v e))

pub list_over : (d e m t k v i : ℕ) (s : List ℕ) → length s ≤ i → members_from d e m t k v (drop i s) ≡ refused 2
unfolding members_from
list_over d e m t k v i s h = rw (drop_of_length-le s h)

-- ---- one way or another, by a key
module _ {A : Type 0} (k s : List ℕ) (m other : Reader A) where
  pub on-here : (r : List ℕ) → key k s ≡ got tt r → upon k m other s ≡ m r
  on-here r e = rw (e, given)

  pub on-other : (n : ℕ) → key k s ≡ refused n → upon k m other s ≡ other s
  on-other n e = rw (e, given)

-- a list by its first byte: `-` and the byte e, or members
abbrev empty : ℕ → Reader Set
empty e = do
  key (e ∷ [])
  give (record { mask = 0; top = 0 })

module _ (d e : ℕ) where
  by-dash : (s : List ℕ) → list d e s ≡ upon (byte "-" ∷ []) (empty e) (members_from d e 0 0 0 0) s
  unfolding list key members_from
  by-dash [] = refl
  by-dash (c ∷ s) =
      by-test (eqb c (byte "-"))
      (λ t. rw (t, list) (sym (on-here (byte "-" ∷ []) (c ∷ s) (empty e) (members_from d e 0 0 0 0) s (rw (t, key)))))
      (λ t. rw (t, list) (sym (on-other (byte "-" ∷ []) (c ∷ s) (empty e) (members_from d e 0 0 0 0) 2 (rw (t, key)))))

  pub list-dash : (s r : List ℕ) → key (byte "-" ∷ []) s ≡ got tt r → list d e s ≡ empty e r
  list-dash s r h = by-dash s ∙ on-here (byte "-" ∷ []) s (empty e) (members_from d e 0 0 0 0) r h

  pub list-more : (s : List ℕ) → key (byte "-" ∷ []) s ≡ refused 2 → list d e s ≡ members_from d e 0 0 0 0 s
  list-more s h = by-dash s ∙ on-other (byte "-" ∷ []) s (empty e) (members_from d e 0 0 0 0) 2 h

-- ---- what was promised of an answer r, of the case v that it is
pub told : {A R : Type 0} (says : R → Outcome A) {s : List ℕ} {m : Reply A} {r : R} (v : R) → Reads s (says r) m → r ≡ v → Reads s (says v) m
told says v h e = rw e at h

-- ---- what a `?` hands on is the error that it met
pub handed_on : {A E : Type 0} {e : E} (r : Result A E) → IsErrAnd r (λ y. y ≡ e) → r ≡ Err e
handed_on (Ok a) h = absurd h
handed_on (Err y) h = ap Err h
