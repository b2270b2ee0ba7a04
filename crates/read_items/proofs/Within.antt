-- A line of numbers: its definition as the code reads it, and as the kinds of lines have it.
-- Assumes nothing.
use Prim.Native.Nat.{ℕ, zero, suc, ◌+◌, ◌-◌, ◌≤◌, ◌<◌}
use mathlib.Core.List.{List}
use mathlib.Core.Bool.{Bool, true, false, ◌&&◌}
use mathlib.Core.Path.{◌≡◌, refl, sym, ap, ◌∙◌}
use native.Mathlib.Omega.{arith}
use lib.Dec.{ltb, lit<, lit≤}
use lib.ListN.{length, drop, set, replicate, length-set}
use Rattle.item_spec.specs.Reader.{Reply, Reader, got, refused, read_on, check, give, byte}
use Rattle.item_spec.proofs.Tests.{by-test}
use Rattle.item_spec.proofs.Laws.{not-got, got-value}
use Rattle.item_spec.specs.Read.{number, one_form, two_form, three_form, four_form}
use Rattle.read_items.specs.declared.numbers.Four.{Four}
use Rattle.read_items.specs.declared.numbers.Limits.{Limits}
use Rattle.read_items.specs.declared.numbers.Limits.TheVariants as limits
use Rattle.read_items.specs.declared.numbers.Held.{Held}
use Rattle.read_items.specs.Reads.{Outcome, past, fault, Reads}
use Rattle.read_items.specs.Within.{four, numbers_within, numbers_held, numbers_from, held_by, within, end_of, four_of}
use Rattle.read_items.proofs.Limits.{form-fault, limit-fault, limit-kept}

and-true : (b : Bool) → (b && true) ≡ b
and-true true = refl
and-true false = refl

-- what h does at once, f and g do one after the other
pub in-turn : {A B C : Type 0} (x : Reply A) (f : A → Reader B) (g : B → Reader C) (h : A → Reader C)
    → ((a : A) (r : List ℕ) → h a r ≡ read_on (f a r) g) → read_on x h ≡ read_on (read_on x f) g
in-turn (got a r) f g h e = e a r
in-turn (refused n) f g h e = refl

-- f and g one after the other do what the others do
two_ways : {A B C D : Type 0} (x : Reply A) (f : A → Reader B) (g : B → Reader D) (h : A → Reader C) (k : C → Reader D)
    → ((a : A) (r : List ℕ) → read_on (f a r) g ≡ read_on (h a r) k) → read_on (read_on x f) g ≡ read_on (read_on x h) k
two_ways (got a r) f g h k e = e a r
two_ways (refused n) f g h k e = refl

held-is : (d : ℕ) (l : Limits) (s : List ℕ) → numbers_held d (held_by l) s ≡ numbers_within d l s
unfolding numbers_held numbers_from numbers_within one_form two_form three_form four_form
held-is d (limits.One j) s = sym (in-turn (number d (byte "\n") s) _ _ _ (λ a r. rw and-true))
held-is d (limits.Two j k) s = two_ways (number d (byte ",") s) _ _ _ _ (λ a r. two_ways (number d (byte "\n") r) _ _ _ _ (λ b q. rw and-true))
held-is d (limits.Three j k l) s =
    two_ways (number d (byte ",") s) _ _ _ _ (λ a r.
    two_ways (number d (byte ",") r) _ _ _ _ (λ b q. two_ways (number d (byte "\n") q) _ _ _ _ (λ c p. rw and-true)))
held-is d (limits.Four j k l m) s =
    two_ways (number d (byte ",") s) _ _ _ _ (λ a r.
    two_ways (number d (byte ",") r) _ _ _ _ (λ b q.
    two_ways (number d (byte ",") q) _ _ _ _ (λ c p. two_ways (number d (byte "\n") p) _ _ _ _ (λ e o. refl))))

-- ---- so many numbers of h are left at the place next, and those before them stand in l
pub record Left (d at : ℕ) (h : Held) (s l : List ℕ) (next k left : ℕ) : Type 0 where
  pub few : k + left ≤ 4
  pub size : length l ≡ 4
  pub some : 0 < left + k
  pub within : 0 < k → next ≤ length s
  pub same : numbers_from d left k l (drop next s) ≡ numbers_from d h.count 0 (replicate 4 0) (drop at s)

pub left-all : (d at : ℕ) (l : Limits) (s : List ℕ) {h : Held} → h ≡ held_by l → Left d at h s (replicate 4 0) at 0 h.count
left-all d at l s e = rw e (all l)
  where
    all : (l : Limits) → Left d at (held_by l) s (replicate 4 0) at 0 (held_by l).count
    all (limits.One j) = record { few = lit≤ tt; size = refl; some = lit< tt; within = λ g. absurd (omega arith); same = refl }
    all (limits.Two j k) = record { few = lit≤ tt; size = refl; some = lit< tt; within = λ g. absurd (omega arith); same = refl }
    all (limits.Three j k m) = record { few = lit≤ tt; size = refl; some = lit< tt; within = λ g. absurd (omega arith); same = refl }
    all (limits.Four j k m n) = record { few = lit≤ tt; size = refl; some = lit< tt; within = λ g. absurd (omega arith); same = refl }

-- the next number, then those after it
from_more : (d left k : ℕ) (l t : List ℕ) → 0 < left → numbers_from d left k l t ≡ read_on (number d (end_of left) t) (λ a. numbers_from d (left - 1) (k + 1) (set l k a))
unfolding numbers_from
from_more d zero k l t p = absurd (omega arith)
from_more d (suc n) k l t p =
    let e : n ≡ suc n - 1 = omega arith in
    let f : suc k ≡ k + 1 = omega arith in
    λ i. read_on (number d (end_of (suc n)) t) (λ a. numbers_from d (e i) (f i) (set l k a))

module _ (d at : ℕ) (h : Held) (s l : List ℕ) (next k left : ℕ) (g : Left d at h s l next k left) (p : 0 < left) where
  one_more : read_on (number d (end_of left) (drop next s)) (λ a. numbers_from d (left - 1) (k + 1) (set l k a)) ≡ numbers_from d h.count 0 (replicate 4 0) (drop at s)
  one_more = sym (from_more d left k l (drop next s) p) ∙ g.same

  pub left-fault : Reads s (fault 2) (number d (end_of left) (drop next s)) → Reads s (fault 2) (numbers_held d h (drop at s))
  unfolding numbers_held
  left-fault r = form-fault _ _ (rw one_more at (form-fault _ (λ a. numbers_from d (left - 1) (k + 1) (set l k a)) r))

  pub left_less : {a i : ℕ} → Reads s (past a i) (number d (end_of left) (drop next s)) → Left d at h s (set l k a) i (k + 1) (left - 1)
  left_less r =
      record {
        few = omega (arith, g.few);
        size = simp length-set g.size;
        some = omega arith;
        within = λ z. r.within;
        same = ap (λ x. read_on x (λ a. numbers_from d (left - 1) (k + 1) (set l k a))) r.same ∙ one_more;
      }

module _ (d at : ℕ) (h : Held) (s l : List ℕ) (next k left : ℕ) (g : Left d at h s l next k left) (z : left ≤ 0) where
  all_read : Reads s (past l next) (numbers_from d h.count 0 (replicate 4 0) (drop at s))
  unfolding numbers_from
  all_read = let o : left ≡ 0 = omega arith in record { within = g.within (omega (arith, g.some)); same = rw o at g.same }

  pub left-none : within (four_of l) h ≡ true → Reads s (past (four_of l) next) (numbers_held d h (drop at s))
  unfolding numbers_held
  left-none t = limit-kept _ _ all_read (rw t)

  pub left-beyond : within (four_of l) h ≡ false → Reads s (fault 3) (numbers_held d h (drop at s))
  unfolding numbers_held
  left-beyond t = limit-fault _ _ all_read (rw t)

pub held_reads : (d : ℕ) (l : Limits) (t : List ℕ) {s : List ℕ} {h : Held} {o : Outcome Four} → h ≡ held_by l → Reads s o (numbers_held d h t) → Reads s o (numbers_within d l t)
held_reads d l t e r = rw (held-is d l t) at (rw e at r)

-- what was read is within its limits
pub got-within : (d : ℕ) (l : Limits) (t : List ℕ) {s : List ℕ} {x : Four} {i : ℕ} → Reads s (past x i) (numbers_within d l t) → within x (held_by l) ≡ true
unfolding numbers_held
got-within d l t {s} {x} {i} h = by (numbers_from d (held_by l).count 0 (replicate 4 0) t) (h.same ∙ sym (held-is d l t))
  where
    by : (y : Reply (List ℕ)) → got x (drop i s) ≡ read_on y (λ q r. read_on (check (within (four_of q) (held_by l)) 3 r) (λ _. give (four_of q))) → within x (held_by l) ≡ true
    by (refused n) e = absurd (not-got (sym e))
    by (got q r) e = by-test (within (four_of q) (held_by l)) (λ w. rw (got-value (rw w at e)) w) (λ w. absurd (not-got (sym (rw w at e))))

-- then f, by the limits' own tests
module _ {B : Type 0} (d : ℕ) (f : Four → Reader B) (s : List ℕ) where
  pub one-within : (j : ℕ) (p : ℕ → Bool) → ((a : ℕ) → ltb a j ≡ p a)
      → read_on (one_form d s) (λ a r. read_on (check (p a) 3 r) (λ _. f (four a 0 0 0))) ≡ read_on (numbers_within d (limits.One j) s) f
  unfolding numbers_within
  one-within j p h = in-turn (one_form d s) _ _ _ (λ a r. rw (h a) (in-turn (check (p a) 3 r) _ _ _ (λ u q. refl)))

  pub two-within : (j k : ℕ) (p q : ℕ → Bool) → ((a : ℕ) → ltb a j ≡ p a) → ((b : ℕ) → ltb b k ≡ q b)
      → read_on (two_form d s) (λ (a, b) r. read_on (check (p a && q b) 3 r) (λ _. f (four a b 0 0))) ≡ read_on (numbers_within d (limits.Two j k) s) f
  unfolding numbers_within
  two-within j k p q h g = in-turn (two_form d s) _ _ _ (λ (a, b) r. rw (h a, g b) (in-turn (check (p a && q b) 3 r) _ _ _ (λ u o. refl)))

  pub three-within : (j k l : ℕ) (p q t : ℕ → Bool) → ((a : ℕ) → ltb a j ≡ p a) → ((b : ℕ) → ltb b k ≡ q b) → ((c : ℕ) → ltb c l ≡ t c)
      → read_on (three_form d s) (λ (a, b, c) r. read_on (check (p a && (q b && t c)) 3 r) (λ _. f (four a b c 0))) ≡ read_on (numbers_within d (limits.Three j k l) s) f
  unfolding numbers_within
  three-within j k l p q t h g i =
      in-turn (three_form d s) _ _ _ (λ (a, b, c) r. rw (h a, g b, i c) (in-turn (check (p a && (q b && t c)) 3 r) _ _ _ (λ u o. refl)))

  pub four-within : (j k l m : ℕ) (p q t v : ℕ → Bool)
      → ((a : ℕ) → ltb a j ≡ p a) → ((b : ℕ) → ltb b k ≡ q b) → ((c : ℕ) → ltb c l ≡ t c) → ((e : ℕ) → ltb e m ≡ v e)
      → read_on (four_form d s) (λ (a, b, c, e) r. read_on (check (p a && (q b && (t c && v e))) 3 r) (λ _. f (four a b c e)))
      ≡ read_on (numbers_within d (limits.Four j k l m) s) f
  unfolding numbers_within
  four-within j k l m p q t v h g i n =
      in-turn (four_form d s) _ _ _ (λ (a, b, c, e) r. rw (h a, g b, i c, n e) (in-turn (check (p a && (q b && (t c && v e))) 3 r) _ _ _ (λ u o. refl)))
