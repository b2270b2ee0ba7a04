-- How many bytes numbers and lists take: a number's digits, and the digits of a list's members with a `+` each.
-- Assumes nothing.
use Prim.Native.Nat.{ℕ, zero, suc, ◌+◌, ◌-◌, ◌*◌, ◌/◌, ◌^◌, ◌<◌, ◌≤◌}
use mathlib.Core.List.{List, [], ◌∷◌, ◌++◌}
use mathlib.Core.Bool.{true, false}
use mathlib.Core.Path.{◌≡◌, refl, ap, ◌∙◌}
use native.Mathlib.Nat.{pow-suc}
use native.Mathlib.Omega.{arith}
use lib.Dec.{eqb, ltb}
use lib.ListN.{length, length-append}
use borrow.Author.Tests.{lt-ltb}
use Rattle.sets.specs.Mask.{member}
use Rattle.sets.proofs.Laws.{member-past}
use Rattle.item_spec.specs.Write.{digits_in, number_text, members_below, members, more_text, list_text, mask_text}
use Rattle.item_spec.proofs.Tests.{by-test}
use Rattle.item_spec.proofs.Bits.{below-has, below-not}
use Rattle.model.specs.View.{behavior_in, stamp_in, list_of}
use Rattle.report_spec.specs.Report.{slot_text, more_slots, queue_text}

digits_le : (n m v : ℕ) → v < 10 ^ suc n → length (digits_in m v) ≤ suc n
unfolding digits_in
digits_le n zero v h = omega arith
digits_le zero (suc m) v h = rw (lt-ltb v 10 h, digits_in) (omega arith)
digits_le (suc n) (suc m) v h =
    by-test (ltb v 10) (λ e. rw (e, digits_in) (omega arith)) (λ e. rw (e, digits_in) (rw length-append (omega (arith, digits_le n m (v / 10) tenth))))
  where
    tenth : v / 10 < 10 ^ suc n
    tenth = omega (arith, rw (pow-suc 10 (suc n)) at h)

-- a number below 10 ^ (n + 1) has at most n + 1 digits
pub number-le : (n v : ℕ) → v < 10 ^ suc n → length (number_text v) ≤ suc n
unfolding number_text
number-le n v h = digits_le n 20 v h

-- what a member takes in a list, what the members of a list take, what all numbers below n would take
abbrev cost : ℕ → ℕ
cost v = length (number_text v) + 1

total : List ℕ → ℕ
total [] = 0
total (v ∷ vs) = cost v + total vs

costs : ℕ → ℕ
costs zero = 0
costs (suc n) = costs n + cost n

more-is : (l : List ℕ) → length (more_text l) ≡ total l
unfolding more_text total
more-is [] = refl
more-is (v ∷ l) = omega (arith, length-append (43 ∷ number_text v) (more_text l), more-is l)

-- crude by two bytes: the first member has no `+`, and `-` stands only where there is no member
list-le : (l : List ℕ) → length (list_text l) ≤ total l + 1
unfolding list_text total
list-le [] = omega arith
list-le (v ∷ l) = omega (arith, length-append (number_text v) (more_text l), more-is l)

total-append : (l r : List ℕ) → total (l ++ r) ≡ total l + total r
unfolding total
total-append [] r = omega arith
total-append (v ∷ l) r = omega (arith, total-append l r)

module _ (n m : ℕ) where
  total-has : member n m ≡ true → total (members_below (suc n) m) ≡ total (members_below n m) + cost n
  unfolding total
  total-has e = ap total (below-has n m e) ∙ total-append (members_below n m) (n ∷ []) ∙ omega arith

  total-not : member n m ≡ false → total (members_below (suc n) m) ≡ total (members_below n m)
  total-not e = ap total (below-not n m e)

-- two sets with no member in common
apart-total : (n a b : ℕ) → ((x : ℕ) → member x a ≡ true → member x b ≡ false) → total (members_below n a) + total (members_below n b) ≤ costs n
unfolding total costs members_below
apart-total zero a b h = omega arith
apart-total (suc n) a b h =
    let i = apart-total n a b h in
    by-test (member n a)
    (λ e. omega (arith, i, total-has n a e, total-not n b (h n e)))
    (λ e. by-test (member n b) (λ f. omega (arith, i, total-not n a e, total-has n b f)) (λ f. omega (arith, i, total-not n a e, total-not n b f)))

-- no members from n on
none_above : (d n m : ℕ) → ((x : ℕ) → member x m ≡ true → x < n) → total (members_below (d + n) m) ≡ total (members_below n m)
none_above zero n m h = ap (λ (x : ℕ). total (members_below x m)) (omega arith)
none_above (suc d) n m h =
    by-test (member (d + n) m)
    (λ e. absurd (omega (arith, h (d + n) e)))
    (λ e. ap (λ (x : ℕ). total (members_below x m)) (omega arith) ∙ total-not (d + n) m e ∙ none_above d n m h)

costs-are : (costs 16 ≡ 38) × (costs 32 ≡ 86)
unfolding costs number_text digits_in
costs-are = (refl, refl)

-- a set of places: it has no member in common with the empty set
pub places-le : (m : ℕ) → ((x : ℕ) → member x m ≡ true → x < 16) → length (mask_text m) ≤ 39
unfolding mask_text
places-le m h =
    omega (arith, list-le (members m), none_above 16 16 m h, apart-total 16 m 0 (λ x e. member-past 0 x 0 (omega arith) (omega arith)), costs-are)

-- two sets of transitions
pub apart-le : (a b : ℕ) → ((x : ℕ) → member x a ≡ true → member x b ≡ false) → length (mask_text a) + length (mask_text b) ≤ 88
unfolding mask_text
apart-le a b h = omega (arith, list-le (members a), list-le (members b), apart-total 32 a b h, costs-are)

-- a queue of n slots: a behavior of one digit, and a ticket of at most three
slot-le : (s : ℕ) → s < 2056 → length (slot_text s) ≤ 5
unfolding slot_text
slot-le s h =
    by-test (eqb (stamp_in s) 0)
    (λ e. rw e (rw length-append (omega (arith, number-le 0 (behavior_in s) (omega arith)))))
    (λ e. rw e (rw length-append (omega (arith, number-le 0 (behavior_in s) (omega arith), number-le 2 (stamp_in s - 1) (omega arith)))))

slots-le : (n : ℕ) (f : ℕ → ℕ) → ((r : ℕ) → r < n → f r < 2056) → length (more_slots (list_of n f)) ≤ 6 * n
unfolding more_slots list_of
slots-le zero f h = omega arith
slots-le (suc n) f h =
    omega (arith, length-append (43 ∷ slot_text (f 0)) (more_slots (list_of n (λ r. f (suc r)))), slot-le (f 0) (h 0 (omega arith)), slots-le n (λ r. f (suc r)) (λ r l. h (suc r) (omega arith)))

pub queue-le : (n : ℕ) (f : ℕ → ℕ) → ((r : ℕ) → r < n → f r < 2056) → length (queue_text (list_of n f)) ≤ 6 * n + 1
unfolding queue_text list_of
queue-le zero f h = omega arith
queue-le (suc n) f h =
    omega (arith, length-append (slot_text (f 0)) (more_slots (list_of n (λ r. f (suc r)))), slot-le (f 0) (h 0 (omega arith)), slots-le n (λ r. f (suc r)) (λ r l. h (suc r) (omega arith)))
