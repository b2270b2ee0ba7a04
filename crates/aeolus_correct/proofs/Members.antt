-- Loops over the members of a set, the least of the rest at each turn: what is counted or looked at among the rest is what is left of the whole.
-- Assumes nothing.
use mathlib.Core.Path.{◌≡◌, refl, sym, ◌∙◌}
use mathlib.Core.Logic.{◌≢◌, by_cases}
use mathlib.Core.Bool.{Bool, true, false, not, ◌&&◌, ◌||◌, and-true, and-false}
use Prim.Native.Nat.{ℕ, suc, ◌^◌, ◌<◌}
use native.Mathlib.Decide.{ℕ_discrete}
use lib.Dec.{eqb}
use borrow.Author.Tests.{eq-eqb, ne_eqb}
use Rattle.sets.specs.Test.{all_below, tally}
use Rattle.sets.specs.Mask.{member, without, least, later}
use Rattle.sets.proofs.Laws.{member-none, member-without, all_of, all_same, all-miss}
use Rattle.sets.proofs.Tally.{tally-none, tally-same, tally-one}
use Rattle.sets.proofs.Members.{rest-start, least-of, least_lt, later-own, later-other}
use Rattle.item_spec.proofs.Tests.{by-test}

module _ (p : ℕ → Bool) where
  -- how many members of r pass
  abbrev pub passing : ℕ → ℕ
  passing r = tally 32 (λ y. member y r && p y)

  -- every member of r passes
  abbrev pub all_pass : ℕ → Bool
  all_pass r = all_below 32 (λ y. not (member y r) || p y)

  pub passing-none : (r : ℕ) → r ≡ 0 → passing r ≡ 0
  passing-none r e = tally-none 32 _ (λ y. rw (e, member-none y))

  pub all-none-left : (r : ℕ) → r ≡ 0 → all_pass r ≡ true
  all-none-left r e = all_of 32 _ (λ y h. rw (e, member-none y))

  module _ (r : ℕ) (fits : r < 2 ^ 32) (some : r ≢ 0) where
    pub passing-in : p (least r) ≡ true → passing r ≡ suc (passing (later r))
    passing-in e =
        tally-one 32 (least r) (λ y. member y (later r) && p y) (λ y. member y r && p y) (least_lt r r (rest-start r fits) some)
        (rw (later-own r r (rest-start r fits) some))
        (rw (least-of r r (rest-start r fits) some, e))
        (λ y d. rw (later-other r r (rest-start r fits) some y d))

    pub passing-out : p (least r) ≡ false → passing r ≡ passing (later r)
    passing-out e =
        tally-same 32 (λ y. member y r && p y) (λ y. member y (later r) && p y)
        (λ y h. by_cases (ℕ_discrete y (least r))
        (λ q. rw (q, e, and-false (member (least r) r), and-false (member (least r) (later r))))
        (λ d. rw (later-other r r (rest-start r fits) some y d)))

    pub all-hit : p (least r) ≡ true → all_pass (later r) ≡ all_pass r
    all-hit e =
        all_same 32 (λ y. not (member y (later r)) || p y) (λ y. not (member y r) || p y)
        (λ y h. by_cases (ℕ_discrete y (least r))
        (λ q. rw (q, e) (either (not (member (least r) (later r))) (not (member (least r) r))))
        (λ d. rw (later-other r r (rest-start r fits) some y d)))
      where
        either : (a b : Bool) → (a || true) ≡ (b || true)
        either true true = refl
        either true false = refl
        either false true = refl
        either false false = refl

    pub all-missed : p (least r) ≡ false → all_pass r ≡ false
    all-missed e = all-miss 32 _ (least r) (least_lt r r (rest-start r fits) some) (rw (least-of r r (rest-start r fits) some, e))

-- a set that has all that pass
pub among-all : (m : ℕ) (p : ℕ → Bool) → ((y : ℕ) → y < 32 → p y ≡ true → member y m ≡ true) → tally 32 (λ y. member y m && p y) ≡ tally 32 p
among-all m p f =
    tally-same 32 (λ y. member y m && p y) p
    (λ y h. by-test (p y) (λ t. rw (f y h t, t)) (λ t. rw t (and-false (member y m))))

-- all of a set, or those of another set among them where m is 0
module _ (m r used z : ℕ) where
  pub asked-all : {here : ℕ} → r ≡ here → m ≢ 0 → member z r ≡ (member z here && (not (eqb m 0) || member z used))
  asked-all {here} e d = rw (ne_eqb m 0 d, e) (sym (and-true (member z here)))

  pub asked-used : (all : ℕ) {here : ℕ} → z < 32 → all ≡ here → m ≡ 0 → r ≡ without all (without all used) → member z r ≡ (member z here && (not (eqb m 0) || member z used))
  asked-used all {here} h e d f =
      rw (f, eq-eqb m 0 d, ← e)
      (member-without z all (without all used) h ∙ rw (member-without z all used h) (go (member z all) (member z used)))
    where
      go : (a b : Bool) → (a && not (a && not b)) ≡ (a && b)
      go true true = refl
      go true false = refl
      go false b = refl
