-- A loop over the members of a set, the least of the rest at each turn: what is gathered or looked for is told of the members left behind.
-- Assumes nothing.
use mathlib.Core.Path.{◌≡◌, refl, sym, ap, ◌∙◌}
use mathlib.Core.Logic.{◌≢◌, by_cases}
use mathlib.Core.Bool.{Bool, true, false, not, ◌&&◌, ◌||◌, and-true, and-false, or-false, and-eq-true_iff}
use Prim.Native.Nat.{ℕ, zero, suc, ◌/◌, ◌%◌, ◌^◌, ◌≤◌, ◌<◌}
use native.Mathlib.Nat.{pow-suc}
use native.Mathlib.Omega.{arith}
use native.Mathlib.Decide.{ℕ_discrete, dec_lt}
use lib.Count.{count_trailing_zeros, under}
use lib.Dec.{eqb, ltb}
use borrow.Author.Tests.{eq-eqb, ne_eqb, lt-ltb, ltb-true}
use Rattle.sets.specs.Test.{any_below, tally}
use Rattle.sets.specs.Mask.{member, collect, only, with, least, later}
use Rattle.sets.proofs.Laws.{any-hit, any_none, none_any, member-zero, member-suc, member-none, member-far, member-collect, member-only, member-without, collect-is, collect-same, collect-lt}
use Rattle.sets.proofs.Searches.{any-alike}
use Rattle.sets.proofs.Tally.{tally-one}

-- ---- the least member is one

least-in : (d m : ℕ) → m ≢ 0 → m < 2 ^ d → (member (count_trailing_zeros d m) m ≡ true) × (count_trailing_zeros d m < d)
unfolding count_trailing_zeros
least-in zero m n h = absurd (n (omega arith))
least-in (suc d) m n h = go (m % 2) refl (λ e. least-in d (m / 2) (λ z. n (omega arith)) (omega (arith, pow-suc 2 d)))
  where
    go : (r : ℕ) → m % 2 ≡ r → (m % 2 ≡ 0 → (member (count_trailing_zeros d (m / 2)) (m / 2) ≡ true) × (count_trailing_zeros d (m / 2) < d))
        → (member (under r (count_trailing_zeros d (m / 2))) m ≡ true) × (under r (count_trailing_zeros d (m / 2)) < suc d)
    go zero e half = (member-suc (count_trailing_zeros d (m / 2)) m ∙ (half e).0, let below = (half e).1 in omega (arith, below))
    go (suc r) e half = (member-zero m ∙ rw (let one : m % 2 ≡ 1 = omega arith in one), omega arith)

-- ---- what is left of m, and its least member

pub record Rest (m r : ℕ) : Type 0 where
  pub fits : r < 2 ^ 32
  pub inside : (j : ℕ) → j < 32 → member j r ≡ true → member j m ≡ true

pub rest-start : (m : ℕ) → m < 2 ^ 32 → Rest m m
rest-start m h = record { fits = h; inside = λ j l e. e }

-- how many are left
abbrev pub left : ℕ → ℕ
left r = tally 32 (λ j. member j r)

module _ (m r : ℕ) (rest : Rest m r) (some : r ≢ 0) where
  pub least-of : member (least r) r ≡ true
  least-of = (least-in 32 r some rest.fits).0

  pub least_lt : least r < 32
  least_lt = (least-in 32 r some rest.fits).1

  pub least-member : member (least r) m ≡ true
  least-member = rest.inside (least r) least_lt least-of

  later-member : (j : ℕ) → j < 32 → member j (later r) ≡ (member j r && not (eqb j (least r)))
  later-member j h = member-without j r (only (least r)) h ∙ ap (λ (b : Bool). member j r && not b) (member-only j (least r) h)

  pub later-own : member (least r) (later r) ≡ false
  later-own = later-member (least r) least_lt ∙ rw (eq-eqb (least r) (least r) refl) (and-false (member (least r) r))

  pub later-other : (j : ℕ) → j ≢ least r → member j (later r) ≡ member j r
  later-other j n =
      by_cases (dec_lt j 32) (λ h. later-member j h ∙ rw (ne_eqb j (least r) n) (and-true (member j r)))
      (λ h. member-far j (later r) (omega arith) (collect-lt 32 _) ∙ sym (member-far j r (omega arith) rest.fits))

  pub rest-later : Rest m (later r)
  rest-later = record { fits = collect-lt 32 _; inside = λ j h e. rest.inside j h ((and-eq-true_iff (member j r) _).0 (sym (later-member j h) ∙ e)).0 }

  pub left_less : left (later r) < left r
  left_less = rw (tally-one 32 (least r) (λ j. member j (later r)) (λ j. member j r) least_lt later-own least-of later-other) (omega arith)

-- ---- the members of m that are behind, no more in the rest r, and pass

module _ (m : ℕ) (p : ℕ → Bool) where
  abbrev pub behind : ℕ → ℕ → Bool
  behind r j = member j m && (not (member j r) && p j)

  none-behind : (j : ℕ) → behind m j ≡ false
  none-behind j = go (member j m)
    where
      go : (b : Bool) → (b && (not b && p j)) ≡ false
      go true = refl
      go false = refl

  all-behind : (j : ℕ) → behind 0 j ≡ (member j m && p j)
  all-behind j = rw (member-none j)

  module _ (r : ℕ) (rest : Rest m r) (some : r ≢ 0) where
    behind_more : (j : ℕ) → j < 32 → behind (later r) j ≡ (behind r j || (eqb j (least r) && p (least r)))
    behind_more j h =
        by_cases (ℕ_discrete j (least r))
        (λ e. rw (e, later-own m r rest some, eq-eqb (least r) (least r) refl, least-member m r rest some, least-of m r rest some))
        (λ n. rw (later-other m r rest some j n, ne_eqb j (least r) n) (sym (or-false (behind r j))))

    -- those that pass gathered
    pub members-in : p (least r) ≡ true → with (least r) (collect 32 (behind r)) ≡ collect 32 (behind (later r))
    members-in e =
        collect-same 32 _ _
        (λ j h. ap (λ (b : Bool). b || eqb j (least r)) (member-collect 32 (behind r) j h) ∙ sym (behind_more j h ∙ rw (e, and-true (eqb j (least r)))))

    pub members-out : p (least r) ≡ false → collect 32 (behind r) ≡ collect 32 (behind (later r))
    members-out e = collect-same 32 _ _ (λ j h. sym (behind_more j h ∙ rw (e, and-false (eqb j (least r))) (or-false (behind r j))))

    -- one that passes looked for
    pub members-hit : p (least r) ≡ true → any_below 32 (λ j. member j m && p j) ≡ true
    members-hit e = any-hit 32 _ (least r) (least_lt m r rest some) (rw (least-member m r rest some, e))

    members-more : any_below 32 (behind r) ≡ false → p (least r) ≡ false → any_below 32 (behind (later r)) ≡ false
    members-more off e = none_any 32 _ (λ j h. behind_more j h ∙ rw (any_none 32 (behind r) off j h, e) (and-false (eqb j (least r))))

    -- none yet, and none by one more
    pub searched : any_below 32 (behind r) ≡ false → p (least r) ≡ false → Rest m (later r) × (any_below 32 (behind (later r)) ≡ false)
    searched off e = (rest-later m r rest some, members-more off e)

  pub members-start : 0 ≡ collect 32 (behind m)
  members-start = collect-is 32 (behind m) 0 (omega arith) (λ j h. member-none j ∙ sym (none-behind j))

  pub members-end : (r : ℕ) → r ≡ 0 → collect 32 (behind r) ≡ collect 32 (λ j. member j m && p j)
  members-end r e = collect-same 32 _ _ (λ j h. rw e (all-behind j))

  pub none-start : any_below 32 (behind m) ≡ false
  none-start = none_any 32 _ (λ j h. none-behind j)

  pub none_end : (r : ℕ) → r ≡ 0 → any_below 32 (behind r) ≡ false → any_below 32 (λ j. member j m && p j) ≡ false
  none_end r e off = none_any 32 _ (λ j h. sym (all-behind j) ∙ ap (λ (r : ℕ). behind r j) (sym e) ∙ any_none 32 (behind r) off j h)

  -- of the first n numbers only
  pub members-low : (n : ℕ) → n ≤ 32 → any_below 32 (λ j. member j m && (ltb j n && p j)) ≡ any_below n (λ j. member j m && p j)
  members-low n most =
      any-alike 32 n _ _
      (λ j h e. let (on, rest) = (and-eq-true_iff (member j m) _).0 e in
      let (low, passed) = (and-eq-true_iff (ltb j n) _).0 rest in
      (ltb-true j n low, rw (on, passed)))
      (λ j h e. (omega arith, rw (lt-ltb j n h) e))
