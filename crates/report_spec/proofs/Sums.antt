-- Sums over the numbers below a bound: of bytes written in turn, of small terms, of one term that is not 0.
-- Assumes nothing.
use Prim.Native.Nat.{ℕ, zero, suc, ◌+◌, ◌*◌, ◌<◌, ◌≤◌}
use mathlib.Core.List.{List}
use mathlib.Core.Path.{◌≡◌, refl, ap, ◌∙◌}
use mathlib.Core.Logic.{◌≢◌, by_cases}
use native.Mathlib.Nat.{le_step}
use native.Mathlib.Omega.{arith}
use native.Mathlib.Decide.{ℕ_discrete}
use lib.ListN.{length, length-append}
use Rattle.item_spec.specs.Write.{in_turn}

unfoldable pub sum : (ℕ → ℕ) → ℕ → ℕ
sum f zero = 0
sum f (suc n) = sum f n + f n

pub length-in_turn : (f : ℕ → List ℕ) (n : ℕ) → length (in_turn f n) ≡ sum (λ k. length (f k)) n
unfolding in_turn sum
length-in_turn f zero = refl
length-in_turn f (suc n) = length-append (in_turn f n) (f n) ∙ ap (λ (x : ℕ). x + length (f n)) (length-in_turn f n)

-- each at most b
pub sum-le : (f : ℕ → ℕ) (b n : ℕ) → ((k : ℕ) → k < n → f k ≤ b) → sum f n ≤ b * n
unfolding sum
sum-le f b zero h = omega arith
sum-le f b (suc n) h = omega (arith, sum-le f b n (λ k l. h k (le_step l)), h n (omega arith))

-- so many lines, each of at most b bytes
pub turns-le : (f : ℕ → List ℕ) (b n : ℕ) → ((k : ℕ) → k < n → length (f k) ≤ b) → length (in_turn f n) ≤ b * n
turns-le f b n h = omega (arith, length-in_turn f n, sum-le (λ k. length (f k)) b n h)

pub sum-none : (f : ℕ → ℕ) (n : ℕ) → ((k : ℕ) → k < n → f k ≤ 0) → sum f n ≤ 0
sum-none f n h = omega (arith, sum-le f 0 n h)

-- each at most the sum of two
pub sum-add : (f g h : ℕ → ℕ) (n : ℕ) → ((k : ℕ) → f k ≤ g k + h k) → sum f n ≤ sum g n + sum h n
unfolding sum
sum-add f g h zero l = omega arith
sum-add f g h (suc n) l = omega (arith, sum-add f g h n l, l n)

-- all 0 but the one at a, which is at most x
pub sum-spike : (f : ℕ → ℕ) (a x n : ℕ) → ((k : ℕ) → a ≢ k → f k ≤ 0) → f a ≤ x → sum f n ≤ x
unfolding sum
sum-spike f a x zero h g = omega arith
sum-spike f a x (suc n) h g =
    by_cases (ℕ_discrete a n)
    (λ e. omega (arith, sum-none f n (λ k l. h k (λ q. omega arith)), ap f e))
    (λ e. omega (arith, sum-spike f a x n h g, h n e))

-- the same over two bounds
abbrev pub sums : (ℕ → ℕ → ℕ) → ℕ → ℕ → ℕ
sums f m n = sum (λ u. sum (f u) n) m

pub length-in_turns : (f : ℕ → ℕ → List ℕ) (m n : ℕ) → length (in_turn (λ u. in_turn (f u) n) m) ≡ sums (λ u q. length (f u q)) m n
length-in_turns f m n = length-in_turn (λ u. in_turn (f u) n) m ∙ ap (λ (g : ℕ → ℕ). sum g m) (λ i u. length-in_turn (f u) n i)

pub sums-add : (f g h : ℕ → ℕ → ℕ) (m n : ℕ) → ((u q : ℕ) → f u q ≤ g u q + h u q) → sums f m n ≤ sums g m n + sums h m n
sums-add f g h m n l = sum-add (λ u. sum (f u) n) (λ u. sum (g u) n) (λ u. sum (h u) n) m (λ u. sum-add (f u) (g u) (h u) n (l u))

pub sums_none : (f : ℕ → ℕ → ℕ) (m n : ℕ) → ((u q : ℕ) → f u q ≤ 0) → sums f m n ≤ 0
sums_none f m n h = sum-none (λ u. sum (f u) n) m (λ u l. sum-none (f u) n (λ q k. h u q))

pub sums-spike : (f : ℕ → ℕ → ℕ) (a b x m n : ℕ) → ((u q : ℕ) → a ≢ u → f u q ≤ 0) → ((u q : ℕ) → b ≢ q → f u q ≤ 0) → f a b ≤ x → sums f m n ≤ x
sums-spike f a b x m n h g l = sum-spike (λ u. sum (f u) n) a x m (λ u z. sum-none (f u) n (λ q k. h u q z)) (sum-spike (f a) b x n (g a) l)
