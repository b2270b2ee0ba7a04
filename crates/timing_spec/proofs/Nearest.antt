-- `nearest` is the nearest, the lower of two that are equally near, and no other number is.
-- Assumes nothing.
use Prim.Native.Nat.{ℕ, ◌+◌, ◌-◌, ◌*◌, ◌/◌, ◌<◌, ◌≤◌}
use mathlib.Core.Path.{◌≡◌, sym}
use mathlib.Core.Logic.{by_cases}
use native.Mathlib.Nat.{mul_assoc, mul_comm, add-mul, one-mul, div-mul-le_self, lt-div-mul-add, le_antisymm, le_refl, le_of_lt, lt_irrefl}
use native.Mathlib.Omega.{arith}
use native.Mathlib.Decide.{dec_lt}
use Rattle.timing_spec.specs.Mark.{nearest}
use Rattle.timing_spec.specs.Nearest.{apart, off, IsNearest, NearestIsNearest, OnlyNearest}

-- the quotient q lies within half a clock of what it rounds, and above it by less
record Rounds (par clock q : ℕ) : Type 0 where
  low : 2 * (q * clock) + 1 ≤ 2000 * par + clock
  high : 2000 * par ≤ 2 * (q * clock) + clock

rounds : (par clock : ℕ) → 1 ≤ clock → Rounds par clock (nearest par clock)
unfolding nearest
rounds par clock h =
    let n = 2000 * par + clock - 1 in
    let q = n / (2 * clock) in
    let e : q * (2 * clock) ≡ 2 * (q * clock) = rw (mul_comm q (2 * clock), mul_assoc 2 clock q, mul_comm clock q) in
    record { low = omega (arith, e, div-mul-le_self n (2 * clock)); high = omega (arith, e, lt-div-mul-add {a = n} {b = 2 * clock} (omega arith)) }

-- of a and a + c + d, a is as near to b, where it lies at most half of c below; and a + c + d farther off than b, where b lies more than half of c below
near-below : (a b c d : ℕ) → 2 * b ≤ 2 * a + c → 2 * a + 1 ≤ 2 * b + c → apart a b ≤ apart (a + c + d) b
near-below a b c d low high = omega arith

near-above : (a b c d : ℕ) → 2 * (a + c + d) + 1 ≤ 2 * b + c → 2 * b ≤ 2 * (a + c + d) + c → apart (a + c + d) b < apart a b
near-above a b c d low high = omega arith

-- a number that lies d + 1 above another
above : (m d clock : ℕ) → (m + 1 + d) * clock ≡ m * clock + clock + d * clock
above m d clock = rw (add-mul (m + 1) d clock, add-mul m 1 clock, one-mul clock)

module _ (par clock : ℕ) where
  to-above : (q d : ℕ) → Rounds par clock q → off par clock q ≤ off par clock (q + 1 + d)
  to-above q d r = rw (above q d clock) (near-below (q * clock) (1000 * par) clock (d * clock) (omega (arith, r.high)) (omega (arith, r.low)))

  to_below : (n d : ℕ) → Rounds par clock (n + 1 + d) → off par clock (n + 1 + d) < off par clock n
  to_below n d r =
      let e = above n d clock in
      rw e (near-above (n * clock) (1000 * par) clock (d * clock) (omega (arith, e, r.low)) (omega (arith, e, r.high)))

  near : (q : ℕ) → Rounds par clock q → IsNearest par clock q
  unfolding IsNearest
  near q r n =
      by_cases (dec_lt q n)
      (λ l. let e : q + 1 + (n - q - 1) ≡ n = omega arith in (rw e at (to-above q (n - q - 1) r), λ _. le_of_lt l))
      (λ l. by_cases (dec_lt n q)
      (λ k. let e : n + 1 + (q - n - 1) ≡ q = omega arith in
      let f = rw e at (to_below n (q - n - 1) (rw (sym e) at r)) in
      (le_of_lt f, λ z. absurd (lt_irrefl _ (rw z at f))))
      (λ k. let e : q ≡ n = omega arith in rw e (le_refl _, λ _. le_refl _)))

pub nearest-is-nearest : NearestIsNearest
unfolding NearestIsNearest
nearest-is-nearest par clock h = near par clock (nearest par clock) (rounds par clock h)

pub only-nearest : OnlyNearest
unfolding OnlyNearest IsNearest NearestIsNearest
only-nearest par clock m h g =
    let n = nearest par clock in
    let k = nearest-is-nearest par clock h in
    let e = le_antisymm (g n).0 (k m).0 in
    le_antisymm ((g n).1 e) ((k m).1 (sym e))
