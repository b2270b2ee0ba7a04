-- A loop that writes line after line, each into the part that is still free.
-- Assumes nothing.
use Prim.Native.Nat.{ℕ, ◌+◌, ◌≤◌, ◌<◌}
use mathlib.Core.Path.{◌≡◌, refl}
use mathlib.Core.List.{List, [], append-nil}
use native.Mathlib.Omega.{arith}
use native.Mathlib.Numerals.{add-one}
use lib.ListN.{length}
use Rattle.item_spec.specs.Write.{in_turn}
use Rattle.write_items.specs.Written.{Written}
use Rattle.write_items.proofs.Laws.{none, next, free, back, length-written}

-- the first k of n are written
pub record Turns (f : ℕ → List ℕ) (n k : ℕ) (old new : List ℕ) (used : ℕ) : Type 0 where
  pub up : k ≤ n
  pub same_length : length new ≡ length old
  pub written : Written old (in_turn f k) new 0 used

pub turns-none : {f : ℕ → List ℕ} {n : ℕ} {old : List ℕ} → Turns f n 0 old old 0
unfolding in_turn
turns-none {f} {n} {old} = record { up = omega arith; same_length = refl; written = none old 0 }

pub turns_more : {f : ℕ → List ℕ} {n k : ℕ} {old mid end : List ℕ} {a b : ℕ} → Turns f n k old mid a → k < n → Written (free a mid) (f k) end 0 b → Turns f n (k + 1) old (back a mid end) (a + b)
unfolding in_turn
turns_more {f} {n} {k} h l v = let w = next h.written v in record { up = omega arith; same_length = length-written w; written = rw (add-one k) w }

-- a line that is none
pub turns-empty : {f : ℕ → List ℕ} {n k : ℕ} {old new : List ℕ} {used : ℕ} → Turns f n k old new used → k < n → f k ≡ [] → Turns f n (k + 1) old new used
unfolding in_turn
turns-empty {f} {n} {k} h l e = record { up = omega arith; same_length = h.same_length; written = rw (add-one k, e, append-nil (in_turn f k)) h.written }

pub turns-all : {f : ℕ → List ℕ} {n k : ℕ} {old new : List ℕ} {used : ℕ} → Turns f n k old new used → n ≤ k → Written old (in_turn f n) new 0 used
turns-all {n = n} {k = k} h l = let e : n ≡ k = omega (arith, h.up) in rw e h.written
