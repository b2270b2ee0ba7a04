-- What an instance loses and gains by fire and by enter.
-- Assumes nothing.
use mathlib.Core.Path.{◌≡◌, refl}
use mathlib.Core.Bool.{Bool, true, false, not, ◌&&◌, ◌||◌}
use Prim.Native.Nat.{ℕ}
use lib.Dec.{eqb}
use Rattle.sets.specs.Mask.{member, only, with, without, joined}
use Rattle.sets.proofs.Laws.{collect-same, member-none, member-without, member-joined, member-only}
use Rattle.step_ports.specs.Turns.{changed}

gained : (r x e : Bool) → ((r || x) || e) ≡ (((r || e) && not false) || x)
gained true true true = refl
gained true true false = refl
gained true false true = refl
gained true false false = refl
gained false true true = refl
gained false true false = refl
gained false false true = refl
gained false false false = refl

lost : (a b : Bool) → (a && b) ≡ ((a && b) || false)
lost true true = refl
lost true false = refl
lost false b = refl

-- the mark goes, and nothing is marked
pub fire-marks : (m p : ℕ) → without m (only p) ≡ changed m (only p) 0
fire-marks m p = collect-same 32 _ _ (λ j h. rw (member-without j m (only p) h, member-none j) (lost (member j m) (not (member j (only p)))))

-- the transitions xs are held, and none is let go
pub fire-holds : (r e xs : ℕ) → joined (joined r xs) e ≡ changed (joined r e) 0 xs
fire-holds r e xs =
    collect-same 32 _ _
    (λ j h. rw (member-joined j r xs h, member-without j (joined r e) 0 h, member-joined j r e h, member-none j) (gained (member j r) (member j xs) (member j e)))

-- p is marked, and no mark goes
pub enter-marks : (m p : ℕ) → with p m ≡ changed m 0 (only p)
enter-marks m p = collect-same 32 _ _ (λ j h. rw (member-without j m 0 h, member-only j p h, member-none j) (kept (member j m) (eqb j p)))
  where
    kept : (a b : Bool) → (a || b) ≡ ((a && not false) || b)
    kept true b = refl
    kept false b = refl

-- the transitions xs are let go, running and ended ones, and none is held anew
pub enter-holds : (r e xs : ℕ) → joined (without r xs) (without e xs) ≡ changed (joined r e) xs 0
enter-holds r e xs =
    collect-same 32 _ _
    (λ j h. rw (member-without j r xs h, member-without j e xs h, member-without j (joined r e) xs h, member-joined j r e h, member-none j) (freed (member j r) (member j e) (not (member j xs))))
  where
    freed : (a b x : Bool) → ((a && x) || (b && x)) ≡ (((a || b) && x) || false)
    freed true true true = refl
    freed true true false = refl
    freed true false x = refl
    freed false b x = lost b x
