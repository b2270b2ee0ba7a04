-- A report that has room where 8,192 bytes have: whether it fits is told by its length.
-- Assumes nothing.
use Prim.Native.Nat.{ℕ, ◌+◌, ◌-◌, ◌<◌, ◌≤◌, min}
use mathlib.Core.Bool.{Bool, true, false}
use mathlib.Core.List.{List}
use mathlib.Core.Logic.{by_cases}
use mathlib.Core.Path.{◌≡◌, ap, ◌∙◌}
use native.Mathlib.Omega.{arith}
use native.Mathlib.Decide.{dec_lt}
use borrow.Author.Tests.{le-leb, lt-leb}
use lib.Dec.{leb}
use lib.ListN.{length}
use Rattle.judge_lib.specs.Room.{room_for}

-- ---- n bytes and those after them

module _ (n after room : ℕ) where
  pub has_all : 8192 ≤ room → true ≡ room_for (n + after) room
  has_all h = rw (le-leb 8192 room h)

  pub has-none : room < 8192 → room < after → false ≡ room_for (n + after) room
  has-none h l = rw (lt-leb 8192 room h, lt-leb (n + after) room (omega arith))

  -- k of them were written, into 8,192 bytes
  pub has_some : {k : ℕ} → room < 8192 → after ≤ room → k ≡ min 8192 n → leb k (room - after) ≡ room_for (n + after) room
  has_some {k} h l e =
      by_cases (dec_lt room (n + after))
      (λ g. rw (lt-leb 8192 room h, lt-leb (n + after) room g, lt-leb k (room - after) (omega arith)))
      (λ g. rw (lt-leb 8192 room h, le-leb (n + after) room (omega arith), le-leb k (room - after) (omega arith)))

-- ---- what is known of a report

room-told : (n room : ℕ) → n ≤ 8192 → room_for n room ≡ leb n room
room-told n room h =
    by_cases (dec_lt room 8192)
    (λ l. rw (lt-leb 8192 room l))
    (λ l. rw (le-leb 8192 room (omega arith), le-leb n room (omega arith)))

-- of the report r, which has n bytes
pub fits_told : (r : List ℕ) (n room : ℕ) {fits : Bool} → fits ≡ room_for n room → n ≡ length r → length r ≤ 8192 → fits ≡ leb (length r) room
fits_told r n room h e l = h ∙ ap (λ (k : ℕ). room_for k room) e ∙ room-told (length r) room l

-- more than 8,192 bytes are as many
pub leb-smaller : (n room : ℕ) → n ≤ 8192 → leb n (min room 8192) ≡ leb n room
leb-smaller n room h =
    by_cases (dec_lt room n)
    (λ l. rw (lt-leb n (min room 8192) (omega arith), lt-leb n room l))
    (λ l. rw (le-leb n (min room 8192) (omega arith), le-leb n room (omega arith)))
