-- A text into a lent buffer, for both texts: "1 when the text would pass 32,768 bytes, 6 when the lent buffer is short; both leave the buffer as found,
-- and 3 or 4 comes before 1, 1 before 6".
use Rattle.std.specs.Prelude.{ℕ, not, cond, List, [], ◌++◌, ◌≡◌, eqb, leb, length, drop}
use Rattle.item_spec.specs.Refusal.{too_long, buffer_short}
use Rattle.read_spec.specs.Limits.{length_ok}
use Rattle.rules_spec.specs.Refusal.{◌⇒◌∣◌}

-- of the fault n and the text x, where `room` bytes are lent
unfoldable pub write_number : ℕ → List ℕ → ℕ → ℕ
write_number n x room = not (eqb n 0) ⇒ n ∣ not (length_ok (length x)) ⇒ too_long ∣ not (leb (length x) room) ⇒ buffer_short ∣ 0

-- what is written
unfoldable pub penned : ℕ → List ℕ → ℕ → List ℕ
penned n x room = cond (eqb (write_number n x room) 0) x []

-- a writer's answer and the buffer afterwards, bytes past the text as they were
pub record Penned (n : ℕ) (x old new : List ℕ) (refused written : ℕ) : Type 0 where
  pub refused-is : refused ≡ write_number n x (length old)
  pub written_is : written ≡ length (penned n x (length old))
  pub new_is : new ≡ penned n x (length old) ++ drop written old

-- no other answer and no other bytes fit
unfoldable pub NoOtherPenned : Type 0
NoOtherPenned =
    (n : ℕ) (x old b c : List ℕ) (k l v w : ℕ) → Penned n x old b k v → Penned n x old c l w → (b ≡ c) × (k ≡ l) × (v ≡ w)
