-- What a writer promises of the whole buffer: as many of the bytes as have room stand from the position on, and all else is as it was.
use Rattle.std.specs.Prelude.{ℕ, ◌+◌, ◌-◌, min, ◌≡◌, List, ◌++◌, length, take, drop}

pub record Written (old bytes new : List ℕ) (from to : ℕ) : Type 0 where
  pub to_is : to ≡ from + min (length old - from) (length bytes)
  pub new_is : new ≡ take from old ++ take (length old - from) bytes ++ drop to old

-- no other position and no other bytes fit
unfoldable pub NoOtherWritten : Type 0
NoOtherWritten =
    (old bytes b c : List ℕ) (from n m : ℕ) → Written old bytes b from n → Written old bytes c from m → (b ≡ c) × (n ≡ m)
