-- Closing the gap at `at` in what stands before `end`: the later ones move down one, and the slot freed gets z. Slots from `end` on stay.
use Rattle.std.specs.Prelude.{List, [], ◌∷◌, ◌++◌, ℕ, zero, suc, ◌+◌, ◌-◌, ◌*◌, take, drop, set}
use Rattle.model.specs.declared.Instance.{Instance}
use Rattle.model.specs.declared.Configuration.{Configuration}
use Rattle.model.specs.View.{put, with_queue}

-- the k slots after `at` have moved down one; past the last slot stands z
unfoldable pub down : {A : Type 0} → A → List A → ℕ → ℕ → List A
down z xs at k = take at xs ++ take k (drop (suc at) (xs ++ z ∷ [])) ++ drop (at + k) xs

-- and the slot freed gets z
unfoldable pub closed : {A : Type 0} → A → List A → ℕ → ℕ → List A
closed z xs at end = set (down z xs at (end - 1 - at)) (end - 1) z

-- k slots from `at` are 0
unfoldable pub zeroed : List ℕ → ℕ → ℕ → List ℕ
zeroed xs at zero = xs
zeroed xs at (suc k) = set (zeroed xs at k) (at + k) 0

-- the record of instance i is w, and all of its queue slots are 0
unfoldable pub renewed : Configuration → ℕ → Instance → Configuration
renewed c i w = put (with_queue c (zeroed c.queue (i * 8) 8)) i w
