-- What a program needs of the bytes that it prints.
use Rattle.std.specs.Prelude.{ℕ, ◌≤◌, List, ◌≡◌, length, take}

-- n counts bytes at the start of xs, as in the kit's `io`; the second part follows, and is said so that `&out[..n]` asks for no proof
abbrev pub Counts : ℕ → List ℕ → Type 0
Counts n xs = (n ≤ length xs) × (n ≡ length (take n xs))
