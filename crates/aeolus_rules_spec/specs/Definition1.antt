-- Definition 1 of document 003, as far as the rules look at it: what the reader takes keeps it.
use Rattle.std.specs.Prelude.{true, ◌≡◌, ℕ, ◌≤◌, ◌<◌}
use Rattle.sets.specs.Mask.{member}
use Rattle.aeolus_model.specs.Model.{Universe, type_of, NamesDiffer, to_of}

pub record Lawful (u : Universe) : Type 0 where
  pub types : u.count ≤ 16
  pub states : (k : ℕ) → k < u.count → (type_of u k).states ≤ 16
  pub initial : (k : ℕ) → k < u.count → (type_of u k).initial < (type_of u k).states
  pub interfaces : (k : ℕ) → (type_of u k).interfaces ≤ 16
  pub changes : (k q s : ℕ) → k < u.count → q < (type_of u k).states → member s (to_of u k q) ≡ true → s < (type_of u k).states
  pub named : NamesDiffer u
