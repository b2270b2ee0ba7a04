-- A line: its key, and what stands between the key and the line's end.
use Rattle.std.specs.Prelude.{ℕ, List}
use Rattle.item_spec.specs.Reader.{Reader, ◌>>◌}
use Rattle.item_spec.specs.Read.{key}

unfoldable pub keyed : {A : Type 0} → List ℕ → Reader A → Reader A
keyed k m = do
  key k
  m
