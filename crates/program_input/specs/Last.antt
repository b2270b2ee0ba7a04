-- A path's last part, by which the register names an answer.
use Rattle.std.specs.Prelude.{ℕ, true, false, List, [], ◌∷◌, eqb}
use Rattle.item_spec.specs.Reader.{byte}

-- s is left of a path, and `so` is what stands after its last slash so far
unfoldable pub last_from : List ℕ → List ℕ → List ℕ
last_from so [] = so
last_from so (c ∷ s) = elim (eqb c (byte "/")) [ true ↦ last_from s s | false ↦ last_from so s ]

-- what stands after the last slash; where there is none, the path
unfoldable pub last_part : List ℕ → List ℕ
last_part s = last_from s s
