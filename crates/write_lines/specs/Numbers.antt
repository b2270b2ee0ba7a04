-- The numbers of a line.
use Rattle.std.specs.Prelude.{ℕ, List, [], cond, eqb}
use Rattle.item_spec.specs.Write.{one_text, two_text, three_text, four_text}

-- n numbers to the line's end, nothing where it has none
unfoldable pub numbers_text : ℕ → ℕ → ℕ → ℕ → ℕ → List ℕ
numbers_text n a b c d = cond (eqb n 0) [] (cond (eqb n 1) (one_text a) (cond (eqb n 2) (two_text a b) (cond (eqb n 3) (three_text a b c) (four_text a b c d))))
