-- "That no other outcome fits the promise is itself proved." Most promises are an equation of the result, or of the bytes left in what was lent,
-- with a definition of what was given. Of all these it is said here, once.
use Rattle.std.specs.Prelude.{◌≡◌}

unfoldable pub NoOtherEquals : Type 1
NoOtherEquals = (A : Type 0) (e x y : A) → x ≡ e → y ≡ e → x ≡ y
