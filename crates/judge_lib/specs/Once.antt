-- "That no other outcome fits the promise is itself proved": of the promise that is no equation. For the other doors: judged/specs/Once.
use Rattle.std.specs.Prelude.{List, ℕ, ◌≡◌}
use Rattle.std.specs.Borrow.{Bor}
use Rattle.judge_spec.specs.declared.Place.{Place}
use Rattle.judge_lib.specs.Part.{PartAt}

-- `offending`: where the part lies in memory, and what it holds
unfoldable pub NoOtherPart : Type 0
NoOtherPart = (p : Place) (s b a r q : Bor (List ℕ)) → PartAt p s b a r → PartAt p s b a q → (r.ref_ptr ≡ q.ref_ptr) × (r.now ≡ q.now)
