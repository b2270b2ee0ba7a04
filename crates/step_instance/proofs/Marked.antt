-- The marked places that may be left, looked at alone.
-- Assumes nothing.
use mathlib.Core.Path.{◌≡◌, ap, ◌∙◌}
use mathlib.Core.Bool.{Bool, true, false, not, ◌&&◌, and-true}
use Prim.Native.Nat.{ℕ}
use native.Mathlib.Omega.{arith}
use lib.Dec.{eqb}
use Rattle.sets.specs.Test.{any_below}
use Rattle.sets.specs.Mask.{member}
use Rattle.sets.proofs.Laws.{any_same}
use Rattle.sets.proofs.Members.{members-low}
use Rattle.model.specs.declared.Tables.{Tables}
use Rattle.model.specs.declared.Instance.{Instance}
use Rattle.rules_spec.specs.Instance.{leaving}
use Rattle.rules_spec.specs.Finish.{may_leave}
use Rattle.rules_spec.specs.Ports.{would_leave}
use Rattle.step_instance.specs.Alone.{leaves_by, left_by}

pub marked-leaves : (t : Tables) (v : Instance) (m : ℕ) (any : Bool) (q : ℕ)
    → any_below 32 (λ p. member p v.marked && leaves_by t v m any q p) ≡ any_below 16 (left_by t v m any q)
unfolding leaves_by may_leave would_leave
marked-leaves t v m true q = members-low v.marked (λ p. not (eqb (leaving t v.kind m p) 0) && true) 16 (omega arith) ∙ any_same 16 _ _ (λ p _. ap (◌&&◌ (member p v.marked)) (and-true (not (eqb (leaving t v.kind m p) 0))))
marked-leaves t v m false q = members-low v.marked _ 16 (omega arith)
