-- The number that a port gets tells which of its tests it fails.
-- Assumes nothing.
use Rattle.std.proofs.Common.{◌≡◌, ℕ, Bool, true, false, cond, not, ◌&&◌, ◌||◌, eqb, refl}
use Rattle.sets.proofs.Booleans.{both, same, same-is, by-six}
use Rattle.item_spec.proofs.Tests.{by-test}
use Rattle.rules_spec.specs.Refusal.{◌⇒◌∣◌, allowed, unconnected, unserved, provider_refusing, service_in_use}

-- what a port gets: a use port or not, active after and before, connected, served, refused
abbrev pub told : Bool → Bool → Bool → Bool → Bool → Bool → ℕ
told u a b l s k =
    cond u (cond a (not l ⇒ unconnected ∣ not s ⇒ unserved ∣ not b && k ⇒ provider_refusing ∣ allowed) allowed) (b && not a ⇒ service_in_use ∣ allowed)

pub unconnected-told : (u a b l s k : Bool) → eqb (told u a b l s k) unconnected ≡ (u && (a && not l))
unfolding both
unconnected-told u a b l s k = same-is _ _ (by-six (λ u a b l s k. same (eqb (told u a b l s k) unconnected) (u && (a && not l))) refl u a b l s k)

pub unserved-told : (u a b l s k : Bool) → (u && (a && not l)) ≡ false → eqb (told u a b l s k) unserved ≡ (u && (a && not s))
unfolding both
unserved-told u a b l s k e =
    same-is _ _ (rw e at (by-six (λ u a b l s k. (u && (a && not l)) || same (eqb (told u a b l s k) unserved) (u && (a && not s))) refl u a b l s k))

pub refusing-told : (u a b l s k : Bool) → (u && (a && not l)) ≡ false → (u && (a && not s)) ≡ false
    → eqb (told u a b l s k) provider_refusing ≡ (u && (a && (not b && k)))
unfolding both
refusing-told u a b l s k e f =
    same-is _ _
    (rw (e, f) at (by-six (λ u a b l s k. (u && (a && not l)) || ((u && (a && not s)) || same (eqb (told u a b l s k) provider_refusing) (u && (a && (not b && k))))) refl u a b l s k))

pub ending-told : (u a b l s k : Bool) → eqb (told u a b l s k) service_in_use ≡ (not u && (b && not a))
unfolding both
ending-told u a b l s k = same-is _ _ (by-six (λ u a b l s k. same (eqb (told u a b l s k) service_in_use) (not u && (b && not a))) refl u a b l s k)

-- 38 and 34 are of use ports
pub use-told : (u a b l s k : Bool) → (eqb (told u a b l s k) unconnected || eqb (told u a b l s k) unserved) ≡ true → u ≡ true
use-told true a b l s k e = refl
use-told false a b l s k e = by-test (b && not a) (λ on. rw on at e) (λ off. rw off at e)
