-- "`wait`: present, queue empty." "A wait with ticket is allowed once that push is finished"; "23, ticket still queued, and 24, ticket never pushed, in
-- place of 21 at such a wait". Nothing changes.
use Rattle.std.specs.Prelude.{Bool, true, not, ◌&&◌, ℕ, suc, eqb}
use Rattle.sets.specs.Test.{any_below}
use Rattle.model.specs.declared.Configuration.{Configuration}
use Rattle.model.specs.View.{instance, slot, stamp_in}
use Rattle.rules_spec.specs.Refusal.{◌⇒◌∣◌, allowed, id_absent, queue_not_empty, still_queued, never_pushed}

-- whose queue it waits for; the stamp of the one push that it waits for, 0 for the whole queue; and whether that push was made
pub record Waiting : Type 0 where
  pub id : ℕ
  pub stamp : ℕ
  pub made : Bool

-- for the whole queue of i
abbrev pub whole : ℕ → Waiting
whole i = record { id = i; stamp = 0; made = true }

-- for one push to i
abbrev pub one : ℕ → ℕ → Bool → Waiting
one i ticket made = record { id = i; stamp = suc ticket; made = made }

-- a push of this stamp is queued
abbrev pub is_queued : Configuration → ℕ → ℕ → Bool
is_queued c i stamp = any_below (instance c i).queued (λ r. eqb (stamp_in (slot c i r)) stamp)

unfoldable pub wait_check : Configuration → Waiting → ℕ
wait_check c w =
    not (instance c w.id).present ⇒ id_absent
    ∣ eqb w.stamp 0 && not (eqb (instance c w.id).queued 0) ⇒ queue_not_empty
    ∣ not (eqb w.stamp 0) && is_queued c w.id w.stamp ⇒ still_queued
    ∣ not w.made ⇒ never_pushed
    ∣ allowed
