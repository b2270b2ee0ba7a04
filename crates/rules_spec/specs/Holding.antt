-- "At present a new user gets in and can hold the provider there": by the mended rule none does.
use Rattle.std.specs.Prelude.{◌≡◌, ◌⊎◌, true, false, ℕ, ◌<◌}
use Rattle.model.specs.declared.Tables.{Tables}
use Rattle.model.specs.declared.Instance.{Instance}
use Rattle.model.specs.declared.Configuration.{Configuration}
use Rattle.model.specs.View.{instance, put}
use Rattle.rules_spec.specs.Refusal.{allowed}
use Rattle.rules_spec.specs.Standing.{standing, some_connection}
use Rattle.rules_spec.specs.Instance.{active}
use Rattle.rules_spec.specs.Ports.{behavior, refusing, employs, port_check}
use Rattle.rules_spec.specs.Fire.{fire_row, leavers, after_fire}
use Rattle.rules_spec.specs.Enter.{enter_row, enterers, after_enter}
use Rattle.rules_spec.specs.Proper.{WellFormed}

-- by the rules for tokens, its ports aside, instance j could go to w by firing the place p or by entering it
unfoldable pub Ready : Tables → Configuration → ℕ → ℕ → Instance → Type 0
Ready t c j p w =
    ((fire_row (instance c j) p (leavers t c j p) ≡ allowed) × (w ≡ after_fire t c j p))
    ⊎ ((enter_row (instance c j) p (enterers t c j p) ≡ allowed) × (w ≡ after_enter t c j p))

-- one such move would make the port q inactive
pub record ReadyToCut (t : Tables) (c : Configuration) (j q : ℕ) : Type 0 where
  pub place : ℕ
  pub small : place < 16
  pub next : Instance
  pub ready : Ready t c j place next
  pub before : active t (instance c j) q ≡ true
  pub after : active t next q ≡ false

-- such a port refuses
unfoldable pub ReadyIsRefusing : Type 0
ReadyIsRefusing = (t : Tables) (c : Configuration) (j q : ℕ) → ReadyToCut t c j q → refusing t (instance c j) (behavior t c j) q ≡ true

-- and no other port of a present instance does
unfoldable pub RefusingIsReady : Type 0
RefusingIsReady =
    (t : Tables) (c : Configuration) (j q : ℕ) → (instance c j).present ≡ true → refusing t (instance c j) (behavior t c j) q ≡ true → ReadyToCut t c j q

-- where instance i goes to w and its ports allow it, a port of another instance that is ready to be cut and is not in use stays out of use
unfoldable pub NewUsersHoldNobody : Type 0
NewUsersHoldNobody =
    (t : Tables) (c : Configuration) (i j q : ℕ) (w : Instance)
    → WellFormed t c
    → w.kind ≡ (instance c i).kind
    → port_check t (standing c) c i (instance c i) w ≡ allowed
    → ReadyToCut t c j q
    → some_connection c (employs t c j q) ≡ false
    → some_connection (put c i w) (employs t (put c i w) j q) ≡ false
