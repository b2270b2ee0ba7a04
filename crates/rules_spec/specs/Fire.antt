-- "`fire p`: p is marked; the transitions of the current behavior that leave p are at least one, none held. The mark goes and all of
-- them run."
use Rattle.std.specs.Prelude.{not, ℕ, eqb}
use Rattle.sets.specs.Mask.{member, overlaps}
use Rattle.model.specs.declared.Tables.{Tables}
use Rattle.model.specs.declared.Instance.{Instance}
use Rattle.model.specs.declared.Configuration.{Configuration}
use Rattle.model.specs.View.{instance, put}
use Rattle.rules_spec.specs.Refusal.{◌⇒◌∣◌, allowed, id_absent, queue_empty, no_transition, not_ready, held_or_marked, or_number}
use Rattle.rules_spec.specs.Instance.{held, leaving, fired}
use Rattle.rules_spec.specs.Standing.{Standing}
use Rattle.rules_spec.specs.Ports.{behavior, PortCheck, port_check}

-- xs is what leaves p
unfoldable pub fire_row : Instance → ℕ → ℕ → ℕ
fire_row v p xs =
    not v.present ⇒ id_absent
    ∣ eqb v.queued 0 ⇒ queue_empty
    ∣ eqb xs 0 ⇒ no_transition
    ∣ not (member p v.marked) ⇒ not_ready
    ∣ overlaps xs (held v) ⇒ held_or_marked
    ∣ allowed

abbrev pub leavers : Tables → Configuration → ℕ → ℕ → ℕ
leavers t c i p = leaving t (instance c i).kind (behavior t c i) p

abbrev pub after_fire : Tables → Configuration → ℕ → ℕ → Instance
after_fire t c i p = fired (instance c i) p (leavers t c i p)

-- the row, and then a check of the ports
abbrev pub fire_check_by : PortCheck → Tables → Standing → Configuration → ℕ → ℕ → ℕ
fire_check_by ports t x c i p = or_number (fire_row (instance c i) p (leavers t c i p)) (ports t x c i (instance c i) (after_fire t c i p))

unfoldable pub fire_check : Tables → Standing → Configuration → ℕ → ℕ → ℕ
fire_check t x c i p = fire_check_by port_check t x c i p

unfoldable pub fire_to : Tables → Configuration → ℕ → ℕ → Configuration
fire_to t c i p = put c i (after_fire t c i p)
