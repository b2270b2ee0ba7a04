-- "`enter p`: the transitions of the current behavior that lead to p are at least one, all ended; p is unmarked. They are then neither
-- running nor ended, and p is marked."
use Rattle.std.specs.Prelude.{not, ℕ, eqb}
use Rattle.sets.specs.Mask.{member, within}
use Rattle.model.specs.declared.Tables.{Tables}
use Rattle.model.specs.declared.Instance.{Instance}
use Rattle.model.specs.declared.Configuration.{Configuration}
use Rattle.model.specs.View.{instance, put}
use Rattle.rules_spec.specs.Refusal.{◌⇒◌∣◌, allowed, id_absent, queue_empty, no_transition, not_ready, held_or_marked, or_number}
use Rattle.rules_spec.specs.Instance.{entering, entered}
use Rattle.rules_spec.specs.Standing.{Standing}
use Rattle.rules_spec.specs.Ports.{behavior, PortCheck, port_check}

-- xs is what leads to p
unfoldable pub enter_row : Instance → ℕ → ℕ → ℕ
enter_row v p xs =
    not v.present ⇒ id_absent
    ∣ eqb v.queued 0 ⇒ queue_empty
    ∣ eqb xs 0 ⇒ no_transition
    ∣ not (within xs v.ended) ⇒ not_ready
    ∣ member p v.marked ⇒ held_or_marked
    ∣ allowed

abbrev pub enterers : Tables → Configuration → ℕ → ℕ → ℕ
enterers t c i p = entering t (instance c i).kind (behavior t c i) p

abbrev pub after_enter : Tables → Configuration → ℕ → ℕ → Instance
after_enter t c i p = entered (instance c i) p (enterers t c i p)

-- the row, and then a check of the ports
abbrev pub enter_check_by : PortCheck → Tables → Standing → Configuration → ℕ → ℕ → ℕ
enter_check_by ports t x c i p = or_number (enter_row (instance c i) p (enterers t c i p)) (ports t x c i (instance c i) (after_enter t c i p))

unfoldable pub enter_check : Tables → Standing → Configuration → ℕ → ℕ → ℕ
enter_check t x c i p = enter_check_by port_check t x c i p

unfoldable pub enter_to : Tables → Configuration → ℕ → ℕ → Configuration
enter_to t c i p = put c i (after_enter t c i p)
