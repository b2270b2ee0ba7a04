-- "`finish`: nothing is held and no marked place has a leaving transition in the current behavior. The head goes." "`dcon` and `finish`
-- close the gap and zero the slot freed."
use Rattle.std.specs.Prelude.{Bool, not, ◌&&◌, ◌||◌, ℕ, ◌+◌, ◌-◌, ◌*◌, eqb}
use Rattle.sets.specs.Test.{any_below}
use Rattle.sets.specs.Mask.{member}
use Rattle.model.specs.declared.Tables.{Tables}
use Rattle.model.specs.declared.Instance.{Instance}
use Rattle.model.specs.declared.Configuration.{Configuration}
use Rattle.model.specs.View.{instance, put, with_queue}
use Rattle.rules_spec.specs.Closing.{closed}
use Rattle.rules_spec.specs.Refusal.{◌⇒◌∣◌, allowed, id_absent, queue_empty, too_early}
use Rattle.rules_spec.specs.Instance.{held, leaving, with_queued}
use Rattle.rules_spec.specs.Ports.{behavior}

-- the place p is marked and a transition of the behavior m leaves it
unfoldable pub may_leave : Tables → Instance → ℕ → ℕ → Bool
may_leave t v m p = member p v.marked && not (eqb (leaving t v.kind m p) 0)

unfoldable pub finish_row : Tables → Instance → ℕ → ℕ
finish_row t v m =
    not v.present ⇒ id_absent
    ∣ eqb v.queued 0 ⇒ queue_empty
    ∣ not (eqb (held v) 0) || any_below 16 (may_leave t v m) ⇒ too_early
    ∣ allowed

unfoldable pub finish_check : Tables → Configuration → ℕ → ℕ
finish_check t c i = finish_row t (instance c i) (behavior t c i)

unfoldable pub finished : Configuration → ℕ → Configuration
finished c i =
    put (with_queue c (closed 0 c.queue (i * 8) (i * 8 + (instance c i).queued))) i (with_queued (instance c i) ((instance c i).queued - 1))
