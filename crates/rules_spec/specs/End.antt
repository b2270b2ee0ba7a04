-- "`end t`: t is running; it becomes ended." It need not be in the current behavior. "32 never applies to `end`."
use Rattle.std.specs.Prelude.{not, ℕ, eqb}
use Rattle.sets.specs.Mask.{member}
use Rattle.model.specs.declared.Configuration.{Configuration}
use Rattle.model.specs.View.{instance, put}
use Rattle.rules_spec.specs.Refusal.{◌⇒◌∣◌, allowed, id_absent, queue_empty, not_ready}
use Rattle.rules_spec.specs.Instance.{ended_by}

unfoldable pub end_check : Configuration → ℕ → ℕ → ℕ
end_check c i x =
    not (instance c i).present ⇒ id_absent
    ∣ eqb (instance c i).queued 0 ⇒ queue_empty
    ∣ not (member x (instance c i).running) ⇒ not_ready
    ∣ allowed

unfoldable pub end_to : Configuration → ℕ → ℕ → Configuration
end_to c i x = put c i (ended_by (instance c i) x)
