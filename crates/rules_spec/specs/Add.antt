-- "`add`: the id is absent; the instance gets its initial places marked, nothing held and an empty queue"; "`add` zeroes all queue slots".
use Rattle.std.specs.Prelude.{true, ℕ}
use Rattle.model.specs.declared.Tables.{Tables}
use Rattle.model.specs.declared.Instance.{Instance}
use Rattle.model.specs.declared.Configuration.{Configuration}
use Rattle.model.specs.View.{type_of, instance}
use Rattle.rules_spec.specs.Refusal.{◌⇒◌∣◌, allowed, id_present}
use Rattle.rules_spec.specs.Closing.{renewed}

abbrev pub fresh : Tables → ℕ → Instance
fresh t k = record { present = true; kind = k; marked = (type_of t k).initial; running = 0; ended = 0; queued = 0 }

unfoldable pub add_check : Configuration → ℕ → ℕ
add_check c i = (instance c i).present ⇒ id_present ∣ allowed

unfoldable pub added : Tables → Configuration → ℕ → ℕ → Configuration
added t c i k = renewed c i (fresh t k)
