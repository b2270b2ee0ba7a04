-- "`del`: present, named by no connection, queue empty"; "`del` zeroes the whole record", the queue's slots too.
use Rattle.std.specs.Prelude.{Bool, not, ◌||◌, ℕ, eqb}
use Rattle.model.specs.declared.Connection.{Connection}
use Rattle.model.specs.declared.Configuration.{Configuration}
use Rattle.model.specs.Empty.{absent}
use Rattle.model.specs.View.{instance}
use Rattle.rules_spec.specs.Refusal.{◌⇒◌∣◌, allowed, id_absent, still_connected, queue_not_empty}
use Rattle.rules_spec.specs.Closing.{renewed}
use Rattle.rules_spec.specs.Standing.{Standing}

-- the connection names i
unfoldable pub named_by : ℕ → Connection → Bool
named_by i k = eqb k.user i || eqb k.provider i

unfoldable pub del_check : Standing → Configuration → ℕ → ℕ
del_check x c i =
    not (instance c i).present ⇒ id_absent
    ∣ x.some (named_by i) ⇒ still_connected
    ∣ not (eqb (instance c i).queued 0) ⇒ queue_not_empty
    ∣ allowed

unfoldable pub deleted : Configuration → ℕ → Configuration
deleted c i = renewed c i absent
