-- "`con`: both present, not the same instance, ports exist and are of the right kind, the use port not yet connected, fewer than 64
-- connections now. A provide port may serve many." The use port gets its server.
use Rattle.std.specs.Prelude.{Bool, not, ◌&&◌, ℕ, eqb, ltb, set}
use Rattle.model.specs.Empty.{most_connections}
use Rattle.model.specs.declared.Tables.{Tables}
use Rattle.model.specs.declared.Connection.{Connection}
use Rattle.model.specs.declared.Configuration.{Configuration}
use Rattle.model.specs.View.{is_use, instance, port_number, server_number, with_servers}
use Rattle.rules_spec.specs.Refusal.{◌⇒◌∣◌, allowed, id_absent, no_such, one_instance, already_connected, no_more_connections}
use Rattle.rules_spec.specs.Instance.{ports_of}
use Rattle.rules_spec.specs.Standing.{Standing}
use Rattle.rules_spec.specs.Ports.{is_of}

unfoldable pub is_use_port : Tables → Configuration → ℕ → ℕ → Bool
is_use_port t c i q = ltb q (ports_of t (instance c i)) && is_use t (instance c i).kind q

unfoldable pub is_provide_port : Tables → Configuration → ℕ → ℕ → Bool
is_provide_port t c i q = ltb q (ports_of t (instance c i)) && not (is_use t (instance c i).kind q)

unfoldable pub con_check : Tables → Standing → Configuration → Connection → ℕ
con_check t x c k =
    not (instance c k.user).present ⇒ id_absent
    ∣ not (instance c k.provider).present ⇒ id_absent
    ∣ not (is_use_port t c k.user k.useport) ⇒ no_such
    ∣ not (is_provide_port t c k.provider k.provideport) ⇒ no_such
    ∣ eqb k.user k.provider ⇒ one_instance
    ∣ x.some (is_of k.user k.useport) ⇒ already_connected
    ∣ not (ltb x.count most_connections) ⇒ no_more_connections
    ∣ allowed

unfoldable pub connected : Configuration → Connection → Configuration
connected c k = with_servers c (set c.servers (port_number k.user k.useport) (server_number k.provider k.provideport))
