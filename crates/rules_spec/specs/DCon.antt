-- "`dcon`: that connection exists and its use port is inactive; it is refused with 17 or 22 only." The slot of the use
-- port is zeroed.
use Rattle.std.specs.Prelude.{Bool, not, ◌&&◌, ℕ, eqb, set}
use Rattle.model.specs.declared.Tables.{Tables}
use Rattle.model.specs.declared.Connection.{Connection}
use Rattle.model.specs.declared.Configuration.{Configuration}
use Rattle.model.specs.Empty.{no_server}
use Rattle.model.specs.View.{instance, port_number, with_servers}
use Rattle.rules_spec.specs.Refusal.{◌⇒◌∣◌, allowed, no_such_connection, use_port_active}
use Rattle.rules_spec.specs.Instance.{active}
use Rattle.rules_spec.specs.Standing.{Standing}

unfoldable pub same_connection : Connection → Connection → Bool
same_connection k l =
    eqb l.user k.user && (eqb l.useport k.useport && (eqb l.provider k.provider && eqb l.provideport k.provideport))

unfoldable pub dcon_check : Tables → Standing → Configuration → Connection → ℕ
dcon_check t x c k =
    not (x.some (same_connection k)) ⇒ no_such_connection
    ∣ active t (instance c k.user) k.useport ⇒ use_port_active
    ∣ allowed

unfoldable pub disconnected : Configuration → Connection → Configuration
disconnected c k = with_servers c (set c.servers (port_number k.user k.useport) no_server)
