-- "50 for an unserved use port, after the start's last line": "each active use port connected to an active provide port".
use Rattle.std.specs.Prelude.{ℕ, ◌<◌, ◌≡◌, Bool, true, false, not, ◌&&◌, ◌↔◌, eqb}
use Rattle.sets.specs.Test.{any_below}
use Rattle.model.specs.declared.Tables.{Tables}
use Rattle.model.specs.declared.Configuration.{Configuration}
use Rattle.model.specs.View.{is_use, instance}
use Rattle.rules_spec.specs.Refusal.{allowed}
use Rattle.rules_spec.specs.Standing.{standing, some_connection}
use Rattle.rules_spec.specs.Instance.{active, ports_of}
use Rattle.rules_spec.specs.Ports.{serves, port_check}

abbrev pub unserved_at_start : ℕ
unserved_at_start = 50

-- at instance i even a move that changes nothing would fail the port check
unfoldable pub fails_still : Tables → Configuration → ℕ → Bool
fails_still t c i = (instance c i).present && not (eqb (port_check t (standing c) c i (instance c i) (instance c i)) allowed)

unfoldable pub some_unserved : Tables → Configuration → Bool
some_unserved t c = any_below 32 (fails_still t c)

-- "each active use port connected to an active provide port"
unfoldable pub AllServed : Tables → Configuration → Type 0
AllServed t c =
    (i q : ℕ) → i < 32 → (instance c i).present ≡ true → q < ports_of t (instance c i) → is_use t (instance c i).kind q ≡ true → active t (instance c i) q ≡ true
    → some_connection c (serves t c i q) ≡ true

unfoldable pub FiftyExactly : Type 0
FiftyExactly = (t : Tables) (c : Configuration) → (some_unserved t c ≡ false) ↔ AllServed t c
