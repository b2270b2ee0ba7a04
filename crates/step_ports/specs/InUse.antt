-- Which provide ports of an instance are in use, row by row of the table.
use Rattle.std.specs.Prelude.{ℕ, zero, suc, Bool, false, ◌&&◌, List, ◌==◌}
use Rattle.sets.specs.Test.{any_below}
use Rattle.sets.specs.Mask.{collect}
use Rattle.model.specs.declared.Tables.{Tables}
use Rattle.model.specs.declared.Configuration.{Configuration}
use Rattle.model.specs.View.{port_number, is_served, connection_at}
use Rattle.rules_spec.specs.Ports.{employs}

-- the use port of number s is served by instance i
unfoldable pub served_by : List ℕ → ℕ → ℕ → Bool
served_by x i s = (connection_at x s).provider == i && is_served x s

-- the test p of the number before
abbrev pub higher : (ℕ → Bool) → ℕ → Bool
higher p zero = false
higher p (suc q) = p q

-- the use ports of user u that instance i serves, each as one more
unfoldable pub uses_of : List ℕ → ℕ → ℕ → ℕ
uses_of x u i = collect 17 (higher (λ q. served_by x i (port_number u q)))

-- an active use port of user u is connected to the provide port q of i
unfoldable pub employs_by : Tables → Configuration → ℕ → ℕ → ℕ → Bool
employs_by t c i q u = any_below 16 (λ r. employs t c i q (connection_at c.servers (port_number u r)) && is_served c.servers (port_number u r))
