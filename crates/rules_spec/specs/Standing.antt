-- Which connections stand, as the rules ask for it: whether some connection passes a test, and how many there are.
use Rattle.std.specs.Prelude.{Bool, true, false, ◌&&◌, List, [], ◌∷◌, ℕ, suc, eqb}
use Rattle.sets.specs.Test.{any_below}
use Rattle.model.specs.declared.Connection.{Connection}
use Rattle.model.specs.declared.Configuration.{Configuration}
use Rattle.model.specs.Empty.{no_server}
use Rattle.model.specs.View.{is_served, connection_at}

pub record Standing : Type 0 where
  pub some : (Connection → Bool) → Bool
  pub count : ℕ

-- how many use ports of a table are served
unfoldable pub entries : List ℕ → ℕ
entries [] = 0
entries (v ∷ x) = elim (eqb v no_server) [ true ↦ entries x | false ↦ suc (entries x) ]

-- those of a table by use port
unfoldable pub in_table : List ℕ → Standing
in_table x = record { some = λ test. any_below 512 (λ s. test (connection_at x s) && is_served x s); count = entries x }

abbrev pub standing : Configuration → Standing
standing c = in_table c.servers

-- some connection passes the test
abbrev pub some_connection : Configuration → (Connection → Bool) → Bool
some_connection c = (standing c).some
