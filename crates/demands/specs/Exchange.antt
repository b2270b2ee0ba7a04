-- "And exchanging two neighbouring moves, of two components with no connection between them at that point, leaves such an answer allowed
-- throughout."
use Rattle.std.specs.Prelude.{◌≡◌, ◌≢◌, Bool, false, ◌&&◌, ◌||◌, List, ◌∷◌, ◌++◌, ℕ, ◌≤◌, eqb}
use Rattle.model.specs.declared.Tables.{Tables}
use Rattle.model.specs.declared.Program.{Program}
use Rattle.model.specs.declared.Step.{Step}
use Rattle.model.specs.declared.Connection.{Connection}
use Rattle.model.specs.declared.Configuration.{Configuration}
use Rattle.read_spec.specs.Lawful.{Lawful}
use Rattle.rules_spec.specs.Standing.{some_connection}
use Rattle.rules_spec.specs.Step.{is_next}
use Rattle.rules_spec.specs.Walk.{walk}
use Rattle.start_spec.specs.Permitted.{MayBegin}

-- all steps are allowed, from c
abbrev pub Allowed : ℕ → Tables → Program → Configuration → List Step → Type 0
Allowed default t p c ss = (walk default t p c ss).refused ≡ 0

-- the connection is one between i and j
unfoldable pub between : ℕ → ℕ → Connection → Bool
between i j k = (eqb k.user i && eqb k.provider j) || (eqb k.user j && eqb k.provider i)

-- m and n are moves of two components, which have no connection between them where the steps `before` lead from c
pub record Exchangeable (default : ℕ) (t : Tables) (p : Program) (c : Configuration) (before : List Step) (m n : Step) : Type 0 where
  pub first : is_next m ≡ false
  pub second : is_next n ≡ false
  pub two : m.id ≢ n.id
  pub unconnected : some_connection (walk default t p c before).configuration (between m.id n.id) ≡ false

-- allowed throughout, and with the same outcome: the steps accepted and every slot of the configuration reached
unfoldable pub MovesExchange : Type 0
MovesExchange =
    (default : ℕ) (t : Tables) (p : Program) (c : Configuration) (before after : List Step) (m n : Step)
    → default ≤ 8
    → Lawful t p
    → MayBegin default t p c
    → Exchangeable default t p c before m n
    → Allowed default t p c (before ++ m ∷ n ∷ after)
    → Allowed default t p c (before ++ n ∷ m ∷ after)
    × (walk default t p c (before ++ n ∷ m ∷ after) ≡ walk default t p c (before ++ m ∷ n ∷ after))
