-- Definition 3 of document 003 as a test: "for each resource z in Z", what each of D(q)'s three maps asks.
use Rattle.std.specs.Prelude.{Bool, true, false, not, cond, ◌&&◌, ◌||◌, ℕ, zero, suc, eqb, leb}
use Rattle.sets.specs.Test.{all_below, tally}
use Rattle.aeolus_model.specs.Model.{Universe, Configuration, provision, weak, strong, type_of, name_of, kind_of, state_of, deployed, number_at, is_active, bound}

-- the components other than z that provide r now; of these, those to which z is bound for r
unfoldable pub provides : Universe → Configuration → ℕ → ℕ → ℕ → Bool
provides u c r z y = not (eqb y z) && (deployed c y && is_active u c provision y r)

unfoldable pub serves : Universe → Configuration → ℕ → ℕ → ℕ → Bool
serves u c r z y = provides u c r z y && bound u c r z y

-- the components other than z that require p now, weakly or strongly, and are bound to z for it
unfoldable pub employs : Universe → Configuration → ℕ → ℕ → ℕ → Bool
employs u c p z y = not (eqb y z) && (deployed c y && ((is_active u c weak y p || is_active u c strong y p) && bound u c p y z))

-- the require port (z, r, n) is satisfied
unfoldable pub required : Universe → Configuration → ℕ → ℕ → ℕ → Bool
required u c z r zero = eqb (tally 32 (provides u c r z)) 0
required u c z r (suc n) = leb (suc n) (tally 32 (serves u c r z))

-- the provide port (z, p, n) is satisfied
unfoldable pub provided : Universe → Configuration → ℕ → ℕ → ℕ → Bool
provided u c z p n = leb (tally 32 (employs u c p z)) n

-- what the map m asks of an interface r with the number n - 1, nothing where n is 0
unfoldable pub asked : Universe → Configuration → ℕ → ℕ → ℕ → ℕ → Bool
asked u c m z r zero = true
asked u c m z r (suc n) = cond (eqb m provision) (provided u c z r n) (required u c z r n)

unfoldable pub port_holds : Universe → Configuration → ℕ → ℕ → ℕ → Bool
port_holds u c m z j = asked u c m z (name_of u (kind_of c z) j) (number_at u (kind_of c z) (state_of c z) m j)

unfoldable pub component_holds : Universe → Configuration → ℕ → ℕ → Bool
component_holds u c m z = not (deployed c z) || all_below (type_of u (kind_of c z)).interfaces (port_holds u c m z)

unfoldable pub holds : Universe → Configuration → ℕ → Bool
holds u c m = all_below 32 (component_holds u c m)
