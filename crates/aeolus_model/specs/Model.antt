-- Universe and configuration (003's Definitions 1 and 2), and how the rules look at them. What lies past an array's end is 0.
use Rattle.std.specs.Prelude.{Bool, not, cond, ◌&&◌, List, ◌≡◌, ℕ, zero, suc, ◌+◌, ◌*◌, ◌<◌, eqb, get_or, set, replicate}
use Rattle.sets.specs.Test.{any_below}
use Rattle.sets.specs.Mask.{member}

-- how many states it has and which is the first; how many interfaces, and which of them it may provide (003's P) and require (R)
pub record ResourceType : Type 0 where
  pub states : ℕ
  pub initial : ℕ
  pub interfaces : ℕ
  pub provides : ℕ
  pub requires : ℕ

-- 16 names for each type; for each of 16 states a set of states (003's T); for each state three maps of 16 numbers (003's D)
pub record Universe : Type 0 where
  pub count : ℕ
  pub types : List ResourceType
  pub names : List ℕ
  pub to : List ℕ
  pub numbers : List ℕ

-- the set of deployed components, the type and the state of each, and for each requirer and interface the set of its providers
pub record Configuration : Type 0 where
  pub present : ℕ
  pub kinds : List ℕ
  pub states : List ℕ
  pub bound : List ℕ

abbrev pub no_type : ResourceType
no_type = record { states = 0; initial = 0; interfaces = 0; provides = 0; requires = 0 }

unfoldable pub no_universe : Universe
no_universe = record { count = 0; types = replicate 16 no_type; names = replicate 256 0; to = replicate 256 0; numbers = replicate 12288 0 }

-- "A run starts with nothing deployed"
unfoldable pub nothing : Configuration
nothing = record { present = 0; kinds = replicate 32 0; states = replicate 32 0; bound = replicate 512 0 }

-- ---- a universe

-- the three maps of a state
abbrev pub provision : ℕ
provision = 0

abbrev pub weak : ℕ
weak = 1

abbrev pub strong : ℕ
strong = 2

abbrev pub type_of : Universe → ℕ → ResourceType
type_of u k = get_or u.types k no_type

-- the name of interface j of type k
abbrev pub name_of : Universe → ℕ → ℕ → ℕ
name_of u k j = get_or u.names (k * 16 + j) 0

-- the names of one type differ
unfoldable pub NamesDiffer : Universe → Type 0
NamesDiffer u = (k i j : ℕ) → i < (type_of u k).interfaces → j < (type_of u k).interfaces → name_of u k i ≡ name_of u k j → i ≡ j

-- the states that state q of type k may change to
abbrev pub to_of : Universe → ℕ → ℕ → ℕ
to_of u k q = get_or u.to (k * 16 + q) 0

-- the first number below n that passes, n where none does
unfoldable pub find : ℕ → (ℕ → Bool) → ℕ
find zero p = 0
find (suc n) p = cond (any_below n p) (find n p) (cond (p n) n (suc n))

-- where type k lists the interface r, and whether it does
abbrev pub place_of : Universe → ℕ → ℕ → ℕ
place_of u k r = find (type_of u k).interfaces (λ j. eqb (name_of u k j) r)

abbrev pub lists : Universe → ℕ → ℕ → Bool
lists u k r = any_below (type_of u k).interfaces (λ j. eqb (name_of u k j) r)

-- r is among the interfaces that type k may provide, or require
abbrev pub lists_among : Universe → ℕ → ℕ → ℕ → Bool
lists_among u k r m = lists u k r && member (place_of u k r) m

abbrev pub may_provide : Universe → ℕ → ℕ → Bool
may_provide u k r = lists_among u k r (type_of u k).provides

abbrev pub may_require : Universe → ℕ → ℕ → Bool
may_require u k r = lists_among u k r (type_of u k).requires

-- where the number of interface j in the map m of state q of type k stands
abbrev pub number_place : ℕ → ℕ → ℕ → ℕ → ℕ
number_place k q m j = ((k * 16 + q) * 3 + m) * 16 + j

-- what stands there: one more than the number, 0 where the interface is not active
abbrev pub number_at : Universe → ℕ → ℕ → ℕ → ℕ → ℕ
number_at u k q m j = get_or u.numbers (number_place k q m j) 0

-- the same of the interface r
unfoldable pub number_of : Universe → ℕ → ℕ → ℕ → ℕ → ℕ
number_of u k q m r = cond (lists u k r) (number_at u k q m (place_of u k r)) 0

-- ---- a configuration

abbrev pub kind_of : Configuration → ℕ → ℕ
kind_of c z = get_or c.kinds z 0

abbrev pub state_of : Configuration → ℕ → ℕ
state_of c z = get_or c.states z 0

abbrev pub deployed : Configuration → ℕ → Bool
deployed c z = member z c.present

-- the number of r in the map m, in the state of z
abbrev pub number_in : Universe → Configuration → ℕ → ℕ → ℕ → ℕ
number_in u c m z r = number_of u (kind_of c z) (state_of c z) m r

abbrev pub is_active : Universe → Configuration → ℕ → ℕ → ℕ → Bool
is_active u c m z r = not (eqb (number_in u c m z r) 0)

-- the providers to which z is bound for its interface j
abbrev pub bound_at : Configuration → ℕ → ℕ → ℕ
bound_at c z j = get_or c.bound (z * 16 + j) 0

-- the triple (r, z, y) is a binding
unfoldable pub bound : Universe → Configuration → ℕ → ℕ → ℕ → Bool
bound u c r z y = deployed c z && (lists u (kind_of c z) r && member y (bound_at c z (place_of u (kind_of c z) r)))

-- ---- the same but for one part

abbrev pub with_type : Universe → ℕ → ResourceType → Universe
with_type u k t = record { count = u.count; types = set u.types k t; names = u.names; to = u.to; numbers = u.numbers }

unfoldable pub with_count : Universe → ℕ → Universe
with_count u n = record { count = n; types = u.types; names = u.names; to = u.to; numbers = u.numbers }

unfoldable pub with_states : Universe → ℕ → ℕ → Universe
with_states u k n =
    let t = type_of u k in
    with_type u k (record { states = n; initial = t.initial; interfaces = t.interfaces; provides = t.provides; requires = t.requires })

unfoldable pub with_initial : Universe → ℕ → ℕ → Universe
with_initial u k q =
    let t = type_of u k in
    with_type u k (record { states = t.states; initial = q; interfaces = t.interfaces; provides = t.provides; requires = t.requires })

unfoldable pub with_interfaces : Universe → ℕ → ℕ → Universe
with_interfaces u k n =
    let t = type_of u k in
    with_type u k (record { states = t.states; initial = t.initial; interfaces = n; provides = t.provides; requires = t.requires })

unfoldable pub with_provides : Universe → ℕ → ℕ → Universe
with_provides u k m =
    let t = type_of u k in
    with_type u k (record { states = t.states; initial = t.initial; interfaces = t.interfaces; provides = m; requires = t.requires })

unfoldable pub with_requires : Universe → ℕ → ℕ → Universe
with_requires u k m =
    let t = type_of u k in
    with_type u k (record { states = t.states; initial = t.initial; interfaces = t.interfaces; provides = t.provides; requires = m })

unfoldable pub with_name : Universe → ℕ → ℕ → ℕ → Universe
with_name u k j r = record { count = u.count; types = u.types; names = set u.names (k * 16 + j) r; to = u.to; numbers = u.numbers }

unfoldable pub with_to : Universe → ℕ → ℕ → ℕ → Universe
with_to u k q m = record { count = u.count; types = u.types; names = u.names; to = set u.to (k * 16 + q) m; numbers = u.numbers }

unfoldable pub with_number : Universe → ℕ → ℕ → ℕ → ℕ → ℕ → Universe
with_number u k q m j x =
    record { count = u.count; types = u.types; names = u.names; to = u.to; numbers = set u.numbers (number_place k q m j) x }

unfoldable pub with_present : Configuration → ℕ → Configuration
with_present c m = record { present = m; kinds = c.kinds; states = c.states; bound = c.bound }

unfoldable pub with_kind : Configuration → ℕ → ℕ → Configuration
with_kind c z k = record { present = c.present; kinds = set c.kinds z k; states = c.states; bound = c.bound }

unfoldable pub with_state : Configuration → ℕ → ℕ → Configuration
with_state c z q = record { present = c.present; kinds = c.kinds; states = set c.states z q; bound = c.bound }

-- row n of the bindings: row z * 16 + j has the providers of z for its interface j
unfoldable pub with_bound : Configuration → ℕ → ℕ → Configuration
with_bound c n m = record { present = c.present; kinds = c.kinds; states = c.states; bound = set c.bound n m }
