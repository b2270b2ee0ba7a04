-- Every limit of the paper (number 3) and every clause of number 4, each named once.
use Rattle.std.specs.Prelude.{ℕ, ◌-◌, Bool, ◌&&◌, ◌||◌, not, cond, ltb, leb, eqb}
use Rattle.aeolus_model.specs.Model.{Universe, provision, strong, type_of, name_of, place_of, may_provide, may_require, number_at}

abbrev pub from_to : ℕ → ℕ → ℕ → Bool
from_to a b n = leb a n && leb n b

-- "`types=` (1 to 16)", "`states=` (1 to 16)", "`interfaces=` (0 to 16)", "`active=` (0 to 48)", "`steps=` (0 to 1,024)"
abbrev pub types_ok : ℕ → Bool
types_ok = from_to 1 16

abbrev pub states_ok : ℕ → Bool
states_ok = from_to 1 16

abbrev pub interfaces_ok : ℕ → Bool
interfaces_ok = from_to 0 16

abbrev pub active_ok : ℕ → Bool
active_ok = from_to 0 48

abbrev pub steps_ok : ℕ → Bool
steps_ok = from_to 0 1024

-- "ids: 0 to 31"; "names of interfaces: 0 to 255"; "numbers of ports: 0 to 64"; "states in `change`: 0 to 15"
abbrev pub id_ok : ℕ → Bool
id_ok z = leb z 31

abbrev pub name_ok : ℕ → Bool
name_ok r = leb r 255

abbrev pub number_ok : ℕ → Bool
number_ok n = leb n 64

abbrev pub change_ok : ℕ → Bool
change_ok q = leb q 15

-- "states in `initial=` and `to=`: below the type's `states=`"; "types in `new`: below the sheet's `types=`"
abbrev pub state_ok : ℕ → ℕ → Bool
state_ok n q = ltb q n

abbrev pub type_ok : ℕ → ℕ → Bool
type_ok n k = ltb k n

-- 4: "`interface=` whose name is not above that of the line before it in the type": interface j of type k
abbrev pub above_ok : Universe → ℕ → ℕ → ℕ → Bool
above_ok u k j r = eqb j 0 || ltb (name_of u k (j - 1)) r

-- 4: "`provide=` whose name the type has not among P; `weak=` or `strong=` whose name it has not among R"
abbrev pub listed_ok : Universe → ℕ → ℕ → ℕ → Bool
listed_ok u k m r = cond (eqb m provision) (may_provide u k r) (may_require u k r)

-- 4: "a row whose port that state already has (the same key and name twice in one state)"
abbrev pub new_ok : Universe → ℕ → ℕ → ℕ → ℕ → Bool
new_ok u k q m r = eqb (number_at u k q m (place_of u k r)) 0

-- 4: "`strong=` in the initial state"
abbrev pub first_ok : Universe → ℕ → ℕ → ℕ → Bool
first_ok u k q m = not (eqb m strong && eqb q (type_of u k).initial)

-- all three of a row
abbrev pub clauses_ok : Universe → ℕ → ℕ → ℕ → ℕ → Bool
clauses_ok u k q m r = listed_ok u k m r && (new_ok u k q m r && first_ok u k q m)

-- 4: "`bind` or `unbind` with one component at both ends"
abbrev pub ends_ok : ℕ → ℕ → Bool
ends_ok z y = not (eqb z y)
