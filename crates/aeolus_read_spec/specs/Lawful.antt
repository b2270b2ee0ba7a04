-- What a sheet and an answer that were read keep to: a universe of 003's Definition 1 (but for provisions of number 0, which C-22 allows), actions within the limits.
use Rattle.std.specs.Prelude.{ℕ, ◌^◌, ◌≤◌, ◌<◌, List, true, cond, ◌≢◌, ◌≡◌, eqb}
use Rattle.sets.specs.Mask.{member}
use Rattle.read_spec.specs.Lines.{on}
use Rattle.aeolus_model.specs.Model.{ResourceType, Universe, no_type, provision, strong, type_of, name_of, NamesDiffer, to_of, number_at}
use Rattle.aeolus_model.specs.Action.{Plan, Action, new, del, change, bind, unbind, step_of, action_of}
use Rattle.aeolus_read_spec.specs.Texts.{sheet, plan}

-- the interfaces that a type may have in the map m: P for provisions, R for demands
abbrev pub side : ResourceType → ℕ → ℕ
side t m = cond (eqb m provision) t.provides t.requires

-- interface j in the map m of state q of type k: a number of 0 to 64, held one greater; active only within P and R;
-- "the initial state q0 has no strong demands"
pub record PortLawful (u : Universe) (k q m j : ℕ) : Type 0 where
  pub small : number_at u k q m j ≤ 65
  pub listed : number_at u k q m j ≢ 0 → member j (side (type_of u k) m) ≡ true
  pub later : m ≡ strong → q ≡ (type_of u k).initial → number_at u k q m j ≡ 0

pub record TypeLawful (u : Universe) (k : ℕ) : Type 0 where
  pub some : 1 ≤ (type_of u k).states
  pub states : (type_of u k).states ≤ 16
  pub initial : (type_of u k).initial < (type_of u k).states
  pub interfaces : (type_of u k).interfaces ≤ 16
  pub provides : (type_of u k).provides < 2 ^ (type_of u k).interfaces
  pub requires : (type_of u k).requires < 2 ^ (type_of u k).interfaces
  pub names : (j : ℕ) → j < (type_of u k).interfaces → name_of u k j ≤ 255
  pub ascend : (i j : ℕ) → i < j → j < (type_of u k).interfaces → name_of u k i < name_of u k j
  pub to : (q : ℕ) → q < 16 → to_of u k q < 2 ^ (type_of u k).states
  pub ports : (q m j : ℕ) → q < 16 → m < 3 → j < 16 → PortLawful u k q m j

pub record UniverseLawful (u : Universe) : Type 0 where
  pub some : 1 ≤ u.count
  pub few : u.count ≤ 16
  pub types : (k : ℕ) → k < u.count → TypeLawful u k
  pub rest : (k : ℕ) → u.count ≤ k → type_of u k ≡ no_type

unfoldable pub UniversesAreLawful : Type 0
UniversesAreLawful = (s r : List ℕ) (u : Universe) → sheet s ≡ on u r → UniverseLawful u

-- "the two names differ": 4 otherwise
unfoldable pub NamesOfUniversesDiffer : Type 0
NamesOfUniversesDiffer = (u : Universe) → UniverseLawful u → NamesDiffer u

-- an action, in a sheet of n types
abbrev pub ActionLawful : ℕ → Action → Type 0
ActionLawful n (new z k) = (z ≤ 31) × (k < n)
ActionLawful n (del z) = z ≤ 31
ActionLawful n (change z q s) = (z ≤ 31) × (q ≤ 15) × (s ≤ 15)
ActionLawful n (bind r z y) = (r ≤ 255) × (z ≤ 31) × (y ≤ 31) × (z ≢ y)
ActionLawful n (unbind r z y) = (r ≤ 255) × (z ≤ 31) × (y ≤ 31) × (z ≢ y)

pub record PlanLawful (n : ℕ) (p : Plan) : Type 0 where
  pub few : p.count ≤ 1024
  pub steps : (j : ℕ) → j < p.count → ActionLawful n (action_of (step_of p j))

unfoldable pub PlansAreLawful : Type 0
PlansAreLawful = (n : ℕ) (s r : List ℕ) (p : Plan) → plan n s ≡ on p r → PlanLawful n p
