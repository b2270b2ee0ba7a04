-- "Take one sheet and two answers in which all steps are allowed by those rules. If, for each component number, the moves of that component
-- and the program instructions naming it are the same and come in the same order in both answers, the two reports are equal byte for byte."
-- A report shows the walk's outcome and nothing else.
use Rattle.std.specs.Prelude.{◌≡◌, Bool, true, false, ◌||◌, List, [], ◌∷◌, ℕ, suc, ◌≤◌, eqb}
use Rattle.model.specs.declared.Tables.{Tables}
use Rattle.model.specs.declared.Program.{Program}
use Rattle.model.specs.declared.Step.{Step}
use Rattle.model.specs.declared.Configuration.{Configuration}
use Rattle.read_spec.specs.Lawful.{Lawful}
use Rattle.rules_spec.specs.Action.{Action, add, del, pushb, con, dcon, wait, fire, end, enter, finish, move_action}
use Rattle.rules_spec.specs.Step.{is_next, action_at}
use Rattle.rules_spec.specs.Walk.{walk}
use Rattle.start_spec.specs.Permitted.{MayBegin}
use Rattle.demands.specs.Exchange.{Allowed}

-- a move is of its component; an instruction names its ids, `con` and `dcon` both ends
unfoldable pub names : Action → ℕ → Bool
names (add i k) j = eqb i j
names (del i) j = eqb i j
names (pushb i b) j = eqb i j
names (con k) j = eqb k.user j || eqb k.provider j
names (dcon k) j = eqb k.user j || eqb k.provider j
names (wait w) j = eqb w.id j
names (fire i p) j = eqb i j
names (end i x) j = eqb i j
names (enter i p) j = eqb i j
names (finish i) j = eqb i j

-- what an allowed answer does where n instructions were done before: its moves, and at each `next` the program's next instruction
unfoldable pub deeds : Program → ℕ → List Step → List Action
deeds p n [] = []
deeds p n (s ∷ ss) = elim (is_next s) [ true ↦ action_at p n ∷ deeds p (suc n) ss | false ↦ move_action s ∷ deeds p n ss ]

unfoldable pub naming : ℕ → List Action → List Action
naming i [] = []
naming i (a ∷ rest) = elim (names a i) [ true ↦ a ∷ naming i rest | false ↦ naming i rest ]

-- the moves of component i and the instructions carried out that name it, in their order
abbrev pub projection : Program → ℕ → List Step → List Action
projection p i ss = naming i (deeds p 0 ss)

unfoldable pub ReportsAgree : Type 0
ReportsAgree =
    (default : ℕ) (t : Tables) (p : Program) (c : Configuration) (ss us : List Step)
    → default ≤ 8
    → Lawful t p
    → MayBegin default t p c
    → Allowed default t p c ss
    → Allowed default t p c us
    → ((i : ℕ) → projection p i ss ≡ projection p i us)
    → walk default t p c ss ≡ walk default t p c us
