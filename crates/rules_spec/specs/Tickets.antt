-- "On one instance tickets must rise from push to push since its `add`." What was pushed to an instance since its `add` is read off the instructions
-- done, and off what the paper starts with, so that no configuration keeps it. A push is what its slot holds; its stamp is one more than its ticket.
use Rattle.std.specs.Prelude.{Bool, false, ◌&&◌, ◌||◌, cond, ◌≢◌, List, [], ◌∷◌, ◌++◌, ℕ, zero, suc, ◌+◌, ◌*◌, ◌<◌, eqb, leb, get_or}
use Rattle.model.specs.declared.Instruction.{Instruction}
use Rattle.model.specs.declared.Program.{Program}
use Rattle.model.specs.Empty.{no_instruction}
use Rattle.model.specs.View.{pair_of, stamp_in}
use Rattle.model.specs.Verb.{add_verb, pushb_verb, push_ticket_verb}

-- instruction n of the program
abbrev pub instruction_of : Program → ℕ → Instruction
instruction_of p n = get_or p.instructions n no_instruction

-- what a push puts into the slot; a push without ticket has no stamp
abbrev pub plain_push : Instruction → ℕ
plain_push x = x.number

abbrev pub ticket_push : Instruction → ℕ
ticket_push x = pair_of x.number (suc x.provider)

abbrev pub push_of : Instruction → ℕ
push_of x = cond (eqb x.verb push_ticket_verb) (ticket_push x) (plain_push x)

-- x adds instance i; x pushes to it
abbrev pub is_add_of : ℕ → Instruction → Bool
is_add_of i x = eqb x.id i && eqb x.verb add_verb

abbrev pub is_push_to : ℕ → Instruction → Bool
is_push_to i x = eqb x.id i && (eqb x.verb pushb_verb || eqb x.verb push_ticket_verb)

-- what was pushed to instance i since its `add`: l, and then the instruction x
unfoldable pub goes_on : ℕ → Instruction → List ℕ → List ℕ
goes_on i x l = cond (is_add_of i x) [] (cond (is_push_to i x) (l ++ (push_of x ∷ [])) l)

-- of n slots those with a ticket, up to one that has none
unfoldable pub stamped : ℕ → (ℕ → ℕ) → List ℕ
stamped zero f = []
stamped (suc n) f = cond (eqb (stamp_in (f 0)) 0) [] (f 0 ∷ stamped n (λ r. f (suc r)))

-- the last ticket pushed, with a behavior that nobody asks for
abbrev pub last_alone : ℕ → List ℕ
last_alone stamp = cond (eqb stamp 0) [] (pair_of 0 stamp ∷ [])

-- before the first instruction: the queue that the paper starts with, and where that is empty the last ticket. "a ticket at or below it not queued at the
-- start counts as finished only if it is that last one"
unfoldable pub begun_to : Program → ℕ → List ℕ
begun_to p i = elim (stamped 8 (λ r. get_or p.begun.queue (i * 8 + r) 0)) [ [] ↦ last_alone (get_or p.begun.last i 0) | s ∷ q ↦ s ∷ q ]

-- by the first n instructions
unfoldable pub pushed_to : Program → ℕ → ℕ → List ℕ
pushed_to p i zero = begun_to p i
pushed_to p i (suc n) = goes_on i (instruction_of p n) (pushed_to p i n)

-- "ticket not above the last"
unfoldable pub not_above : ℕ → List ℕ → Bool
not_above stamp [] = false
not_above stamp (s ∷ []) = leb stamp (stamp_in s)
not_above stamp (s ∷ u ∷ l) = not_above stamp (u ∷ l)

-- "that push": one of them has the stamp
unfoldable pub has_stamp : ℕ → List ℕ → Bool
has_stamp stamp [] = false
has_stamp stamp (s ∷ l) = eqb (stamp_in s) stamp || has_stamp stamp l

-- "tickets must rise from push to push"
unfoldable pub Rises : List ℕ → Type 0
Rises [] = Unit {0}
Rises (s ∷ []) = Unit {0}
Rises (s ∷ u ∷ l) = (stamp_in s < stamp_in u) × Rises (u ∷ l)

-- every one of them has a ticket, from 0 to 255
unfoldable pub Ticketed : List ℕ → Type 0
Ticketed [] = Unit {0}
Ticketed (s ∷ l) = (stamp_in s ≢ 0) × (s < 2056) × Ticketed l

-- the stamp of the last of them, 0 for none
unfoldable pub last_stamp : List ℕ → ℕ
last_stamp [] = 0
last_stamp (s ∷ []) = stamp_in s
last_stamp (s ∷ u ∷ l) = last_stamp (u ∷ l)
