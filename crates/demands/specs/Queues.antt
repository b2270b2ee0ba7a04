-- "the behaviors a component has finished since it was added, followed by those still queued, are those pushed to it since then, in that
-- order." "The finished-then-queued fact of demand 2 holds over pairs": what is pushed, queued and finished is what a slot holds, a behavior with its
-- ticket, so that this is said and proved once for both kinds of sheets.
use Rattle.std.specs.Prelude.{◌≡◌, cond, List, [], ◌∷◌, ◌++◌, ℕ, ◌≤◌, eqb}
use Rattle.model.specs.declared.Tables.{Tables}
use Rattle.model.specs.declared.Program.{Program}
use Rattle.model.specs.declared.Step.{Step}
use Rattle.model.specs.declared.Configuration.{Configuration}
use Rattle.model.specs.View.{queue_head, queue_of}
use Rattle.read_spec.specs.Lawful.{Lawful}
use Rattle.rules_spec.specs.Tickets.{begun_to}
use Rattle.rules_spec.specs.Action.{Action, add, del, pushb, con, dcon, wait, fire, end, enter, finish}
use Rattle.rules_spec.specs.Step.{action, step}
use Rattle.rules_spec.specs.Walk.{beside_by, walk}
use Rattle.start_spec.specs.Permitted.{MayBegin}

-- what was pushed to a component and what it finished, since it was added
pub record Story (A : Type 0) : Type 0 where
  pub pushed : List A
  pub finished : List A

abbrev pub nothing : {A : Type 0} → Story A
nothing = record { pushed = []; finished = [] }

-- what had been finished before the first instruction, as far as the start says: "a ticket at or below it not queued at the start counts as finished only if it
-- is that last one"
abbrev pub before : Program → Configuration → ℕ → List ℕ
before p c i = elim (queue_of c i) [ [] ↦ begun_to p i | s ∷ q ↦ [] ]

-- "with the starting queue counted as pushed"
abbrev pub begun : Program → Configuration → ℕ → Story ℕ
begun p c i = record { pushed = before p c i ++ queue_of c i; finished = before p c i }

abbrev pub more_pushed : {A : Type 0} → A → Story A → Story A
more_pushed b h = record { pushed = h.pushed ++ (b ∷ []); finished = h.finished }

abbrev pub more_finished : {A : Type 0} → A → Story A → Story A
more_finished b h = record { pushed = h.pushed; finished = h.finished ++ (b ∷ []) }

-- the story of component i goes on with the action carried out at c: `finish` finishes the head there
unfoldable pub tell : Configuration → ℕ → Action → Story ℕ → Story ℕ
tell c i (add j k) h = cond (eqb j i) nothing h
tell c i (pushb j b) h = cond (eqb j i) (more_pushed b.slot h) h
tell c i (finish j) h = cond (eqb j i) (more_finished (queue_head c i) h) h
tell c i (del j) h = h
tell c i (con k) h = h
tell c i (dcon k) h = h
tell c i (wait j) h = h
tell c i (fire j p) h = h
tell c i (end j x) h = h
tell c i (enter j p) h = h

-- over the accepted steps
unfoldable pub story : ℕ → Tables → Program → ℕ → Configuration → List Step → Story ℕ → Story ℕ
story default t p i c ss h = beside_by (step default t p) (λ c d s. tell c i (action p c s)) c ss h

unfoldable pub QueuesAreKept : Type 0
QueuesAreKept =
    (default : ℕ) (t : Tables) (p : Program) (c : Configuration) (ss : List Step) (i : ℕ)
    → default ≤ 8
    → Lawful t p
    → MayBegin default t p c
    → (story default t p i c ss (begun p c i)).finished ++ queue_of (walk default t p c ss).configuration i
    ≡ (story default t p i c ss (begun p c i)).pushed
