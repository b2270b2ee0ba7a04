-- "On one instance tickets must rise from push to push since its `add`. A wait with ticket is allowed once that push is finished." What the rules read off the
-- instructions done is what the story of demand 2 tells.
use Rattle.std.specs.Prelude.{◌≡◌, true, not, List, ℕ, suc, ◌≤◌, ◌<◌, ltb}
use Rattle.model.specs.declared.Tables.{Tables}
use Rattle.model.specs.declared.Program.{Program}
use Rattle.model.specs.declared.Step.{Step}
use Rattle.model.specs.declared.Configuration.{Configuration}
use Rattle.model.specs.Empty.{no_step}
use Rattle.model.specs.Verb.{push_ticket_verb, wait_ticket_verb}
use Rattle.model.specs.View.{type_of, instance, queue_of}
use Rattle.read_spec.specs.Limits.{has_tickets}
use Rattle.read_spec.specs.Kinds.{an_instruction}
use Rattle.read_spec.specs.Lawful.{Lawful}
use Rattle.rules_spec.specs.Refusal.{◌⇒◌∣◌, allowed, id_absent, no_such, ticket_not_above, queue_full, still_queued, never_pushed}
use Rattle.rules_spec.specs.Tickets.{instruction_of, pushed_to, not_above, has_stamp, Rises}
use Rattle.rules_spec.specs.PushB.{depth_of}
use Rattle.rules_spec.specs.Step.{step_check}
use Rattle.rules_spec.specs.Walk.{walk}
use Rattle.start_spec.specs.Permitted.{MayBegin, TicketsFit}
use Rattle.demands.specs.Queues.{Story, begun, story}

-- the instructions done tell what was pushed
unfoldable pub DoneTells : Type 0
DoneTells =
    (default : ℕ) (t : Tables) (p : Program) (c : Configuration) (ss : List Step) (i : ℕ)
    → c.done ≡ 0
    → TicketsFit p c
    → (story default t p i c ss (begun p c i)).pushed ≡ pushed_to p i (walk default t p c ss).configuration.done

-- of all that was pushed since the `add`, and so of what is queued
unfoldable pub TicketsRise : Type 0
TicketsRise =
    (default : ℕ) (t : Tables) (p : Program) (c : Configuration) (ss : List Step) (i : ℕ)
    → default ≤ 8
    → Lawful t p
    → MayBegin default t p c
    → TicketsFit p c
    → has_tickets p.edition ≡ true
    → Rises (story default t p i c ss (begun p c i)).pushed × Rises (queue_of (walk default t p c ss).configuration i)

-- the number of `wait,i,ticket`, where it comes next: 23 exactly where that push is queued, 24 exactly where it is neither queued nor finished since the `add`
unfoldable pub WaitsExactly : Type 0
WaitsExactly =
    (default : ℕ) (t : Tables) (p : Program) (b : Configuration) (ss : List Step) (i ticket : ℕ)
    → default ≤ 8
    → Lawful t p
    → MayBegin default t p b
    → TicketsFit p b
    → (let c = (walk default t p b ss).configuration in
    c.done < p.count
    → instruction_of p c.done ≡ an_instruction wait_ticket_verb i ticket 0 0
    → step_check default t p c no_step
    ≡ (not (instance c i).present ⇒ id_absent
    ∣ has_stamp (suc ticket) (queue_of c i) ⇒ still_queued
    ∣ has_stamp (suc ticket) (story default t p i b ss (begun p b i)).finished ⇒ allowed
    ∣ never_pushed))

-- the number of `pushb,i,b,ticket`, where it comes next: 19 exactly where the ticket is not above the last one pushed since the `add`, "after 13 and before 20"
unfoldable pub PushesExactly : Type 0
PushesExactly =
    (default : ℕ) (t : Tables) (p : Program) (b : Configuration) (ss : List Step) (i k ticket : ℕ)
    → Lawful t p
    → MayBegin default t p b
    → TicketsFit p b
    → (let c = (walk default t p b ss).configuration in
    c.done < p.count
    → instruction_of p c.done ≡ an_instruction push_ticket_verb i k ticket 0
    → step_check default t p c no_step
    ≡ (not (instance c i).present ⇒ id_absent
    ∣ not (ltb k (type_of t (instance c i).kind).behaviors) ⇒ no_such
    ∣ not_above (suc ticket) (story default t p i b ss (begun p b i)).pushed ⇒ ticket_not_above
    ∣ not (ltb (instance c i).queued (depth_of default t)) ⇒ queue_full
    ∣ allowed))
