-- What is proved of tickets, on the texts: for every paper whose sheet has tickets, with or without a start.
use Rattle.std.specs.Prelude.{◌≡◌, true, not, List, ℕ, suc, ◌<◌, ltb}
use Rattle.model.specs.Empty.{no_step}
use Rattle.model.specs.Verb.{push_ticket_verb, wait_ticket_verb}
use Rattle.model.specs.View.{type_of, instance, queue_of}
use Rattle.read_spec.specs.Limits.{has_tickets}
use Rattle.read_spec.specs.Kinds.{an_instruction}
use Rattle.rules_spec.specs.Refusal.{◌⇒◌∣◌, allowed, id_absent, no_such, ticket_not_above, queue_full, still_queued, never_pushed}
use Rattle.rules_spec.specs.Tickets.{instruction_of, not_above, has_stamp, Rises}
use Rattle.rules_spec.specs.PushB.{depth_of}
use Rattle.rules_spec.specs.Step.{step_check}
use Rattle.start_spec.specs.Paper.{Paper}
use Rattle.judge_spec.specs.Course.{default_depth}
use Rattle.demands.specs.OnTexts.{sheet_tables, sheet_program, AllRead, walk_on, story_on, up_to}

unfoldable pub TicketsRiseOnTexts : Type 0
TicketsRiseOnTexts =
    (s : Paper) (a : List ℕ) (n i : ℕ)
    → AllRead s a
    → has_tickets (sheet_program s).edition ≡ true
    → Rises (story_on s i (up_to n a)).pushed × Rises (queue_of (walk_on s (up_to n a)).configuration i)

-- where `wait,i,ticket` comes next
unfoldable pub WaitsOnTexts : Type 0
WaitsOnTexts =
    (s : Paper) (a : List ℕ) (n i ticket : ℕ)
    → AllRead s a
    → has_tickets (sheet_program s).edition ≡ true
    → (let c = (walk_on s (up_to n a)).configuration in
    c.done < (sheet_program s).count
    → instruction_of (sheet_program s) c.done ≡ an_instruction wait_ticket_verb i ticket 0 0
    → step_check default_depth (sheet_tables s) (sheet_program s) c no_step
    ≡ (not (instance c i).present ⇒ id_absent
    ∣ has_stamp (suc ticket) (queue_of c i) ⇒ still_queued
    ∣ has_stamp (suc ticket) (story_on s i (up_to n a)).finished ⇒ allowed
    ∣ never_pushed))

-- where `pushb,i,k,ticket` comes next
unfoldable pub PushesOnTexts : Type 0
PushesOnTexts =
    (s : Paper) (a : List ℕ) (n i k ticket : ℕ)
    → AllRead s a
    → has_tickets (sheet_program s).edition ≡ true
    → (let c = (walk_on s (up_to n a)).configuration in
    c.done < (sheet_program s).count
    → instruction_of (sheet_program s) c.done ≡ an_instruction push_ticket_verb i k ticket 0
    → step_check default_depth (sheet_tables s) (sheet_program s) c no_step
    ≡ (not (instance c i).present ⇒ id_absent
    ∣ not (ltb k (type_of (sheet_tables s) (instance c i).kind).behaviors) ⇒ no_such
    ∣ not_above (suc ticket) (story_on s i (up_to n a)).pushed ⇒ ticket_not_above
    ∣ not (ltb (instance c i).queued (depth_of default_depth (sheet_tables s))) ⇒ queue_full
    ∣ allowed))
