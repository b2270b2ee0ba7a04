-- Each variant of a rule fails a demand on its example, and with the rules' own notions the variant is the rule.
-- Assumes nothing.
use Prim.Native.Nat.{ℕ, ◌<◌}
use mathlib.Core.Bool.{true, not, ◌&&◌, true≢false}
use mathlib.Core.List.{List, [], ◌∷◌}
use mathlib.Core.Path.{◌≡◌, refl, ap}
use native.Mathlib.Omega.{arith}
use lib.Dec.{eqb, ltb}
use lib.ListN.{get_or}
use borrow.Author.Tests.{ltb-true, not-true, eq-eqb}
use Rattle.rules_spec.proofs.Connections.{joined-none}
use Rattle.item_spec.proofs.Tests.{by-test, and_left, and_right}
use Rattle.model.specs.declared.Tables.{Tables}
use Rattle.model.specs.declared.Program.{Program}
use Rattle.model.specs.declared.Step.{Step}
use Rattle.model.specs.declared.Instance.{Instance}
use Rattle.model.specs.declared.Configuration.{Configuration}
use Rattle.model.specs.declared.Stepped.{Stepped}
use Rattle.sets.specs.Mask.{member, collect}
use Rattle.sets.specs.Test.{all_below, any_below, lowest, tally}
use Rattle.model.specs.Empty.{no_tables, none_begun, no_program, no_answer, start}
use Rattle.model.specs.View.{is_served, list_of, queue_of, put, with_queue, with_servers, with_done}
use Rattle.item_spec.specs.Reader.{byte}
use Rattle.item_spec.specs.Read.{key, digit, number_from, members_from, list, one_form, two_form, three_form, four_form, list_form, lists_form}
use Rattle.item_spec.specs.Write.{digits_in, number_text, members_below, more_text, list_text, mask_text, in_turn, one_text}
use Rattle.read_spec.specs.Fill.{headed, with_type, with_transition, with_port, program_of, with_instruction, answer_of, with_step}
use Rattle.read_spec.specs.Kinds.{edition_line, do_ticketed, do_wait, due_line, count_line_in, initial_line, tran_line, behavior_line, group, port_line, do_id, do_number, do_ends, do_line, step_id, step_number, step_line}
use Rattle.read_spec.specs.Lines.{each}
use Rattle.read_spec.specs.Texts.{tran_at, behavior_at, port_at, type_lines, instruction_at, sheet, step_at, answer}
use Rattle.rules_spec.specs.Action.{instruction_action, move_action, check_by, action_check, effect, concern}
use Rattle.rules_spec.specs.Add.{add_check, added}
use Rattle.rules_spec.specs.Closing.{down, closed, zeroed, renewed}
use Rattle.rules_spec.specs.Con.{is_use_port, is_provide_port, con_check, connected}
use Rattle.rules_spec.specs.End.{end_check, end_to}
use Rattle.rules_spec.specs.Enter.{enter_row, enter_check_by, enter_check, enter_to}
use Rattle.rules_spec.specs.Finish.{may_leave, finish_row, finish_check, finished}
use Rattle.rules_spec.specs.Fire.{fire_row, fire_check_by, fire_check, fire_to}
use Rattle.rules_spec.specs.Instance.{active, current, ends_at, leaving, entering, fired, ended_by, entered, with_queued}
use Rattle.rules_spec.specs.Standing.{Standing, entries, in_table, standing, some_connection}
use Rattle.rules_spec.specs.Ports.{is_of, would_leave, would_enter, refusing, serves, blocks, employs, fails_unconnected, fails_unserved, fails_refusing, fails_in_use, PortCheck, port_check, concerned}
use Rattle.rules_spec.specs.Tickets.{stamped, begun_to, goes_on, pushed_to, not_above, has_stamp}
use Rattle.rules_spec.specs.PushB.{pushb_check, pushed}
use Rattle.rules_spec.specs.Step.{action_at, action, number_by, step_check_with, step_to, step}
use Rattle.rules_spec.specs.Wait.{whole, wait_check}
use Rattle.rules_spec.specs.Walk.{one_more, walk_by, walk, walk_from}
use Rattle.report_spec.specs.Report.{slot_text, more_slots, queue_text, count_text, port_text, instance_text, instance_at, connection_line, lines_from, instances_text, connections_text, report_with, report}
use Rattle.start_spec.specs.Paper.{nothing_up}
use Rattle.judge_spec.specs.Cases.{nexts}
use Rattle.judge_spec.specs.Course.{short, short_start, outset, read, all_under, course}
use Rattle.judge_spec.specs.Judged.{after_walk, in_room, ending, judged, printing, printed}
use Rattle.rules_spec.specs.Refusal.{service_in_use, settle}
use Rattle.rules_spec.specs.Action.{Action, add, wait}
use Rattle.model.specs.View.{is_use, instance, connection}
use Rattle.rules_spec.specs.Instance.{ports_of}
use Rattle.judge_spec.specs.Cases.{P+}
use Rattle.demands.specs.Agree.{names, deeds, naming}
use Rattle.demands.specs.Exchange.{between}
use Rattle.demands.specs.OnTexts.{sheet_tables, own_program, outset_of, sheet_program, answer_steps, AllAllowed}
use Rattle.demands.specs.Safe.{Safe}
use Rattle.demands_needed.specs.Needed.{Variant, port_check_by, variant_step, variant_walk, as_ruled, AsRuledIsTheRule, walked_by, without_in_use, left_in_use, ended_not_held, left_after_end, is_wait, without_waits, add_wait, onward, Unsafe, InUseIsNeeded, EndedHeldIsNeeded, WaitIsNeeded, TokensAloneIsNeeded}

-- ---- with the rules' own notions

port-check-as-ruled : (t : Tables) (y : Standing) (c : Configuration) (i : ℕ) (v w : Instance) → port_check_by as_ruled t y c i v w ≡ port_check t y c i v w
unfolding port_check_by port_check fails_unconnected fails_unserved fails_refusing fails_in_use serves blocks employs
port-check-as-ruled t y c i v w = refl

-- so the two step and walk alike
step-as-ruled : (default : ℕ) (t : Tables) (p : Program) → variant_step as_ruled default t p ≡ step default t p
unfolding step step_check_with action_check fire_check enter_check
step-as-ruled default t p = ap by (λ i t y c j v w. port-check-as-ruled t y c j v w i)
  where
    by : PortCheck → Configuration → Step → Stepped
    by x c s = settle (number_by (check_by (fire_check_by x t (standing c) c) (enter_check_by x t (standing c) c) default t (standing c) c) p c s) (concern t (standing c) c (action p c s)) c (step_to t p c s)

walk-as-ruled : (default : ℕ) (t : Tables) (p : Program) (c : Configuration) (ss : List Step) → variant_walk as_ruled default t p c ss ≡ walk default t p c ss
unfolding walk
walk-as-ruled default t p c ss = ap (λ (f : Configuration → Step → Stepped). walk_by f c ss) (step-as-ruled default t p)

pub as-ruled-is-the-rule : AsRuledIsTheRule
unfolding AsRuledIsTheRule
as-ruled-is-the-rule = (port-check-as-ruled, walk-as-ruled)

-- ---- what the examples come to

-- on the sheet P+ the variant x leaves the use port 0 of instance 1 active and unserved
record Leaves (x : Variant) (a : List ℕ) : Type 0 where
  ruled : (walked_by as_ruled P+ a).refused ≡ service_in_use
  allows : (walked_by x P+ a).refused ≡ 0
  present : (instance (walked_by x P+ a).configuration 1).present ≡ true
  port : ltb 0 (ports_of (sheet_tables (nothing_up P+)) (instance (walked_by x P+ a).configuration 1)) ≡ true
  fails : fails_unserved (sheet_tables (nothing_up P+)) (standing (walked_by x P+ a).configuration) (walked_by x P+ a).configuration 1 (instance (walked_by x P+ a).configuration 1) 0 ≡ true

-- so many times `next` on the sheet add_wait are allowed, carry this out, and print `accepted=` and this digit
record Waits (n : ℕ) (did : List Action) (digit : ℕ) : Type 0 where
  allows : AllAllowed (nothing_up add_wait) (onward n)
  does : deeds (sheet_program (nothing_up add_wait)) 0 (answer_steps (onward n)) ≡ did
  prints : get_or (printed (nothing_up add_wait) (onward n)) 9 0 ≡ digit

record Computed : Type 0 where
  in_use : Leaves without_in_use left_in_use
  ended : Leaves ended_not_held left_after_end
  once : Waits 1 (add 0 0 ∷ []) (byte "1")
  twice : Waits 2 (add 0 0 ∷ wait (whole 0) ∷ []) (byte "2")
  tokens : TokensAloneIsNeeded

computed : Computed
unfolding member collect all_below any_below no_tables none_begun no_program no_answer start is_served entries in_table list_of queue_of put with_queue with_servers with_done key digit number_from members_from list one_form two_form three_form four_form list_form lists_form digits_in number_text members_below more_text list_text mask_text in_turn one_text headed with_type with_transition with_port program_of with_instruction answer_of with_step edition_line due_line count_line_in initial_line tran_line behavior_line group port_line do_id do_number do_ends do_ticketed do_wait do_line step_id step_number step_line each tran_at behavior_at port_at type_lines instruction_at sheet step_at answer instruction_action move_action action_check effect concern add_check added down closed zeroed renewed is_of is_use_port is_provide_port con_check connected end_check end_to enter_row enter_to may_leave finish_row finish_check finished fire_row fire_to active current ends_at leaving entering fired ended_by entered with_queued would_leave would_enter refusing serves blocks employs fails_unconnected fails_unserved fails_refusing fails_in_use port_check lowest concerned pushb_check pushed stamped begun_to goes_on pushed_to not_above has_stamp action_at action step_check_with step_to step wait_check one_more walk walk_from tally count_text port_text slot_text more_slots queue_text instance_text instance_at connection_line lines_from instances_text connections_text report_with report nexts short short_start outset read all_under course after_walk in_room ending judged printing printed deeds between port_check_by sheet_tables own_program outset_of sheet_program answer_steps TokensAloneIsNeeded
computed = record {
  in_use = record { ruled = refl; allows = refl; present = refl; port = refl; fails = refl };
  ended = record { ruled = refl; allows = refl; present = refl; port = refl; fails = refl };
  once = record { allows = refl; does = refl; prints = refl };
  twice = record { allows = refl; does = refl; prints = refl };
  tokens = (refl, refl, refl);
}

-- ---- the demands that fail

-- a use port that fails 34 as things stand
unserved-not-safe : (t : Tables) (c : Configuration) (i q : ℕ) → (instance c i).present ≡ true → q < ports_of t (instance c i) → fails_unserved t (standing c) c i (instance c i) q ≡ true → ¬ Safe t c
unfolding Safe fails_unserved serves
unserved-not-safe t c i q here port fails safe =
    let uses = is_use t (instance c i).kind q in
    let runs = active t (instance c i) q in
    let idle = not (some_connection c (serves t c i q)) in
    let rest = and_right uses (runs && idle) fails in
    let s = safe i q here port (and_left uses (runs && idle) fails) (and_left runs idle rest) in
    let served = joined-none c (serves t c i q) (connection c s.at) (not-true _ (and_right runs idle rest)) (s.at, s.within, s.stands, refl) in
    true≢false (rw (s.user, s.useport, s.provider, eq-eqb i i refl, eq-eqb q q refl) at served)

left-unsafe : {x : Variant} {a : List ℕ} → Leaves x a → Unsafe x P+ a
left-unsafe h = (h.ruled, h.allows, unserved-not-safe _ _ 1 0 h.present (ltb-true 0 _ h.port) h.fails)

pub in-use-is-needed : InUseIsNeeded
unfolding InUseIsNeeded
in-use-is-needed = left-unsafe computed.in_use

pub ended-held-is-needed : EndedHeldIsNeeded
unfolding EndedHeldIsNeeded
ended-held-is-needed = left-unsafe computed.ended

pub wait-is-needed : WaitIsNeeded
unfolding WaitIsNeeded names naming without_waits is_wait
wait-is-needed =
    let one = computed.once in
    let two = computed.twice in
    (one.allows, two.allows, λ i. rw (one.does, two.does) (same i), λ e. omega (arith, one.prints, two.prints, ap (λ xs. get_or xs 9 0) e))
  where
    same : (i : ℕ) → without_waits (naming i (add 0 0 ∷ [])) ≡ without_waits (naming i (add 0 0 ∷ wait (whole 0) ∷ []))
    same i = by-test (eqb 0 i) (λ e. rw (e, naming, e)) (λ e. rw (e, naming, e))

pub tokens-alone-is-needed : TokensAloneIsNeeded
tokens-alone-is-needed = computed.tokens
