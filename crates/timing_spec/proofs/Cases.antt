-- What is computed from three texts, all of it under one line: the cases, and what tells the shams from the mark.
-- Assumes nothing.
use Prim.Native.Nat.{ℕ, zero, suc}
use mathlib.Core.List.{List, [], ◌∷◌}
use mathlib.Core.Bool.{false}
use mathlib.Core.Path.{◌≡◌, refl, sym, ap, ◌∙◌}
use mathlib.Core.Logic.{◌≢◌}
use native.Mathlib.Omega.{arith}
use borrow.Author.Tests.{ne_eqb}
use Rattle.item_spec.specs.Read.{key, digit, number_from, members_from, list, one_form, two_form, three_form, four_form, list_form, lists_form}
use Rattle.item_spec.specs.Write.{digits_in, number_text, members_below, more_text, list_text, mask_text, in_turn, one_text, two_text, three_text, four_text}
use Rattle.start_spec.specs.Paper.{nothing_up}
use Rattle.judge_spec.specs.Course.{short, short_start, outset, read, all_under, course}
use Rattle.judge_spec.specs.Judged.{fault_line, fault_place, after_fault, no_room, step_place, after_walk, in_room, ending, judged, over, printing, printed}
use Rattle.model.specs.Empty.{no_tables, none_begun, no_program, no_answer, start}
use Rattle.model.specs.View.{is_served, list_of, queue_of, put, with_queue, with_servers, with_done}
use Rattle.read_spec.specs.Fill.{headed, with_type, with_transition, with_port, program_of, with_instruction, answer_of, with_step}
use Rattle.read_spec.specs.Kinds.{edition_line, do_ticketed, do_wait, due_line, count_line_in, initial_line, tran_line, behavior_line, group, port_line, do_id, do_number, do_ends, do_line, step_id, step_number, step_line}
use Rattle.read_spec.specs.Lines.{each}
use Rattle.read_spec.specs.Place.{up_to_lf, lfs, line_number, line_start}
use Rattle.read_spec.specs.Texts.{tran_at, behavior_at, port_at, type_lines, instruction_at, sheet, step_at, answer}
use Rattle.report_spec.specs.Faults.{text_text, fault_text}
use Rattle.report_spec.specs.Report.{slot_text, more_slots, queue_text, count_text, port_text, instance_text, connection_text, instance_at, connection_line, lines_from, instances_text, connections_text, report_with, report}
use Rattle.rules_spec.specs.Action.{Action, add, pushb, fire, end, instruction_action, move_action, action_check, effect, concern}
use Rattle.rules_spec.specs.Add.{add_check, added}
use Rattle.rules_spec.specs.Closing.{down, closed, zeroed, renewed}
use Rattle.rules_spec.specs.Con.{is_use_port, is_provide_port, con_check, connected}
use Rattle.rules_spec.specs.DCon.{same_connection, dcon_check, disconnected}
use Rattle.rules_spec.specs.Del.{named_by, del_check, deleted}
use Rattle.rules_spec.specs.End.{end_check, end_to}
use Rattle.rules_spec.specs.Enter.{enter_row, enter_check, enter_to}
use Rattle.rules_spec.specs.Finish.{may_leave, finish_row, finish_check, finished}
use Rattle.rules_spec.specs.Fire.{fire_row, fire_check, fire_to}
use Rattle.rules_spec.specs.Instance.{active, current, ends_at, leaving, entering, fired, ended_by, entered, with_queued}
use Rattle.rules_spec.specs.Standing.{entries, in_table}
use Rattle.rules_spec.specs.Ports.{is_of, would_leave, would_enter, refusing, serves, blocks, employs, fails_unconnected, fails_unserved, fails_refusing, fails_in_use, port_check, concerned}
use Rattle.rules_spec.specs.Tickets.{stamped, begun_to, goes_on, pushed_to, not_above, has_stamp}
use Rattle.rules_spec.specs.PushB.{plain, pushb_check, pushed}
use Rattle.rules_spec.specs.Step.{action_at, action, step_check_with, step_to, step}
use Rattle.rules_spec.specs.Wait.{wait_check}
use Rattle.rules_spec.specs.Walk.{one_more, walk, walk_from}
use Rattle.sets.specs.Mask.{member, collect}
use Rattle.sets.specs.Test.{all_below, any_below, lowest, tally}
use Rattle.demands.specs.Agree.{names, deeds, naming}
use Rattle.demands.specs.OnTexts.{sheet_tables, own_program, outset_of, sheet_program, answer_steps, AllAllowed}
use Rattle.timing_spec.specs.Order.{OrderMayAlterTheMark}
use Rattle.timing_spec.specs.Cases.{twins, together, one_by_one, seconds, timed_table, AllTimedMet}
use Rattle.timing_spec.specs.Clock.{at_start, notes, tick, clock_from, clock_of}
use Rattle.timing_spec.specs.Mark.{nearest, mark_of, mark_after}
use Rattle.timing_spec.specs.Shams.{Marking, clock_by, course_by, timed_by, always_full, halves_up, rounds_each_step, ToldApart, ShamsToldApart, RoundingLifts, MarkedAsRuledIsTheRule}
use Rattle.timing_spec.specs.declared.Timed.{Timed}
use Rattle.timing_spec.specs.Timed.{clocked, timed_course, marked_report, mark_in_room, timed_ending, timed, timed_printing, timed_printed}
use Rattle.times_spec.specs.Refusal.{times_number}
use Rattle.times_spec.specs.Row.{time_line}
use Rattle.times_spec.specs.Text.{time, times}
use Rattle.times_spec.specs.View.{times_of, with_time}

-- the texts that tell the shams apart: half the clock, a half in the last place, and two times that tens cut short
abbrev half_the_clock : List ℕ
half_the_clock = seconds "15" "20" "30"

abbrev a_half : List ℕ
a_half = seconds "1" "8" "8"

abbrev under_apass : List ℕ
under_apass = seconds "13" "14" "14"

-- what comes of an answer and times: no refusal, the mark, and the mark by another marking
record Marks (m : Marking) (a x : List ℕ) (mark sham : ℕ) : Type 0 where
  allowed : (timed (nothing_up twins) a x 8192).judgement.verdict.refused ≡ 0
  mark-is : (timed (nothing_up twins) a x 8192).mark ≡ mark
  sham-is : (timed_by m (nothing_up twins) a x 8192).mark ≡ sham

-- what the two answers do: the four instructions, then the moves of both
abbrev instructions : List Action → List Action
instructions moves = add 0 0 ∷ add 1 0 ∷ pushb 0 (plain 0) ∷ pushb 1 (plain 0) ∷ moves

abbrev together_does : List Action
together_does = instructions (fire 0 0 ∷ fire 1 0 ∷ end 0 0 ∷ end 1 0 ∷ [])

abbrev one_by_one_does : List Action
one_by_one_does = instructions (fire 0 0 ∷ end 0 0 ∷ fire 1 0 ∷ end 1 0 ∷ [])

-- a component that nothing names
abbrev Unnamed : ℕ → List Action → Type 0
Unnamed i [] = Unit
Unnamed i (a ∷ rest) = (names a i ≡ false) × Unnamed i rest

none_named : (i : ℕ) (does : List Action) → Unnamed i does → naming i does ≡ []
unfolding naming
none_named i [] h = refl
none_named i (a ∷ rest) h = rw (h.0, naming) (none_named i rest h.1)

-- each component's are the same: component 0's, component 1's, and no other has any
projections-alike : (i : ℕ) → naming i together_does ≡ naming i one_by_one_does
unfolding naming names
projections-alike zero = refl
projections-alike (suc zero) = refl
projections-alike (suc (suc i)) =
    let z = ne_eqb 0 (suc (suc i)) (omega arith) in
    let o = ne_eqb 1 (suc (suc i)) (omega arith) in
    none_named (suc (suc i)) together_does (z, (o, (z, (o, (z, (o, (z, (o, tt)))))))) ∙ sym (none_named (suc (suc i)) one_by_one_does (z, (o, (z, (o, (z, (z, (o, (o, tt)))))))))

record Ordered : Type 0 where
  first : AllAllowed (nothing_up twins) together
  second : AllAllowed (nothing_up twins) one_by_one
  together-does : deeds (sheet_program (nothing_up twins)) 0 (answer_steps together) ≡ together_does
  one-by-one-does : deeds (sheet_program (nothing_up twins)) 0 (answer_steps one_by_one) ≡ one_by_one_does
  quick : (timed (nothing_up twins) together half_the_clock 8192).mark ≡ 500
  slow : (timed (nothing_up twins) one_by_one half_the_clock 8192).mark ≡ 300

record Computed : Type 0 where
  cases : AllTimedMet timed_table
  order : Ordered
  full : Marks always_full together half_the_clock 500 1000
  up : Marks halves_up one_by_one a_half 62 63
  each_step : Marks rounds_each_step one_by_one under_apass 464 650

computed : Computed
unfolding member collect all_below any_below no_tables none_begun no_program no_answer start is_served entries in_table list_of queue_of put with_queue with_servers with_done key digit number_from members_from list one_form two_form three_form four_form list_form lists_form digits_in number_text members_below more_text list_text mask_text in_turn one_text two_text three_text four_text headed with_type with_transition with_port program_of with_instruction answer_of with_step edition_line due_line count_line_in initial_line tran_line behavior_line group port_line do_id do_number do_ends do_ticketed do_wait do_line step_id step_number step_line each up_to_lf lfs line_number line_start tran_at behavior_at port_at type_lines instruction_at sheet step_at answer instruction_action move_action action_check effect concern add_check added down closed zeroed renewed is_of is_use_port is_provide_port con_check connected same_connection dcon_check disconnected named_by del_check deleted end_check end_to enter_row enter_check enter_to may_leave finish_row finish_check finished fire_row fire_check fire_to active current ends_at leaving entering fired ended_by entered with_queued would_leave would_enter refusing serves blocks employs fails_unconnected fails_unserved fails_refusing fails_in_use port_check lowest concerned pushb_check pushed stamped begun_to goes_on pushed_to not_above has_stamp action_at action step_check_with step_to step wait_check one_more walk walk_from text_text fault_text tally count_text port_text slot_text more_slots queue_text instance_text connection_text instance_at connection_line lines_from instances_text connections_text report_with report short short_start outset read all_under course fault_line fault_place after_fault no_room step_place after_walk in_room ending judged over printing printed times_number time_line time times times_of with_time at_start notes tick clock_from clock_of nearest mark_of mark_after clock_by course_by timed_by clocked timed_course marked_report mark_in_room timed_ending timed timed_printing timed_printed names deeds naming sheet_tables own_program outset_of sheet_program answer_steps
computed = record {
  cases = ((refl, refl), ((refl, refl), ((refl, refl), ((refl, refl), ((refl, refl), ((refl, refl), ((refl, refl), ((refl, refl), ((refl, refl), ((refl, refl), ((refl, refl), ((refl, refl), ((refl, refl), ((refl, refl), ((refl, refl), ((refl, refl), tt))))))))))))))));
  order = record { first = refl; second = refl; together-does = refl; one-by-one-does = refl; quick = refl; slow = refl };
  full = record { allowed = refl; mark-is = refl; sham-is = refl };
  up = record { allowed = refl; mark-is = refl; sham-is = refl };
  each_step = record { allowed = refl; mark-is = refl; sham-is = refl };
}

pub cases-met : AllTimedMet timed_table
cases-met = computed.cases

told-apart : {m : Marking} {a x : List ℕ} {mark sham : ℕ} → Marks m a x mark sham → sham ≢ mark → ToldApart m
told-apart {a = a} {x = x} h g =
    (nothing_up twins, a, x, h.allowed, λ old e q. g (sym h.sham-is ∙ ap (λ (r : Timed). r.mark) q.verdict-is ∙ ap (λ (n : ℕ). (timed (nothing_up twins) a x n).mark) e ∙ h.mark-is))

pub as-ruled-is-the-rule : MarkedAsRuledIsTheRule
unfolding MarkedAsRuledIsTheRule timed_by course_by clock_by timed timed_course clocked mark_after clock_of clock_from tick
as-ruled-is-the-rule s a x room = refl

pub shams-told-apart : ShamsToldApart
unfolding ShamsToldApart
shams-told-apart = (told-apart computed.full (omega arith), told-apart computed.up (omega arith), told-apart computed.each_step (omega arith))

pub rounding-lifts : RoundingLifts
unfolding RoundingLifts
rounding-lifts = let h = computed.each_step in (nothing_up twins, one_by_one, under_apass, h.allowed, omega (arith, h.mark-is), omega (arith, h.sham-is))

pub order-may-alter-the-mark : OrderMayAlterTheMark
unfolding OrderMayAlterTheMark
order-may-alter-the-mark =
    let h = computed.order in
    (nothing_up twins, together, one_by_one, half_the_clock, h.first, h.second, λ i. rw (h.together-does, h.one-by-one-does) (projections-alike i), λ q. omega (arith, q, h.quick, h.slow))
