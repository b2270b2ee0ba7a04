-- What is foretold of the cases, computed from their texts.
-- Assumes nothing.
use mathlib.Core.Path.{refl}
use Rattle.sets.specs.Mask.{member, collect}
use Rattle.sets.specs.Test.{all_below, any_below, lowest}
use Rattle.model.specs.Empty.{no_tables, none_begun, no_program, no_answer, start}
use Rattle.model.specs.View.{is_served, list_of, queue_of, put, with_queue, with_servers, with_done}
use Rattle.item_spec.specs.Read.{key, digit, number_from, members_from, list, one_form, two_form, three_form, four_form, list_form, lists_form}
use Rattle.item_spec.specs.Write.{digits_in, number_text, members_below, more_text, list_text, mask_text, in_turn, one_text, two_text, three_text, four_text}
use Rattle.read_spec.specs.Fill.{headed, with_type, with_transition, with_port, program_of, with_instruction, answer_of, with_step}
use Rattle.read_spec.specs.Kinds.{edition_line, due_line, count_line_in, initial_line, tran_line, behavior_line, group, port_line, do_id, do_number, do_ends, do_ticketed, do_wait, do_line, step_id, step_number, step_line}
use Rattle.read_spec.specs.Lines.{each}
use Rattle.read_spec.specs.Place.{up_to_lf, lfs, line_number, line_start}
use Rattle.read_spec.specs.Texts.{tran_at, behavior_at, port_at, type_lines, instruction_at, sheet, step_at, answer}
use Rattle.rules_spec.specs.Action.{instruction_action, move_action, action_check, effect, concern}
use Rattle.rules_spec.specs.Add.{add_check, added}
use Rattle.rules_spec.specs.Closing.{down, closed, zeroed, renewed}
use Rattle.rules_spec.specs.Con.{is_use_port, is_provide_port, con_check, connected}
use Rattle.rules_spec.specs.DCon.{same_connection, dcon_check, disconnected}
use Rattle.rules_spec.specs.Del.{named_by, del_check, deleted}
use Rattle.rules_spec.specs.End.{end_check, end_to}
use Rattle.rules_spec.specs.Enter.{enter_row, enter_check, enter_to}
use Rattle.rules_spec.specs.Finish.{may_leave, finish_row, finish_check, finished}
use Rattle.rules_spec.specs.Fire.{fire_row, fire_check, fire_to}
use Rattle.rules_spec.specs.Instance.{active, current, ends_at, leaving, entering, fired, ended_by, entered, with_queued}
use Rattle.rules_spec.specs.Standing.{entries, in_table}
use Rattle.rules_spec.specs.Ports.{is_of, would_leave, would_enter, refusing, serves, blocks, employs, fails_unconnected, fails_unserved, fails_refusing, fails_in_use, port_check, concerned}
use Rattle.rules_spec.specs.Tickets.{stamped, begun_to, goes_on, pushed_to, not_above, has_stamp}
use Rattle.rules_spec.specs.PushB.{pushb_check, pushed}
use Rattle.rules_spec.specs.Step.{action_at, action, step_check_with, step_to, step}
use Rattle.rules_spec.specs.Wait.{wait_check}
use Rattle.rules_spec.specs.Walk.{one_more, walk}
use Rattle.item_spec.specs.Items.{item_then, items_in, items}
use Rattle.start_spec.specs.Row.{last_form, plain_queue, ticket_queue, slots_of, items_ok, rises_to, instance_line, pushed_all, placed, with_row, port_in, connection_line as start_connection_line}
use Rattle.start_spec.specs.Text.{instance_at as start_instance_at, connection_at as start_connection_at, start_lines}
use Rattle.start_spec.specs.Served.{fails_still, some_unserved}
use Rattle.judge_spec.specs.Course.{short, short_start, served, outset, read, paper_course}
use Rattle.demands.specs.OnTexts.{sheet_tables, own_program, outset_of, sheet_program}
use Rattle.foretell_spec.specs.Names.{names_of, foretold_from, foretold}
use Rattle.foretell_spec.specs.Lines.{instruction_line}
use Rattle.foretell_spec.specs.OnTexts.{foretold_on, foretold_line}
use Rattle.foretell_spec.specs.Cases.{CasesForetold}

pub cases-foretold : CasesForetold
unfolding CasesForetold foretold_on foretold_line instruction_line paper_course sheet_tables own_program outset_of sheet_program names_of foretold_from foretold member collect all_below any_below no_tables none_begun no_program no_answer start is_served entries in_table list_of queue_of put with_queue with_servers with_done key digit number_from members_from list one_form two_form three_form four_form list_form lists_form digits_in number_text members_below more_text list_text mask_text in_turn one_text two_text three_text four_text headed with_type with_transition with_port program_of with_instruction answer_of with_step edition_line due_line count_line_in initial_line tran_line behavior_line group port_line do_id do_number do_ends do_ticketed do_wait do_line step_id step_number step_line each up_to_lf lfs line_number line_start tran_at behavior_at port_at type_lines instruction_at sheet step_at answer instruction_action move_action action_check effect concern add_check added down closed zeroed renewed is_of is_use_port is_provide_port con_check connected same_connection dcon_check disconnected named_by del_check deleted end_check end_to enter_row enter_check enter_to may_leave finish_row finish_check finished fire_row fire_check fire_to active current ends_at leaving entering fired ended_by entered with_queued would_leave would_enter refusing serves blocks employs fails_unconnected fails_unserved fails_refusing fails_in_use port_check lowest concerned pushb_check pushed stamped begun_to goes_on pushed_to not_above has_stamp action_at action step_check_with step_to step wait_check one_more walk short read items items_in item_then last_form plain_queue ticket_queue slots_of items_ok rises_to instance_line pushed_all placed with_row port_in start_connection_line start_instance_at start_connection_at start_lines fails_still some_unserved served short_start outset
cases-foretold =
    ((refl, refl), ((refl, refl), ((refl, refl), ((refl, refl), ((refl, refl), ((refl, refl), ((refl, refl), ((refl, refl), ((refl, refl), ((refl, refl), ((refl, refl), ((refl, refl), ((refl, refl), ((refl, refl), ((refl, refl), ((refl, refl), ((refl, refl), ((refl, refl), ((refl, refl), ((refl, refl), ((refl, refl), ((refl, refl), tt))))))))))))))))))))))
