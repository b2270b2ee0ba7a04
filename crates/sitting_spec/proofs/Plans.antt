-- The seven lines of plans, computed from texts.
-- Assumes nothing.
use mathlib.Core.Path.{refl}
use Rattle.sets.specs.Mask.{member, collect}
use Rattle.sets.specs.Test.{all_below, any_below, tally}
use Rattle.item_spec.specs.Read.{key, digit, number_from, members_from, list, one_form, two_form, three_form, list_form}
use Rattle.item_spec.specs.Write.{digits_in, number_text, in_turn, one_text, two_text, three_text}
use Rattle.read_spec.specs.Kinds.{due_line, count_line_in}
use Rattle.read_spec.specs.Lines.{each}
use Rattle.read_spec.specs.Place.{up_to_lf, lfs, line_number, line_start}
use Rattle.aeolus_model.specs.Action.{no_plan, action_of, with_step, with_steps}
use Rattle.aeolus_model.specs.Model.{no_universe, nothing, find, number_of, bound, with_count, with_states, with_initial, with_interfaces, with_provides, with_requires, with_name, with_to, with_number}
use Rattle.aeolus_read_spec.specs.Kinds.{interface_name, interface_line, to_line, row_port, row_line, new_step, del_step, change_step, ends_step, step_line}
use Rattle.aeolus_read_spec.specs.Texts.{types_at, states_at, initial_at, interfaces_at, in_provides, in_requires, with_interface, interface_at, to_at, row_at, rows_at, state_at, type_head, type_at, sheet, step_at, steps_at, plan}
use Rattle.aeolus_rules_spec.specs.Action.{check, effect, reached_check, number, act}
use Rattle.aeolus_rules_spec.specs.Bind.{sizes, bind_check, rebound, joined}
use Rattle.aeolus_rules_spec.specs.Change.{change_check, changed}
use Rattle.aeolus_rules_spec.specs.Correct.{provides, serves, employs, required, provided, asked, port_holds, component_holds, holds}
use Rattle.aeolus_rules_spec.specs.Del.{del_check, freed, deleted}
use Rattle.aeolus_rules_spec.specs.New.{new_check, added}
use Rattle.aeolus_rules_spec.specs.Run.{one_more, last_check, run}
use Rattle.aeolus_rules_spec.specs.Unbind.{unbind_check, parted}
use Rattle.report_spec.specs.Faults.{text_text, fault_text}
use Rattle.report_spec.specs.Report.{count_text}
use Rattle.judge_spec.specs.Course.{short, read}
use Rattle.judge_spec.specs.Judged.{fault_line, fault_place, step_place}
use Rattle.aeolus_judge_spec.specs.Course.{both, course}
use Rattle.aeolus_judge_spec.specs.Judged.{after_fault, no_room, at_step, after_run, in_room, ending, judged}
use Rattle.aeolus_judge_spec.specs.Report.{component_text, binding_text, component_at, providers_text, bindings_at, components_text, bindings_text, head_part, components_part, bindings_part, report}
use Rattle.sitting_shown.specs.Shown.{plain, more, itself, hex_digit, shown_byte, shown}
use Rattle.sitting_shown.specs.Place.{place_text}
use Rattle.sitting_spec.specs.End.{where_text, offending_text, told_text}
use Rattle.sitting_spec.specs.Plan.{plan_end}
use Rattle.sitting_spec.specs.Cases.{plans, AllPlanned}

pub plans-end : AllPlanned plans
unfolding member collect all_below any_below tally key digit number_from members_from list one_form two_form three_form list_form digits_in number_text in_turn one_text two_text three_text due_line count_line_in each up_to_lf lfs line_number line_start no_plan action_of with_step with_steps no_universe nothing find number_of bound with_count with_states with_initial with_interfaces with_provides with_requires with_name with_to with_number interface_name interface_line to_line row_port row_line new_step del_step change_step ends_step step_line types_at states_at initial_at interfaces_at in_provides in_requires with_interface interface_at to_at row_at rows_at state_at type_head type_at sheet step_at steps_at plan check effect reached_check number act sizes bind_check rebound joined change_check changed provides serves employs required provided asked port_holds component_holds holds del_check freed deleted new_check added one_more last_check run unbind_check parted text_text fault_text count_text short read fault_line fault_place step_place both course after_fault no_room at_step after_run in_room ending judged component_text binding_text component_at providers_text bindings_at components_text bindings_text head_part components_part bindings_part report plain more itself hex_digit shown_byte shown place_text where_text offending_text told_text plan_end
plans-end = (refl, (refl, (refl, (refl, (refl, tt)))))
