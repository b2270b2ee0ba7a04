-- The paper's cases of reading hold.
-- Assumes nothing.
use mathlib.Core.Path.{refl}
use Rattle.sets.specs.Test.{any_below}
use Rattle.sets.specs.Mask.{member, collect}
use Rattle.item_spec.specs.Read.{key, digit, number_from, members_from, list, one_form, two_form, three_form, list_form}
use Rattle.read_spec.specs.Lines.{each}
use Rattle.read_spec.specs.Kinds.{due_line, count_line_in}
use Rattle.aeolus_model.specs.Model.{no_universe, find, with_count, with_states, with_initial, with_interfaces, with_provides, with_requires, with_name, with_to, with_number}
use Rattle.aeolus_model.specs.Action.{no_plan, with_step, with_steps}
use Rattle.aeolus_read_spec.specs.Kinds.{interface_name, interface_line, to_line, row_port, row_line, new_step, del_step, change_step, ends_step, step_line}
use Rattle.aeolus_read_spec.specs.Texts.{types_at, states_at, initial_at, interfaces_at, in_provides, in_requires, with_interface, interface_at, to_at, row_at, rows_at, state_at, type_head, type_at, sheet, step_at, steps_at, plan}
use Rattle.aeolus_read_spec.specs.Cases.{ReadingCases}

pub reading-cases : ReadingCases
unfolding ReadingCases any_below member collect key digit number_from members_from list one_form two_form three_form list_form each due_line count_line_in no_universe find with_count with_states with_initial with_interfaces with_provides with_requires with_name with_to with_number no_plan with_step with_steps interface_name interface_line to_line row_port row_line new_step del_step change_step ends_step step_line types_at states_at initial_at interfaces_at in_provides in_requires with_interface interface_at to_at row_at rows_at state_at type_head type_at sheet step_at steps_at plan
reading-cases = (refl, refl, refl, refl, refl, refl, refl, refl, refl, refl, refl, refl, refl, refl, refl, refl)
