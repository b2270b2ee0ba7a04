-- Computed by the definitions, all of it under one line.
-- Assumes nothing.
use mathlib.Core.Path.{refl}
use Rattle.sets.specs.Mask.{member, collect}
use Rattle.sets.specs.Test.{all_below, any_below}
use Rattle.model.specs.View.{is_served, put}
use Rattle.read_spec.specs.Lawful.{transition_lawful, behavior_lawful, port_lawful, type_lawful, tables_lawful, instruction_lawful, program_lawful, step_lawful}
use Rattle.rules_spec.specs.Action.{move_action, action_check, effect}
use Rattle.rules_spec.specs.Con.{is_use_port, is_provide_port}
use Rattle.rules_spec.specs.Fire.{fire_row, fire_check, fire_to}
use Rattle.rules_spec.specs.Instance.{active, current, ends_at, leaving, entering, fired, entered}
use Rattle.rules_spec.specs.Ports.{is_of, would_leave, would_enter, refusing, serves, blocks, employs, fails_unconnected, fails_unserved, fails_refusing, fails_in_use, port_check}
use Rattle.rules_spec.specs.Standing.{entries, in_table}
use Rattle.rules_spec.specs.Step.{action, step_check_with, step_to, step}
use Rattle.hall_configuration.specs.Lawful.{queued_lawful, numbers_lawful, instance_lawful, ends_lawful, connection_lawful, lawful_from, connections_lawful, configuration_lawful}
use Rattle.hall.specs.Screen.{lent_lawful, hall_step}
use Rattle.hall.specs.Clauses.{every, ClausesBreak}

pub clauses-break : ClausesBreak
unfolding is_served member collect all_below any_below put transition_lawful behavior_lawful port_lawful type_lawful tables_lawful instruction_lawful program_lawful step_lawful move_action action_check effect is_of is_use_port is_provide_port fire_row fire_check fire_to active current ends_at leaving entering fired entered entries in_table would_leave would_enter refusing serves blocks employs fails_unconnected fails_unserved fails_refusing fails_in_use port_check action step_check_with step_to step queued_lawful numbers_lawful instance_lawful ends_lawful connection_lawful lawful_from connections_lawful configuration_lawful lent_lawful hall_step every ClausesBreak
clauses-break = (refl, refl)
