-- What is computed from texts, all of it under one line: the marked cases of the paper, and what tells the shams from the judge (Shams).
-- Assumes nothing.
use Prim.Native.Nat.{ℕ}
use mathlib.Core.List.{List, [], ◌∷◌, ◌++◌}
use mathlib.Core.Path.{◌≡◌, refl}
use lib.ListN.{get_or}
use Rattle.sets.specs.Mask.{member, collect}
use Rattle.sets.specs.Test.{all_below, any_below, tally}
use Rattle.item_spec.specs.Reader.{bytes}
use Rattle.item_spec.specs.Read.{key, digit, number_from, members_from, list, one_form, two_form, three_form, list_form}
use Rattle.item_spec.specs.Write.{digits_in, number_text, in_turn, one_text, two_text, three_text}
use Rattle.read_spec.specs.Kinds.{due_line, count_line_in}
use Rattle.read_spec.specs.Lines.{each}
use Rattle.read_spec.specs.Place.{up_to_lf, lfs, line_number, line_start}
use Rattle.aeolus_model.specs.Action.{no_plan, action_of, with_step, with_steps}
use Rattle.aeolus_model.specs.Model.{no_universe, nothing, find, number_of, bound, with_count, with_states, with_initial, with_interfaces, with_provides, with_requires, with_name, with_to, with_number}
use Rattle.aeolus_read_spec.specs.Kinds.{interface_name, interface_line, to_line, row_port, row_line, new_step, del_step, change_step, ends_step, step_line}
use Rattle.aeolus_read_spec.specs.Texts.{types_at, states_at, initial_at, interfaces_at, in_provides, in_requires, with_interface, interface_at, to_at, row_at, rows_at, state_at, type_head, type_at, sheet, step_at, steps_at, plan}
use Rattle.aeolus_rules_spec.specs.Action.{check, effect, reached_check, number, act}
use Rattle.aeolus_rules_spec.specs.Bind.{sizes, bind_check, rebound, joined}
use Rattle.aeolus_rules_spec.specs.Change.{change_check, changed}
use Rattle.aeolus_rules_spec.specs.Correct.{provides, serves, employs, required, provided, asked, port_holds, component_holds, holds}
use Rattle.aeolus_rules_spec.specs.Del.{del_check, freed, deleted}
use Rattle.aeolus_rules_spec.specs.New.{new_check, added}
use Rattle.aeolus_rules_spec.specs.Run.{one_more, last_check, run}
use Rattle.aeolus_rules_spec.specs.Unbind.{unbind_check, parted}
use Rattle.report_spec.specs.Faults.{text_text, fault_text}
use Rattle.report_spec.specs.Report.{count_text}
use Rattle.judge_spec.specs.Course.{short, read}
use Rattle.judge_spec.specs.Judged.{fault_line, fault_place, step_place, over}
use Rattle.aeolus_judge_spec.specs.Course.{both, course}
use Rattle.aeolus_judge_spec.specs.Judged.{after_fault, no_room, at_step, after_run, in_room, ending, judged, printing, printed}
use Rattle.aeolus_judge_spec.specs.Report.{component_text, binding_text, component_at, providers_text, bindings_at, components_text, bindings_text, head_part, components_part, bindings_part, report}
use Rattle.aeolus_judge_spec.specs.Cases.{W, L, steps, all72, Case, figures, full, table, AllMet}
use Rattle.aeolus_judge_spec.specs.Shams.{count_on, counting_course, steps_said}

-- an answer of no step, and one whose second step adds again what the first has added
abbrev pub nothing_done : List ℕ
nothing_done = steps 0 []

abbrev pub twice : List ℕ
twice = steps 2 (bytes "step=new,0,0\nstep=new,0,1\n")

-- one that moves a component on as its type in W may, and in L may not
abbrev pub moving : List ℕ
moving = steps 2 (bytes "step=new,0,0\nstep=change,0,0,1\n")

-- what comes of two texts: the two counts, and the first digit of the report and of the print
pub record Told (s a : List ℕ) (accepted refused digit : ℕ) : Type 0 where
  pub accepted-is : (judged s a 8192).verdict.accepted ≡ accepted
  pub refused-is : (judged s a 8192).verdict.refused ≡ refused
  pub digit-is : (old : List ℕ) → get_or (over (judged s a 8192).bytes old) 9 0 ≡ digit
  pub prints : get_or (printed s a) 9 0 ≡ digit

pub record Computed : Type 0 where
  pub marked : AllMet figures
  pub none : Told W nothing_done 0 0 48
  pub two_steps : Told W twice 1 61 49
  pub moves : (judged W moving 8192).verdict.accepted ≡ 2
  pub moves_not : (judged L moving 8192).verdict.accepted ≡ 1
  pub counted : (ending W twice 8192 (counting_course W twice)).verdict.accepted ≡ 2
  pub said : steps_said twice ≡ 2

pub computed : Computed
unfolding member collect all_below any_below tally key digit number_from members_from list one_form two_form three_form list_form digits_in number_text in_turn one_text two_text three_text due_line count_line_in each up_to_lf lfs line_number line_start no_plan action_of with_step with_steps no_universe nothing find number_of bound with_count with_states with_initial with_interfaces with_provides with_requires with_name with_to with_number interface_name interface_line to_line row_port row_line new_step del_step change_step ends_step step_line types_at states_at initial_at interfaces_at in_provides in_requires with_interface interface_at to_at row_at rows_at state_at type_head type_at sheet step_at steps_at plan check effect reached_check number act sizes bind_check rebound joined change_check changed provides serves employs required provided asked port_holds component_holds holds del_check freed deleted new_check added one_more last_check run unbind_check parted text_text fault_text count_text short read fault_line fault_place step_place both course after_fault no_room at_step after_run in_room ending judged printing printed component_text binding_text component_at providers_text bindings_at components_text bindings_text head_part components_part bindings_part report count_on counting_course over steps_said
computed = record {
  marked = (refl, ((refl, refl), ((refl, refl), ((refl, refl), ((refl, refl), ((refl, refl), ((refl, refl), (refl, (refl, ((refl, refl), ((refl, refl), ((refl, refl), ((refl, refl), ((refl, refl), ((refl, refl), tt)))))))))))))));
  none = record { accepted-is = refl; refused-is = refl; digit-is = λ old. refl; prints = refl };
  two_steps = record { accepted-is = refl; refused-is = refl; digit-is = λ old. refl; prints = refl };
  moves = refl;
  moves_not = refl;
  counted = refl;
  said = refl;
}

-- the 65th binding, one count at a time: each takes as long as all the others
full-accepted : (judged L (steps 89 all72) 8192).verdict.accepted ≡ 81
unfolding member collect all_below any_below tally key digit number_from members_from list one_form two_form three_form list_form digits_in number_text in_turn one_text two_text three_text due_line count_line_in each up_to_lf lfs line_number line_start no_plan action_of with_step with_steps no_universe nothing find number_of bound with_count with_states with_initial with_interfaces with_provides with_requires with_name with_to with_number interface_name interface_line to_line row_port row_line new_step del_step change_step ends_step step_line types_at states_at initial_at interfaces_at in_provides in_requires with_interface interface_at to_at row_at rows_at state_at type_head type_at sheet step_at steps_at plan check effect reached_check number act sizes bind_check rebound joined change_check changed provides serves employs required provided asked port_holds component_holds holds del_check freed deleted new_check added one_more last_check run unbind_check parted text_text fault_text count_text short read fault_line fault_place step_place both course after_fault no_room at_step after_run in_room ending judged printing printed component_text binding_text component_at providers_text bindings_at components_text bindings_text head_part components_part bindings_part report count_on counting_course
full-accepted = refl

full-refused : (judged L (steps 89 all72) 8192).verdict.refused ≡ 67
unfolding member collect all_below any_below tally key digit number_from members_from list one_form two_form three_form list_form digits_in number_text in_turn one_text two_text three_text due_line count_line_in each up_to_lf lfs line_number line_start no_plan action_of with_step with_steps no_universe nothing find number_of bound with_count with_states with_initial with_interfaces with_provides with_requires with_name with_to with_number interface_name interface_line to_line row_port row_line new_step del_step change_step ends_step step_line types_at states_at initial_at interfaces_at in_provides in_requires with_interface interface_at to_at row_at rows_at state_at type_head type_at sheet step_at steps_at plan check effect reached_check number act sizes bind_check rebound joined change_check changed provides serves employs required provided asked port_holds component_holds holds del_check freed deleted new_check added one_more last_check run unbind_check parted text_text fault_text count_text short read fault_line fault_place step_place both course after_fault no_room at_step after_run in_room ending judged printing printed component_text binding_text component_at providers_text bindings_at components_text bindings_text head_part components_part bindings_part report count_on counting_course
full-refused = refl

met-append : (ks ls : List Case) → AllMet ks → AllMet ls → AllMet (ks ++ ls)
met-append [] ls a b = b
met-append (k ∷ ks) ls (m, a) b = (m, met-append ks ls a b)

pub marked-cases : AllMet table
marked-cases = met-append figures full computed.marked ((full-accepted, full-refused), tt)
