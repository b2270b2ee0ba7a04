use Rattle.read_items.proofs.Laws.{handed_on}
use Rattle.read_lines.proofs.Runs.{run-refused, run-then, run-seen}
use Rattle.aeolus_model.specs.Model.{with_states, with_interfaces}
use Rattle.aeolus_model.specs.Words.{universe_in}
use Rattle.aeolus_read_spec.specs.Texts.{states_at, initial_at, interfaces_at, interface_at, type_head, type_at}
use Rattle.aeolus_read_lines.specs.Kinds.{line_at}
use Rattle.aeolus_read_sheet.proofs.types.read_type.Goals as goal

pub returns-in_err-at : goal.returns-in_err-at
unfolding type_at type_head
returns-in_err-at c = rw (handed_on _ c.from_residual.ensures.1) (run-refused _ _ (run-refused _ _ c.in_err-at.ensures))

pub returns-in_err-states : goal.returns-in_err-states
unfolding type_at type_head states_at
returns-in_err-states c =
    rw (handed_on _ c.from_residual-in_err-states.ensures.1)
    (run-refused _ _ (run-then _ _ c.in_ok-at.ensures (run-refused _ _ (run-refused _ _ c.in_err-states.ensures.reads))))

pub returns-in_err-at-2 : goal.returns-in_err-at-2
unfolding type_at type_head states_at initial_at line_at
returns-in_err-at-2 c =
    rw (handed_on _ c.from_residual-in_err-at-2.ensures.1)
    (run-refused _ _
    (run-then _ _ c.in_ok-at.ensures
    (run-then _ _ (run-seen (with_states (universe_in c.args.universe.now) c.args.k) c.in_ok-states.ensures.reads)
    (run-refused _ _ (rw c.put_states.ensures at c.in_err-at-2.ensures)))))

pub returns-in_err-listed : goal.returns-in_err-listed
unfolding type_at type_head states_at initial_at interfaces_at line_at
returns-in_err-listed c =
    rw (handed_on _ c.from_residual-in_err-listed.ensures.1)
    (run-refused _ _
    (run-then _ _ c.in_ok-at.ensures
    (run-then _ _ (run-seen (with_states (universe_in c.args.universe.now) c.args.k) c.in_ok-states.ensures.reads)
    (run-then _ _ (rw c.put_states.ensures at c.in_ok-at-2.ensures)
    (run-refused _ _ c.in_err-listed.ensures.reads)))))

pub returns-in_err-at-3 : goal.returns-in_err-at-3
unfolding type_at type_head states_at initial_at interfaces_at interface_at line_at
returns-in_err-at-3 c =
    rw (handed_on _ c.from_residual-in_err-at-3.ensures.1)
    (run-then _ _
    (run-then _ _ c.in_ok-at.ensures
    (run-then _ _ (run-seen (with_states (universe_in c.args.universe.now) c.args.k) c.in_ok-states.ensures.reads)
    (run-then _ _ (rw c.put_states.ensures at c.in_ok-at-2.ensures)
    (run-seen (with_interfaces (universe_in c.read_line.new.universe) c.args.k) c.in_ok-listed.ensures.reads))))
    (run-refused _ _ (rw (c.interfaces_of-interfaces.ensures, c.put_interfaces.ensures) at c.in_err-at-3.ensures)))

pub returns : goal.returns
unfolding type_at type_head states_at initial_at interfaces_at interface_at line_at
returns c =
    run-then _ _
    (run-then _ _ c.in_ok-at.ensures
    (run-then _ _ (run-seen (with_states (universe_in c.args.universe.now) c.args.k) c.in_ok-states.ensures.reads)
    (run-then _ _ (rw c.put_states.ensures at c.in_ok-at-2.ensures)
    (run-seen (with_interfaces (universe_in c.read_line.new.universe) c.args.k) c.in_ok-listed.ensures.reads))))
    (run-then _ _ (rw (c.interfaces_of-interfaces.ensures, c.put_interfaces.ensures) at c.in_ok-at-3.ensures)
    (rw c.states_of-states.ensures at c.read_states.ensures))
