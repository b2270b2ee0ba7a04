use mathlib.Core.Path.{sym}
use Rattle.read_items.proofs.Limits.{form-fault, form-then}
use Rattle.read_spec.specs.Kinds.{count_line_in}
use Rattle.aeolus_read_lines.proofs.Keys.{state-numbers}
use Rattle.aeolus_read_lines.proofs.initial_line.Goals as goal

pub returns-in_default : goal.returns-in_default
unfolding count_line_in
returns-in_default c = form-fault _ _ c.in_default.ensures

pub returns : goal.returns
unfolding count_line_in
returns c =
    let n = c.numbers_within in
    form-then _ _ c.in-Some.ensures (rw (sym c.states_of-states.ensures) (state-numbers _ _ _ n.result n.ensures))
