use Rattle.item_spec.specs.Reader.{bytes, no_line}
use Rattle.passlist_spec.specs.declared.Said.TheVariants as said
use Rattle.passlist_spec.specs.Row.{said_cell}
use Rattle.passlist_lib.proofs.Laws.{key-past, key-not, none-due, from_unfinished, from_refused, from_fault, from_absent}
use Rattle.passlist_lib.proofs.cells.said_at.Goals as goal

pub returns-in-Some : goal.returns-in-Some
unfolding said_cell
returns-in-Some c =
    key-past (bytes "done,") said.Done from_unfinished _ c.in-Some.ensures

pub returns-in-Some-past_key : goal.returns-in-Some-past_key
unfolding said_cell
returns-in-Some-past_key c =
    key-not (bytes "done,") said.Done from_unfinished _ c.in_default.ensures
    (key-past (bytes "unfinished,") said.Unfinished from_refused _ c.in-Some-past_key.ensures)

pub returns-in-Some-past_key-2 : goal.returns-in-Some-past_key-2
unfolding said_cell
returns-in-Some-past_key-2 c =
    key-not (bytes "done,") said.Done from_unfinished _ c.in_default.ensures
    (key-not (bytes "unfinished,") said.Unfinished from_refused _ c.in_default-past_key.ensures
    (key-past (bytes "refused,") said.Refused from_fault _ c.in-Some-past_key-2.ensures))

pub returns-in-Some-past_key-3 : goal.returns-in-Some-past_key-3
unfolding said_cell
returns-in-Some-past_key-3 c =
    key-not (bytes "done,") said.Done from_unfinished _ c.in_default.ensures
    (key-not (bytes "unfinished,") said.Unfinished from_refused _ c.in_default-past_key.ensures
    (key-not (bytes "refused,") said.Refused from_fault _ c.in_default-past_key-2.ensures
    (key-past (bytes "fault,") said.Fault from_absent _ c.in-Some-past_key-3.ensures)))

pub returns-in-Some-past_key-4 : goal.returns-in-Some-past_key-4
unfolding said_cell
returns-in-Some-past_key-4 c =
    key-not (bytes "done,") said.Done from_unfinished _ c.in_default.ensures
    (key-not (bytes "unfinished,") said.Unfinished from_refused _ c.in_default-past_key.ensures
    (key-not (bytes "refused,") said.Refused from_fault _ c.in_default-past_key-2.ensures
    (key-not (bytes "fault,") said.Fault from_absent _ c.in_default-past_key-3.ensures
    (key-past (bytes "absent,") said.Absent no_line _ c.in-Some-past_key-4.ensures))))

pub returns : goal.returns
unfolding said_cell
returns c =
    key-not (bytes "done,") said.Done from_unfinished _ c.in_default.ensures
    (key-not (bytes "unfinished,") said.Unfinished from_refused _ c.in_default-past_key.ensures
    (key-not (bytes "refused,") said.Refused from_fault _ c.in_default-past_key-2.ensures
    (key-not (bytes "fault,") said.Fault from_absent _ c.in_default-past_key-3.ensures
    (key-not (bytes "absent,") said.Absent no_line _ c.in_default-past_key-4.ensures
    (none-due _)))))
