use Prim.Native.Nat.{zero-le}
use mathlib.Core.Path.{refl}
use Rattle.read_spec.specs.Kinds.{port_line}
use Rattle.read_sheet_lines.specs.Rows.{row_line}
use Rattle.read_sheet_lines.proofs.Limits.{row_here, row_other, use-row, provide-row}
use Rattle.read_sheet_lines.proofs.port_line.Goals as goal

pub returns-in-Some : goal.returns-in-Some
unfolding row_line port_line
returns-in-Some c = row_here _ _ _ _ c.in-Some.ensures (rw use-row at c.port_after.ensures)

pub returns-in-Some-past_key : goal.returns-in-Some-past_key
unfolding row_line port_line
returns-in-Some-past_key c =
    row_other _ _ _ _ c.in_default.ensures
    (row_here _ _ _ _ c.in-Some-past_key.ensures (rw provide-row at c.port_after-in-Some-past_key.ensures))

pub returns : goal.returns
unfolding row_line port_line
returns c =
    row_other _ _ _ _ c.in_default.ensures
    (row_other _ _ _ _ c.in_default-past_key.ensures (record { within = zero-le; same = refl }))
