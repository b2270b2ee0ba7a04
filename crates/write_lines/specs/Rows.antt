-- The line of a row, by the kind of the row: its text and its number, in a type of which c is known.
use Rattle.std.specs.Prelude.{ℕ, List}
use Rattle.read_sheet_lines.specs.declared.Known.{Known}
use Rattle.read_sheet_lines.specs.declared.Row.{Row}
use Rattle.read_sheet_lines.specs.declared.Rows.{Rows}
use Rattle.read_sheet_lines.specs.declared.Rows.TheVariants.{Transitions, Behaviors, Ports}
use Rattle.write_spec.specs.Kinds.{tran_text, tran_fault, behavior_text, behavior_fault, port_line_text, port_fault}

abbrev pub row_text : Rows → Row → List ℕ
row_text Transitions x = tran_text (x.source, x.destination)
row_text Behaviors x = behavior_text x.transitions
row_text Ports x = port_line_text (x.uses, x.places, x.transitions)

abbrev pub row_fault : Rows → Known → Row → ℕ
row_fault Transitions c x = tran_fault c.places (x.source, x.destination)
row_fault Behaviors c x = behavior_fault c.transitions x.transitions
row_fault Ports c x = port_fault c.places c.transitions c.initial (x.uses, x.places, x.transitions)
