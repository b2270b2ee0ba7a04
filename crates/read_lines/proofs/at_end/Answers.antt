use mathlib.Core.Path.{sym}
use Rattle.read_lines.proofs.Lines.{end_more, end-here}
use Rattle.read_lines.proofs.at_end.Goals as goal

pub returns-then-at-text : goal.returns-then-at-text
returns-then-at-text c = sym (end_more c.args.text.now c.args.at c.if-at-text.true)

pub returns : goal.returns
returns c = sym (end-here c.args.text.now c.args.at c.if-at-text.false)
