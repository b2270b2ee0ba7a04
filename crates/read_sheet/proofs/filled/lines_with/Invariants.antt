use Rattle.read_sheet.proofs.Forms.{Counting}
use Rattle.read_sheet.proofs.filled.lines_with.Given as goal

abbrev pub invariant-loop-i : goal.invariant-loop-i
invariant-loop-i l = Counting l.all l.key l.text l.start l.i l.count l.fresh
