-- The first i of the ten lines are written.
use Prim.Native.Nat.{◌+◌, ◌-◌}
use lib.Dec.{ltb}
use Rattle.page_spec.specs.Line.{line_count}
use Rattle.page_spec.specs.Piece.{when}
use Rattle.page_spec.specs.Page.{line_row}
use Rattle.page_lib.proofs.Pieces.{Pieces}
use Rattle.page_lib.proofs.lines.write_lines.Given as goal

abbrev pub invariant-loop-i : goal.invariant-loop-i
invariant-loop-i l = Pieces (λ j. when (ltb j (line_count l.answer - (l.hit - 7))) (line_row l.answer l.hit (l.hit - 7 + j + 1))) 10 l.i l.initial.t l.t l.at l.p
