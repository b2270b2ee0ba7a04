use Rattle.write_items.proofs.Laws.{none, then}
use Rattle.page_spec.specs.Page.{mark_line}
use Rattle.page_spec.specs.Piece.{piece_text, page_text}
use Rattle.page_lib.proofs.write_mark.Goals as goal

pub returns-in_default : goal.returns-in_default
unfolding mark_line page_text piece_text
returns-in_default c = rw (c.in_default.is, mark_line) (none _ _)

pub returns : goal.returns
unfolding mark_line page_text piece_text
returns c =
    rw (c.in-Some.is, mark_line)
    (then c.write_key-a.ensures (then c.write_number-b.ensures (then c.write_key.ensures (none _ _))))
