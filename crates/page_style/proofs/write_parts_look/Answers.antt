use Rattle.page_spec.specs.Style.{look_of_parts}
use Rattle.page_spec.specs.Piece.{piece_text, page_text}
use Rattle.page_style.proofs.write_parts_look.Goals as goal

pub returns : goal.returns
unfolding look_of_parts page_text piece_text
returns c = c.write_all.ensures
