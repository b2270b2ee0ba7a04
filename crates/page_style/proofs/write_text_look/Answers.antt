use Rattle.page_spec.specs.Style.{look_of_text}
use Rattle.page_spec.specs.Piece.{piece_text, page_text}
use Rattle.page_style.proofs.write_text_look.Goals as goal

pub returns : goal.returns
unfolding look_of_text page_text piece_text
returns c = c.write_all.ensures
