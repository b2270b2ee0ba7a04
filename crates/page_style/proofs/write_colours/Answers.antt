use Rattle.page_spec.specs.Style.{look_in_colour}
use Rattle.page_spec.specs.Piece.{piece_text, page_text}
use Rattle.page_style.proofs.write_colours.Goals as goal

pub returns : goal.returns
unfolding look_in_colour page_text piece_text
returns c = c.write_all.ensures
