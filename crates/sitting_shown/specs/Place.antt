-- The place of a line as programs print it: which text, where the line starts, how many bytes it has.
use Rattle.std.specs.Prelude.{ℕ, ◌^◌, ◌<◌, ◌≤◌, List, ◌++◌, length}
use Rattle.model.specs.declared.Text.{Text}
use Rattle.model.specs.declared.Text.TheVariants as text
use Rattle.judge_spec.specs.declared.Place.{Place}
use Rattle.item_spec.specs.Reader.{bytes}
use Rattle.item_spec.specs.Write.{number_text}

abbrev pub which_text : Text → List ℕ
which_text text.Neither = bytes "-"
which_text text.Sheet = bytes "sheet"
which_text text.Answer = bytes "answer"
which_text text.Times = bytes "times"
which_text text.Start = bytes "start"

unfoldable pub place_text : Place → List ℕ
place_text p = bytes "place=" ++ which_text p.text ++ bytes "," ++ number_text p.start ++ bytes "," ++ number_text p.size ++ bytes "\n"

-- the place of a line of any text that a judge reads has room in 32 bytes
unfoldable pub PlacesFit : Type 0
PlacesFit = (p : Place) → p.start < 10 ^ 7 → p.size < 10 ^ 7 → length (place_text p) ≤ 32
