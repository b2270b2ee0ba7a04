-- A place's line has room in 32 bytes.
-- Assumes nothing.
use Prim.Native.Nat.{◌≤◌}
use native.Mathlib.Omega.{arith}
use lib.ListN.{length, length-append}
use Rattle.model.specs.declared.Text.{Text}
use Rattle.model.specs.declared.Text.TheVariants as text
use Rattle.report_spec.proofs.Widths.{number-le}
use Rattle.sitting_shown.specs.Place.{which_text, place_text, PlacesFit}

pub which-short : (x : Text) → length (which_text x) ≤ 6
which-short text.Neither = omega arith
which-short text.Sheet = omega arith
which-short text.Answer = omega arith
which-short text.Times = omega arith
which-short text.Start = omega arith

pub places-fit : PlacesFit
unfolding PlacesFit place_text
places-fit p h g = simp length-append (omega (arith, which-short p.text, number-le 6 p.start h, number-le 6 p.size g))
