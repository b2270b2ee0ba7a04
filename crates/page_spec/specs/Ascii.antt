-- A page is ASCII, whatever the bytes of others. Proved in proofs/Ascii.
use Rattle.std.specs.Prelude.{ℕ, ◌<◌, List}
use Rattle.sitting_shown.specs.Readable.{Each}
use Rattle.page_spec.specs.declared.Found.{Found}
use Rattle.page_spec.specs.Piece.{Piece, page_text}
use Rattle.page_spec.specs.Page.{top, counts, foot, candidate, unreadable}

abbrev pub Ascii : ℕ → Type 0
Ascii b = b < 128

abbrev pub InAscii : List Piece → Type 0
InAscii ps = Each Ascii (page_text ps)

unfoldable pub TopsAreAscii : Type 0
TopsAreAscii = (title sheet start times judge : List ℕ) → InAscii (top title sheet start times judge)

unfoldable pub CountsAreAscii : Type 0
CountsAreAscii = (total : ℕ) (c : List ℕ) → InAscii (counts total c)

unfoldable pub CandidatesAreAscii : Type 0
CandidatesAreAscii = (k : ℕ) (name : List ℕ) (f : Found) (s a r : List ℕ) → InAscii (candidate k name f s a r)

unfoldable pub UnreadableAreAscii : Type 0
UnreadableAreAscii = (k : ℕ) (name : List ℕ) → InAscii (unreadable k name)

unfoldable pub FeetAreAscii : Type 0
FeetAreAscii = (total : ℕ) → InAscii (foot total)
