-- What is written at once has room in the buffer that the program lends, so that each candidate is one write. Proved in proofs/Room.
use Rattle.std.specs.Prelude.{ℕ, ◌≤◌, List, length}
use Rattle.page_spec.specs.declared.Found.{Found}
use Rattle.page_spec.specs.Piece.{page_text}
use Rattle.page_spec.specs.Page.{top, counts, foot, candidate, unreadable}

abbrev pub longest : ℕ
longest = 294912

-- no path and no word of a call has more bytes
abbrev pub longest_name : ℕ
longest_name = 4096

-- and no report
abbrev pub longest_report : ℕ
longest_report = 8192

unfoldable pub CandidatesFit : Type 0
CandidatesFit =
    (k : ℕ) (name : List ℕ) (f : Found) (s a r : List ℕ)
    → length name ≤ longest_name → length r ≤ longest_report → length (page_text (candidate k name f s a r)) ≤ longest

unfoldable pub UnreadableFit : Type 0
UnreadableFit = (k : ℕ) (name : List ℕ) → length name ≤ longest_name → length (page_text (unreadable k name)) ≤ longest

unfoldable pub TopsFit : Type 0
TopsFit =
    (title sheet start times judge : List ℕ)
    → length title ≤ longest_name → length sheet ≤ longest_name → length start ≤ longest_name → length times ≤ longest_name → length judge ≤ longest_name
    → length (page_text (top title sheet start times judge)) ≤ longest

unfoldable pub CountsFit : Type 0
CountsFit = (total : ℕ) (c : List ℕ) → length (page_text (counts total c)) ≤ longest

unfoldable pub FeetFit : Type 0
FeetFit = (total : ℕ) → length (page_text (foot total)) ≤ longest
