-- What is written of a candidate has room in the buffer that the program lends, so that each candidate is one write. Proved in proofs/Room.
use Rattle.std.specs.Prelude.{ℕ, ◌≤◌, List, length}
use Rattle.start_spec.specs.Paper.{Paper}
use Rattle.sitting_spec.specs.Candidate.{candidate_text, unread_text}

abbrev pub longest : ℕ
longest = 26400

-- no path has more bytes
abbrev pub longest_name : ℕ
longest_name = 4096

unfoldable pub CandidatesFit : Type 0
CandidatesFit = (name : List ℕ) → length name ≤ longest_name → (s : Paper) (a : List ℕ) → length (candidate_text name s a) ≤ longest

unfoldable pub UnreadFit : Type 0
UnreadFit = (name : List ℕ) → length name ≤ longest_name → length (unread_text name) ≤ longest
