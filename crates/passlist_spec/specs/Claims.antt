-- "A name is on the list exactly when its row is `done` with a mark of at least PASS; never by mark alone": from the bytes that the register writes of an answer
-- to what the judge and the timing say of it; a row alone, and a whole register. Proved in proofs/Exactly, proofs/Read and proofs/Register.
use Rattle.std.specs.Prelude.{ℕ, ◌≤◌, Bool, true, false, ◌&&◌, ◌||◌, not, List, [], ◌∷◌, ◌++◌, ◌≡◌, ◌≢◌, leb}
use Rattle.std.specs.declared.option.Option.TheVariants.{None}
use Rattle.item_spec.specs.Reader.{bytes}
use Rattle.item_spec.specs.Write.{only_if}
use Rattle.start_spec.specs.Paper.{Paper}
use Rattle.judge_spec.specs.Judged.{lent_bytes}
use Rattle.timing_spec.specs.Timed.{timed}
use Rattle.outcome_spec.specs.declared.Outcome.{Outcome}
use Rattle.outcome_spec.specs.declared.Outcome.TheVariants.{Done, Unfinished, Refused, Fault, OfPaper}
use Rattle.outcome_spec.specs.Outcome.{outcome_of}
use Rattle.sitting_shown.specs.Shown.{cell}
use Rattle.register_spec.specs.declared.Row.{Row}
use Rattle.register_spec.specs.Row.{row_of}
use Rattle.register_spec.specs.Text.{head_text, further_cells, row_text}
use Rattle.passlist_spec.specs.declared.Pass.{Pass}
use Rattle.passlist_spec.specs.declared.Pass.TheVariants.{AtLeast, NoTimes}
use Rattle.passlist_spec.specs.declared.Standing.TheVariants.{Passed}
use Rattle.passlist_spec.specs.Row.{name_cell}
use Rattle.passlist_spec.specs.Standing.{standing}
use Rattle.passlist_spec.specs.Listed.{none_counted, counts_text, counted_all, list_text, wrong_with}

-- of a paper with the times x
unfoldable pub PassesExactly : Type 0
PassesExactly =
    (name : List ℕ) (s : Paper) (x a : List ℕ) (n : ℕ)
    → (standing (AtLeast n) (row_text name (row_of s true x a)) ≡ Passed → (outcome_of s a ≡ Done) × (n ≤ (timed s a x lent_bytes).mark))
    × (outcome_of s a ≡ Done → n ≤ (timed s a x lent_bytes).mark → standing (AtLeast n) (row_text name (row_of s true x a)) ≡ Passed)

-- of a paper without times
unfoldable pub PassesWithoutTimes : Type 0
PassesWithoutTimes =
    (name : List ℕ) (s : Paper) (x a : List ℕ)
    → (standing NoTimes (row_text name (row_of s false x a)) ≡ Passed → outcome_of s a ≡ Done)
    × (outcome_of s a ≡ Done → standing NoTimes (row_text name (row_of s false x a)) ≡ Passed)

-- and by the name that the register shows
unfoldable pub NamedAsRegistered : Type 0
NamedAsRegistered = (name : List ℕ) (r : Row) → name_cell (row_text name r) ≡ cell name

-- ---- a whole register

-- a name of the roll, with an answer or absent
pub data Candidate : Type 0 where
  sat : List ℕ → List ℕ → Candidate
  absent : List ℕ → Candidate

abbrev pub name_of : Candidate → List ℕ
name_of (sat name a) = name
name_of (absent name) = name

-- "Absent rows are put in": nobody judged them
abbrev pub candidate_text : Paper → Bool → List ℕ → Candidate → List ℕ
candidate_text s b x (sat name a) = row_text name (row_of s b x a)
candidate_text s b x (absent name) = cell name ++ further_cells (bytes "absent" ∷ [] ∷ [] ∷ [] ∷ [] ∷ [] ∷ [] ∷ [] ∷ [])

unfoldable pub rows_of : Paper → Bool → List ℕ → List Candidate → List (List ℕ)
rows_of s b x [] = []
rows_of s b x (c ∷ cs) = candidate_text s b x c ∷ rows_of s b x cs

-- the register's lines, and its text
abbrev pub register_of : Paper → Bool → List ℕ → List Candidate → List (List ℕ)
register_of s b x cs = head_text ∷ rows_of s b x cs

unfoldable pub joined : List (List ℕ) → List ℕ
joined [] = []
joined (l ∷ ls) = l ++ joined ls

-- a pass line of the paper's kind
abbrev pub pass_for : Bool → ℕ → Pass
pass_for true n = AtLeast n
pass_for false n = NoTimes

abbrev pub is_done : Outcome → Bool
is_done Done = true
is_done Unfinished = false
is_done Refused = false
is_done Fault = false
is_done OfPaper = false

-- done, and where the paper has times with a mark of at least n
abbrev pub passed : Paper → Bool → List ℕ → ℕ → Candidate → Bool
passed s b x n (sat name a) = is_done (outcome_of s a) && (not b || leb n (timed s a x lent_bytes).mark)
passed s b x n (absent name) = false

unfoldable pub names_text : Paper → Bool → List ℕ → ℕ → List Candidate → List ℕ
names_text s b x n [] = []
names_text s b x n (c ∷ cs) = only_if (passed s b x n c) (bytes "candidate=" ++ cell (name_of c) ++ bytes "\n") ++ names_text s b x n cs

-- a register's text gives the names of those who passed, in its order, and no other; then the counts
unfoldable pub RegistersAreListed : Type 0
RegistersAreListed =
    (s : Paper) (b : Bool) (x : List ℕ) (n : ℕ) (cs : List Candidate)
    → list_text (pass_for b n) (joined (register_of s b x cs)) ≡ names_text s b x n cs ++ counts_text (counted_all (pass_for b n) none_counted (register_of s b x cs))

-- nobody is judged where the paper is at fault
abbrev pub AllJudged : Paper → List Candidate → Type 0
AllJudged s [] = Unit
AllJudged s (sat name a ∷ cs) = (outcome_of s a ≢ OfPaper) × AllJudged s cs
AllJudged s (absent name ∷ cs) = AllJudged s cs

-- and is never refused
unfoldable pub RegistersAreTaken : Type 0
RegistersAreTaken =
    (s : Paper) (b : Bool) (x : List ℕ) (n : ℕ) (cs : List Candidate) → AllJudged s cs → wrong_with (pass_for b n) (joined (register_of s b x cs)) ≡ None
