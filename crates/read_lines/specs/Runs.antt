-- What the reader of a run of lines promises.
use Rattle.std.specs.Prelude.{ℕ, ◌≤◌, List, ◌≡◌, length, drop}
use Rattle.item_spec.specs.Refusal.{number_of}
use Rattle.item_spec.specs.declared.Refusal.{Refusal}
use Rattle.read_spec.specs.Lines.{Run, on, stop}
use Rattle.read_lines.specs.declared.LineFault.{LineFault}
use Rattle.std.specs.declared.result.Result.{Result}
use Rattle.std.specs.declared.result.Result.TheVariants.{Ok, Err}

-- what a reading came to: the group a and the next line's place, or 01's number and the place of the line at fault
pub data Came (A : Type 0) : Type 0 where
  onto : A → ℕ → Came A
  fault_at : ℕ → ℕ → Came A

abbrev pub place : {A : Type 0} → Came A → ℕ
place (onto a at) = at
place (fault_at k at) = at

-- the same as a run, on the text s
abbrev pub run : {A : Type 0} → List ℕ → Came A → Run A
run s (onto a at) = on a (drop at s)
run s (fault_at k at) = stop k (drop at s)

-- what a reader says that answers the next line's place beside the group a; beside a refusal the group says nothing
abbrev pub came : {A : Type 0} → Result ℕ (LineFault Refusal) → A → Came A
came (Ok at) a = onto a at
came (Err f) a = fault_at (number_of f.refusal) f.at

-- of one number, or of one list as a set
abbrev pub number_came : Result (ℕ × ℕ) (LineFault Refusal) → Came ℕ
number_came (Ok (n, at)) = onto n at
number_came (Err f) = fault_at (number_of f.refusal) f.at

-- at the text's end s, or not
abbrev pub end_says : Result (Unit {0}) Refusal → List ℕ → Run (Unit {0})
end_says (Ok u) s = on tt s
end_says (Err r) s = stop (number_of r) s

-- on the text s, the answer c is what a definition says that runs to m: the same group or number, at the next line or the line at fault
pub record RunsTo {A : Type 0} (s : List ℕ) (c : Came A) (m : Run A) : Type 0 where
  pub within : place c ≤ length s
  pub same : run s c ≡ m
