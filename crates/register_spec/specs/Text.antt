-- The register's text: nine cells a row, a comma between them and LF after the last; a cell is empty where there is nothing to say.
use Rattle.std.specs.Prelude.{ℕ, Bool, true, false, List, [], ◌∷◌, ◌++◌, eqb}
use Rattle.std.specs.Bool.{then_some}
use Rattle.std.specs.declared.option.Option.{Option}
use Rattle.std.specs.declared.option.Option.TheVariants.{Some, None}
use Rattle.item_spec.specs.Reader.{bytes, byte}
use Rattle.item_spec.specs.Write.{number_text}
use Rattle.model.specs.declared.Concerned.{Concerned}
use Rattle.model.specs.declared.Concerned.TheVariants.{NoPort, UsePort}
use Rattle.sitting_shown.specs.Shown.{cell}
use Rattle.outcome_spec.specs.declared.Outcome.{Outcome}
use Rattle.outcome_spec.specs.declared.Outcome.TheVariants.{Done, Unfinished, Refused, Fault, OfPaper}
use Rattle.outcome_spec.specs.Outcome.{outcome_text}
use Rattle.register_spec.specs.declared.Row.{Row}

unfoldable pub head_text : List ℕ
head_text = bytes "candidate,outcome,number,port,line,accepted,next,program,mark\n"

abbrev pub port_cell : Concerned → List ℕ
port_cell NoPort = []
port_cell (UsePort q) = number_text q

-- a line of the answer is pointed at; the steps were walked
abbrev pub pointed : Outcome → Bool
pointed Done = false
pointed Unfinished = false
pointed Refused = true
pointed Fault = true
pointed OfPaper = true

abbrev pub walked : Outcome → Bool
walked Done = true
walked Unfinished = true
walked Refused = true
walked Fault = false
walked OfPaper = false

-- a number's cell, empty where there is none
abbrev pub number_cell : Option ℕ → List ℕ
number_cell (Some n) = number_text n
number_cell None = []

-- the eight cells after the name
abbrev pub cells_after : Row → List (List ℕ)
cells_after r =
    outcome_text r.outcome
    ∷ number_text r.number
    ∷ port_cell r.port
    ∷ number_cell (then_some (pointed r.outcome) r.line)
    ∷ number_cell (then_some (walked r.outcome) r.accepted)
    ∷ number_cell (then_some (walked r.outcome) r.next)
    ∷ number_text r.program
    ∷ number_cell r.mark
    ∷ []

-- further cells, each after its comma, and the line's end
unfoldable pub further_cells : List (List ℕ) → List ℕ
further_cells [] = bytes "\n"
further_cells (c ∷ cs) = bytes "," ++ (c ++ further_cells cs)

unfoldable pub row_text : List ℕ → Row → List ℕ
row_text name r = cell name ++ further_cells (cells_after r)

-- an answer that can't be read has no other cell
abbrev pub unreadable_cells : List (List ℕ)
unreadable_cells = bytes "unreadable" ∷ [] ∷ [] ∷ [] ∷ [] ∷ [] ∷ [] ∷ [] ∷ []

unfoldable pub unreadable_text : List ℕ → List ℕ
unreadable_text name = cell name ++ further_cells unreadable_cells

-- a row's cells, split at its commas up to its line's end, `so` being what the first has so far
unfoldable pub split_from : List ℕ → List ℕ → List (List ℕ)
split_from so [] = so ∷ []
split_from so (c ∷ s) =
    elim (eqb c (byte "\n")) [
      | true ↦ so ∷ []
      | false ↦ elim (eqb c (byte ",")) [ true ↦ so ∷ split_from [] s | false ↦ split_from (so ++ (c ∷ [])) s ]
    ]

abbrev pub split : List ℕ → List (List ℕ)
split s = split_from [] s
