-- The seven lines at the end of a candidate's block: outcome, at, place, offending, ended, left, instruction.
use Rattle.std.specs.Prelude.{ℕ, ◌-◌, Bool, true, false, List, [], ◌++◌, ltb, length, take, drop}
use Rattle.item_spec.specs.Reader.{bytes}
use Rattle.item_spec.specs.Write.{number_text}
use Rattle.read_spec.specs.Place.{up_to_lf, line_number, line_start}
use Rattle.judge_spec.specs.declared.Place.{Place}
use Rattle.sitting_shown.specs.declared.Among.TheVariants as among
use Rattle.sitting_shown.specs.Shown.{shown}
use Rattle.sitting_shown.specs.Place.{place_text}

-- "at most 200 bytes of the line"
abbrev pub widest : ℕ
widest = 200

abbrev pub first_shown : List ℕ → List ℕ
first_shown l = shown among.Line (take widest l)

-- the line of the answer a that is at fault, where one is: it stands at the place p
abbrev pub offending_line : Bool → Place → List ℕ → List ℕ
offending_line true p a = take p.size (drop p.start a)
offending_line false p a = []

-- "`at=` the answer's line, `-` where none is at fault"
abbrev pub at_text : Bool → Place → List ℕ → List ℕ
at_text true p a = number_text (line_number a p.start)
at_text false p a = bytes "-"

-- whether a byte comes after the line
abbrev pub line_end : Bool → List ℕ
line_end true = bytes "lf"
line_end false = bytes "end"

-- "`lf`, `end` (the text's end) or `-`"
abbrev pub ended_text : Bool → Place → List ℕ → List ℕ
ended_text true p a = line_end (ltb p.size (length a - p.start))
ended_text false p a = bytes "-"

-- from the outcome's end to the place
unfoldable pub where_text : Bool → Place → List ℕ → List ℕ
where_text b p a = bytes "\nat=" ++ at_text b p a ++ bytes "\n" ++ place_text p

-- what stands there, how it ended, "and `left=` how many more"
unfoldable pub offending_text : Bool → Place → List ℕ → List ℕ
offending_text b p a =
    bytes "offending=" ++ first_shown (offending_line b p a)
    ++ bytes "\nended=" ++ ended_text b p a
    ++ bytes "\nleft=" ++ number_text (length (offending_line b p a) - widest)

-- with the outcome's word w: all but the last of the seven lines, without its LF
unfoldable pub told_text : List ℕ → Bool → Place → List ℕ → List ℕ
told_text w b p a = bytes "outcome=" ++ w ++ where_text b p a ++ offending_text b p a

-- instruction k, on line n of the sheet s: "number as `next=` counts, the sheet's line, its text"
unfoldable pub instruction_text : List ℕ → ℕ → ℕ → List ℕ
instruction_text s k n = number_text k ++ bytes "," ++ number_text n ++ bytes "," ++ first_shown (up_to_lf (drop (line_start (n - 1) s) s))

-- the last of the seven lines: the instruction, where one is asked for
abbrev pub asked_text : Bool → List ℕ → ℕ → ℕ → List ℕ
asked_text true s k n = bytes "\ninstruction=" ++ instruction_text s k n ++ bytes "\n"
asked_text false s k n = bytes "\ninstruction=-\n"
