-- Where an instruction stands in its sheet: a setter looks for the line, not for a count.
use Rattle.std.specs.Prelude.{◌≡◌, List, ◌++◌, ℕ, ◌-◌, ◌<◌, length, drop}
use Rattle.item_spec.specs.Reader.{bytes}
use Rattle.model.specs.declared.Tables.{Tables}
use Rattle.model.specs.declared.Program.{Program}
use Rattle.read_spec.specs.Lines.{on}
use Rattle.read_spec.specs.Place.{up_to_lf, line_number, line_start}
use Rattle.read_spec.specs.Texts.{sheet}
use Rattle.write_spec.specs.Kinds.{do_text}
use Rattle.write_spec.specs.Texts.{instruction_row}

-- "then `program=` .. and as many `do=` lines": they are the sheet's last, so the instruction after the first k stands as many lines before its end as are left
unfoldable pub instruction_line : List ℕ → Program → ℕ → ℕ
instruction_line s p k = line_number s (length s) - (p.count - k)

-- line n of a text, from 1, with its LF
abbrev pub line_text : ℕ → List ℕ → List ℕ
line_text n s = up_to_lf (drop (line_start (n - 1) s) s) ++ bytes "\n"

-- the line of that number says the instruction
unfoldable pub LinesSayInstructions : Type 0
LinesSayInstructions =
    (s r : List ℕ) (t : Tables) (p : Program) (k : ℕ) → sheet s ≡ on (t, p) r → k < p.count → line_text (instruction_line s p k) s ≡ do_text (instruction_row p k)
