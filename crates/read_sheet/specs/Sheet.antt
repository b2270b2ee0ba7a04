-- What reading a sheet answers, as one function of the text, and that no other outcome fits.
use Rattle.std.specs.Prelude.{ℕ, List, ◌≡◌, length, replicate}
use Rattle.model.specs.declared.Tables.{Tables}
use Rattle.model.specs.declared.Program.{Program}
use Rattle.model.specs.Empty.{no_tables, no_program}
use Rattle.read_spec.specs.Lines.{Lines}
use Rattle.read_spec.specs.Texts.{sheet}
use Rattle.item_spec.specs.declared.Refusal.{Refusal}
use Rattle.read_lines.specs.declared.LineFault.{LineFault}
use Rattle.std.specs.declared.result.Result.{Result}
use Rattle.read_chain.specs.declared.Place.{Place}
use Rattle.read_chain.specs.Whole.{Whole, whole, beside, place_of, kept}
use Rattle.words.specs.Words.{tables_in, program_in}

-- the number of the refusal, or 0, the place, the tables and the program: none beside a refusal
abbrev pub sheet_read : List ℕ → Whole (Tables × Program)
sheet_read s = whole (no_tables, no_program) sheet s

-- what a reading comes to whose words say v: none beside a refusal
abbrev pub handed_out : Result ℕ (LineFault Refusal) → Tables × Program → Whole (Tables × Program)
handed_out x v = beside (place_of x) (kept (no_tables, no_program) x v)

-- what r and the words of tables and program say together is what reading the text s by m answers
abbrev pub ReadsBy : Lines (Tables × Program) → List ℕ → Place → List ℕ → List ℕ → Type 0
ReadsBy m s r ws ps = beside r (tables_in ws, program_in ps) ≡ whole (no_tables, no_program) m s

-- as many words as tables and program have
abbrev pub Full : List ℕ → List ℕ → Type 0
Full ws ps = (length ws ≡ 2002) × (length ps ≡ 1282)

-- no other outcome and no other words fit the promise
abbrev pub NoOther : Lines (Tables × Program) → Type 0
NoOther m = (s : List ℕ) (r q : Place) (ws vs ps qs : List ℕ) → Full ws ps → Full vs qs → ReadsBy m s r ws ps → ReadsBy m s q vs qs → (r ≡ q) × (ws ≡ vs) × (ps ≡ qs)

unfoldable pub NoOtherSheet : Type 0
NoOtherSheet = NoOther sheet

-- beside a refusal all words are 0
abbrev pub NoneLeft : Lines (Tables × Program) → Type 0
NoneLeft m = (s : List ℕ) (r : Place) (ws ps : List ℕ) → Full ws ps → ReadsBy m s r ws ps → (r.refused ≡ 0 → ⊥)
    → (ws ≡ replicate 2002 0) × (ps ≡ replicate 1282 0)

unfoldable pub NoWordsLeft : Type 0
NoWordsLeft = NoneLeft sheet
