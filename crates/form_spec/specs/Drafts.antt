-- What is written: the sheet of a form, and the form of a sheet. 02, C-12: "Setters want to fill tables on a form and print a sheet from them."
use Rattle.std.specs.Prelude.{ℕ, List, [], cond, eqb}
use Rattle.model.specs.declared.Tables.{Tables}
use Rattle.model.specs.declared.Program.{Program}
use Rattle.write_spec.specs.Texts.{sheet_text, sheet_fault}
use Rattle.write_spec.specs.Buffer.{write_number, penned}
use Rattle.write_texts.specs.Form.{form_text}
use Rattle.form_spec.specs.Said.{Said, form_said, sheet_said}

-- the number of the refusal, or 0, the row or line at fault, and the text that stands at the lent buffer's start
pub record Drafting : Type 0 where
  pub refused : ℕ
  pub line : ℕ
  pub text : List ℕ

-- 02, C-12: "1 when the text would pass 32,768 bytes, 6 when the lent buffer is short .. 3 or 4 comes before 1, 1 before 6": no row's fault
abbrev pub writing : (Tables → Program → List ℕ) → ℕ → Tables × Program → Drafting
writing text room x = record {
  refused = write_number (sheet_fault x.0 x.1) (text x.0 x.1) room;
  line = 0;
  text = penned (sheet_fault x.0 x.1) (text x.0 x.1) room;
}

-- what was read, written as a text where `room` bytes are lent. docs/FORM.md: "Nothing is printed then" beside a refusal
abbrev pub drafting : (Tables → Program → List ℕ) → ℕ → Said → Drafting
drafting text room x = cond (eqb x.refused 0) (writing text room x.value) (record { refused = x.refused; line = x.line; text = [] })

-- docs/FORM.md: "prints the sheet of it", "prints an old sheet as a form"
unfoldable pub sheet_of_form : List ℕ → ℕ → Drafting
sheet_of_form s room = drafting sheet_text room (form_said s)

unfoldable pub form_of_sheet : List ℕ → ℕ → Drafting
form_of_sheet s room = drafting form_text room (sheet_said s)
