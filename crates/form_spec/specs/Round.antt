-- The form of a sheet gives that very sheet, and what a form gives is lawful. 02, C-12: "writing what was read must give the same bytes", with the form between.
use Rattle.std.specs.Prelude.{ℕ, ◌≤◌, ◌<◌, List, ◌≡◌, length}
use Rattle.read_spec.specs.Lawful.{Lawful}
use Rattle.form_spec.specs.Said.{form_said, sheet_said}
use Rattle.form_spec.specs.Drafts.{sheet_of_form, form_of_sheet}

-- of every sheet that is read, where as many bytes are lent as it has: its form is written, and the sheet of the form is that sheet, byte for byte
unfoldable pub FormsGiveTheirSheets : Type 0
FormsGiveTheirSheets =
    (s : List ℕ) (room : ℕ) → (sheet_said s).refused ≡ 0 → length s ≤ room
    → ((form_of_sheet s room).refused ≡ 0) × (sheet_of_form (form_of_sheet s room).text room ≡ record { refused = 0; line = 0; text = s })

-- the form has fewer bytes than its sheet: so no form of a sheet is too long
unfoldable pub FormsAreShorter : Type 0
FormsAreShorter = (s : List ℕ) (room : ℕ) → (sheet_said s).refused ≡ 0 → length (form_of_sheet s room).text < length s

-- what a form says keeps to a sheet's rules, so that nothing but its length or a short buffer can be refused in writing
unfoldable pub FormsAreLawful : Type 0
FormsAreLawful = (s : List ℕ) → (form_said s).refused ≡ 0 → Lawful (form_said s).value.0 (form_said s).value.1
