-- What `write_draft` answers, and the lent buffer afterwards. 02, C-12: a refusal leaves "the buffer as found".
use Rattle.std.specs.Prelude.{ℕ, List, ◌≡◌, length}
use Rattle.model.specs.declared.Tables.{Tables}
use Rattle.model.specs.declared.Program.{Program}
use Rattle.judge_spec.specs.Judged.{over}
use Rattle.write_spec.specs.Texts.{sheet_text}
use Rattle.write_texts.specs.Form.{form_text}
use Rattle.form_spec.specs.Said.{Said, line_at_fault, form_said, sheet_said}
use Rattle.form_spec.specs.Drafts.{Drafting, sheet_of_form, form_of_sheet}
use Rattle.form_lib.specs.declared.Draft.{Draft}
use Rattle.form_lib.specs.declared.Draft.TheVariants.{Sheet, Form}
use Rattle.form_lib.specs.declared.Fault.{Fault}
use Rattle.form_lib.specs.declared.Drafted.{Drafted}

-- the number n at a place of the lines s
abbrev pub fault_at : ℕ → ℕ → List ℕ → Fault
fault_at n at s = record { refused = n; line = line_at_fault n at s }

-- what r says beside the tables and the program
abbrev pub saying : Fault → Tables × Program → Said
saying r x = record { refused = r.refused; line = r.line; value = x }

-- what a sheet is written from is a form, and the other way round
abbrev pub said_for : Draft → List ℕ → Said
said_for Sheet s = form_said s
said_for Form s = sheet_said s

abbrev pub text_for : Draft → Tables → Program → List ℕ
text_for Sheet t p = sheet_text t p
text_for Form t p = form_text t p

abbrev pub drafting_for : Draft → List ℕ → ℕ → Drafting
drafting_for Sheet s room = sheet_of_form s room
drafting_for Form s room = form_of_sheet s room

-- the number of the refusal, or 0, the row or line at fault, and how many bytes are written
abbrev pub answering : Drafting → Drafted
answering x = record { refused = x.refused; line = x.line; bytes = length x.text }

-- every field of the result, and every byte of the buffer that held `old`
pub record Drafts (d : Draft) (s old : List ℕ) (r : Drafted) (after : List ℕ) : Type 0 where
  pub answer-is : r ≡ answering (drafting_for d s (length old))
  pub buffer-is : after ≡ over (drafting_for d s (length old)).text old

unfoldable pub NoOtherDraft : Type 0
NoOtherDraft = (d : Draft) (s old : List ℕ) (r q : Drafted) (b c : List ℕ) → Drafts d s old r b → Drafts d s old q c → (r ≡ q) × (b ≡ c)
