-- The form of a sheet gives that very sheet.
-- Assumes nothing.
use Prim.Native.Nat.{ℕ, ◌-◌, ◌≤◌, ◌<◌}
use mathlib.Core.List.{List}
use mathlib.Core.Bool.{true}
use mathlib.Core.Path.{◌≡◌, refl, sym, ap, ◌∙◌}
use native.Mathlib.Omega.{arith}
use lib.Dec.{eqb}
use lib.ListN.{length}
use borrow.Author.Tests.{eq-eqb, le-leb, leb-true}
use Rattle.item_spec.proofs.Tests.{by-test}
use Rattle.model.specs.declared.Tables.{Tables}
use Rattle.model.specs.declared.Program.{Program}
use Rattle.read_spec.specs.Limits.{length_ok}
use Rattle.model.specs.Empty.{no_tables, no_program}
use Rattle.read_spec.specs.Lines.{Run, on, stop, Lines}
use Rattle.read_spec.specs.Texts.{sheet}
use Rattle.read_spec.specs.Lawful.{Lawful}
use Rattle.read_spec.proofs.Rests.{run-stops, run-gives}
use Rattle.read_spec.proofs.Lawful.{sheet-stops}
use Rattle.read_chain.specs.Whole.{whole}
use Rattle.read_sheet.specs.Form.{form, form_read}
use Rattle.form_cells.specs.Cells.{lines_of, looked_at}
use Rattle.form_cells.proofs.Laws.{cells-length}
use Rattle.write_spec.specs.Texts.{sheet_text, sheet_fault}
use Rattle.write_spec.specs.Buffer.{write_number, penned}
use Rattle.write_spec.specs.Cleared.{cleared, cleared_program}
use Rattle.write_spec.specs.Round.{a_sheet, RoundTrips, SheetsRoundTrip}
use Rattle.write_spec.proofs.Trips.{sheets-round-trip}
use Rattle.write_texts.specs.Form.{form_lines, form_text}
use Rattle.form_spec.specs.Said.{line_at_fault, lines_said, form_said, sheet_said}
use Rattle.form_spec.specs.Drafts.{writing, sheet_of_form, form_of_sheet}
use Rattle.form_spec.specs.Round.{FormsGiveTheirSheets, FormsAreShorter, FormsAreLawful}
use Rattle.form_spec.proofs.LawfulForm.{runs-form}
use Rattle.form_spec.proofs.WholeForm.{faultless, lines-back, all-looked-at, form-read}
use Rattle.form_spec.proofs.Shorter.{form-shorter}

trips : RoundTrips a_sheet
unfolding SheetsRoundTrip
trips = sheets-round-trip

-- what a sheet that is read says
record ReadAs (s : List ℕ) (t : Tables) (p : Program) : Type 0 where
  said-is : sheet_said s ≡ record { refused = 0; line = 0; value = (t, p) }
  none : sheet_fault t p ≡ 0
  text-is : s ≡ sheet_text t p
  short : length s ≤ 32768
  back : ◌≡◌ {A = Tables × Program} (cleared t, cleared_program p) (t, p)

record SheetRead (s : List ℕ) : Type 0 where
  tables : Tables
  program : Program
  read : ReadAs s tables program

-- a text that m reads whole
record WholeRead (m : Lines (Tables × Program)) (s : List ℕ) : Type 0 where
  value : Tables × Program
  rest : List ℕ
  goes : m s ≡ on value rest
  short : length s ≤ 32768
  is : whole (no_tables, no_program) m s ≡ record { refused = 0; place = length s - length rest; value = value }

whole-read : (m : Lines (Tables × Program)) (s : List ℕ) → ((n : ℕ) (r : List ℕ) → m s ≡ stop n r → 2 ≤ n) → (whole (no_tables, no_program) m s).refused ≡ 0 → WholeRead m s
unfolding whole
whole-read m s stops z = by-test (length_ok (length s)) (λ l. lines l (m s) refl) (λ l. absurd (let q : ◌≡◌ {A = ℕ} 1 0 = rw (l, whole) at z in omega arith))
  where
    lines : length_ok (length s) ≡ true → (x : Run (Tables × Program)) → m s ≡ x → WholeRead m s
    lines l (on v r) e = record { value = v; rest = r; goes = e; short = leb-true (length s) 32768 l; is = rw (l, whole, e) }
    lines l (stop n r) e = absurd (let q : n ≡ 0 = rw (l, whole, e) at z in omega (arith, q, stops n r e))

read_as : (s : List ℕ) → (sheet_said s).refused ≡ 0 → SheetRead s
unfolding sheet_said line_at_fault
read_as s z =
    let w = whole-read sheet s (λ n r e. (sheet-stops s n r e).1) z in
    let back = trips.read-is-written s w.rest w.value w.goes in
    record {
      tables = w.value.0;
      program = w.value.1;
      read = record { said-is = rw w.is; none = back.0; text-is = back.1; short = w.short; back = trips.read-is-said s w.rest w.value w.goes };
    }

pub forms-are-lawful : FormsAreLawful
unfolding FormsAreLawful form_said
forms-are-lawful s z =
    by-test (length_ok (length s)) (λ l. rw (l, form_said) (lines (looked_at (lines_of s)) (rw (l, form_said) at z))) (λ l. absurd (let q : ◌≡◌ {A = ℕ} 1 0 = rw (l, form_said) at z in omega arith))
  where
    lines : (x : List ℕ) → (form_read x).refused ≡ 0 → Lawful (form_read x).value.0 (form_read x).value.1
    lines x q =
        let w = whole-read form x (λ n r e. (run-stops runs-form x n r e).1) q in
        rw w.is (run-gives runs-form x w.value w.rest w.goes)

-- a text that has room
fits : (n : ℕ) (x : List ℕ) (room : ℕ) → n ≡ 0 → length x ≤ 32768 → length x ≤ room → (write_number n x room ≡ 0) × (penned n x room ≡ x)
unfolding write_number penned
fits n x room e l r =
    let a = eq-eqb n 0 e in
    let b = le-leb (length x) 32768 l in
    let c = le-leb (length x) room r in
    (rw (a, b, c), rw (a, b, c))

written_as : (text : Tables → Program → List ℕ) (t : Tables) (p : Program) (room : ℕ) → sheet_fault t p ≡ 0 → length (text t p) ≤ 32768 → length (text t p) ≤ room
    → writing text room (t, p) ≡ record { refused = 0; line = 0; text = text t p }
written_as text t p room e l r = let (a, b) = fits (sheet_fault t p) (text t p) room e l r in rw (a, b)

module _ (s : List ℕ) (t : Tables) (p : Program) (h : ReadAs s t p) where
  shorter : length (form_text t p) < length s
  shorter = rw h.text-is (form-shorter t p)

  lines-short : length (form_lines t p) ≤ 32768
  unfolding form_text
  lines-short = omega (arith, cells-length (form_lines t p), shorter, h.short)

  lines-said : lines_said (form_lines t p) ≡ record { refused = 0; line = 0; value = (t, p) }
  unfolding whole line_at_fault
  lines-said =
      rw (le-leb (length (form_lines t p)) 32768 lines-short, whole, form-read t p (faultless t p h.none) (trips.faultless-is-writable (t, p) h.none), h.back)

  form-said : form_said (form_text t p) ≡ record { refused = 0; line = 0; value = (t, p) }
  unfolding form_said
  form-said =
      rw (le-leb (length (form_text t p)) 32768 (omega (arith, shorter, h.short)), form_said)
      (ap lines_said (ap looked_at (lines-back t p (faultless t p h.none)) ∙ all-looked-at t p (faultless t p h.none)) ∙ lines-said)

module _ (s : List ℕ) (t : Tables) (p : Program) (h : ReadAs s t p) (room : ℕ) (l : length s ≤ room) where
  the_form : form_of_sheet s room ≡ record { refused = 0; line = 0; text = form_text t p }
  unfolding form_of_sheet
  the_form = rw h.said-is (written_as form_text t p room h.none (omega (arith, shorter s t p h, h.short)) (omega (arith, shorter s t p h, l)))

  the-sheet : sheet_of_form (form_text t p) room ≡ record { refused = 0; line = 0; text = s }
  unfolding sheet_of_form
  the-sheet =
      let e = sym h.text-is in
      rw (form-said s t p h) (written_as sheet_text t p room h.none (rw e h.short) (rw e l) ∙ rw e)

pub forms-give-their-sheets : FormsGiveTheirSheets
unfolding FormsGiveTheirSheets
forms-give-their-sheets s room z l =
    let x = read_as s z in
    let f = the_form s x.tables x.program x.read room l in
    (rw f, rw f (the-sheet s x.tables x.program x.read room l))

penned-short : (n : ℕ) (x : List ℕ) (room : ℕ) → length (penned n x room) ≤ length x
unfolding penned
penned-short n x room = by-test (eqb (write_number n x room) 0) (λ e. rw e (omega arith)) (λ e. rw e (omega arith))

pub forms-are-shorter : FormsAreShorter
unfolding FormsAreShorter form_of_sheet
forms-are-shorter s room z =
    let x = read_as s z in
    let y = form_text x.tables x.program in
    let e : (form_of_sheet s room).text ≡ penned (sheet_fault x.tables x.program) y room = rw x.read.said-is in
    omega (arith, ap length e, penned-short (sheet_fault x.tables x.program) y room, shorter s x.tables x.program x.read)
