-- The form of tables and a program that have no fault is read as what the sheet of them says.
-- Assumes nothing.
use Prim.Native.Nat.{ℕ, zero, suc, ◌+◌, ◌<◌}
use mathlib.Core.List.{List, [], ◌++◌, append_assoc, append-nil}
use mathlib.Core.Bool.{true, false}
use mathlib.Core.Path.{◌≡◌, refl, sym, ap, ◌∙◌}
use native.Mathlib.Omega.{arith}
use native.Mathlib.Nat.{add-zero, zero-add}
use lib.Dec.{eqb}
use borrow.Author.Tests.{eqb-true}
use Rattle.item_spec.specs.Reader.{bytes}
use Rattle.item_spec.specs.Read.{key}
use Rattle.item_spec.specs.Write.{in_turn}
use Rattle.item_spec.proofs.Tests.{by-test}
use Rattle.model.specs.declared.Tables.{Tables}
use Rattle.model.specs.declared.Program.{Program}
use Rattle.read_spec.specs.Limits.{depth_ok, types_ok, program_ok}
use Rattle.read_spec.specs.Lines.{on, Lines, run_on, line, each}
use Rattle.read_spec.specs.Kinds.{count_line}
use Rattle.read_spec.specs.Fill.{headed, program_of}
use Rattle.read_spec.specs.Texts.{instruction_at}
use Rattle.report_spec.specs.Report.{count_text}
use Rattle.read_sheet.specs.Form.{lines_with, counted, type_form, edition_form, form}
use Rattle.form_cells.specs.Cells.{lines_from, unmarked, letter, separator_of, plain_from, lines_by, lines_of, looked_at, cells_of}
use Rattle.write_spec.specs.Kinds.{limit_fault, edition_fault, do_text, do_fault}
use Rattle.write_spec.specs.Texts.{first_of, instruction_row, type_fault, sheet_fault}
use Rattle.write_spec.specs.Cleared.{cleared, cleared_program}
use Rattle.write_spec.specs.Round.{Held}
use Rattle.write_spec.proofs.Turns.{in_turn_from, turn-from, or-both, first-zero}
use Rattle.write_spec.proofs.Says.{says-line}
use Rattle.write_spec.proofs.Written.{says-edition, says-count}
use Rattle.write_spec.proofs.Sheet.{tables_to, head-is, program-says}
use Rattle.write_texts.specs.Form.{edition_row, form_first, form_lines, form_text}
use Rattle.form_spec.proofs.Rows.{lines_in, looked-none, Row, Cells, cells-none, cells-both, turn-cells, turn-counted, turn-yes, turn-no, turn-stop}
use Rattle.form_spec.proofs.EachKind.{edition-row, depth-row, do-row}
use Rattle.form_spec.proofs.TypeForm.{goes, counted-as, Next, Clean, clean, type_rows_of, type-opens, type-cells, type-counted, type-read}

-- as many turns, where what comes after each must be of a kind
module _ {A : Type 0} (f : ℕ → A → Lines A) (text : ℕ → List ℕ) (value : ℕ → A) (Ok : List ℕ → Type 0) (hi : ℕ)
    (turn : (i : ℕ) → i < hi → (s : List ℕ) → Ok s → f i (value i) (text i ++ s) ≡ on (value (suc i)) s)
    (opens : (i : ℕ) → (s : List ℕ) → Ok (text i ++ s)) where
  ok-after : (n i : ℕ) (s : List ℕ) → Ok s → Ok (in_turn_from text n i ++ s)
  unfolding in_turn_from
  ok-after zero i s h = h
  ok-after (suc n) i s h = rw (append_assoc (text i) (in_turn_from text n (suc i)) s) (opens i (in_turn_from text n (suc i) ++ s))

  each_goes : (n i : ℕ) → i + n ≡ hi → (s : List ℕ) → Ok s → each f n i (value i) (in_turn_from text n i ++ s) ≡ on (value hi) s
  unfolding each in_turn_from
  each_goes zero i e s h = let q : i ≡ hi = sym (add-zero i) ∙ e in ap (λ (j : ℕ). on (value j) s) q
  each_goes (suc n) i e s h =
      ap (λ (l : List ℕ). run_on (f i (value i) l) (λ b. each f n (suc i) b)) (append_assoc (text i) (in_turn_from text n (suc i)) s)
      ∙ goes (f i (value i) (text i ++ (in_turn_from text n (suc i) ++ s))) (λ b. each f n (suc i) b) (turn i (omega arith) (in_turn_from text n (suc i) ++ s) (ok-after n (suc i) s h))
      (each_goes n (suc i) (omega arith) s h)

  pub all_go : (s : List ℕ) → Ok s → each f hi 0 (value 0) (in_turn text hi ++ s) ≡ on (value hi) s
  all_go s h = rw (turn-from 0 text text (λ x. ap text (sym (zero-add x))) hi) (each_goes hi 0 (zero-add hi) s h)

-- tables and a program of which no line is refused
pub record Faultless (t : Tables) (p : Program) : Type 0 where
  pub edition : edition_fault p.edition ≡ 0
  pub depth : limit_fault (depth_ok t.depth) ≡ 0
  pub count : limit_fault (types_ok t.count) ≡ 0
  pub types : first_of (type_fault t) t.count ≡ 0
  pub program : limit_fault (program_ok p.count) ≡ 0
  pub instructions : first_of (λ j. do_fault p.edition t.count (instruction_row p j)) p.count ≡ 0

pub faultless : (t : Tables) (p : Program) → sheet_fault t p ≡ 0 → Faultless t p
unfolding sheet_fault
faultless t p e₀ =
    let (edition, e) = or-both (edition_fault p.edition) _ e₀ in
    let (depth, e₁) = or-both _ _ e in
    let (count, e₂) = or-both _ _ e₁ in
    let (types, e₃) = or-both (first_of (type_fault t) t.count) _ e₂ in
    let (program, lines) = or-both (limit_fault (program_ok p.count)) (first_of (λ j. do_fault p.edition t.count (instruction_row p j)) p.count) e₃ in
    record { edition = edition; depth = depth; count = count; types = types; program = program; instructions = lines }

module _ (t : Tables) (p : Program) (c : Faultless t p) where
  abbrev first : List ℕ
  first = edition_row p.edition

  abbrev depth : List ℕ
  depth = count_text (bytes "depth=") t.depth

  abbrev types : List ℕ
  types = in_turn (type_rows_of t) t.count

  abbrev lines : ℕ → List ℕ
  lines j = do_text (instruction_row p j)

  abbrev program : List ℕ
  program = in_turn lines p.count

  type-clean : (i : ℕ) → i < t.count → Clean t i
  type-clean i l = clean t i (first-zero (type_fault t) t.count c.types i l)

  do-rows : (j : ℕ) → j < p.count → Row (bytes "do=") (lines j)
  do-rows j l = do-row p.edition t.count (instruction_row p j) (first-zero (λ j. do_fault p.edition t.count (instruction_row p j)) p.count c.instructions j l)

  -- ---- the rows of cells stand for the lines
  first-cells : Cells first
  first-cells = by-test (eqb p.edition 1) (λ q. rw q cells-none) (λ q. rw q (edition-row p.edition).cells)

  lines-cells : Cells (form_lines t p)
  unfolding form_lines form_first
  lines-cells =
      cells-both ((first ++ depth) ++ types) program
      (cells-both (first ++ depth) types (cells-both first depth first-cells (depth-row t.depth).cells) (turn-cells (type_rows_of t) t.count (λ i l. type-cells t i (type-clean i l))))
      (turn-cells lines p.count (λ j l. (do-rows j l).cells))

  -- no form begins with the mark
  not-marked : unmarked (form_text t p) ≡ form_text t p
  unfolding unmarked form_text form_lines form_first count_text cells_of key
  not-marked = by-test (eqb p.edition 1) (λ q. rw q) (λ q. rw q)

  -- its first row is `sheet,` or `depth,`
  by-commas : separator_of (form_text t p) ≡ 44
  unfolding separator_of letter form_text form_lines form_first count_text cells_of
  by-commas = by-test (eqb p.edition 1) (λ q. rw q) (λ q. rw q)

  pub lines-back : lines_of (form_text t p) ≡ form_lines t p
  unfolding lines_of form_text lines_from plain_from
  lines-back =
      ap (λ (u : List ℕ). lines_by (separator_of u) u) not-marked
      ∙ ap (λ (d : ℕ). lines_by d (form_text t p)) by-commas
      ∙ ap (lines_in true 0) (sym (append-nil (form_text t p))) ∙ lines-cells.lines [] ∙ append-nil (form_lines t p)

  pub all-looked-at : looked_at (form_lines t p) ≡ form_lines t p
  all-looked-at = ap looked_at (sym (append-nil (form_lines t p))) ∙ (lines-cells.looked [] looked-none).whole ∙ append-nil (form_lines t p)

  -- ---- how many there are
  program-next : Next (program ++ [])
  unfolding key lines_with
  program-next = record {
    trans = turn-stop lines (bytes "do=") (bytes "tran=") (λ z. refl) p.count do-rows [] refl;
    behaviors = turn-stop lines (bytes "do=") (bytes "behavior=") (λ z. refl) p.count do-rows [] refl;
    ports = turn-stop lines (bytes "do=") (bytes "port=") (λ z. refl) p.count do-rows [] refl;
  }

  types-counted : lines_with true (bytes "type=") true (types ++ (program ++ [])) ≡ t.count
  unfolding key lines_with
  types-counted =
      turn-counted (type_rows_of t) true (bytes "type=") t.count (λ i l s. type-counted t i (type-clean i l) s) (program ++ [])
      ∙ ap (λ (z : ℕ). t.count + z) (turn-no lines (bytes "do=") (bytes "type=") (λ z. refl) p.count do-rows []) ∙ add-zero t.count

  program-counted : lines_with false (bytes "do=") true (program ++ []) ≡ p.count
  unfolding key lines_with
  program-counted = turn-yes lines (bytes "do=") (bytes "do=") false (λ z. refl) p.count do-rows [] ∙ add-zero p.count

  -- ---- read
  module _ (held : Held t p) where
    types-read : each type_form t.count 0 (headed t.depth t.count) (types ++ (program ++ [])) ≡ on (cleared t) (program ++ [])
    unfolding cleared
    types-read =
        ap (λ (h : Tables). each type_form t.count 0 h (types ++ (program ++ []))) (head-is t p held)
        ∙ all_go type_form (type_rows_of t) (tables_to t p held) Next t.count (λ i l s next. type-read t i (type-clean i l) s next p held l) (λ i s. type-opens t i s) (program ++ []) program-next

    form-parts : form_lines t p ≡ first ++ (depth ++ (types ++ (program ++ [])))
    unfolding form_lines form_first
    form-parts =
        append_assoc (first ++ depth) types program ∙ append_assoc first depth (types ++ program)
        ∙ ap (λ (l : List ℕ). first ++ (depth ++ (types ++ l))) (sym (append-nil program))

    first_read : (s : List ℕ) → edition_form (first ++ (depth ++ s)) ≡ on p.edition (depth ++ s)
    unfolding edition_form count_text key
    first_read s =
        by-test (eqb p.edition 1)
        (λ q. rw q (ap (λ (e : ℕ). on e (depth ++ s)) (sym (eqb-true p.edition 1 q))))
        (λ q. rw q ((says-line _ (says-edition p.edition held.edition)).goes c.edition (depth ++ s)))

    pub form-read : form (form_lines t p) ≡ on (cleared t, cleared_program p) []
    unfolding form
    form-read =
        ap form form-parts
        ∙ goes (edition_form (first ++ (depth ++ (types ++ (program ++ []))))) _ (first_read (types ++ (program ++ [])))
        (goes (line (count_line (bytes "depth=") depth_ok) (depth ++ (types ++ (program ++ [])))) _
        ((says-line _ (says-count (bytes "depth=") depth_ok t.depth held.depth)).goes c.depth (types ++ (program ++ [])))
        (goes (counted true (bytes "type=") types_ok (types ++ (program ++ []))) _ (counted-as true (bytes "type=") types_ok (types ++ (program ++ [])) t.count types-counted c.count)
        (goes (each type_form t.count 0 (headed t.depth t.count) (types ++ (program ++ []))) _ types-read
        (goes (counted false (bytes "do=") program_ok (program ++ [])) _ (counted-as false (bytes "do=") program_ok (program ++ []) p.count program-counted c.program)
        (goes (each (instruction_at p.edition t.count) p.count 0 (program_of p.edition p.count) (program ++ [])) _ ((program-says t p held t.count).goes c.instructions [])
        refl)))))
