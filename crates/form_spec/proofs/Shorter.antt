-- A form has fewer bytes than its sheet: it leaves out the lines that count, and no line of it is longer than the sheet's.
-- Assumes nothing.
use Prim.Native.Nat.{ℕ, zero, suc, ◌+◌, ◌*◌, ◌≤◌, ◌<◌}
use mathlib.Core.List.{List, ◌++◌}
use mathlib.Core.Path.{◌≡◌}
use lib.Dec.{eqb}
use native.Mathlib.Omega.{arith}
use lib.ListN.{length, length-append}
use Rattle.item_spec.specs.Reader.{bytes}
use Rattle.item_spec.specs.Write.{in_turn, one_text}
use Rattle.item_spec.proofs.Tests.{by-test}
use Rattle.model.specs.declared.Tables.{Tables}
use Rattle.model.specs.declared.Program.{Program}
use Rattle.model.specs.View.{type_of}
use Rattle.report_spec.specs.Report.{count_text}
use Rattle.form_cells.proofs.Laws.{cells-length}
use Rattle.write_spec.specs.Kinds.{initial_text, tran_text, behavior_text, port_line_text, do_text}
use Rattle.write_spec.specs.Texts.{transition_row, behavior_row, port_row, instruction_row, type_text, sheet_text}
use Rattle.write_texts.specs.Form.{type_lines_text, type_rows_text, edition_row, form_first, form_lines, form_text}
use Rattle.form_spec.proofs.TypeForm.{type_rows_of}

-- no line is looked into but for its key
count_long : (k : List ℕ) (n : ℕ) → length (count_text k n) ≡ length k + length (one_text n)
unfolding count_text
count_long k n = length-append k (one_text n)

turn-shorter : (f g : ℕ → List ℕ) → ((i : ℕ) → length (f i) ≤ length (g i)) → (n : ℕ) → length (in_turn f n) ≤ length (in_turn g n)
unfolding in_turn
turn-shorter f g h zero = omega arith
turn-shorter f g h (suc n) = omega (arith, length-append (in_turn f n) (f n), length-append (in_turn g n) (g n), turn-shorter f g h n, h n)

-- two lines for one, and three left out: a and b are `type=` and `places=` of one number, e to j the rest
type-sums : (a b c n e f g h i j : List ℕ) → length a ≤ length b
    → length (((a ++ c) ++ ((e ++ f) ++ g))) ≤ length (n ++ (b ++ (c ++ (h ++ (e ++ (i ++ (f ++ (j ++ g))))))))
type-sums a b c n e f g h i j l = simp length-append (omega (arith, l))

type-shorter : (t : Tables) (i : ℕ) → length (type_rows_of t i) ≤ length (type_text t i)
unfolding type_lines_text type_rows_text type_text
type-shorter t i =
    let n = (type_of t i).places in
    type-sums (count_text (bytes "type=") n) (count_text (bytes "places=") n) (initial_text (type_of t i).initial) (count_text (bytes "type=") i)
    (in_turn (λ x. tran_text (transition_row t (i * 32 + x))) (type_of t i).transitions) (in_turn (λ x. behavior_text (behavior_row t (i * 8 + x))) (type_of t i).behaviors)
    (in_turn (λ x. port_line_text (port_row t (i * 16 + x))) (type_of t i).ports) (count_text (bytes "transitions=") (type_of t i).transitions)
    (count_text (bytes "behaviors=") (type_of t i).behaviors) (count_text (bytes "ports=") (type_of t i).ports)
    (omega (arith, count_long (bytes "type=") n, count_long (bytes "places=") n))

-- the first line is left out, or it is the same
edition-shorter : (e : ℕ) → length (edition_row e) ≤ length (count_text (bytes "sheet=") e)
edition-shorter e = by-test (eqb e 1) (λ q. rw q (omega arith)) (λ q. rw q (omega arith))

form-sums : (o a b c d e f g : List ℕ) → length o ≤ length a → length c ≤ length f → 0 < length d → length (((o ++ b) ++ c) ++ e) < length (a ++ (b ++ (d ++ (f ++ (g ++ e)))))
form-sums o a b c d e f g h l s = simp length-append (omega (arith, h, l, s))

pub form-shorter : (t : Tables) (p : Program) → length (form_text t p) < length (sheet_text t p)
unfolding form_text form_lines form_first sheet_text
form-shorter t p =
    let q = cells-length (form_lines t p) in
    let l : length (form_lines t p) < length (sheet_text t p) =
    form-sums (edition_row p.edition) (count_text (bytes "sheet=") p.edition) (count_text (bytes "depth=") t.depth) (in_turn (type_rows_of t) t.count) (count_text (bytes "types=") t.count)
    (in_turn (λ j. do_text (instruction_row p j)) p.count) (in_turn (λ i. type_text t i) t.count) (count_text (bytes "program=") p.count)
    (edition-shorter p.edition) (turn-shorter (type_rows_of t) (λ i. type_text t i) (type-shorter t) t.count) (omega (arith, count_long (bytes "types=") t.count)) in
    omega (arith, q, l)
