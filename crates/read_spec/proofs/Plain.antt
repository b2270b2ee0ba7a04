-- A sheet that does not open with `sheet=2` is read as before.
-- Assumes nothing.
use Prim.Native.Nat.{ℕ}
use mathlib.Core.List.{List}
use mathlib.Core.Path.{◌≡◌, refl, sym, ap, subst, ◌∙◌}
use lib.Dec.{eqb}
use borrow.Author.Tests.{eqb-true}
use Rattle.item_spec.specs.Reader.{Reply, got, refused, read_on, bytes, give, check}
use Rattle.item_spec.specs.Read.{key, one_form}
use Rattle.item_spec.proofs.Tests.{by-test}
use Rattle.model.specs.declared.Tables.{Tables}
use Rattle.model.specs.declared.Program.{Program}
use Rattle.read_spec.specs.Limits.{five_digits, edition_ok, depth_ok, types_ok, program_ok}
use Rattle.read_spec.specs.Lines.{Lines, run_on, on, line, line_of, each, at_end}
use Rattle.read_spec.specs.Kinds.{edition_line, due_line, count_line, do_line}
use Rattle.read_spec.specs.Fill.{headed, program_of}
use Rattle.read_spec.specs.Texts.{type_lines, instruction_at, sheet}
use Rattle.read_spec.specs.Plain.{plain_line, plain_at, plain_sheet, PlainReadAsBefore}

-- what follows the first line
rest : ℕ → Lines (Tables × Program)
rest e = λ s.
    run_on (line (count_line (bytes "depth=") depth_ok) s) λ d. λ s. run_on (line (count_line (bytes "types=") types_ok) s) λ n. λ s. run_on (each type_lines n 0 (headed d n) s) λ t. λ s.
    run_on (line (count_line (bytes "program=") program_ok) s) λ k. λ s. run_on (each (instruction_at e n) k 0 (program_of e k) s) λ p. λ s. run_on (at_end s) λ _. λ s. on (t, p) s

new : (s : List ℕ) → sheet s ≡ run_on (line edition_line s) rest
unfolding sheet rest
new s = refl

old : (s : List ℕ) → plain_sheet s ≡ run_on (line (due_line (bytes "sheet=") 1) s) (λ _. rest 1)
unfolding plain_sheet rest plain_at instruction_at plain_line do_line
old s = refl

pub plain-read-as-before : PlainReadAsBefore
unfolding PlainReadAsBefore edition_line due_line
plain-read-as-before s not-two = new s ∙ go (key (bytes "sheet=") s) refl ∙ sym (old s)
  where
    first : Reply (Unit {0}) → Reply ℕ
    first x = read_on x (λ _. λ s. read_on (one_form five_digits s) (λ a. λ s. read_on (check (edition_ok a) 2 s) (λ _. give a)))

    due : Reply (Unit {0}) → Reply (Unit {0})
    due x = read_on x (λ _. λ s. read_on (one_form five_digits s) (λ a. check (eqb a 1) 2))

    number : (z : Reply ℕ) → ((r : List ℕ) → read_on z (λ a. λ s. read_on (check (edition_ok a) 2 s) (λ _. give a)) ≡ got 2 r → ⊥)
        → run_on (line_of (read_on z (λ a. λ s. read_on (check (edition_ok a) 2 s) (λ _. give a))) s) rest ≡ run_on (line_of (read_on z (λ a. check (eqb a 1) 2)) s) (λ _. rest 1)
    number (refused n) f = refl
    number (got a r) f =
        by-test (eqb a 1) (λ e. subst (λ (a : ℕ). run_on (line_of (read_on (check (edition_ok a) 2 r) (λ _. give a)) s) rest ≡ run_on (line_of (check (eqb a 1) 2 r) s) (λ _. rest 1)) (sym (eqb-true a 1 e)) refl)
        (λ e. by-test (eqb a 2)
        (λ g. absurd (f r (subst (λ (a : ℕ). read_on (check (edition_ok a) 2 r) (λ _. give a) ≡ got 2 r) (sym (eqb-true a 2 g)) refl)))
        (λ g. rw (e, g)))

    go : (x : Reply (Unit {0})) → key (bytes "sheet=") s ≡ x → run_on (line_of (first (key (bytes "sheet=") s)) s) rest ≡ run_on (line_of (due (key (bytes "sheet=") s)) s) (λ _. rest 1)
    go (refused n) e = rw e
    go (got u t) e = rw e (number (one_form five_digits t) (λ r q. not-two r (ap first e ∙ q)))
