-- What the sheet's reader answered, as the course that `rewrite_spec` says.
-- Assumes nothing.
use Prim.Native.Nat.{ℕ, ◌-◌, ◌≤◌}
use mathlib.Core.Bool.{true, false}
use mathlib.Core.List.{List}
use mathlib.Core.Path.{◌≡◌, refl}
use native.Mathlib.Omega.{arith}
use borrow.Author.Tests.{leb-true}
use lib.ListN.{length}
use Rattle.item_spec.proofs.Tests.{by-test}
use Rattle.model.specs.declared.Tables.{Tables}
use Rattle.model.specs.declared.Program.{Program}
use Rattle.model.specs.declared.Text.TheVariants as text
use Rattle.model.specs.Empty.{no_tables, no_program}
use Rattle.read_spec.specs.Limits.{length_ok}
use Rattle.read_spec.specs.Lines.{Run, on, stop}
use Rattle.read_spec.specs.Texts.{sheet}
use Rattle.read_spec.proofs.Lawful.{sheet-stops}
use Rattle.read_chain.specs.Whole.{Whole, outcome, whole}
use Rattle.read_sheet.specs.Sheet.{sheet_read}
use Rattle.judge_spec.specs.Course.{faulty, reached, short, read, sheet_course}
use Rattle.judge_spec.specs.Judged.{fault_line, over}
use Rattle.rewrite_spec.specs.Rewritten.{sheet_after, rewritten}
use Rattle.rewrite_spec.proofs.Alike.{begins}
use Rattle.rewrite_lib.specs.Rewrites.{Begins, Rewrites}

-- a refusal, or 0 with tables of this depth
pub record SheetCame (s : List ℕ) (refused place depth : ℕ) : Type 0 where
  pub faults : (refused ≡ 0 → ⊥) → rewritten s ≡ faulty text.Sheet refused place
  pub reaches : refused ≡ 0 → rewritten s ≡ reached (sheet_after depth s)
  pub short-is : refused ≡ 0 → length s ≤ 32768
  pub begins-so : refused ≡ 0 → depth ≡ 0 → Begins s

pub sheet-came : (s : List ℕ) {r : Whole (Tables × Program)} → r ≡ sheet_read s → SheetCame s r.refused r.place r.value.0.depth
unfolding rewritten sheet_course short read whole no_tables
sheet-came s is = rw is (by-test (length_ok (length s)) (λ l. rw (l, whole) (lines l (sheet s) refl)) (λ l. rw (l, whole) (long l)))
  where
    long : length_ok (length s) ≡ false → SheetCame s 1 0 0
    long l = record { faults = λ _. rw (l, short); reaches = λ z. absurd (omega (arith, z)); short-is = λ z. absurd (omega (arith, z)); begins-so = λ z _. absurd (omega (arith, z)) }

    lines : length_ok (length s) ≡ true → (m : Run (Tables × Program)) → sheet s ≡ m
        → (let r = outcome (no_tables, no_program) s m in SheetCame s r.refused r.place r.value.0.depth)
    lines l (on y q) e = record {
      faults = λ n. absurd (n refl);
      reaches = λ _. rw (l, short, e, read);
      short-is = λ _. leb-true (length s) 32768 l;
      begins-so = λ _ z. let (h, x, ok, is) = begins s q y.0 y.1 e z in (h, x, is);
    }
    lines l (stop n q) e = record {
      faults = λ _. rw (l, short, e, read);
      reaches = λ z. absurd (omega (arith, z, (sheet-stops s n q e).1));
      short-is = λ z. absurd (omega (arith, z, (sheet-stops s n q e).1));
      begins-so = λ z _. absurd (omega (arith, z, (sheet-stops s n q e).1));
    }

-- what `rewrite` answers then
module _ {s : List ℕ} {n at d : ℕ} (k : SheetCame s n at d) (old : List ℕ) where
  pub refused-so : (n ≡ 0 → ⊥) → (line : ℕ) → line ≡ fault_line n at s → Rewrites s old (record { refused = n; line = line; written = 0 }) old
  refused-so z line e = record { answer-is = rw (k.faults z, e); buffer-is = rw (k.faults z) }

  pub rewritten-so : n ≡ 0 → (w : ℕ) (after : List ℕ) → w ≡ length (sheet_after d s) → after ≡ over (sheet_after d s) old
      → Rewrites s old (record { refused = 0; line = 0; written = w }) after
  rewritten-so z w after size is = record { answer-is = rw (k.reaches z, size); buffer-is = rw (k.reaches z) is }
