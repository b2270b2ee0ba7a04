-- Lines are no longer than their rows; what was read, then written, is the draft.
-- Assumes nothing.
use Prim.Native.Nat.{ℕ, zero, suc, ◌+◌, ◌≤◌, ◌<◌}
use mathlib.Core.List.{List, [], ◌∷◌}
use mathlib.Core.Bool.{Bool, true, false}
use mathlib.Core.Path.{◌≡◌, refl, sym, ap, ◌∙◌}
use mathlib.Core.Logic.{◌≢◌}
use native.Mathlib.Omega.{arith}
use lib.Dec.{eqb}
use lib.ListN.{length, take, drop, length-append, length-replicate}
use lib.Seq.{take_at}
use borrow.Author.Tests.{eq-eqb, ne_eqb, eqb-true, eqb-false, le-leb, lt-leb}
use Rattle.item_spec.specs.Reader.{Reply, got, refused}
use Rattle.item_spec.specs.Read.{key}
use Rattle.item_spec.proofs.Tests.{by-test}
use Rattle.model.specs.declared.Tables.{Tables}
use Rattle.model.specs.declared.Program.{Program}
use Rattle.model.specs.Empty.{no_tables, no_program}
use Rattle.read_spec.specs.Place.{line_number}
use Rattle.read_chain.specs.Whole.{Whole, beside}
use Rattle.read_chain.specs.declared.Place.{Place}
use Rattle.judge_spec.specs.Judged.{over}
use Rattle.write_items.specs.Written.{Written}
use Rattle.write_items.proofs.Laws.{fits_all}
use Rattle.form_cells.specs.Cells.{gap, stands, first_after, commas_after, lines_from, unmarked, separator_of, note_after, plain_from, lines_of, looked_at}
use Rattle.form_cells.proofs.Looked.{looked-first}
use Rattle.write_spec.specs.Texts.{sheet_fault}
use Rattle.write_spec.specs.Buffer.{Penned}
use Rattle.form_spec.specs.Said.{Said, line_at_fault, said, lines_said, form_said}
use Rattle.form_spec.specs.Drafts.{drafting, sheet_of_form, form_of_sheet}
use Rattle.form_lib.specs.declared.Draft.{Draft}
use Rattle.form_lib.specs.declared.Draft.TheVariants.{Sheet, Form}
use Rattle.form_lib.specs.declared.Fault.{Fault}
use Rattle.form_lib.specs.Drafts.{fault_at, saying, said_for, text_for, drafting_for, Drafts}

-- ---- no byte stands for more than it and the commas that wait
gap-long : (f : Bool) (n : ℕ) → length (gap f n) ≡ n
unfolding gap
gap-long f zero = refl
gap-long f (suc n) = ap suc (length-replicate n 44)

byte-stands : (f : Bool) (n c : ℕ) → length (stands f n c) + commas_after n c ≤ n + 1
unfolding stands commas_after
byte-stands f n c =
    by-test (eqb c 10) (λ e. rw (eqb-true c 10 e) (omega arith)) (λ a.
    by-test (eqb c 44) (λ e. rw (eqb-true c 44 e) (omega arith)) (λ b.
    by-test (eqb c 13) (λ e. rw (eqb-true c 13 e) (omega arith)) (λ d.
    rw (a, b, d) (omega (arith, length-append (gap f n) (c ∷ []), gap-long f n)))))

lines-from : (f : Bool) (n : ℕ) (s : List ℕ) → length (lines_from f n s) ≤ n + length s
unfolding lines_from
lines-from f n [] = omega arith
lines-from f n (c ∷ s) =
    let rest = lines-from (first_after f n c) (commas_after n c) s in
    omega (arith, length-append (stands f n c) (lines_from (first_after f n c) (commas_after n c) s), byte-stands f n c, rest)

abbrev past : List ℕ → Reply (Unit {0}) → List ℕ
past t x = elim x [ got u r ↦ r | refused n ↦ t ]

past-key : (k s t : List ℕ) → length s ≤ length t → length (past t (key k s)) ≤ length t
unfolding key
past-key [] s t l = l
past-key (a ∷ k) [] t l = omega arith
past-key (a ∷ k) (b ∷ s) t l = by-test (eqb b a) (λ e. rw (e, key) (past-key k s t (omega arith))) (λ e. rw (e, key) (omega arith))

plain-short : (d : ℕ) (noted : Bool) (s : List ℕ) → length (plain_from d noted s) ≤ length s
unfolding plain_from
plain-short d noted [] = omega arith
plain-short d noted (c ∷ s) =
    by-test (note_after noted c) (λ e. rw e (omega (arith, plain-short d true s))) (λ e. rw e (omega (arith, plain-short d false s)))

pub lines-short : (s : List ℕ) → length (lines_of s) ≤ length s
unfolding lines_of unmarked
lines-short s =
    let d = separator_of (unmarked s) in
    omega (arith, lines-from true 0 (plain_from d false (unmarked s)), plain-short d false (unmarked s), past-key (239 ∷ 187 ∷ 191 ∷ []) s s (omega arith))

-- so a buffer of one byte more holds them all
pub lines_are : (s old new : List ℕ) (n : ℕ) → Written old (lines_of s) new 0 n → length s ≤ length old → take n new ≡ lines_of s
lines_are s old new n w l =
    let (all, is) = fits_all w (omega (arith, lines-short s)) in
    ap (take n) is ∙ take_at (lines_of s) (drop (length (lines_of s)) old) n (sym all)

-- so many bytes of lines are looked at
module _ (s : List ℕ) (n : ℕ) (e : n ≡ length (looked_at s)) where
  pub looked-is : take n s ≡ looked_at s
  looked-is = ap (λ (k : ℕ). take k s) e ∙ looked-first s

  pub looked-long : n ≡ length (take n s)
  looked-long = e ∙ ap length (sym looked-is)

-- ---- the line at fault
module _ (n at : ℕ) (s : List ℕ) where
  pub fault-none : n ≤ 1 → record { refused = n; line = 0 } ≡ fault_at n at s
  unfolding line_at_fault
  fault-none l = rw (le-leb n 1 l, line_at_fault)

  pub fault-some : 1 < n → (line : ℕ) → line ≡ line_number s at → record { refused = n; line = line } ≡ fault_at n at s
  unfolding line_at_fault
  fault-some l line e = rw (lt-leb n 1 l, line_at_fault, e)

-- a fault told of the lines s, which were read by m
pub said-so : (m : List ℕ → Whole (Tables × Program)) (s t : List ℕ) {r : Fault} {p : Place} {x : Tables × Program} → t ≡ s → beside p x ≡ m t
    → r ≡ fault_at p.refused p.place t → saying r x ≡ said s (m s)
said-so m s t e is so = rw (so, ← e, ← is)

-- a form that is too long, or not
pub form-long : (s : List ℕ) {t : Tables} {p : Program} → 32768 < length s → t ≡ no_tables → p ≡ no_program
    → saying (record { refused = 1; line = 0 }) (t, p) ≡ form_said s
unfolding form_said
form-long s l e f = rw (lt-leb (length s) 32768 l, form_said, e, f)

pub form-said : (s : List ℕ) {x : Said} → length s ≤ 32768 → x ≡ lines_said (looked_at (lines_of s)) → x ≡ form_said s
unfolding form_said
form-said s l e = rw (le-leb (length s) 32768 l, form_said) e

-- ---- a draft: what was read, and what was written of it
drafting-for : (d : Draft) (s : List ℕ) (room : ℕ) → drafting_for d s room ≡ drafting (text_for d) room (said_for d s)
unfolding sheet_of_form form_of_sheet
drafting-for Sheet s room = refl
drafting-for Form s room = refl

module _ (d : Draft) (s old : List ℕ) (x : Said) (is : x ≡ said_for d s) where
  pub refused-so : x.refused ≢ 0 → Drafts d s old (record { refused = x.refused; line = x.line; bytes = 0 }) old
  unfolding over
  refused-so z =
      let e = drafting-for d s (length old) in
      let q = ne_eqb x.refused 0 z in
      record { answer-is = rw (e, ← is, q); buffer-is = rw (e, ← is, q) }

  pub written-so : x.refused ≡ 0 → (new : List ℕ) (n b : ℕ) → Penned (sheet_fault x.value.0 x.value.1) (text_for d x.value.0 x.value.1) old new n b
      → Drafts d s old (record { refused = n; line = 0; bytes = b }) new
  unfolding over
  written-so z new n b p =
      let e = drafting-for d s (length old) in
      let q = eq-eqb x.refused 0 z in
      record { answer-is = rw (e, ← is, q, p.refused-is, p.written_is); buffer-is = rw (e, ← is, q) (p.new_is ∙ rw p.written_is) }
