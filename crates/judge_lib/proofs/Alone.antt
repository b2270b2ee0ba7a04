-- A paper alone: what its readers answered is its course, with a text in the answer's place that has no line.
-- Assumes nothing.
use Prim.Native.Nat.{ℕ}
use mathlib.Core.Bool.{Bool}
use mathlib.Core.List.{List, []}
use mathlib.Core.Logic.{⊎_elim}
use mathlib.Core.Path.{◌≡◌, refl, sym, ap, ◌∙◌}
use native.Mathlib.Omega.{arith}
use lib.ListN.{length}
use Rattle.model.specs.declared.Tables.{Tables}
use Rattle.model.specs.declared.Program.{Program}
use Rattle.model.specs.declared.Begun.{Begun}
use Rattle.model.specs.declared.Configuration.{Configuration}
use Rattle.model.specs.declared.Text.{Text}
use Rattle.model.specs.Empty.{no_tables, no_program, start}
use Rattle.read_spec.specs.Lines.{Run, on, stop, hand_on}
use Rattle.read_spec.specs.Texts.{sheet}
use Rattle.read_spec.specs.Lawful.{Lawful}
use Rattle.read_spec.proofs.Lawful.{sheet-stops}
use Rattle.read_spec.proofs.Rests.{StopsAt}
use Rattle.rules_spec.specs.PushB.{depth_of}
use Rattle.read_chain.specs.Whole.{Whole, whole, beside}
use Rattle.read_sheet.specs.Sheet.{sheet_read}
use Rattle.start_spec.specs.Paper.{Paper}
use Rattle.judge_spec.specs.Judged.{paper_text}
use Rattle.judge_spec.specs.Course.{Course, faulty, reached, short, read, outset, default_depth, paper_course}
use Rattle.judge_spec.proofs.Alone.{paper-numbered, paper-read}
use Rattle.step_walk.specs.Fits.{PortsFit, LawfulPortsFit}
use Rattle.step_walk.proofs.Fits.{lawful-ports-fit}
use Rattle.judge_lib.specs.declared.pairs.Opened.{Opened}
use Rattle.judge_lib.specs.Came.{begin_read, start_long, Outcome, outcome_of, opened_as, came}
use Rattle.judge_lib.specs.Alone.{unanswered, no_fault, fault_at, fault_in, paper_fault, said_by}
use Rattle.judge_lib.proofs.Order.{Told, begun_by, as_begun, begin-read, sheet-law, sheet-none, in_order_is}

-- a reader of no line stops nowhere
goes_on : (n : ℕ) (t : List ℕ) → ◌≡◌ {A = Run (Unit {0})} (on tt []) (stop n t) → StopsAt [] n t
goes_on n t e = let z : ◌≡◌ {A = ℕ} 0 1 = cc in absurd (omega arith)

module _ (s : Paper) where
  module _ {r : Whole (Tables × Program)} {b : Whole (Configuration × Begun)} (is : r ≡ sheet_read s.sheet)
      (begins : b ≡ begin_read r.value.1.edition (depth_of default_depth r.value.0) r.value.0 s.beginning) where
    paper-comes : (came (outcome_of (length s.sheet) (opened_as r (start_long s.beginning) b) 0 unanswered) (λ _. (r.value.0, begun_by r.value.1 b.value.1, b.value.0)) ≡ paper_course s)
        × Told s.sheet s.beginning [] (paper_course s)
    unfolding paper_course short read whole
    paper-comes =
        in_order_is sheet (λ x. outset default_depth x.0 x.1 s.beginning) (λ _. hand_on tt) (λ x c _. (x.0, c.0, c.1)) s.sheet s.beginning [] (no_tables, no_program) tt
        {b = as_begun r.value.1 b} {y = record { refused = 0; place = 0; value = tt }} is
        (λ p l e. begin-read r.value.0 r.value.1 (sheet-law s.sheet p is e) (sheet-none s.sheet p is e) s.beginning l begins) refl (sheet-stops s.sheet) goes_on

  pub paper-told : Told s.sheet s.beginning [] (paper_course s)
  paper-told =
      let r = sheet_read s.sheet in
      (paper-comes {r = r} {b = begin_read r.value.1.edition (depth_of default_depth r.value.0) r.value.0 s.beginning} refl refl).1

  -- of what was read into words
  pub outcome-opens : {o : Outcome} {w : Opened} {t : Tables} {p : Program} {c : Configuration} {x : Begun} → o ≡ outcome_of (length s.sheet) w 0 unanswered
      → beside w.sheet (t, p) ≡ sheet_read s.sheet → w.long ≡ start_long s.beginning
      → beside w.start (c, x) ≡ begin_read p.edition (depth_of default_depth t) t s.beginning → came o (λ _. (t, begun_by p x, c)) ≡ paper_course s
  outcome-opens {w} {t} {p} {c} {x} e is l begins =
      ap (λ (u : Outcome). came u (λ _. (t, begun_by p x, c))) (e ∙ ap (λ (q : Bool). outcome_of (length s.sheet) (record { sheet = w.sheet; long = q; start = w.start }) 0 unanswered) l)
      ∙ (paper-comes {r = beside w.sheet (t, p)} {b = beside w.start (c, x)} is begins).0

  -- no fault has the number 0
  number-not : (x : Text) (n at : ℕ) → faulty x n at ≡ paper_course s → (fault_in s (paper_course s)).refused ≡ 0 → ⊥
  number-not x n at e z =
      let q : n ≡ 0 = rw (← e) at z in
      ⊎_elim (λ l. omega (arith, l.0)) (λ l. omega arith) (paper-numbered s x n at (sym e)).range

  -- of a paper that is read, and of one at fault
  pub told-read : (x : Tables × Program × Configuration) → reached x ≡ paper_course s → (no_fault ≡ paper_fault s) × (x ≡ said_by (paper_course s))
  unfolding paper_fault
  told-read x e = rw (← e) (refl, refl)

  pub told-fault : (x : Text) (n at : ℕ) → faulty x n at ≡ paper_course s
      → (fault_at x n at (paper_text x s []) ≡ paper_fault s) × ((no_tables, no_program, start) ≡ said_by (paper_course s))
  unfolding paper_fault
  told-fault x n at e = rw (← e) (refl, refl)

-- ---- what goes on from a paper that is read

module _ (s : Paper) (x : Tables × Program × Configuration) where
  pub said-reached : (paper_fault s).refused ≡ 0 → x ≡ said_by (paper_course s) → paper_course s ≡ reached x
  unfolding paper_fault
  said-reached = go (paper_course s) refl
    where
      go : (z : Course (Tables × Program × Configuration)) → paper_course s ≡ z → (fault_in s z).refused ≡ 0 → x ≡ said_by z → z ≡ reached x
      go (faulty y n at) e z q = absurd (number-not s y n at (sym e) (rw e z))
      go (reached y) e z q = ap reached (sym q)

  -- the ports that its program names fit
  pub paper-fits : paper_course s ≡ reached x → PortsFit x.1
  unfolding Lawful LawfulPortsFit
  paper-fits e = lawful-ports-fit x.0.count x.1 (paper-read s x e).lawful.1
