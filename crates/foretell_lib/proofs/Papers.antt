-- What the paper's reader answered, as what is foreseen.
-- Assumes nothing.
use Prim.Native.Nat.{ℕ, ◌≤◌, ◌<◌}
use mathlib.Core.List.{List}
use mathlib.Core.Logic.{◌≢◌, by_cases}
use mathlib.Core.Path.{◌≡◌, refl, sym, ap, ◌∙◌}
use native.Mathlib.Omega.{arith}
use native.Mathlib.Decide.{ℕ_discrete}
use Rattle.model.specs.declared.Tables.{Tables}
use Rattle.model.specs.declared.Program.{Program}
use Rattle.model.specs.declared.Text.{Text}
use Rattle.model.specs.declared.Text.TheVariants as text
use lib.ListN.{length, length-append}
use lib.Seq.{length-take-le}
use Rattle.io.specs.Counts.{IsPrefixLen}
use Rattle.item_spec.specs.Reader.{bytes}
use Rattle.report_spec.specs.Faults.{fault_text}
use Rattle.write_items.specs.Written.{Written}
use Rattle.write_items.proofs.Laws.{fits_all, length-written}
use Rattle.write_report.proofs.Bounds.{count-short, fault-short}
use Rattle.model.specs.declared.Configuration.{Configuration}
use Rattle.start_spec.specs.Paper.{Paper}
use Rattle.judge_spec.specs.Course.{Course, faulty, reached, go_on, paper_course}
use Rattle.judge_spec.specs.Judged.{over}
use Rattle.judge_spec.proofs.Read.{begun-permitted}
use Rattle.judge_spec.proofs.Alone.{paper-read}
use Rattle.judge_lib.specs.declared.papers.PaperFault.{PaperFault}
use Rattle.judge_lib.specs.Alone.{fault_in, paper_fault}
use Rattle.demands.proofs.OnTexts.{program-is}
use Rattle.foretell_spec.specs.declared.Foretelling.{Foretelling}
use Rattle.foretell_spec.specs.Names.{foretold}
use Rattle.foretell_spec.specs.Foretold.{NumbersForetold}
use Rattle.foretell_spec.specs.OnTexts.{foretold_on, foretold_line}
use Rattle.foretell_spec.proofs.Names.{by_name-range}
use Rattle.foretell_spec.proofs.Foretold.{numbers-foretold-holds}
use Rattle.foretell_lib.specs.declared.Foreseen.{Foreseen}
use Rattle.foretell_lib.specs.Foresees.{line_of, answering, foreseen, refused_text, told_text, shown_as, foreseen_text}

-- a paper at fault
pub fault-so : (s : Paper) (f : PaperFault) → f ≡ paper_fault s → f.refused ≢ 0
    → ◌≡◌ {A = Foreseen} (record { refused = f.refused; next = 0; text = f.text; line = f.line }) (foreseen s)
unfolding paper_fault foreseen foretold_on
fault-so s f is n = rw is (go (paper_course s) (rw is at n))
  where
    go : (z : Course (Tables × Program × Configuration)) → (fault_in s z).refused ≢ 0
        → ◌≡◌ {A = Foreseen} (record { refused = (fault_in s z).refused; next = 0; text = (fault_in s z).text; line = (fault_in s z).line })
        (answering s (go_on z (λ x. reached (foretold x.0 x.1 x.2))))
    go (faulty x n at) e = refl
    go (reached y) e = absurd (e refl)

-- a paper that is read, with what it says
module _ (s : Paper) (x : Tables × Program × Configuration) (e : paper_course s ≡ reached x) (f : Foretelling) (is : f ≡ foretold x.0 x.1 x.2) where
  pub told-so : (line : ℕ) → line ≡ line_of s.sheet x.1 f.next f.refused
      → ◌≡◌ {A = Foreseen} (record { refused = f.refused; next = f.next; text = text.Neither; line = line }) (foreseen s)
  unfolding foreseen foretold_on foretold_line
  told-so line l = let r = paper-read s x e in rw (e, l, is, program-is s r.sheet-is r.begun) refl

  pub told-small : f.refused < 256
  unfolding NumbersForetold
  told-small =
      let r = paper-read s x e in
      let first = (begun-permitted x.0 r.sheet-program r.sheet-lawful s.beginning (x.1, x.2) r.begun).first in
      by_cases (ℕ_discrete f.refused 0) (λ z. omega arith)
      (λ z. let l = ((numbers-foretold-holds x.0 x.1 x.2 first).one (λ q. z (ap (λ (y : Foretelling). y.refused) is ∙ q))).1 r.lawful in
      rw is (omega (arith, (by_name-range l).1)))

-- ---- what is printed of it

shown-short : (f : Foreseen) → length (shown_as f.text f) ≤ 96
unfolding told_text refused_text
shown-short f = go f.text
  where
    go : (x : Text) → length (shown_as x f) ≤ 96
    go text.Neither = simp length-append (omega (arith, count-short (bytes "next=") f.next, count-short (bytes "refused=") f.refused, count-short (bytes "line=") f.line))
    go text.Sheet = omega (arith, fault-short text.Sheet f.line f.refused)
    go text.Answer = omega (arith, fault-short text.Answer f.line f.refused)
    go text.Times = omega (arith, fault-short text.Times f.line f.refused)
    go text.Start = omega (arith, fault-short text.Start f.line f.refused)

-- a text at fault
pub of-text : (x : Text) → (x ≡ text.Neither → ⊥) → (f : Foreseen) → shown_as x f ≡ fault_text x f.line f.refused
of-text text.Neither h f = absurd (h refl)
of-text text.Sheet h f = refl
of-text text.Answer h f = refl
of-text text.Times h f = refl
of-text text.Start h f = refl

pub prints-so : (s : Paper) (old new bytes : List ℕ) (n : ℕ) (f : Foreseen) → f ≡ foreseen s → length old ≡ 96 → shown_as f.text f ≡ bytes → Written old bytes new 0 n
    → (n ≡ length (foreseen_text s)) × (new ≡ over (foreseen_text s) old) × IsPrefixLen n new
unfolding foreseen_text over
prints-so s old new bytes n f e l q w =
    let short : length bytes ≤ 96 = rw (← q) (shown-short f) in
    let (size, is) = fits_all w (omega arith) in
    let long : length new ≡ 96 = length-written w ∙ l in
    (rw (← e, q) size, rw (← e, q) is, (omega arith, sym (length-take-le n new (omega arith))))
