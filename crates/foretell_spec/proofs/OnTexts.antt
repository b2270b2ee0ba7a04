-- What is foretold of walks, on the texts: the verdict's number is that of the step where the walk stopped.
-- Assumes nothing.
use mathlib.Core.Path.{◌≡◌, refl, sym, ap, subst, ◌∙◌}
use mathlib.Core.Logic.{◌⊎◌, inl, inr, ⊎_elim, ◌≢◌}
use mathlib.Core.Bool.{true}
use mathlib.Core.List.{List, [], ◌∷◌}
use Prim.Native.Nat.{ℕ, ◌≤◌, ◌<◌}
use native.Mathlib.Omega.{arith}
use lib.ListN.{length, get_or}
use borrow.Author.Tests.{ne_eqb}
use Rattle.model.specs.declared.Tables.{Tables}
use Rattle.model.specs.declared.Program.{Program}
use Rattle.model.specs.declared.Step.{Step}
use Rattle.model.specs.declared.Configuration.{Configuration}
use Rattle.model.specs.declared.Walked.{Walked}
use Rattle.read_spec.specs.Lines.{on}
use Rattle.read_spec.specs.Texts.{sheet}
use Rattle.start_spec.specs.Paper.{Beginning, Paper}
use Rattle.foretell_spec.specs.declared.Foretelling.{Foretelling}
use Rattle.foretell_spec.specs.Names.{foretold}
use Rattle.model.specs.Empty.{no_step}
use Rattle.rules_spec.specs.Step.{is_next, step_check, step_to}
use Rattle.rules_spec.specs.Walk.{one_more, walk}
use Rattle.rules_spec.proofs.Walks.{walk-cases}
use Rattle.report_spec.specs.Report.{report}
use Rattle.judge_spec.specs.Course.{Course, faulty, reached, go_on, default_depth, paper_course, course}
use Rattle.judge_spec.specs.Judged.{after_fault, walk_verdict, ending, judged}
use Rattle.judge_spec.specs.declared.Verdict.{Verdict}
use Rattle.judge_spec.proofs.Read.{Begun, empty, up}
use Rattle.judge_spec.proofs.Alone.{paper-read}
use Rattle.demands.specs.OnTexts.{sheet_tables, sheet_program, begin_of, answer_steps, verdict_on, walk_on, ReachedIsTheWalk}
use Rattle.demands.proofs.OnTexts.{tables-are, program-is, begin-is, opens, reached-is-the-walk, verdict-is, not-reached}
use Rattle.foretell_spec.specs.Foretold.{Tickets, Begins, AsForetold, NextsAreForetold, NumbersForetold}
use Rattle.foretell_spec.specs.Lines.{instruction_line, LinesSayInstructions}
use Rattle.foretell_spec.specs.OnTexts.{foretold_on, foretold_line, LineSaysIt, NeverCarriedOut, NumbersOnTexts, RefusedAsForetold}
use Rattle.foretell_spec.proofs.Foretold.{nexts-are-foretold, never-past, numbers-foretold-holds}
use Rattle.foretell_spec.proofs.Lines.{lines-say-instructions}

-- the number of a refused walk is that of the step it stopped at
module _ (default : ℕ) (t : Tables) (p : Program) where
  abbrev StopsSo : List Step → Walked → Type 0
  StopsSo ss w = w.refused ≢ 0 → step_check default t p w.configuration (get_or ss w.accepted no_step) ≡ w.refused

  pub stops_so : (ss : List Step) (c : Configuration) → StopsSo ss (walk default t p c ss)
  unfolding walk one_more
  stops_so [] c = λ e. absurd (e refl)
  stops_so (s ∷ ss) c = walk-cases default t p (StopsSo (s ∷ ss)) c s ss (λ _ e. stops_so ss (step_to t p c s) e) (λ n e. refl)

-- what is foretold of a paper is so of its tables, its program and where it begins; and it may begin there
pub record Tells (s : Paper) (f : Foretelling) : Type 0 where
  pub is : foretold (sheet_tables s) (sheet_program s) (begin_of s) ≡ f
  pub begins : Begins default_depth (sheet_tables s) (sheet_program s) (begin_of s)
  pub own : Program
  pub rest : List ℕ
  pub read : sheet s.sheet ≡ on (sheet_tables s, own) rest
  pub same_lines : own.instructions ≡ (sheet_program s).instructions
  pub same_count : own.count ≡ (sheet_program s).count

-- the program as begun has the lines of the sheet's
begun_lines : {t : Tables} {p : Program} {g : Beginning} {x : Program × Configuration} → Begun default_depth t p g x
    → (p.instructions ≡ x.0.instructions) × (p.count ≡ x.0.count)
begun_lines empty = (refl, refl)
begun_lines (up e q) = (refl, refl)

paper-tells : (s : Paper) (x : Tables × Program × Configuration) → paper_course s ≡ reached x → Tells s (foretold x.0 x.1 x.2)
paper-tells s x e =
    let r = paper-read s x e in
    let o = opens s r.sheet-is r.begun in
    let t = tables-are s r.sheet-is r.begun in
    let p = program-is s r.sheet-is r.begun in
    let same = begun_lines r.begun in
    record {
      is = rw (t, p, begin-is s r.sheet-is r.begun) refl;
      begins = record { room = omega arith; lawful = o.lawful; may = o.begins-well; fits = o.fits };
      own = r.sheet-program;
      rest = r.sheet-rest;
      read = rw t r.sheet-is;
      same_lines = rw p same.0;
      same_count = rw p same.1;
    }

pub foretold-tells : (s : Paper) (f : Foretelling) → foretold_on s ≡ reached f → Tells s f
unfolding foretold_on
foretold-tells s f = go (paper_course s) refl
  where
    go : (z : Course (Tables × Program × Configuration)) → paper_course s ≡ z → go_on z (λ x. reached (foretold x.0 x.1 x.2)) ≡ reached f → Tells s f
    go (faulty x n at) q e = absurd (not-reached e)
    go (reached x) q e = let z : foretold x.0 x.1 x.2 ≡ f = cc in subst (Tells s) z (paper-tells s x q)

first : {s : Paper} {f : Foretelling} → Tells s f → (begin_of s).done ≡ 0
first k = k.begins.may.permitted.first

pub numbers-on-texts : NumbersOnTexts
unfolding NumbersOnTexts NumbersForetold
numbers-on-texts s f e n =
    let k = foretold-tells s f e in
    rw k.is at (((numbers-foretold-holds (sheet_tables s) (sheet_program s) (begin_of s) (first k)).one (rw k.is n)).1 k.begins.lawful)

pub line-says-it : LineSaysIt
unfolding LineSaysIt foretold_line instruction_line LinesSayInstructions NumbersForetold
line-says-it s f e n =
    let k = foretold-tells s f e in
    let l : f.next < (sheet_program s).count = rw k.is at ((numbers-foretold-holds (sheet_tables s) (sheet_program s) (begin_of s) (first k)).one (rw k.is n)).0 in
    rw (ne_eqb f.refused 0 n, ← k.same_lines, ← k.same_count)
    (lines-say-instructions s.sheet k.rest (sheet_tables s) k.own f.next k.read (rw k.same_count l))

pub never-carried-out : NeverCarriedOut
unfolding NeverCarriedOut judged ending after_fault ReachedIsTheWalk
never-carried-out s a f is = go (course s a) refl
  where
    go : (z : Course Walked) → course s a ≡ z → (ending s a 8192 z).verdict.next ≤ f.next
    go (faulty x n at) e = omega arith
    go (reached w) e =
        let k = foretold-tells s f is in
        let v : (ending s a 8192 (reached w)).verdict ≡ walk_verdict w (length (report w)) = ap (λ (z : Course Walked). (ending s a 8192 z).verdict) (sym e) ∙ verdict-is s a w e in
        rw (v, reached-is-the-walk s a w e, ← k.is) (never-past default_depth (sheet_tables s) (sheet_program s) (begin_of s) (answer_steps a) (first k))

pub refused-as-foretold : RefusedAsForetold
unfolding RefusedAsForetold NextsAreForetold ReachedIsTheWalk
refused-as-foretold s a f h r =
    let k = foretold-tells s f h in
    let (w, e) = r.all_are in
    let is = verdict-is s a w e in
    let q = reached-is-the-walk s a w e in
    let n : (walk_on s (answer_steps a)).refused ≢ 0 = λ z. r.refused (ap (λ (v : Verdict). v.refused) is ∙ ap (λ (x : Walked). x.refused) q ∙ z) in
    let x : is_next (get_or (answer_steps a) (walk_on s (answer_steps a)).accepted no_step) ≡ true = rw (is, q) at r.next in
    let y = nexts-are-foretold default_depth (sheet_tables s) (sheet_program s) (begin_of s) (answer_steps a) (get_or (answer_steps a) (walk_on s (answer_steps a)).accepted no_step) k.begins x in
    let z : AsForetold (Tickets (sheet_program s)) f (verdict_on s a).next (verdict_on s a).refused
    = rw (is, q, ← k.is, ← stops_so default_depth (sheet_tables s) (sheet_program s) (answer_steps a) (begin_of s) n) y in
    ⊎_elim inl (λ (l, m). inr (l, ⊎_elim (λ e. absurd (r.refused e)) (λ k. k) m)) z
