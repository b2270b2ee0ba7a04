-- Demands 2 and 3 on the texts: what is read is the walk of lawful tables, so each follows from its theorem about walks.
-- Assumes nothing.
use Prim.Native.Nat.{ℕ}
use mathlib.Core.List.{List, []}
use mathlib.Core.Bool.{true}
use mathlib.Core.Path.{◌≡◌, refl, sym, ap, ◌∙◌}
use mathlib.Core.Logic.{⊎_elim}
use native.Mathlib.Omega.{arith}
use lib.Dec.{leb}
use lib.ListN.{length}
use borrow.Author.Tests.{le-leb, eq-eqb}
use Rattle.item_spec.proofs.Tests.{by-test}
use Rattle.model.specs.declared.Tables.{Tables}
use Rattle.model.specs.declared.Configuration.{Configuration}
use Rattle.model.specs.declared.Walked.{Walked}
use Rattle.model.specs.declared.Text.{Text}
use Rattle.model.specs.declared.Text.TheVariants as text
use Rattle.model.specs.declared.Step.{Step}
use Rattle.model.specs.declared.Answer.{Answer}
use Rattle.model.specs.declared.Program.{Program}
use Rattle.model.specs.View.{steps_of}
use Rattle.read_spec.specs.Limits.{length_ok, has_tickets}
use Rattle.read_spec.specs.Lines.{on}
use Rattle.read_spec.specs.Texts.{sheet, answer}
use Rattle.read_spec.specs.Lawful.{Lawful, SheetsAreLawful}
use Rattle.read_spec.proofs.Lawful.{sheets-are-lawful, sheet-begun}
use Rattle.rules_spec.specs.Walk.{walk_from}
use Rattle.report_spec.specs.Report.{report}
use Rattle.start_spec.specs.Paper.{Beginning, Paper}
use Rattle.start_spec.specs.Permitted.{MayBegin, TicketsFit}
use Rattle.judge_spec.specs.Course.{Course, faulty, reached, default_depth, short, short_start, read, served, outset, all_under, course}
use Rattle.judge_spec.specs.declared.Verdict.{Verdict}
use Rattle.judge_spec.specs.Judged.{after_fault, walk_verdict, after_walk, step_place, in_room, ending, judged, printing, printed}
use Rattle.judge_spec.specs.Room.{ReportsFit}
use Rattle.judge_spec.proofs.Read as Judged
use Rattle.judge_spec.proofs.Read.{Begun, empty, up, all_read, begun-lawful, begun-edition, begun-well, begun-fits, fault-numbered}
use Rattle.judge_spec.proofs.Room.{reports-fit}
use Rattle.demands.specs.OnTexts.{sheet_tables, own_program, outset_of, sheet_program, begin_of, answer_steps, AllRead, verdict_on, AllAllowed, walk_on, up_to, ReachedIsTheWalk, SafeOnTexts, QueuesOnTexts, SameReports, ReportsAgreeOnTexts, Exchanged, exchanged_steps, exchanged_text, MovesExchangeOnTexts}
use Rattle.demands.specs.Safe.{WalksAreSafe}
use Rattle.demands.specs.Queues.{QueuesAreKept}
use Rattle.demands.specs.Exchange.{MovesExchange}
use Rattle.demands.specs.Agree.{ReportsAgree}
use Rattle.write_spec.specs.Texts.{answer_text, of_steps}
use Rattle.write_spec.specs.Steps.{SaidSteps, StepsHaveTheirText, AnswersAreTheirTexts}
use Rattle.write_spec.proofs.Steps.{answers-are-their-texts, steps-have-their-text, exchanged-length, said-exchanged}
use Rattle.demands.proofs.Lengths.{same-text-length}
use Rattle.demands.proofs.Safe.{walks-are-safe}
use Rattle.demands.proofs.Queues.{queues-are-kept}
use Rattle.demands.proofs.Exchange.{moves-exchange}
use Rattle.demands.proofs.Agree.{reports-agree}

-- ---- what the texts come to

pub begun-is : (t : Tables) (p : Program) (g : Beginning) (x : Program × Configuration) → Begun default_depth t p g x → outset default_depth t p g ≡ reached x
unfolding outset read served
begun-is t p _ _ empty = refl
begun-is t p _ _ (up e q) = rw (e, read, q, served)

-- the sheet is lawful, and the paper may begin where it does
pub record Opens (s : Paper) : Type 0 where
  pub lawful : Lawful (sheet_tables s) (sheet_program s)
  pub begins-well : MayBegin default_depth (sheet_tables s) (sheet_program s) (begin_of s)
  pub fits : has_tickets (sheet_program s).edition ≡ true → TicketsFit (sheet_program s) (begin_of s)

-- a paper that is read, and begins with x
module _ (s : Paper) {t : Tables} {p : Program} {r : List ℕ} {x : Program × Configuration} (said : sheet s.sheet ≡ on (t, p) r) (b : Begun default_depth t p s.beginning x) where
  pub tables-are : sheet_tables s ≡ t
  unfolding sheet_tables
  tables-are = rw (said, sheet_tables)

  outset-is : outset_of s ≡ x
  unfolding outset_of own_program sheet_tables
  outset-is = rw (said, sheet_tables, own_program, begun-is t p s.beginning x b, outset_of)

  pub program-is : sheet_program s ≡ x.0
  unfolding sheet_program
  program-is = ap (λ (y : Program × Configuration). y.0) outset-is

  pub begin-is : begin_of s ≡ x.1
  unfolding begin_of
  begin-is = ap (λ (y : Program × Configuration). y.1) outset-is

  pub opens : Opens s
  unfolding SheetsAreLawful
  opens =
      let law = sheets-are-lawful s.sheet _ _ _ said in
      let none = sheet-begun s.sheet _ _ _ said in
      let same = begun-edition t p s.beginning x b in
      record {
        lawful = rw (tables-are, program-is) (begun-lawful t p law s.beginning x b);
        begins-well = rw (tables-are, program-is, begin-is) (begun-well t p law s.beginning x b);
        fits = rw (program-is, begin-is) (λ has. begun-fits t p law (ap has_tickets (sym same) ∙ has) none s.beginning x b);
      }

steps-are : (s : Paper) (a : List ℕ) (w : Walked) (b : Judged.AllRead s a w) → answer_steps a ≡ steps_of b.steps
unfolding answer_steps
steps-are s a w b = rw (b.answer-is, answer_steps)

pub reached-is-the-walk : ReachedIsTheWalk
unfolding ReachedIsTheWalk walk_from
reached-is-the-walk s a w e =
    let b = all_read s a w e in
    b.walked ∙ rw (tables-are s b.sheet-is b.begun, program-is s b.sheet-is b.begun, begin-is s b.sheet-is b.begun, steps-are s a w b)

-- the walk is reached, the sheet is lawful, and the answer is the text of its steps
pub record Goes (s : Paper) (a : List ℕ) : Type 0 where
  pub is : course s a ≡ reached (walk_on s (answer_steps a))
  pub lawful : Lawful (sheet_tables s) (sheet_program s)
  pub begins-well : MayBegin default_depth (sheet_tables s) (sheet_program s) (begin_of s)
  pub fits : has_tickets (sheet_program s).edition ≡ true → TicketsFit (sheet_program s) (begin_of s)
  pub said : SaidSteps (answer_steps a)
  pub text : a ≡ answer_text (of_steps (answer_steps a))

pub read_goes : (s : Paper) (a : List ℕ) → AllRead s a → Goes s a
unfolding ReachedIsTheWalk answer_steps AnswersAreTheirTexts
read_goes s a (w, e) =
    let b = all_read s a w e in
    let o = opens s b.sheet-is b.begun in
    record {
      is = e ∙ ap reached (reached-is-the-walk s a w e);
      lawful = o.lawful;
      begins-well = o.begins-well;
      fits = o.fits;
      said = rw (b.answer-is, answer_steps) (answers-are-their-texts a _ _ b.answer-is).0;
      text = rw (b.answer-is, answer_steps) (answers-are-their-texts a _ _ b.answer-is).1;
    }

-- ---- what the judge makes of it

-- the verdict is the walk's: there is room for the report
room-is : (s : Paper) (a : List ℕ) (w : Walked) → course s a ≡ reached w → (in_room 8192 w (report w) a).verdict ≡ walk_verdict w (length (report w))
unfolding in_room after_walk ReportsFit
room-is s a w e = rw (le-leb (length (report w)) 8192 (reports-fit s a w e), in_room)

pub verdict-is : (s : Paper) (a : List ℕ) (w : Walked) → course s a ≡ reached w → verdict_on s a ≡ walk_verdict w (length (report w))
unfolding judged ending
verdict-is s a w e = ap (λ (z : Course Walked). (ending s a 8192 z).verdict) e ∙ room-is s a w e

number_is : (s : Paper) (a : List ℕ) (w : Walked) → course s a ≡ reached w → (verdict_on s a).refused ≡ w.refused
number_is s a w e = ap (λ (v : Verdict). v.refused) (verdict-is s a w e)

allowed-reads : (s : Paper) (a : List ℕ) → AllAllowed s a → AllRead s a
unfolding judged ending after_fault
allowed-reads s a = go (course s a) refl
  where
    go : (z : Course Walked) → course s a ≡ z → (ending s a 8192 z).verdict.refused ≡ 0 → AllRead s a
    go (faulty x n at) e q = absurd (⊎_elim (λ l. omega arith) (λ l. omega arith) (fault-numbered s a x n at e).range)
    go (reached w) e q = (w, e)

pub allowed-goes : (s : Paper) (a : List ℕ) → AllAllowed s a → Goes s a × ((walk_on s (answer_steps a)).refused ≡ 0)
allowed-goes s a q = let g = read_goes s a (allowed-reads s a q) in (g, sym (number_is s a _ g.is) ∙ q)

-- in any room only the place of the offending line looks at the answer
alike-in-room : (room : ℕ) (w : Walked) (a b r : List ℕ) → ((in_room room w r a).verdict ≡ (in_room room w r b).verdict) × ((in_room room w r a).bytes ≡ (in_room room w r b).bytes)
unfolding in_room after_walk
alike-in-room room w a b r = by-test (leb (length r) room) (λ e. rw (e, in_room) (refl, refl)) (λ e. rw (e, in_room) (refl, refl))

-- and with no refusal that place is the answer's end
place-in-room : (room : ℕ) (w : Walked) (a b r : List ℕ) → w.refused ≡ 0 → length a ≡ length b → (in_room room w r a).place ≡ (in_room room w r b).place
unfolding in_room after_walk step_place
place-in-room room w a b r ok l =
    by-test (leb (length r) room) (λ e. rw (e, in_room, eq-eqb w.refused 0 ok, step_place, l)) (λ e. rw (e, in_room) refl)

alike-where-reached : (s : Paper) (a b : List ℕ) (w : Walked) → w.refused ≡ 0 → length a ≡ length b → course s a ≡ reached w → course s b ≡ reached w → SameReports s a b
unfolding judged ending printed printing
alike-where-reached s a b w ok l e f = record {
  printed-alike = rw (e, f, printing) (alike-in-room 8192 w a b (report w)).1;
  verdicts-alike = λ room. rw (e, f, ending) (alike-in-room room w a b (report w)).0;
  bytes-alike = λ room. rw (e, f, ending) (alike-in-room room w a b (report w)).1;
  places-alike = λ room. rw (e, f, ending) (place-in-room room w a b (report w) ok l);
}

-- ---- the exchanged answer

pub not-reached : {A : Type 0} {x : Text} {n at : ℕ} {w : A} → faulty x n at ≡ reached w → ⊥
not-reached {x = x} {n = n} {at = at} {w = w} e = let z : ◌≡◌ {A = ℕ} 0 1 = cc in omega arith

-- a text as long as one that is read is read beside the same paper
as-long-reads : (s : Paper) (a b : List ℕ) (y : Answer) (r : List ℕ) → length a ≡ length b → answer b ≡ on y r → AllRead s a → AllRead s b
unfolding course all_under short read
as-long-reads s a b y r l is (w, e) =
    by-test (length_ok (length s.sheet))
    (λ p. start-short p (short_start s.beginning) refl)
    (λ p. absurd (not-reached (rw (course, all_under, short, p) at e)))
  where
    start-short : length_ok (length s.sheet) ≡ true → (z : Course (Unit {0})) → short_start s.beginning ≡ z → AllRead s b
    start-short p (faulty x n at) f = absurd (not-reached (rw (course, all_under, short, p, f) at e))
    start-short p (reached tt) f =
        by-test (length_ok (length a))
        (λ q.
        let x = all_read s a w e in
        (walk_from default_depth x.tables x.program x.begin y, rw (course, all_under, short, p, f, ← l, q, read, x.sheet-is, begun-is x.tables x.sheet-program s.beginning (x.program, x.begin) x.begun, is) refl))
        (λ q. absurd (not-reached (rw (course, all_under, short, p, f, q) at e)))

-- the exchanged text: as long as the answer, read beside the same sheet, and as the exchanged steps
record ReadAgain (s : Paper) (a b : List ℕ) (us : List Step) : Type 0 where
  long : length a ≡ length b
  both-are : AllRead s b
  steps : answer_steps b ≡ us

exchanged-reads : (s : Paper) (a : List ℕ) (x : Exchanged s a) → AllRead s a → ReadAgain s a (exchanged_text x) (exchanged_steps x)
unfolding answer_steps StepsHaveTheirText
exchanged-reads s a x r =
    let g = read_goes s a r in
    let said = said-exchanged x.before x.after x.m x.n (rw x.these at g.said) in
    let (y, is, steps) = steps-have-their-text (exchanged_steps x) said in
    let long : length a ≡ length (exchanged_text x) = ap length (g.text ∙ ap (λ (us : List Step). answer_text (of_steps us)) x.these) ∙ exchanged-length x.before x.after x.m x.n in
    record { long = long; both-are = as-long-reads s a (exchanged_text x) y [] long is r; steps = rw (is, answer_steps) steps }

-- ---- the demands

pub safe-on-texts : SafeOnTexts
unfolding SafeOnTexts WalksAreSafe
safe-on-texts s a n r = walks-are-safe default_depth (sheet_tables s) (sheet_program s) (begin_of s) (up_to n a) (omega arith) (read_goes s a r).lawful (read_goes s a r).begins-well

pub queues-on-texts : QueuesOnTexts
unfolding QueuesOnTexts QueuesAreKept
queues-on-texts s a n i r = queues-are-kept default_depth (sheet_tables s) (sheet_program s) (begin_of s) (up_to n a) i (omega arith) (read_goes s a r).lawful (read_goes s a r).begins-well

pub reports-agree-on-texts : ReportsAgreeOnTexts
unfolding ReportsAgreeOnTexts ReportsAgree
reports-agree-on-texts s a b p q same =
    let (g, x) = allowed-goes s a p in
    let (h, y) = allowed-goes s b q in
    let e = reports-agree default_depth (sheet_tables s) (sheet_program s) (begin_of s) (answer_steps a) (answer_steps b) (omega arith) g.lawful g.begins-well x y same in
    let l = ap length g.text ∙ same-text-length (sheet_program s) 0 (answer_steps a) (answer_steps b) g.said.every h.said.every same ∙ sym (ap length h.text) in
    alike-where-reached s a b _ x l g.is (h.is ∙ ap reached (sym e))

pub moves-exchange-on-texts : MovesExchangeOnTexts
unfolding MovesExchangeOnTexts MovesExchange
moves-exchange-on-texts s a x p =
    let (g, y) = allowed-goes s a p in
    let b = exchanged_text x in
    let r = exchanged-reads s a x (allowed-reads s a p) in
    let h = read_goes s b r.both-are in
    let (still, e) = moves-exchange default_depth (sheet_tables s) (sheet_program s) (begin_of s) x.before x.after x.m x.n (omega arith) g.lawful g.begins-well x.exchangeable (rw x.these at y) in
    (r.steps, number_is s b _ h.is ∙ rw r.steps still, alike-where-reached s a b _ y r.long g.is (h.is ∙ ap reached (rw (r.steps, x.these) e)))
