-- What a sheet and an answer give keeps to all limits; where they stop is a place of the text, with a number from 2 to 5.
-- Assumes nothing.
use Prim.Native.Nat.{ℕ, suc, ◌+◌, ◌*◌, ◌<◌, ◌≤◌}
use mathlib.Core.List.{List}
use mathlib.Core.Bool.{Bool, true, ◌&&◌}
use mathlib.Core.Path.{◌≡◌, refl, ap, ap₂, ◌∙◌}
use native.Mathlib.Omega.{arith}
use lib.Dec.{leb}
use borrow.Author.Tests.{leb-true}
use Rattle.sets.specs.Test.{all_below}
use Rattle.sets.proofs.Laws.{all_of}
use Rattle.item_spec.specs.Reader.{bytes}
use Rattle.item_spec.proofs.Tests.{and_right}
use Rattle.model.specs.declared.ComponentType.{ComponentType}
use Rattle.model.specs.declared.Transitions.{Transitions}
use Rattle.model.specs.declared.Ports.{Ports}
use Rattle.model.specs.declared.Tables.{Tables}
use Rattle.model.specs.declared.Program.{Program}
use Rattle.model.specs.Empty.{none_begun, no_tables, no_program, no_answer}
use Rattle.model.specs.View.{type_of}
use Rattle.read_spec.specs.Limits.{depth_ok, types_ok, places_ok, transitions_ok, behaviors_ok, ports_ok, program_ok, steps_ok, edition_ok}
use Rattle.read_spec.specs.Lines.{on, stop}
use Rattle.read_spec.specs.Fill.{headed, with_type, program_of, answer_of}
use Rattle.read_spec.specs.Kinds.{tran_line, behavior_line, port_line, do_line, step_line}
use Rattle.read_spec.specs.Texts.{tran_at, behavior_at, port_at, type_lines, instruction_at, sheet, step_at, answer}
use Rattle.read_spec.specs.Lawful.{transition_lawful, behavior_lawful, port_lawful, type_lawful, tables_lawful, program_lawful, answer_lawful, Lawful, SheetsAreLawful, AnswersAreLawful}
use Rattle.read_spec.proofs.Rests.{Runs, runs_then, runs-give, runs-line, runs-each, runs-end, StopsAt, run-stops, run-gives}
use Rattle.read_spec.proofs.Kept.{InitialLawful, SetLawful, EndsLawful, PortLawful, reads-due, reads-count, reads-edition, reads-initial, reads-tran, reads-behavior, reads-port, reads-do, reads-step}
use Rattle.read_spec.proofs.Slots.{Filled, filled_none, filled_more, runs-fill, type_slots, types-sound, behavior_slots, behaviors-sound, transition_slots, transitions-sound, port_slots, ports-sound, instruction_slots, instructions-sound, step_slots, steps-sound, Rows, rows_none, rows_more}

-- the numbers of a type, its rows aside
pub record Counted (k : ComponentType) : Type 0 where
  pub places : places_ok k.places ≡ true
  pub initial : InitialLawful k.places k.initial
  pub transitions : transitions_ok k.transitions ≡ true
  pub behaviors : behaviors_ok k.behaviors ≡ true
  pub ports : ports_ok k.ports ≡ true

pub sixteen-le : (n : ℕ) → leb 1 n && leb n 16 ≡ true → n ≤ 16
sixteen-le n e = leb-true n 16 (and_right (leb 1 n) (leb n 16) e)

abbrev TransitionRows : List ComponentType → Transitions → ℕ → Type 0
TransitionRows = Rows transition_slots 32 (λ k. k.transitions) (λ k. EndsLawful k.places)

abbrev BehaviorRows : List ComponentType → List ℕ → ℕ → Type 0
BehaviorRows = Rows behavior_slots 8 (λ k. k.behaviors) (λ k. SetLawful k.transitions)

abbrev PortRows : List ComponentType → Ports → ℕ → Type 0
PortRows = Rows port_slots 16 (λ k. k.ports) (λ k. PortLawful k.places k.transitions k.initial)

-- a sheet of depth d and n types, whose first i are read
pub record Typed (d n i : ℕ) (t : Tables) : Type 0 where
  pub depth : t.depth ≡ d
  pub count : t.count ≡ n
  pub types : Filled type_slots Counted no_tables.types 0 i t.types
  pub transitions : TransitionRows t.types t.transitions i
  pub behaviors : BehaviorRows t.types t.behaviors i
  pub ports : PortRows t.types t.ports i

pub typed-none : (d n : ℕ) → Typed d n 0 (headed d n)
unfolding headed no_tables
typed-none d n = record {
  depth = refl;
  count = refl;
  types = filled_none type_slots types-sound Counted 0 _ (refl, tt);
  transitions = rows_none transition_slots 32 _ _ _ _ (refl, refl);
  behaviors = rows_none behavior_slots 8 _ _ _ _ (refl, tt);
  ports = rows_none port_slots 16 _ _ _ _ (refl, refl, refl);
}

-- type i, and its rows
pub typed-more : (d n i : ℕ) (t : Tables) (k : ComponentType) (xs : Transitions) (bs : List ℕ) (qs : Ports) → i < 16 → Typed d n i t → Counted k →
    Filled transition_slots (EndsLawful k.places) t.transitions (i * 32) (i * 32 + k.transitions) xs →
    Filled behavior_slots (SetLawful k.transitions) t.behaviors (i * 8) (i * 8 + k.behaviors) bs →
    Filled port_slots (PortLawful k.places k.transitions k.initial) t.ports (i * 16) (i * 16 + k.ports) qs →
    Typed d n (suc i) (with_type t i k xs bs qs)
unfolding with_type
typed-more d n i t k xs bs qs h w c fx fb fq =
    let z = w.types.sized in
    let counted : (q : ℕ) → q < i → Counted (type_of t q) = λ q l. w.types.rows q (omega arith) l in
    record {
      depth = w.depth;
      count = w.count;
      types = filled_more type_slots types-sound Counted 0 i _ t.types k h c w.types;
      transitions = rows_more transition_slots 32 _ _ t.types k t.transitions xs i z h (λ q l. leb-true _ 32 (counted q l).transitions) w.transitions fx;
      behaviors = rows_more behavior_slots 8 _ _ t.types k t.behaviors bs i z h (λ q l. leb-true _ 8 (counted q l).behaviors) w.behaviors fb;
      ports = rows_more port_slots 16 _ _ t.types k t.ports qs i z h (λ q l. leb-true _ 16 (counted q l).ports) w.ports fq;
    }

runs-type : (d N i : ℕ) (t : Tables) → i < 16 → Typed d N i t → Runs (Typed d N (suc i)) (type_lines i t)
unfolding type_lines tran_at behavior_at port_at
runs-type d N i t h w =
    runs_then (runs-line (reads-due (bytes "type=") i)) (λ _ _.
    runs_then (runs-line (reads-count (bytes "places=") places_ok)) (λ n cn.
    let ln = sixteen-le n cn in
    runs_then (runs-line (reads-initial n (omega arith))) (λ m cm.
    runs_then (runs-line (reads-count (bytes "transitions=") transitions_ok)) (λ k ck.
    let lk = leb-true k 32 ck in
    runs_then (runs-fill transition_slots transitions-sound (EndsLawful n) (tran_line n) (reads-tran n) k (i * 32) t.transitions (omega arith) w.transitions.sized) (λ xs fx.
    runs_then (runs-line (reads-count (bytes "behaviors=") behaviors_ok)) (λ b cb.
    let lb = leb-true b 8 cb in
    runs_then (runs-fill behavior_slots behaviors-sound (SetLawful k) (behavior_line k) (reads-behavior k lk) b (i * 8) t.behaviors (omega arith) w.behaviors.sized) (λ bs fb.
    runs_then (runs-line (reads-count (bytes "ports=") ports_ok)) (λ p cp.
    let lp = leb-true p 16 cp in
    runs_then (runs-fill port_slots ports-sound (PortLawful n k m) (port_line n k m) (reads-port n k m (omega arith) lk) p (i * 16) t.ports (omega arith) w.ports.sized) (λ qs fq.
    runs-give (typed-more d N i t _ xs bs qs h w (record { places = cn; initial = cm; transitions = ck; behaviors = cb; ports = cp }) fx fb fq))))))))))

-- ---- the tests of the tables, the program and the answer
-- a count within its limit, and every line below it
pub lines-lawful : (limit test : ℕ → Bool) (n k : ℕ) → n ≡ k → limit k ≡ true → ((j : ℕ) → j < k → test j ≡ true) → limit n && all_below n test ≡ true
lines-lawful limit test n k e l h = rw e (ap₂ ◌&&◌ l (all_of k test h))

pub type-lawful : (d n i : ℕ) (t : Tables) → Typed d n i t → (q : ℕ) → q < i → type_lawful t q ≡ true
unfolding type_lawful transition_lawful behavior_lawful port_lawful
type-lawful d n i t w q l =
    let c = w.types.rows q (omega arith) l in
    ap₂ ◌&&◌ c.places (ap₂ ◌&&◌ c.initial.0 (ap₂ ◌&&◌ c.initial.1
    (ap₂ ◌&&◌ c.transitions (ap₂ ◌&&◌ (all_of _ _ (λ x. w.transitions.each q x l))
    (ap₂ ◌&&◌ c.behaviors (ap₂ ◌&&◌ (all_of _ _ (λ x. w.behaviors.each q x l))
    (ap₂ ◌&&◌ c.ports (all_of _ _ (λ x. w.ports.each q x l)))))))))

-- ---- the two texts
pub runs-sheet : Runs (λ (x : Tables × Program). Lawful x.0 x.1 × (x.1.begun ≡ none_begun)) sheet
unfolding sheet instruction_at program_of no_program Lawful tables_lawful program_lawful
runs-sheet =
    runs_then (runs-line reads-edition) (λ e ce.
    runs_then (runs-line (reads-count (bytes "depth=") depth_ok)) (λ d cd.
    runs_then (runs-line (reads-count (bytes "types=") types_ok)) (λ n cn.
    let ln = sixteen-le n cn in
    runs_then (runs-each type_lines (Typed d n) n (λ i t l w. runs-type d n i t (omega arith) w) n 0 (headed d n) (omega arith) (typed-none d n)) (λ t w.
    runs_then (runs-line (reads-count (bytes "program=") program_ok)) (λ k ck.
    let lk = leb-true k 256 ck in
    runs_then (runs-fill (instruction_slots e k) (instructions-sound e k) _ (do_line e n) (reads-do e n) k 0 (program_of e k) (omega arith) (refl, (refl, refl, refl))) (λ p fp.
    runs_then runs-end (λ _ _. runs-give (
      (
        ap₂ ◌&&◌ (ap depth_ok w.depth ∙ cd) (lines-lawful types_ok (type_lawful t) t.count n w.count cn (type-lawful d n n t w)),
        ap₂ ◌&&◌ (ap program_ok fp.sized.1.1 ∙ ck) (lines-lawful (λ _. edition_ok p.edition) _ p.count k fp.sized.1.1 (ap edition_ok fp.sized.1.0 ∙ ce)
            (λ j l. rw (w.count, fp.sized.1.0) (fp.rows j (omega arith) (omega arith)))),
      ),
      fp.sized.1.2,
    ))))))))

pub runs-answer : Runs (λ a. answer_lawful a ≡ true) answer
unfolding answer step_at answer_of no_answer answer_lawful
runs-answer =
    runs_then (runs-line (reads-due (bytes "answer=") 1)) (λ _ _.
    runs_then (runs-line (reads-count (bytes "steps=") steps_ok)) (λ k ck.
    let lk = leb-true k 1024 ck in
    runs_then (runs-fill (step_slots k) (steps-sound k) _ step_line reads-step k 0 (answer_of k) (omega arith) (refl, refl)) (λ a fa.
    runs_then runs-end (λ _ _. runs-give (lines-lawful steps_ok _ a.count k fa.sized.1 ck (λ j l. fa.rows j (omega arith) (omega arith)))))))

pub sheets-are-lawful : SheetsAreLawful
unfolding SheetsAreLawful
sheets-are-lawful s r t p e = (run-gives runs-sheet s (t, p) r e).0

-- a sheet alone has nothing pushed before its first instruction
pub sheet-begun : (s r : List ℕ) (t : Tables) (p : Program) → sheet s ≡ on (t, p) r → p.begun ≡ none_begun
sheet-begun s r t p e = (run-gives runs-sheet s (t, p) r e).1

pub answers-are-lawful : AnswersAreLawful
unfolding AnswersAreLawful
answers-are-lawful s r a e = run-gives runs-answer s a r e

pub sheet-stops : (s : List ℕ) (n : ℕ) (r : List ℕ) → sheet s ≡ stop n r → StopsAt s n r
sheet-stops = run-stops runs-sheet

pub answer-stops : (s : List ℕ) (n : ℕ) (r : List ℕ) → answer s ≡ stop n r → StopsAt s n r
answer-stops = run-stops runs-answer
