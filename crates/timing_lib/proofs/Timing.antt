-- What the course says of the answer: after a fault, and after a walk.
-- Assumes nothing.
use Prim.Native.Nat.{ℕ}
use mathlib.Core.List.{List}
use mathlib.Core.Path.{◌≡◌, refl, ap, ◌∙◌}
use lib.ListN.{length}
use Rattle.model.specs.declared.Walked.{Walked}
use Rattle.model.specs.declared.Text.{Text}
use Rattle.start_spec.specs.Paper.{Paper}
use Rattle.judge_spec.specs.declared.Place.{Place}
use Rattle.judge_spec.specs.Course.{faulty, reached}
use Rattle.judge_spec.specs.Judged.{fault_place, after_fault, in_room, over}
use Rattle.timing_spec.specs.declared.Timed.{Timed}
use Rattle.timing_spec.specs.Timed.{timed_course, marked_report, lent_text, number_in, numbered, Marked, mark_in_room, timed_ending, timed}
use Rattle.timing_spec.specs.Once.{PromisedAnswer, PromisedPlace}
use Rattle.timing_spec.proofs.Once.{place-promised}

module _ (s : Paper) (a x : List ℕ) where
  abbrev fault_of : Text → ℕ → ℕ → Marked
  fault_of k n at = record { judgement = numbered (number_in k n) (after_fault k n at (lent_text k s a x)); mark = 0 }

  abbrev walk_of : ℕ → Walked → ℕ → Marked
  walk_of room w m = record { judgement = in_room room w (marked_report w m) a; mark = mark_in_room room (marked_report w m) m }

  timed-fault : (room : ℕ) (k : Text) (n at : ℕ) → faulty k n at ≡ timed_course s a x → fault_of k n at ≡ timed s a x room
  unfolding timed timed_ending
  timed-fault room k n at e = rw (← e, timed, timed_ending)

  timed-walk : (room : ℕ) (w : Walked) (m : ℕ) → reached (w, m) ≡ timed_course s a x → walk_of room w m ≡ timed s a x room
  unfolding timed timed_ending
  timed-walk room w m e = rw (← e, timed, timed_ending)

  -- the answer, and the buffer that held `old`
  answers : (old : List ℕ) {r : Timed} {after : List ℕ} {j : Marked} → j ≡ timed s a x (length old)
      → r ≡ record { verdict = j.judgement.verdict; mark = j.mark } → after ≡ over j.judgement.bytes old → PromisedAnswer s a x old r after
  answers old e h g =
      record {
        verdict-is = h ∙ ap (λ (j : Marked). record { verdict = j.judgement.verdict; mark = j.mark }) e;
        buffer-is = g ∙ ap (λ (j : Marked). over j.judgement.bytes old) e;
        place_is = refl;
      }

  pub fault-answers : (old : List ℕ) (k : Text) (n at : ℕ) {r : Timed} → faulty k n at ≡ timed_course s a x
      → r ≡ record { verdict = (numbered (number_in k n) (after_fault k n at (lent_text k s a x))).verdict; mark = 0 } → PromisedAnswer s a x old r old
  unfolding after_fault over
  fault-answers old k n at e h = answers old (timed-fault (length old) k n at e) h refl

  pub walk-answers : (old : List ℕ) (w : Walked) (m : ℕ) {r : Timed} {after : List ℕ} → reached (w, m) ≡ timed_course s a x
      → r.verdict ≡ (in_room (length old) w (marked_report w m) a).verdict → r.mark ≡ mark_in_room (length old) (marked_report w m) m
      → after ≡ over (in_room (length old) w (marked_report w m) a).bytes old → PromisedAnswer s a x old r after
  walk-answers old w m e v k = answers old (timed-walk (length old) w m e) (λ i. record { verdict = v i; mark = k i })

  -- the place
  pub fault-placed : (room : ℕ) (k : Text) (n at : ℕ) {p : Place} → faulty k n at ≡ timed_course s a x → p ≡ fault_place k n at (lent_text k s a x)
      → PromisedPlace s a x room p
  unfolding after_fault
  fault-placed room k n at e h = place-promised (h ∙ ap (λ (j : Marked). j.judgement.place) (timed-fault room k n at e))

  pub walk-placed : (room : ℕ) (w : Walked) (m : ℕ) {p : Place} → reached (w, m) ≡ timed_course s a x → p ≡ (in_room room w (marked_report w m) a).place
      → PromisedPlace s a x room p
  walk-placed room w m e h = place-promised (h ∙ ap (λ (j : Marked). j.judgement.place) (timed-walk room w m e))
