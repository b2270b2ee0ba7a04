-- What the course says of the judgement: after a fault, and after a run.
-- Assumes nothing.
use Prim.Native.Nat.{ℕ, ◌≤◌, min}
use mathlib.Core.List.{List}
use mathlib.Core.Path.{◌≡◌, refl, ap, ◌∙◌}
use native.Mathlib.Omega.{arith}
use lib.ListN.{length}
use Rattle.model.specs.declared.Text.{Text}
use Rattle.judge_spec.specs.declared.Place.{Place}
use Rattle.judge_spec.specs.Course.{Course, faulty, reached}
use Rattle.judge_spec.specs.Judged.{text_of, fault_place, over}
use Rattle.aeolus_model.specs.Model.{Universe}
use Rattle.aeolus_rules_spec.specs.Run.{Ran}
use Rattle.aeolus_judge_spec.specs.Report.{report}
use Rattle.aeolus_judge_spec.specs.Course.{course}
use Rattle.aeolus_judge_spec.specs.Judged.{Judgement, after_fault, in_room, ending, judged}
use Rattle.aeolus_judge_spec.specs.Once.{Promised}
use Rattle.aeolus_judge_spec.proofs.Room.{read_fits}
use Rattle.judge_lib.proofs.Room.{leb-smaller}
use Rattle.aeolus_lib.specs.declared.Judged.{Judged}
use Rattle.aeolus_lib.specs.Comes.{Comes}

module _ (s a : List ℕ) where
  judged-fault : (room : ℕ) (x : Text) (n at : ℕ) → faulty x n at ≡ course s a → after_fault x n at (text_of x s a) ≡ judged s a room
  unfolding judged ending
  judged-fault room x n at e = rw (← e, judged, ending)

  judged-run : (room : ℕ) (u : Universe) (w : Ran) → reached (u, w) ≡ course s a → in_room room w (report u w) a ≡ judged s a room
  unfolding judged ending
  judged-run room u w e = rw (← e, judged, ending)

  -- the verdict, the place, and the buffer that held `old`
  comes : (old : List ℕ) {r : Judged} {after : List ℕ} {j : Judgement} → j ≡ judged s a (length old) → Comes r old after j → Promised s a old r.verdict after r.place
  comes old e h = record {
    verdict-is = h.verdict-is ∙ ap (λ (j : Judgement). j.verdict) e;
    buffer-is = h.buffer-is ∙ ap (λ (j : Judgement). over j.bytes old) e;
    place_is = h.place_is ∙ ap (λ (j : Judgement). j.place) e;
  }

  pub fault-promised : (old : List ℕ) {r : Judged} (x : Text) (n at : ℕ) → faulty x n at ≡ course s a → r.verdict ≡ (after_fault x n at (text_of x s a)).verdict
      → r.place ≡ fault_place x n at (text_of x s a) → Promised s a old r.verdict old r.place
  unfolding after_fault over
  fault-promised old x n at e h g = comes old (judged-fault (length old) x n at e) (record { verdict-is = h; place_is = g; buffer-is = refl })

  pub run-promised : (old : List ℕ) {r : Judged} {after : List ℕ} (u : Universe) (w : Ran) → reached (u, w) ≡ course s a
      → Comes r old after (in_room (length old) w (report u w) a) → Promised s a old r.verdict after r.place
  run-promised old u w e h = comes old (judged-run (length old) u w e) h

-- no report needs more room than 8,192 bytes
pub place-smaller : (s a : List ℕ) (room : ℕ) {n : ℕ} {p : Place} → p ≡ (judged s a n).place → n ≡ min room 8192 → p ≡ (judged s a room).place
unfolding judged ending in_room
place-smaller s a room h e = h ∙ rw e (go (course s a) refl)
  where
    same : (w : Ran) (r : List ℕ) → length r ≤ 1811 → (in_room (min room 8192) w r a).place ≡ (in_room room w r a).place
    same w r h = rw (leb-smaller (length r) room (omega arith), in_room)

    go : (z : Course (Universe × Ran)) → course s a ≡ z → (ending s a (min room 8192) z).place ≡ (ending s a room z).place
    go (faulty x n at) e = refl
    go (reached (u, w)) e = same w (report u w) (read_fits s a u w e).short
