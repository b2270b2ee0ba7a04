-- What the course says of the judgement: after a fault, and after a walk.
-- Assumes nothing.
use Prim.Native.Nat.{ℕ, ◌≤◌, min}
use mathlib.Core.List.{List}
use mathlib.Core.Path.{◌≡◌, refl, ap, ◌∙◌}
use lib.ListN.{length}
use Rattle.model.specs.declared.Walked.{Walked}
use Rattle.model.specs.declared.Text.{Text}
use Rattle.report_spec.specs.Report.{report}
use Rattle.start_spec.specs.Paper.{Paper}
use Rattle.judge_spec.specs.declared.Verdict.{Verdict}
use Rattle.judge_spec.specs.declared.Place.{Place}
use Rattle.judge_spec.specs.Course.{Course, faulty, reached, course}
use Rattle.judge_spec.specs.Judged.{Judgement, paper_text, fault_place, after_fault, in_room, ending, judged, over}
use Rattle.judge_spec.specs.Once.{Judges, Places}
use Rattle.judge_spec.specs.Room.{ReportsFit}
use Rattle.judge_spec.proofs.Room.{reports-fit}
use Rattle.judge_lib.proofs.Room.{leb-smaller}

module _ (s : Paper) (a : List ℕ) where
  pub judged-fault : (room : ℕ) (x : Text) (n at : ℕ) → faulty x n at ≡ course s a → after_fault x n at (paper_text x s a) ≡ judged s a room
  unfolding judged ending
  judged-fault room x n at e = rw (← e, judged, ending)

  pub judged-walk : (room : ℕ) (w : Walked) → reached w ≡ course s a → in_room room w (report w) a ≡ judged s a room
  unfolding judged ending
  judged-walk room w e = rw (← e, judged, ending)

  -- the verdict, and the buffer that held `old`
  module _ (old : List ℕ) {v : Verdict} where
    judges : {after : List ℕ} {j : Judgement} → j ≡ judged s a (length old) → v ≡ j.verdict → after ≡ over j.bytes old
        → Judges s a old v after
    judges e h g = record { verdict-is = h ∙ ap (λ (j : Judgement). j.verdict) e; buffer-is = g ∙ ap (λ (j : Judgement). over j.bytes old) e }

    pub fault-judges : (x : Text) (n at : ℕ) → faulty x n at ≡ course s a → v ≡ (after_fault x n at (paper_text x s a)).verdict
        → Judges s a old v old
    unfolding after_fault over
    fault-judges x n at e h = judges (judged-fault (length old) x n at e) h refl

    pub walk-judges : {after : List ℕ} (w : Walked) → reached w ≡ course s a → v ≡ (in_room (length old) w (report w) a).verdict
        → after ≡ over (in_room (length old) w (report w) a).bytes old → Judges s a old v after
    walk-judges w e = judges (judged-walk (length old) w e)

  -- the place
  module _ (room : ℕ) {p : Place} where
    pub fault-places : (x : Text) (n at : ℕ) → faulty x n at ≡ course s a → p ≡ fault_place x n at (paper_text x s a) → Places s a room p
    unfolding after_fault
    fault-places x n at e h = record { place_is = h ∙ ap (λ (j : Judgement). j.place) (judged-fault room x n at e) }

    pub walk-places : (w : Walked) → reached w ≡ course s a → p ≡ (in_room room w (report w) a).place → Places s a room p
    walk-places w e h = record { place_is = h ∙ ap (λ (j : Judgement). j.place) (judged-walk room w e) }

-- no report needs more room than 8,192 bytes
place-smaller : (s : Paper) (a : List ℕ) (room : ℕ) → (judged s a (min room 8192)).place ≡ (judged s a room).place
unfolding judged ending in_room ReportsFit
place-smaller s a room = go (course s a) refl
  where
    same : (w : Walked) (r : List ℕ) → length r ≤ 8192 → (in_room (min room 8192) w r a).place ≡ (in_room room w r a).place
    same w r h = rw (leb-smaller (length r) room h, in_room)

    go : (z : Course Walked) → course s a ≡ z → (ending s a (min room 8192) z).place ≡ (ending s a room z).place
    go (faulty x n at) e = refl
    go (reached w) e = same w (report w) (reports-fit s a w e)

pub places-smaller : (s : Paper) (a : List ℕ) (room : ℕ) {n : ℕ} {p : Place} → p ≡ (judged s a n).place → n ≡ min room 8192 → Places s a room p
places-smaller s a room h e = record { place_is = h ∙ rw e (place-smaller s a room) }
