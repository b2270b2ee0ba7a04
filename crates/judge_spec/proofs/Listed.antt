-- The judge with the table and the judge with the list print the same, whatever the two texts are.
-- Assumes nothing.
use Prim.Native.Nat.{ℕ}
use mathlib.Core.List.{List}
use mathlib.Core.Path.{◌≡◌, refl, ap, ap₂}
use native.Mathlib.Omega.{arith}
use Rattle.model.specs.declared.Tables.{Tables}
use Rattle.model.specs.declared.Program.{Program}
use Rattle.model.specs.declared.Answer.{Answer}
use Rattle.model.specs.declared.Configuration.{Configuration}
use Rattle.model.specs.declared.Walked.{Walked}
use Rattle.model.specs.Empty.{start}
use Rattle.model.specs.View.{steps_of}
use Rattle.rules_spec.specs.Walk.{walk_from}
use Rattle.rules_spec.specs.Listed.{listed_start, ListedWalked, listed_walk}
use Rattle.rules_spec.proofs.Listed.{Beside, beside-start}
use Rattle.report_spec.specs.Report.{report}
use Rattle.report_spec.specs.Listed.{unlisted_walked, listed_report}
use Rattle.report_spec.proofs.Listed.{report-same}
use Rattle.start_spec.specs.Paper.{nothing, nothing_up}
use Rattle.judge_spec.specs.Course.{Course, faulty, reached, go_on, default_depth, all_under, course}
use Rattle.judge_spec.specs.Judged.{Judgement, step_place, after_walk, in_room, ending, judged, printing, printed}
use Rattle.judge_spec.specs.Listed.{listed_course, listed_ending, listed_judged, listed_printing, listed_printed, EachReportIsTheSame, EachJudgementIsTheSame}
use Rattle.judge_spec.proofs.Read.{Begun, empty, all-lawful}

in-room-same : (w : Walked) (v : ListedWalked) → Beside w v → (room : ℕ) (a : List ℕ) → in_room room (unlisted_walked v) (listed_report v) a ≡ in_room room w (report w) a
unfolding in_room after_walk step_place
in-room-same w v b room a = ap₂ (λ (u : ListedWalked) (r : List ℕ). in_room room (unlisted_walked u) r a) b.is (report-same w v b)

begun-nothing : {t : Tables} {p : Program} {x : Program × Configuration} → Begun default_depth t p nothing x → x.1 ≡ start
begun-nothing empty = refl

module _ (s a : List ℕ) where
  reached-same : (x : Tables × Program × Configuration × Answer) → all_under default_depth (nothing_up s) a ≡ reached x → (room : ℕ)
      → in_room room (unlisted_walked (listed_walk default_depth x.0 x.1 listed_start (steps_of x.3))) (listed_report (listed_walk default_depth x.0 x.1 listed_start (steps_of x.3))) a
      ≡ in_room room (walk_from default_depth x.0 x.1 x.2 x.3) (report (walk_from default_depth x.0 x.1 x.2 x.3)) a
  unfolding walk_from
  reached-same x e room =
      let (law, (_, b)) = all-lawful (nothing_up s) a x e in
      rw (begun-nothing b) (in-room-same _ _ (beside-start default_depth x.0 x.1 (steps_of x.3) (omega arith) law) room a)

  endings-same : (room : ℕ) (z : Course (Tables × Program × Configuration × Answer)) → all_under default_depth (nothing_up s) a ≡ z
      → listed_ending s a room (go_on z (λ (t, p, c, y). reached (listed_walk default_depth t p listed_start (steps_of y)))) ≡ ending (nothing_up s) a room (go_on z (λ (t, p, c, y). reached (walk_from default_depth t p c y)))
  unfolding listed_ending ending
  endings-same room (faulty x n at) e = refl
  endings-same room (reached x) e = reached-same x e room

  prints-same : (z : Course (Tables × Program × Configuration × Answer)) → all_under default_depth (nothing_up s) a ≡ z
      → listed_printing s a (go_on z (λ (t, p, c, y). reached (listed_walk default_depth t p listed_start (steps_of y)))) ≡ printing (nothing_up s) a (go_on z (λ (t, p, c, y). reached (walk_from default_depth t p c y)))
  unfolding listed_printing printing
  prints-same (faulty x n at) e = refl
  prints-same (reached x) e = ap (λ (j : Judgement). j.bytes) (reached-same x e 8192)

pub each-report-is-the-same : EachReportIsTheSame
unfolding EachReportIsTheSame listed_printed printed listed_course course
each-report-is-the-same s a = prints-same s a (all_under default_depth (nothing_up s) a) refl

pub each-judgement-is-the-same : EachJudgementIsTheSame
unfolding EachJudgementIsTheSame listed_judged judged listed_course course
each-judgement-is-the-same s a room = endings-same s a room (all_under default_depth (nothing_up s) a) refl
