-- The three texts by their order: a fault in the sheet or the answer, in the times, or the walk and its mark.
-- Assumes nothing.
use Prim.Native.Nat.{ℕ, ◌≤◌, zero-le}
use mathlib.Core.List.{List}
use mathlib.Core.Path.{◌≡◌, refl, sym}
use mathlib.Core.Logic.{by_cases}
use native.Mathlib.Omega.{arith}
use native.Mathlib.Decide.{ℕ_discrete, dec_lt}
use borrow.Author.Tests.{le-leb, lt-leb}
use lib.ListN.{length}
use Rattle.model.specs.declared.Tables.{Tables}
use Rattle.model.specs.declared.Program.{Program}
use Rattle.model.specs.declared.Answer.{Answer}
use Rattle.model.specs.declared.Walked.{Walked}
use Rattle.model.specs.declared.Configuration.{Configuration}
use Rattle.start_spec.specs.Paper.{Beginning, given, Paper, start_bytes}
use Rattle.model.specs.declared.Text.{Text}
use Rattle.model.specs.declared.Text.TheVariants as text
use Rattle.read_spec.specs.Lines.{Run, on, stop}
use Rattle.rules_spec.specs.Walk.{walk_from}
use Rattle.judge_spec.specs.Course.{Course, faulty, reached, go_on, default_depth, all_under}
use Rattle.words.specs.Words.{state_in}
use Rattle.step_walk.specs.Reached.{walked}
use Rattle.judge_lib.specs.Room.{Short}
use Rattle.judge_lib.proofs.Order.{long, not-long, TextRead, went, stopped, Told, in-sheet, in_start, in-answer, walks, small-number, all_told}
use Rattle.times_spec.specs.declared.Times.{Times}
use Rattle.times_spec.specs.Text.{times}
use Rattle.times_spec.proofs.Read.{times-stop}
use Rattle.read_times.specs.declared.TimesRead.{TimesRead}
use Rattle.read_times.specs.Times.{answered, times_read}
use Rattle.timing_spec.specs.Clock.{clock_of}
use Rattle.timing_spec.specs.Mark.{mark_after}
use Rattle.timing_spec.specs.Timed.{clocked, timed_course}
use Rattle.timing_spec.proofs.Same.{all_read}
use Rattle.timing_clock.specs.declared.TimedWalk.{TimedWalk}
use Rattle.timing_lib.specs.Came.{marked_in}

-- ---- the times

times-read : (x : List ℕ) → length x ≤ 32768 → {r : TimesRead} → r ≡ times_read x → TextRead text.Times times x r.refused r.place r.times
unfolding times_read
times-read x h is = rw (is, le-leb (length x) 32768 h, times_read) (go (times x) refl)
  where
    go : (z : Run Times) → times x ≡ z → (let r = answered x z in TextRead text.Times times x r.refused r.place r.times)
    go (on v r) e = went text.Times times x e
    go (stop n r) e = stopped text.Times times x e (times-stop x n r e)

abbrev pub Marked : Tables → Program → Configuration → Answer → Times → Walked × ℕ
Marked t p c y ts = (walk_from default_depth t p c y, mark_after (walk_from default_depth t p c y).refused ts.par (clock_of default_depth t p c y ts))

-- what was read of the times, and the course that it comes to
pub record Clocks (t : Tables) (p : Program) (c : Configuration) (y : Answer) (x : List ℕ) (r : TimesRead) : Type 0 where
  pub within : r.place ≤ length x
  pub faults : (r.refused ≡ 0 → ⊥) → faulty text.Times r.refused r.place ≡ clocked t p c y x
  pub reaches : r.refused ≡ 0 → reached (Marked t p c y r.times) ≡ clocked t p c y x

pub clocks-told : (t : Tables) (p : Program) (c : Configuration) (y : Answer) (x : List ℕ) {r : TimesRead} → r ≡ times_read x → Clocks t p c y x r
unfolding clocked times_read
clocks-told t p c y x is =
    by_cases (dec_lt 32768 (length x))
    (λ h. rw (is, lt-leb (length x) 32768 h, times_read) (record { within = zero-le; faults = λ _. rw (long text.Times x h); reaches = λ z. absurd (omega (arith, z)) }))
    (λ h. let l : length x ≤ 32768 = omega arith in
    let read = times-read x l is in
    record {
      within = read.within;
      faults = λ f. rw (not-long text.Times x l, read.faults f);
      reaches = λ f. rw (not-long text.Times x l, read.reaches f);
    })

-- ---- after the sheet and the answer

module _ (s : Paper) (a x : List ℕ) where
  pub pair-fault : (k : Text) (n at : ℕ) → faulty k n at ≡ all_under default_depth s a → faulty k n at ≡ timed_course s a x
  unfolding timed_course
  pair-fault k n at e = rw (← e)

  pub pair-said : (t : Tables) (p : Program) (c : Configuration) (y : Answer) → reached (t, p, c, y) ≡ all_under default_depth s a → clocked t p c y x ≡ timed_course s a x
  unfolding timed_course
  pair-said t p c y e = rw (← e)

-- ---- what is known of a walk, and of a fault

-- its number is a byte, and its report has room with its mark
pub marked-short : (s : Paper) (a x : List ℕ) (w : TimedWalk) (ws : List ℕ) → reached (walked w.passed (state_in ws), w.mark) ≡ timed_course s a x → Short w.passed (marked_in w ws)
marked-short s a x w ws e =
    let read = all_read s a x _ _ (sym e) in
    record { few = read.1; small = small-number s a _ read.0 }

pub data TimedTold (s : List ℕ) (g : Beginning) (a x : List ℕ) : Course (Walked × ℕ) → Type 0 where
  sheet-fault : {n at : ℕ} → at ≤ length s → TimedTold s g a x (faulty text.Sheet n at)
  start-fault : {n at : ℕ} → given (start_bytes g) ≡ g → at ≤ length (start_bytes g) → TimedTold s g a x (faulty text.Start n at)
  answer-fault : {n at : ℕ} → at ≤ length a → TimedTold s g a x (faulty text.Answer n at)
  times-fault : {n at : ℕ} → at ≤ length x → TimedTold s g a x (faulty text.Times n at)
  clocked-walk : {w : Walked} {m : ℕ} → TimedTold s g a x (reached (w, m))

told-then : {s : List ℕ} {g : Beginning} {a x : List ℕ} {m : Course (Tables × Program × Configuration × Answer)} (f : Tables × Program × Configuration × Answer → Course (Walked × ℕ))
    → Told s g a m → ((z : Tables × Program × Configuration × Answer) → TimedTold s g a x (f z)) → TimedTold s g a x (go_on m f)
told-then f (in-sheet h) g = sheet-fault h
told-then f (in_start q h) g = start-fault q h
told-then f (in-answer h) g = answer-fault h
told-then f (walks {x}) g = g x

pub timed-told : (s : Paper) (a x : List ℕ) → TimedTold s.sheet s.beginning a x (timed_course s a x)
unfolding timed_course
timed-told s a x = told-then _ (all_told s a) after
  where
    after : (z : Tables × Program × Configuration × Answer) → TimedTold s.sheet s.beginning a x (clocked z.0 z.1 z.2 z.3 x)
    after z =
        let h = clocks-told z.0 z.1 z.2 z.3 x refl in
        by_cases (ℕ_discrete (times_read x).refused 0) (λ e. rw (← h.reaches e) clocked-walk) (λ e. rw (← h.faults e) (times-fault h.within))
