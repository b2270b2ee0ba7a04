-- A row by its tests, and what the lines of a text of times come to.
-- Assumes nothing.
use Prim.Native.Nat.{ℕ, ◌+◌, ◌-◌, ◌<◌, ◌≤◌}
use mathlib.Core.List.{List}
use mathlib.Core.Bool.{true, false, not}
use mathlib.Core.Path.{◌≡◌, sym, ap, ◌∙◌}
use lib.ListN.{length, drop, length-drop}
use lib.Seq.{drop-drop}
use native.Mathlib.Nat.{zero-min}
use native.Mathlib.Omega.{arith}
use borrow.Author.Tests.{ltb-true}
use lib.Dec.{ltb, leb-suc-suc}
use Rattle.item_spec.specs.Refusal.{bad_clause, number_of}
use Rattle.item_spec.specs.declared.Refusal.{Refusal}
use Rattle.item_spec.specs.Reader.{Reply, Reader, bytes, read_on, ◌>>◌, give, check}
use Rattle.item_spec.specs.Read.{key}
use Rattle.item_spec.proofs.Tests.{by-test, and_left, and_right}
use Rattle.read_items.specs.Reads.{past, fault, Reads}
use Rattle.read_items.specs.declared.numbers.Four.{Four}
use Rattle.read_items.specs.declared.numbers.Limits.{Limits}
use Rattle.read_items.specs.declared.numbers.Limits.TheVariants as limits
use Rattle.read_items.specs.Within.{numbers_within}
use Rattle.read_items.proofs.Shapes.{bind-same}
use Rattle.read_items.proofs.Limits.{form-fault, form-then, limit-fault, limit-kept}
use Rattle.read_items.proofs.Within.{three-within, got-within}
use Rattle.read_spec.specs.Limits.{length_ok, id_ok, transition_ok}
use Rattle.read_spec.specs.Lines.{Lines, line_of, line}
use Rattle.read_spec.specs.Kinds.{count_line_in}
use Rattle.read_lines.specs.declared.LineFault.{LineFault}
use Rattle.read_lines.specs.Counts.{in_range}
use Rattle.read_lines.specs.Runs.{Came, onto, fault_at, RunsTo}
use Rattle.read_lines.proofs.Lines.{part, rest-is, count-to}
use Rattle.read_lines.proofs.Runs.{went_on, line_refused, line-read, run-refused, run-then, place_is}
use Rattle.read_chain.specs.Chain.{placed, short, shortly}
use Rattle.read_chain.proofs.Placed.{placed-ok, placed-err}
use Rattle.times_spec.specs.declared.Times.{Times}
use Rattle.times_spec.specs.Limits.{rows_ok, seconds_ok}
use Rattle.times_spec.specs.View.{is_listed, with_time}
use Rattle.times_spec.specs.Row.{time_line}
use Rattle.times_spec.specs.Text.{time, times}
use Rattle.read_times.specs.Says.{row_came}
use Rattle.read_times.specs.Times.{answered, refused_times, times_read}
use Rattle.std.specs.declared.result.Result.{Result}
use Rattle.std.specs.declared.result.Result.TheVariants.{Ok, Err}

-- ---- a row: its key, its three numbers within their limits, and whether the pair is listed
abbrev pub day_limits : Limits
day_limits = limits.Three 32 32 86401

listing : Times → Four → Reader (ℕ × ℕ × ℕ)
listing ts n = do
  check (not (is_listed ts n.first n.second)) bad_clause
  give (n.first, n.second, n.third)

line-is : (ts : Times) (s : List ℕ) → time_line ts s ≡ read_on (key (bytes "time=") s) (λ _ r. read_on (numbers_within 7 day_limits r) (listing ts))
unfolding time_line listing
line-is ts s =
    bind-same (key (bytes "time=") s) _ _ (λ u r.
    three-within 7 (listing ts) r 32 32 86401 id_ok transition_ok seconds_ok (λ a. leb-suc-suc a 31) (λ b. leb-suc-suc b 31) (λ c. leb-suc-suc c 86400))

module _ (s : List ℕ) (ts : Times) (j : ℕ) where
  -- what the line gives is what the row does
  line-fault : {k : ℕ} → Reads s (fault k) (time_line ts s) → RunsTo s (fault_at k 0) (time j ts s)
  unfolding time
  line-fault h = run-refused _ _ (line_refused (time_line ts) s 0 (sym (zero-min (length s))) h)

  pub no_key : {k : ℕ} → Reads s (fault k) (key (bytes "time=") s) → RunsTo s (fault_at k 0) (time j ts s)
  no_key h = line-fault (rw (line-is ts s) (form-fault _ _ h))

  module _ {i : ℕ} (d : Reads s (past tt i) (key (bytes "time=") s)) where
    pub no-numbers : {k : ℕ} → Reads s (fault k) (numbers_within 7 day_limits (drop i s)) → RunsTo s (fault_at k 0) (time j ts s)
    no-numbers h = line-fault (rw (line-is ts s) (form-then _ _ d (form-fault _ _ h)))

    module _ {n : Four} {to : ℕ} (h : Reads s (past n to) (numbers_within 7 day_limits (drop i s))) where
      pub listed-twice : is_listed ts n.first n.second ≡ true → RunsTo s (fault_at 4 0) (time j ts s)
      unfolding listing
      listed-twice e = line-fault (rw (line-is ts s) (form-then _ _ d (limit-fault _ _ h (rw e))))

      pub listed-now : {b : Times} → is_listed ts n.first n.second ≡ false → with_time ts n.first n.second n.third ≡ b → RunsTo s (onto b to) (time j ts s)
      unfolding time listing
      listed-now e q =
          let r : Reads s (past (n.first, n.second, n.third) to) (time_line ts s) = rw (line-is ts s) (form-then _ _ d (limit-kept _ _ h (rw e))) in
          run-then _ _ (line-read (time_line ts) s 0 r) (went_on h.within (rw q))

-- the id and the transition that were read, each below 32
pub pair-few : (s : List ℕ) (i : ℕ) {to : ℕ} {n : Four} → Reads s (past n to) (numbers_within 7 day_limits (drop i s)) → (n.first < 32) × (n.second < 32)
pair-few s i {n = n} h =
    let e = got-within 7 day_limits (drop i s) h in
    (ltb-true n.first 32 (and_left (ltb n.first 32) _ e), ltb-true n.second 32 (and_left (ltb n.second 32) _ (and_right (ltb n.first 32) _ e)))

-- ---- the row at the place at, by the answer r that was given to the part from there on
module _ {A : Type 0} (m : Lines A) (s : List ℕ) (at : ℕ) (l : at ≤ length s) where
  moved : {a : A} {n : ℕ} → RunsTo (part s at) (onto a n) (m (part s at)) → RunsTo s (onto a (at + n)) (m (drop at s))
  moved {a} {n} h =
      let r : RunsTo (drop at s) (onto a n) (m (drop at s)) = rw (rest-is at s) at h in
      record { within = omega (arith, rw (length-drop at s) at r.within); same = rw (drop-drop n at s) at r.same }

  stayed : {k : ℕ} → RunsTo (part s at) (fault_at k 0) (m (part s at)) → RunsTo s (fault_at k at) (m (drop at s))
  stayed {k} h =
      let r : RunsTo (drop at s) (fault_at k 0) (m (drop at s)) = rw (rest-is at s) at h in
      record { within = l; same = r.same }

module _ (s : List ℕ) (at : ℕ) (l : at ≤ length s) (ts : Times) (j : ℕ) (b : Times) (r : Result ℕ Refusal) (h : RunsTo (part s at) (row_came r b) (time j ts (part s at))) where
  pub row_read : {n : ℕ} → Ok n ≡ placed at r → RunsTo s (onto b (at + n)) (time j ts (drop at s))
  row_read e = moved (time j ts) s at l (rw (placed-ok at r e) at h)

  pub row-refused : {f : LineFault Refusal} → Err f ≡ placed at r → RunsTo s (fault_at (number_of f.refusal) f.at) (time j ts (drop at s))
  row-refused e = rw (placed-err at r e).1 (stayed (time j ts) s at l (rw (placed-err at r e).0 at h))

-- a count of rows has no least number
pub rows-counted : (s : List ℕ) (at : ℕ) {c : Came ℕ} → RunsTo s c (line (count_line_in 7 (bytes "rows=") (in_range 0 1024)) (drop at s))
    → RunsTo s c (line (count_line_in 7 (bytes "rows=") rows_ok) (drop at s))
rows-counted s at h =
    record { within = h.within; same = h.same ∙ sym (ap (λ (x : Reply ℕ). line_of x (drop at s)) (count-to 7 1024 (bytes "rows=") (drop at s))) }

-- ---- what the text comes to
module _ (s : List ℕ) where
  answered-shortly : answered s (shortly times s) ≡ times_read s
  unfolding shortly short times_read
  answered-shortly =
      by-test (length_ok (length s))
      (λ e. rw (e, short, times_read))
      (λ e. rw (e, short, times_read) (ap (λ (n : ℕ). refused_times 1 n) (let z : length s - length s ≡ 0 = omega arith in z)))

  pub times-got : {ts : Times} {at : ℕ} → RunsTo s (onto ts at) (shortly times s) → record { refused = 0; place = at; times = ts } ≡ times_read s
  times-got {ts} {at} h = rw (sym answered-shortly, sym h.same, place_is s at h.within)

  pub times-refused : {k at : ℕ} → RunsTo s (fault_at k at) (shortly times s) → refused_times k at ≡ times_read s
  times-refused {k} {at} h = rw (sym answered-shortly, sym h.same, place_is s at h.within)
