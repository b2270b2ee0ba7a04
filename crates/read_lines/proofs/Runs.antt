-- Lines and runs of lines one after the other, each by what its reader promised; and so many lines, as a loop reads them.
-- Assumes nothing.
use Prim.Native.Nat.{ℕ, zero, suc, ◌+◌, ◌-◌, ◌<◌, ◌≤◌, min}
use mathlib.Core.List.{List}
use mathlib.Core.Path.{◌≡◌, refl, sym, ap, ◌∙◌}
use native.Mathlib.Nat.{sub-zero, add-zero}
use native.Mathlib.Omega.{arith}
use lib.ListN.{length, drop, length-drop}
use Rattle.item_spec.specs.Reader.{Reader}
use Rattle.read_spec.specs.Lines.{Run, Lines, on, stop, run_on, hand_on, line, each}
use Rattle.read_items.specs.Reads.{past, fault, Reads}
use Rattle.read_lines.specs.Runs.{Came, onto, fault_at, RunsTo}
use Rattle.read_lines.proofs.Lines.{same_rest}

-- ---- a refusal at the place at; the value a, before the place at
pub stopped : {A : Type 0} {s : List ℕ} {k at : ℕ} {m : Run A} → at ≤ length s → m ≡ stop k (drop at s) → RunsTo s (fault_at k at) m
stopped h e = record { within = h; same = sym e }

pub went_on : {A : Type 0} {s : List ℕ} {a : A} {at : ℕ} {m : Run A} → at ≤ length s → m ≡ on a (drop at s) → RunsTo s (onto a at) m
went_on h e = record { within = h; same = sym e }

-- ---- one line m, read at the place start
module _ {A : Type 0} (m : Reader A) (s : List ℕ) (start : ℕ) where
  pub line_refused : {k at : ℕ} → at ≡ min start (length s) → Reads s (fault k) (m (drop start s)) → RunsTo s (fault_at k at) (line m (drop start s))
  line_refused e r = stopped (omega arith) (rw (sym r.same, same_rest s start _ e))

  pub line-read : {a : A} {n : ℕ} → Reads s (past a n) (m (drop start s)) → RunsTo s (onto a n) (line m (drop start s))
  line-read r = went_on r.within (rw (sym r.same))

-- ---- a run of lines m, then f: a refusal of m is that of both; after what m read, what f comes to
module _ {A B : Type 0} (m : Run A) (f : A → Lines B) {s : List ℕ} where
  pub run-refused : {k at : ℕ} → RunsTo s (fault_at k at) m → RunsTo s (fault_at k at) (run_on m f)
  run-refused r = stopped r.within (rw (sym r.same))

  pub run-then : {a : A} {at : ℕ} {c : Came B} → RunsTo s (onto a at) m → RunsTo s c (f a (drop at s)) → RunsTo s c (run_on m f)
  run-then r l = rw (sym r.same) l

-- a place of the text is told by how long the rest is
pub place_is : (s : List ℕ) (at : ℕ) → at ≤ length s → length s - length (drop at s) ≡ at
place_is s at h = rw (length-drop at s) (omega arith)

-- ---- n lines from the place start on, by a loop that counts them: i have been read, up to the place at, and gave a
pub record Upto {A : Type 0} (f : ℕ → A → Lines A) (n base : ℕ) (old : A) (s : List ℕ) (start i at : ℕ) (a : A) : Type 0 where
  pub within : at ≤ length s
  pub same : each f (n - i) (base + i) a (drop at s) ≡ each f n base old (drop start s)

one_left : (n i : ℕ) → i < n → n - i ≡ suc (n - (i + 1))
one_left n i h = omega arith

none_left : (n i : ℕ) → n ≤ i → n - i ≡ zero
none_left n i h = omega arith

one_on : (base i : ℕ) → suc (base + i) ≡ base + (i + 1)
one_on base i = omega arith

module _ {A : Type 0} (f : ℕ → A → Lines A) (n base : ℕ) (old : A) (s : List ℕ) (start : ℕ) where
  pub upto-start : (at : ℕ) → at ≡ min start (length s) → Upto f n base old s start 0 at old
  upto-start at e = record { within = omega arith; same = simp (sub-zero, add-zero) (ap (each f n base old) (same_rest s start at e)) }

  module _ {i at : ℕ} {a : A} (h : Upto f n base old s start i at a) where
    pub upto-end : n ≤ i → RunsTo s (onto a at) (each f n base old (drop start s))
    unfolding each
    upto-end l = went_on h.within (sym h.same ∙ rw (none_left n i l, each))

    module _ (l : i < n) (j : ℕ) (q : j ≡ base + i) where
      pub upto_turn : {to : ℕ} {b : A} → RunsTo s (onto b to) (f j a (drop at s)) → Upto f n base old s start (i + 1) to b
      unfolding each
      upto_turn r = record { within = r.within; same = sym (rw (one_left n i l, sym q, sym r.same, q, one_on base i, each)) ∙ h.same }

      pub upto-stop : {k to : ℕ} → RunsTo s (fault_at k to) (f j a (drop at s)) → RunsTo s (fault_at k to) (each f n base old (drop start s))
      unfolding each
      upto-stop r = stopped r.within (sym h.same ∙ rw (one_left n i l, sym q, sym r.same, each))

-- ---- runs one after the other: by what follows, from the left or from the right, and as many of them seen through h
pub next-same : {A B : Type 0} (x : Run A) (f g : A → Lines B) → ((a : A) (r : List ℕ) → f a r ≡ g a r) → run_on x f ≡ run_on x g
next-same (on a r) f g h = h a r
next-same (stop n r) f g h = refl

pub next-next : {A B C : Type 0} (x : Run A) (f : A → Lines B) (g : B → Lines C) → run_on (run_on x f) g ≡ run_on x (λ a r. run_on (f a r) g)
next-next (on a r) f g = refl
next-next (stop n r) f g = refl

module _ {A B : Type 0} (h : A → B) where
  pub run-seen : {s : List ℕ} {at : ℕ} {a : A} {m : Run A} → RunsTo s (onto a at) m → RunsTo s (onto (h a) at) (run_on m (λ x. hand_on (h x)))
  run-seen r = went_on r.within (rw (sym r.same))

  module _ (f : ℕ → A → Lines A) (g : ℕ → B → Lines B) (same : (j : ℕ) (a : A) (s : List ℕ) → g j (h a) s ≡ run_on (f j a s) (λ x. hand_on (h x))) where
    pub each_seen : (n j : ℕ) (a : A) (s : List ℕ) → each g n j (h a) s ≡ run_on (each f n j a s) (λ x. hand_on (h x))
    unfolding each
    each_seen zero j a s = refl
    each_seen (suc n) j a s =
        ap (λ (x : Run B). run_on x (λ b. each g n (suc j) b)) (same j a s)
        ∙ next-next (f j a s) _ _
        ∙ next-same (f j a s) _ _ (λ b r. each_seen n (suc j) b r)
        ∙ sym (next-next (f j a s) _ _)
