-- Lines after what was read so far: a reading that stopped, one that goes on, the lines before them, and that no other answer fits.
-- Assumes nothing.
use Prim.Native.Nat.{ℕ}
use mathlib.Core.List.{List}
use mathlib.Core.Path.{◌≡◌, refl, sym, ap, ◌∙◌}
use lib.ListN.{drop}
use Rattle.item_spec.specs.Refusal.{number_of}
use Rattle.item_spec.specs.declared.Refusal.{Refusal}
use Rattle.read_items.proofs.Once.{refusal_by, refusal-back}
use Rattle.read_spec.specs.Lines.{Run, Lines, run_on, hand_on}
use Rattle.read_lines.specs.declared.LineFault.{LineFault}
use Rattle.read_lines.specs.Runs.{Came, onto, fault_at, came, RunsTo}
use Rattle.read_lines.proofs.Runs.{run-refused, run-then}
use Rattle.read_chain.specs.After.{no_value, one_number, Tells, ComesTo, After, SaidFor, OneWay, NoOtherAnswer, NoOtherAfter, NoOtherNumberAfter}
use Rattle.read_chain.proofs.Once.{same_came}
use Rattle.read_chain.proofs.Placed.{run-given}
use Rattle.std.specs.declared.result.Result.{Result}
use Rattle.std.specs.declared.result.Result.TheVariants.{Ok, Err}

-- ---- a reading either went on or stopped
pub not-both : {A E : Type 0} {x : A} {e : E} → Ok x ≡ Err e → ⊥
not-both q = absurd (cc)

module _ {A R T : Type 0} {says : ℕ → R → Type 0} {holds : T → A × ℕ} {s : List ℕ} where
  pub after-stopped : {f : Lines A} (e : LineFault R) → After says holds s (Err e) f (Err e)
  after-stopped e = record { went = λ at q. absurd (not-both (sym q)); stopped = λ d q. sym (let o : d ≡ e = cc in ap Err o) }

  pub after-went : {f : Lines A} (at : ℕ) {r : Result T (LineFault R)} → ComesTo says holds s r (f (drop at s)) → After says holds s (Ok at) f r
  after-went at h = record { went = λ to o. (let e : at ≡ to = cc in rw e at h); stopped = λ e o. absurd (not-both o) }

-- ---- a run m, answered by a beside the value b, then the lines f
module _ {A B R T : Type 0} {says : ℕ → R → Type 0} {holds : T → A × ℕ} {s : List ℕ} {m : Run B} (b : B) (f : B → Lines A) where
  pub run-after : (a : Result ℕ (LineFault R)) {r : Result T (LineFault R)} → ComesTo says (λ at. (b, at)) s a m → After says holds s a (f b) r
      → ComesTo says holds s r (run_on m f)
  run-after (Ok at) {r} h x =
      let y = x.went at refl in
      record { comes = y.comes; told = y.told; runs = run-then m f (rw h.told at h.runs) y.runs }
  run-after (Err e) {r} h x =
      rw (x.stopped e refl)
      (record { comes = fault_at h.told.0 e.at; told = (h.told.0, h.told.1, refl); runs = run-refused m f (rw h.told.2 at h.runs) })

-- ---- the readers' own answers
module _ {A T : Type 0} (holds : T → A × ℕ) where
  abbrev pub own : Result T (LineFault Refusal) → Came A
  own (Ok v) = onto (holds v).0 (holds v).1
  own (Err f) = fault_at (number_of f.refusal) f.at

own-line : (r : Result ℕ (LineFault Refusal)) → came r tt ≡ own no_value r
own-line (Ok at) = refl
own-line (Err f) = refl

-- said as it is
abbrev pub itself : Refusal → Refusal → Type 0
itself k x = x ≡ k

itself-number : {n : ℕ} {x : Refusal} → SaidFor itself n x → n ≡ number_of x
itself-number (k, e, g) = e ∙ ap number_of (sym g)

module _ {A T : Type 0} {holds : T → A × ℕ} {s : List ℕ} where
  pub own-says : {m : Run A} (r : Result T (LineFault Refusal)) → ComesTo (SaidFor itself) holds s r m → RunsTo s (own holds r) m
  own-says (Ok v) h = rw h.told at h.runs
  own-says (Err e) h =
      let n = itself-number h.told.1 in
      rw (sym n) (rw h.told.2 at h.runs)

-- ---- what was read so far, answered by a: b puts the lines that follow behind it
pub record Before {C : Type 0} (s : List ℕ) (a : Result ℕ (LineFault Refusal)) (b : Lines C → Run C) : Type 0 where
  pub on : (at : ℕ) → a ≡ Ok at → (k : Lines C) (c : Came C) → RunsTo s c (k (drop at s)) → RunsTo s c (b k)
  pub off : (e : LineFault Refusal) → a ≡ Err e → (k : Lines C) → RunsTo s (fault_at (number_of e.refusal) e.at) (b k)

module _ {C : Type 0} {s : List ℕ} where
  -- a line f after it, and what follows, g
  module _ {B T : Type 0} {holds : T → B × ℕ} {f : Lines B} (g : B → Lines C) {b : Lines C → Run C} where
    pub then-refused : (a : Result ℕ (LineFault Refusal)) {e : LineFault Refusal} → Before s a b → After (SaidFor itself) holds s a f (Err e)
        → RunsTo s (fault_at (number_of e.refusal) e.at) (b (λ t. run_on (f t) g))
    then-refused (Ok at) x y = x.on at refl _ _ (run-refused _ g (own-says _ (y.went at refl)))
    then-refused (Err d) {e} x y =
        let z = y.stopped d refl in
        let o : e ≡ d = cc in
        rw o (x.off d refl _)

    pub then-read : (a : Result ℕ (LineFault Refusal)) {v : T} {c : Came C} → Before s a b → After (SaidFor itself) holds s a f (Ok v)
        → RunsTo s c (g (holds v).0 (drop (holds v).1 s)) → RunsTo s c (b (λ t. run_on (f t) g))
    then-read (Ok at) x y l = x.on at refl _ _ (run-then _ g (own-says _ (y.went at refl)) l)
    then-read (Err d) x y l = absurd (not-both (y.stopped d refl))

  pub before-run : (a : Result ℕ (LineFault Refusal)) {m : Run (Unit {0})} → RunsTo s (came a tt) m → Before {C = C} s a (λ k. run_on m (λ _. k))
  before-run a x = record { on = λ at q k c l. run-then _ _ (rw q at x) l; off = λ e q k. run-refused _ _ (rw q at x) }

  -- with a line more of which no value is looked at
  pub before-line : (a : Result ℕ (LineFault Refusal)) {b : Lines C → Run C} {f : Lines (Unit {0})} {r : Result ℕ (LineFault Refusal)}
      → Before s a b → After (SaidFor itself) no_value s a f r → Before s r (λ k. b (λ t. run_on (f t) (λ _. k)))
  before-line a x y = record {
    on = λ at q k c l. then-read (λ _. k) a x (rw q at y) l;
    off = λ e q k. then-refused (λ _. k) a x (rw q at y);
  }

-- what is given of the value b of a run m is handed on past a line f
module _ {B D : Type 0} (give : B → D) (b : B) {s : List ℕ} where
  pub end-after : (a r : Result ℕ (LineFault Refusal)) {m : Run B} {f : Lines (Unit {0})} → RunsTo s (came a b) m → After (SaidFor itself) no_value s a f r
      → RunsTo s (came r (give b)) (run_on m (λ x t. run_on (f t) (λ _. hand_on (give x))))
  end-after (Ok at) r {m} h x = run-then m _ h (run-given (give b) r (rw (sym (own-line r)) at (own-says r (x.went at refl))))
  end-after (Err e) r {m} h x = rw (x.stopped e refl) (run-refused m _ h)

-- ---- where a refusal is said by its number, and a reading may have stopped with any number, an answer has the definition's
abbrev pub by_number : Refusal → ℕ → Type 0
by_number k n = n ≡ number_of k

abbrev pub the_number : ℕ → ℕ → Type 0
the_number n x = x ≡ n

module _ {A T : Type 0} where
  tells-number : (holds : T → A × ℕ) (r : Result T (LineFault ℕ)) (c : Came A) → Tells (SaidFor by_number) holds r c → Tells the_number holds r c
  tells-number holds (Ok v) c h = h
  tells-number holds (Err e) c (n, (k, q, g), o) = (n, g ∙ sym q, o)

  pub after-number : {holds : T → A × ℕ} {s : List ℕ} {a : Result ℕ (LineFault ℕ)} {f : Lines A} {r : Result T (LineFault ℕ)}
      → After (SaidFor by_number) holds s a f r → After the_number holds s a f r
  after-number {holds} {r = r} h = record {
    went = λ at e. (let y = h.went at e in record { comes = y.comes; told = tells-number holds r y.comes y.told; runs = y.runs });
    stopped = h.stopped;
  }

-- ---- no other answer fits
module _ {A R T : Type 0} (says : ℕ → R → Type 0) (one : OneWay says) (holds : T → A × ℕ)
    (apart : (v w : T) → (holds v).0 ≡ (holds w).0 → (holds v).1 ≡ (holds w).1 → v ≡ w) (s : List ℕ) where
  comes-once : (m : Run A) (r q : Result T (LineFault R)) → ComesTo says holds s r m → ComesTo says holds s q m → r ≡ q
  comes-once m r q h g = by r q h.told g.told (same_came s h.comes g.comes h.runs g.runs)
    where
      by : (r q : Result T (LineFault R)) {c d : Came A} → Tells says holds r c → Tells says holds q d → c ≡ d → r ≡ q
      by (Ok v) (Ok w) h g e =
          let z = sym h ∙ e ∙ g in
          let a : (holds v).0 ≡ (holds w).0 = cc in
          let b : (holds v).1 ≡ (holds w).1 = cc in
          ap Ok (apart v w a b)
      by (Ok v) (Err y) h (n, k, g) e = let z = sym h ∙ e ∙ g in absurd (cc)
      by (Err x) (Ok w) (n, k, h) g e = let z = sym h ∙ e ∙ g in absurd (cc)
      by (Err x) (Err y) (n, k, h) (l, j, g) e =
          let z = sym h ∙ e ∙ g in
          let o : n ≡ l = cc in
          let p : x.at ≡ y.at = cc in
          ap Err (λ i. record { refusal = one l x.refusal y.refusal (rw o at k) j i; at = p i })

  answered-once : (a : Result ℕ (LineFault R)) (f : Lines A) (r q : Result T (LineFault R)) → After says holds s a f r → After says holds s a f q → r ≡ q
  answered-once (Ok at) f r q h g = comes-once (f (drop at s)) r q (h.went at refl) (g.went at refl)
  answered-once (Err e) f r q h g = h.stopped e refl ∙ sym (g.stopped e refl)

no-value-apart : (v w : ℕ) → (no_value v).0 ≡ (no_value w).0 → (no_value v).1 ≡ (no_value w).1 → v ≡ w
no-value-apart v w a b = b

one-number-apart : (v w : ℕ × ℕ) → (one_number v).0 ≡ (one_number w).0 → (one_number v).1 ≡ (one_number w).1 → v ≡ w
one-number-apart (v, x) (w, y) a b = λ i. (a i, b i)

pub answer-once : NoOtherAnswer
unfolding NoOtherAnswer
answer-once A R T says one holds apart s m = comes-once says one holds apart s m

pub after-once : NoOtherAfter
unfolding NoOtherAfter
after-once R says one s = answered-once says one no_value no-value-apart s

pub number-after-once : NoOtherNumberAfter
unfolding NoOtherNumberAfter
number-after-once R says one s = answered-once says one one_number one-number-apart s

-- each in one way: a number itself, and a refusal itself or by its number
pub the-number-one-way : OneWay the_number
the-number-one-way n x y h g = h ∙ sym g

pub itself-one-way : OneWay (SaidFor itself)
itself-one-way n x y h g = sym (refusal-back x) ∙ ap refusal_by (sym (itself-number h) ∙ itself-number g) ∙ refusal-back y

pub by-number-one-way : OneWay (SaidFor by_number)
by-number-one-way n x y (k, e, h) (l, d, g) = h ∙ sym e ∙ d ∙ sym g
