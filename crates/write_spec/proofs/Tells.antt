-- What is proved of lines that stop a reader at the first faulty one, put together as readers are: `Says` of lists of lines, with the place of the stop.
-- Assumes nothing.
use Prim.Native.Nat.{ℕ, zero, suc, ◌+◌, ◌<◌, ◌≤◌}
use mathlib.Core.List.{List, [], ◌∷◌, ◌++◌, append_assoc, append-nil}
use mathlib.Core.Bool.{Bool, true}
use mathlib.Core.Logic.{◌≢◌, by_cases}
use mathlib.Core.Path.{◌≡◌, refl, sym, ap, ap₂, subst, ◌∙◌}
use native.Mathlib.Omega.{arith}
use native.Mathlib.Decide.{ℕ_discrete}
use native.Mathlib.Nat.{add-zero, zero-add}
use borrow.Author.Tests.{eq-eqb, ne_eqb}
use Rattle.item_spec.specs.Reader.{Reader}
use Rattle.item_spec.specs.Write.{in_turn}
use Rattle.read_spec.specs.Lines.{on, stop, Lines, run_on, line, line_of, each, hand_on, at_end}
use Rattle.read_spec.specs.Kinds.{due_line, count_line}
use Rattle.rules_spec.specs.Refusal.{or_number}
use Rattle.write_spec.specs.Texts.{first_of}
use Rattle.write_spec.specs.Round.{Digits, Scribed}
use Rattle.write_spec.specs.Stops.{Row, text_of, fault_of, rows_from, Stopped, from_first, HeadHeld, due_row, count_row, StopsAtTheFirst}
use Rattle.write_spec.proofs.Turns.{in_turn_from, first_from, turn-from, first-from, or-zero, or-both, or_assoc, or-none, limit-met}
use Rattle.write_spec.proofs.Says.{SaysLine}
use Rattle.write_spec.proofs.Written.{says-due, says-count}

-- ---- lists of lines
pub text-append : (xs ys : List Row) → text_of (xs ++ ys) ≡ text_of xs ++ text_of ys
unfolding text_of
text-append [] ys = refl
text-append (x ∷ xs) ys = ap (λ (l : List ℕ). x.text ++ l) (text-append xs ys) ∙ sym (append_assoc x.text (text_of xs) (text_of ys))

pub fault-append : (xs ys : List Row) → fault_of (xs ++ ys) ≡ or_number (fault_of xs) (fault_of ys)
unfolding fault_of
fault-append [] ys = refl
fault-append (x ∷ xs) ys = ap (λ (n : ℕ). or_number x.fault n) (fault-append xs ys) ∙ or_assoc x.fault (fault_of xs) (fault_of ys)

text-from : (f : ℕ → List Row) (g : ℕ → List ℕ) → ((i : ℕ) → text_of (f i) ≡ g i) → (n i : ℕ) → text_of (rows_from f n i) ≡ in_turn_from g n i
unfolding text_of rows_from in_turn_from
text-from f g e zero i = refl
text-from f g e (suc n) i = text-append (f i) (rows_from f n (suc i)) ∙ ap₂ ◌++◌ (e i) (text-from f g e n (suc i))

fault-from : (f : ℕ → List Row) (g : ℕ → ℕ) → ((i : ℕ) → fault_of (f i) ≡ g i) → (n i : ℕ) → fault_of (rows_from f n i) ≡ first_from g n i
unfolding fault_of rows_from first_from
fault-from f g e zero i = refl
fault-from f g e (suc n) i = fault-append (f i) (rows_from f n (suc i)) ∙ ap₂ (λ (a b : ℕ). or_number a b) (e i) (fault-from f g e n (suc i))

-- as they are written in turn
module _ (rows : ℕ → List Row) (lo : ℕ) where
  pub text-turns : (f : ℕ → List ℕ) → ((x : ℕ) → f x ≡ text_of (rows (lo + x))) → (n : ℕ) → text_of (rows_from rows n lo) ≡ in_turn f n
  text-turns f e n = text-from rows (λ j. text_of (rows j)) (λ j. refl) n lo ∙ sym (turn-from lo f (λ j. text_of (rows j)) e n)

  pub fault-turns : (f : ℕ → ℕ) → ((x : ℕ) → f x ≡ fault_of (rows (lo + x))) → (n : ℕ) → fault_of (rows_from rows n lo) ≡ first_of f n
  fault-turns f e n = fault-from rows (λ j. fault_of (rows j)) (λ j. refl) n lo ∙ sym (first-from lo f (λ j. fault_of (rows j)) e n)

-- one line to a turn
module _ (row : ℕ → Row) (n : ℕ) where
  pub text-rows : (lo : ℕ) → text_of (rows_from (λ j. row j ∷ []) n lo) ≡ in_turn (λ x. (row (lo + x)).text) n
  unfolding text_of
  text-rows lo = text-turns (λ j. row j ∷ []) lo (λ x. (row (lo + x)).text) (λ x. sym (append-nil (row (lo + x)).text)) n

  pub fault-rows : (lo : ℕ) → fault_of (rows_from (λ j. row j ∷ []) n lo) ≡ first_of (λ x. (row (lo + x)).fault) n
  unfolding fault_of
  fault-rows lo = fault-turns (λ j. row j ∷ []) lo (λ x. (row (lo + x)).fault) (λ x. sym (or-none (row (lo + x)).fault)) n

  -- from the first slot on
  pub text-all : text_of (rows_from (λ j. row j ∷ []) n 0) ≡ in_turn (λ j. (row j).text) n
  unfolding text_of
  text-all = text-turns (λ j. row j ∷ []) 0 (λ j. (row j).text) (λ x. sym (append-nil (row x).text) ∙ ap (λ (j : ℕ). text_of (row j ∷ [])) (sym (zero-add x))) n

  pub fault-all : fault_of (rows_from (λ j. row j ∷ []) n 0) ≡ first_of (λ j. (row j).fault) n
  unfolding fault_of
  fault-all = fault-turns (λ j. row j ∷ []) 0 (λ j. (row j).fault) (λ x. sym (or-none (row x).fault) ∙ ap (λ (j : ℕ). fault_of (row j ∷ [])) (sym (zero-add x))) n

pub one_none : (x : Row) → fault_of (x ∷ []) ≡ 0 → x.fault ≡ 0
unfolding fault_of
one_none x e = (or-both x.fault 0 e).0

-- ---- where a reader stops
-- a reader that is another one after these bytes
stopped-after : {A : Type 0} (m o : Lines A) (b : List ℕ) → ((s : List ℕ) → m (b ++ s) ≡ o s) → (ys : List Row) (c : List ℕ) → Stopped o c ys → Stopped m (b ++ c) ys
unfolding Stopped
stopped-after m o b same [] c h = tt
stopped-after m o b same (y ∷ ys) c h = (
  λ n d s. ap m (append_assoc b c (y.text ++ s)) ∙ same (c ++ (y.text ++ s)) ∙ h.0 n d s,
  λ z. subst (λ (l : List ℕ). Stopped m l ys) (sym (append_assoc b c y.text)) (stopped-after m o b same ys (c ++ y.text) (h.1 z)),
)

-- the whole of such lines
there : {A : Type 0} (m : Lines A) (xs : List Row) (c : List ℕ) → Stopped m c xs → fault_of xs ≢ 0 → HeadHeld (from_first xs) → m (c ++ text_of xs) ≡ stop (fault_of xs) (text_of (from_first xs))
unfolding Stopped fault_of text_of from_first
there m [] c h n d = absurd (n refl)
there m (x ∷ xs) c h n d =
    by_cases (ℕ_discrete x.fault 0)
    (λ z. let q = eq-eqb x.fault 0 z in
    let rest : m ((c ++ x.text) ++ text_of xs) ≡ stop (fault_of xs) (text_of (from_first xs)) = there m xs (c ++ x.text) (h.1 z) (λ e. n (or-zero x.fault (fault_of xs) z ∙ e)) (rw q at d) in
    rw q (sym (ap m (append_assoc c x.text (text_of xs))) ∙ rest))
    (λ z. let q = ne_eqb x.fault 0 z in rw q (h.0 z (rw q at d) (text_of xs)))

-- a text of such lines
pub stopped-all : {A : Type 0} (w : Scribed A) (rows : A → List Row) → ((a : A) → text_of (rows a) ≡ w.text a) → ((a : A) → fault_of (rows a) ≡ w.fault a)
    → ((a : A) → Stopped w.reads [] (rows a)) → StopsAtTheFirst w rows
stopped-all w rows texts faults stops = record {
  are-the-text = texts;
  have-its-fault = faults;
  stops-there = λ a n d. ap w.reads (sym (texts a)) ∙ there w.reads (rows a) [] (stops a) (λ e. n (sym (faults a) ∙ e)) d ∙ ap (λ (i : ℕ). stop i (text_of (from_first (rows a)))) (faults a);
  stops = stops;
}

-- what goes on where m does stops where m stops
stopped-first : {A B : Type 0} (m : Lines A) (f : A → Lines B) (ys xs : List Row) (c : List ℕ) → Stopped m c xs
    → (fault_of xs ≡ 0 → Stopped (λ s. run_on (m s) f) (c ++ text_of xs) ys) → Stopped (λ s. run_on (m s) f) c (xs ++ ys)
unfolding Stopped fault_of text_of
stopped-first m f ys [] c h g = subst (λ (l : List ℕ). Stopped (λ s. run_on (m s) f) l ys) (append-nil c) (g refl)
stopped-first m f ys (x ∷ xs) c h g = (
  λ n d s. ap (λ r. run_on r f) (h.0 n d s),
  λ z. stopped-first m f ys xs (c ++ x.text) (h.1 z)
      (λ e. subst (λ (l : List ℕ). Stopped (λ s. run_on (m s) f) l ys) (sym (append_assoc c x.text (text_of xs))) (g (or-zero x.fault (fault_of xs) z ∙ e))),
)

-- ---- runs of lines
pub record Tells {A : Type 0} (m : Lines A) (xs : List Row) (a : A) : Type 0 where
  pub goes : fault_of xs ≡ 0 → (s : List ℕ) → m (text_of xs ++ s) ≡ on a s
  pub stops : Stopped m [] xs

pub tells-line : {A : Type 0} (m : Reader A) (x : Row) (a : A) → (x.fault ≡ 0 → x.Held) → (x.Held → SaysLine m x.text x.fault a) → Tells (line m) (x ∷ []) a
unfolding Stopped fault_of text_of
tells-line m x a few h = record {
  goes = λ e s. let z = (or-both x.fault 0 e).0 in ap (line m) (append_assoc x.text [] s) ∙ ap (λ r. line_of r (x.text ++ s)) ((h (few z)).reads z s);
  stops = (λ n d s. ap (λ r. line_of r (x.text ++ s)) ((h d).refuses n s), λ _. tt);
}

pub tells-due : (k : List ℕ) (n : ℕ) → Digits n → Tells (line (due_line k n)) (due_row k n ∷ []) tt
tells-due k n h = tells-line (due_line k n) (due_row k n) tt (λ _. h) (says-due k n)

pub tells-count : (k : List ℕ) (limit : ℕ → Bool) (n : ℕ) → (limit n ≡ true → Digits n) → Tells (line (count_line k limit)) (count_row k limit n ∷ []) n
tells-count k limit n few = tells-line (count_line k limit) (count_row k limit n) n (λ e. few (limit-met (limit n) e)) (says-count k limit n)

pub tells-give : {A : Type 0} (a : A) → Tells (hand_on a) [] a
unfolding Stopped fault_of text_of
tells-give a = record { goes = λ e s. refl; stops = tt }

module _ {A B : Type 0} (m : Lines A) (f : A → Lines B) (xs ys : List Row) (a : A) where
  pub stops_then : Tells m xs a → (fault_of xs ≡ 0 → Stopped (f a) [] ys) → Stopped (λ s. run_on (m s) f) [] (xs ++ ys)
  stops_then h g =
      stopped-first m f ys xs [] h.stops
      (λ z. subst (λ (l : List ℕ). Stopped (λ s. run_on (m s) f) l ys) (append-nil (text_of xs))
      (stopped-after (λ s. run_on (m s) f) (f a) (text_of xs) (λ s. ap (λ r. run_on r f) (h.goes z s)) ys [] (g z)))

  pub tells-then : (b : B) → Tells m xs a → (fault_of xs ≡ 0 → Tells (f a) ys b) → Tells (λ s. run_on (m s) f) (xs ++ ys) b
  tells-then b h g = record {
    goes = λ e s. let (z, w) = or-both (fault_of xs) (fault_of ys) (sym (fault-append xs ys) ∙ e) in
        ap (λ l. run_on (m l) f) (ap (λ (l : List ℕ). l ++ s) (text-append xs ys) ∙ append_assoc (text_of xs) (text_of ys) s)
        ∙ ap (λ r. run_on r f) (h.goes z (text_of ys ++ s)) ∙ (g z).goes w s;
    stops = stops_then h (λ z. (g z).stops);
  }

-- one line, and what is made of its value
pub tells-map : {A B : Type 0} (m : Reader A) (g : A → B) (x : Row) (a : A) {b : B} → g a ≡ b → (x.fault ≡ 0 → x.Held) → (x.Held → SaysLine m x.text x.fault a)
    → Tells (λ s. run_on (line m s) (λ a. hand_on (g a))) (x ∷ []) b
tells-map m g x a q few h = rw (← q) (tells-then (line m) (λ a. hand_on (g a)) (x ∷ []) [] a (g a) (tells-line m x a few h) (λ _. tells-give (g a)))

-- a run of lines, and what is made of its value
pub tells-made : {A B : Type 0} (m : Lines A) (g : A → B) (xs : List Row) (a : A) {b : B} → g a ≡ b → Tells m xs a → Tells (λ s. run_on (m s) (λ a. hand_on (g a))) xs b
tells-made m g xs a q h =
    rw (← q) (subst (λ (l : List Row). Tells (λ s. run_on (m s) (λ a. hand_on (g a))) l (g a)) (append-nil xs)
    (tells-then m (λ a. hand_on (g a)) xs [] a (g a) h (λ _. tells-give (g a))))

-- as many turns
module _ {A : Type 0} (f : ℕ → A → Lines A) (rows : ℕ → List Row) (value : ℕ → A) (lo hi : ℕ)
    (turn : (i : ℕ) → lo ≤ i → i < hi → Tells (f i (value i)) (rows i) (value (suc i))) where
  tells-each : (n i : ℕ) → lo ≤ i → i + n ≡ hi → Tells (each f n i (value i)) (rows_from rows n i) (value hi)
  unfolding each rows_from
  tells-each zero i l e = let q : i ≡ hi = sym (add-zero i) ∙ e in rw (← q) (tells-give (value i))
  tells-each (suc n) i l e =
      tells-then (f i (value i)) (λ b. each f n (suc i) b) (rows i) (rows_from rows n (suc i)) (value (suc i)) (value hi)
      (turn i l (omega arith)) (λ _. tells-each n (suc i) (omega arith) (omega arith))

  -- from lo on, where the first value is known by another name
  pub tells-rows : (n : ℕ) (a : A) → value lo ≡ a → lo + n ≡ hi → Tells (each f n lo a) (rows_from rows n lo) (value hi)
  tells-rows n a q e = rw (← q) (tells-each n lo (omega arith) e)

-- the last lines of a text
pub stops-last : {A B : Type 0} (m : Lines A) (g : A → B) (xs : List Row) (a : A) → Tells m xs a → Stopped (λ s. run_on (m s) (λ a. λ s. run_on (at_end s) (λ _. hand_on (g a)))) [] xs
unfolding Stopped
stops-last m g xs a h =
    subst (λ (l : List Row). Stopped (λ s. run_on (m s) (λ a. λ s. run_on (at_end s) (λ _. hand_on (g a)))) [] l) (append-nil xs)
    (stops_then m (λ a. λ s. run_on (at_end s) (λ _. hand_on (g a))) xs [] a h (λ _. tt))
