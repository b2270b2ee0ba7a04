-- What is proved of a written line and of a run of them, put together as readers are. `SaysLine m x n a`: m reads the text x, whatever comes after it,
-- as a where n is 0, and else refuses it with n. `Says`: the same of a run of lines.
-- Assumes nothing.
use Prim.Native.Nat.{ℕ, zero, suc, ◌+◌, ◌<◌, ◌≤◌}
use mathlib.Core.List.{List, [], ◌++◌, append_assoc, append-nil}
use mathlib.Core.Path.{◌≡◌, refl, sym, ap, ◌∙◌}
use mathlib.Core.Logic.{◌≢◌, by_cases}
use native.Mathlib.Omega.{arith}
use native.Mathlib.Decide.{ℕ_discrete}
use native.Mathlib.Nat.{add-zero, zero-add}
use Rattle.item_spec.specs.Write.{in_turn}
use Rattle.item_spec.specs.Reader.{got, refused, Reader}
use Rattle.read_spec.specs.Lines.{on, stop, Lines, run_on, line, line_of, each, at_end}
use Rattle.read_spec.specs.Lines.{hand_on}
use Rattle.rules_spec.specs.Refusal.{or_number}
use Rattle.write_spec.specs.Texts.{first_of}
use Rattle.write_spec.proofs.Turns.{in_turn_from, first_from, turn-from, first-from, or-zero, or_some}

-- ---- a line
pub record SaysLine {A : Type 0} (m : Reader A) (x : List ℕ) (n : ℕ) (a : A) : Type 0 where
  pub reads : n ≡ 0 → (s : List ℕ) → m (x ++ s) ≡ got a s
  pub refuses : n ≢ 0 → (s : List ℕ) → m (x ++ s) ≡ refused n

-- ---- a run of lines
pub record Says {A : Type 0} (m : Lines A) (x : List ℕ) (n : ℕ) (a : A) : Type 0 where
  pub goes : n ≡ 0 → (s : List ℕ) → m (x ++ s) ≡ on a s
  pub stops : n ≢ 0 → (s : List ℕ) → (r : List ℕ) × (m (x ++ s) ≡ stop n r)

pub says-line : {A : Type 0} (m : Reader A) {x : List ℕ} {n : ℕ} {a : A} → SaysLine m x n a → Says (line m) x n a
says-line m {x} h = record {
  goes = λ e s. ap (λ r. line_of r (x ++ s)) (h.reads e s);
  stops = λ e s. (x ++ s, ap (λ r. line_of r (x ++ s)) (h.refuses e s));
}

pub says-give : {A : Type 0} (a : A) → Says (hand_on a) [] 0 a
says-give a = record { goes = λ e s. refl; stops = λ e. absurd (e refl) }

module _ {A B : Type 0} (m : Lines A) (f : A → Lines B) (x y : List ℕ) (n k : ℕ) (a : A) (b : B) where
  pub says_then : Says m x n a → (n ≡ 0 → Says (f a) y k b) → Says (λ s. run_on (m s) f) (x ++ y) (or_number n k) b
  says_then h g = record {
    goes = λ e s. by_cases (ℕ_discrete n 0)
        (λ z. first s ∙ ap (λ r. run_on r f) (h.goes z (y ++ s)) ∙ (g z).goes (sym (or-zero n k z) ∙ e) s)
        (λ z. absurd (z (sym (or_some n k z) ∙ e)));
    stops = λ e s. by_cases (ℕ_discrete n 0)
        (λ z. let (r, q) = (g z).stops (λ w. e (or-zero n k z ∙ w)) s in (r, first s ∙ ap (λ r. run_on r f) (h.goes z (y ++ s)) ∙ q ∙ ap (λ (i : ℕ). stop i r) (sym (or-zero n k z))))
        (λ z. let (r, q) = h.stops z (y ++ s) in (r, first s ∙ ap (λ r. run_on r f) q ∙ ap (λ (i : ℕ). stop i r) (sym (or_some n k z))));
  }
    where
      first : (s : List ℕ) → run_on (m ((x ++ y) ++ s)) f ≡ run_on (m (x ++ (y ++ s))) f
      first s = ap (λ l. run_on (m l) f) (append_assoc x y s)

-- one line, and what is made of its value
pub says_map : {A B : Type 0} (m : Reader A) (g : A → B) {x : List ℕ} {n : ℕ} {a : A} {b : B} → g a ≡ b → SaysLine m x n a → Says (λ s. run_on (line m s) (λ a. hand_on (g a))) x n b
says_map m g {x} q h = record {
  goes = λ e s. ap (λ r. run_on (line_of r (x ++ s)) (λ a. hand_on (g a))) (h.reads e s) ∙ ap (λ b. on b s) q;
  stops = λ e s. (x ++ s, ap (λ r. run_on (line_of r (x ++ s)) (λ a. hand_on (g a))) (h.refuses e s));
}

-- a run of lines, and what is made of its value
pub says-made : {A B : Type 0} (m : Lines A) (g : A → B) {x : List ℕ} {n : ℕ} {a : A} {b : B} → g a ≡ b → Says m x n a → Says (λ s. run_on (m s) (λ a. hand_on (g a))) x n b
says-made m g q h = record {
  goes = λ e s. ap (λ r. run_on r (λ a. hand_on (g a))) (h.goes e s) ∙ ap (λ b. on b s) q;
  stops = λ e s. let (r, w) = h.stops e s in (r, ap (λ r. run_on r (λ a. hand_on (g a))) w);
}

-- ---- a text to its end
pub record Ends {A : Type 0} (m : Lines A) (x : List ℕ) (n : ℕ) (a : A) : Type 0 where
  pub goes : n ≡ 0 → m x ≡ on a []
  pub stops : n ≢ 0 → (r : List ℕ) × (m x ≡ stop n r)

module _ {A B : Type 0} (m : Lines A) (f : A → Lines B) (x y : List ℕ) (n k : ℕ) (a : A) (b : B) where
  pub ends-then : Says m x n a → (n ≡ 0 → Ends (f a) y k b) → Ends (λ s. run_on (m s) f) (x ++ y) (or_number n k) b
  ends-then h g = record {
    goes = λ e. by_cases (ℕ_discrete n 0)
        (λ z. ap (λ r. run_on r f) (h.goes z y) ∙ (g z).goes (sym (or-zero n k z) ∙ e))
        (λ z. absurd (z (sym (or_some n k z) ∙ e)));
    stops = λ e. by_cases (ℕ_discrete n 0)
        (λ z. let (r, q) = (g z).stops (λ w. e (or-zero n k z ∙ w)) in (r, ap (λ r. run_on r f) (h.goes z y) ∙ q ∙ ap (λ (i : ℕ). stop i r) (sym (or-zero n k z))))
        (λ z. let (r, q) = h.stops z y in (r, ap (λ r. run_on r f) q ∙ ap (λ (i : ℕ). stop i r) (sym (or_some n k z))));
  }

-- the last lines, and nothing after them
pub ends-here : {A B : Type 0} (m : Lines A) (g : A → B) {x : List ℕ} {n : ℕ} {a : A} → Says m x n a → Ends (λ s. run_on (m s) (λ a. λ s. run_on (at_end s) (λ _. hand_on (g a)))) x n (g a)
ends-here m g {x} h = record {
  goes = λ e. ap (λ l. run_on (m l) (λ a. λ s. run_on (at_end s) (λ _. hand_on (g a)))) (sym (append-nil x)) ∙ ap (λ r. run_on r (λ a. λ s. run_on (at_end s) (λ _. hand_on (g a)))) (h.goes e []);
  stops = λ e. let (r, w) = h.stops e [] in (r, ap (λ l. run_on (m l) (λ a. λ s. run_on (at_end s) (λ _. hand_on (g a)))) (sym (append-nil x)) ∙ ap (λ r. run_on r (λ a. λ s. run_on (at_end s) (λ _. hand_on (g a)))) w);
}

-- as many turns
module _ {A : Type 0} (f : ℕ → A → Lines A) (text : ℕ → List ℕ) (number : ℕ → ℕ) (value : ℕ → A) (lo hi : ℕ)
    (turn : (i : ℕ) → lo ≤ i → i < hi → Says (f i (value i)) (text i) (number i) (value (suc i))) where
  pub says-each : (n i : ℕ) → lo ≤ i → i + n ≡ hi → Says (each f n i (value i)) (in_turn_from text n i) (first_from number n i) (value hi)
  unfolding each in_turn_from first_from
  says-each zero i l e = let q : i ≡ hi = sym (add-zero i) ∙ e in rw (← q) (says-give (value i))
  says-each (suc n) i l e =
      says_then (f i (value i)) (λ b. each f n (suc i) b) (text i) (in_turn_from text n (suc i)) (number i) (first_from number n (suc i)) (value (suc i)) (value hi)
      (turn i l (omega arith)) (λ _. says-each n (suc i) (omega arith) (omega arith))

  -- from lo on, where the first value is known by another name
  pub says-rows : (n : ℕ) (a : A) → value lo ≡ a → lo + n ≡ hi → Says (each f n lo a) (in_turn (λ x. text (lo + x)) n) (first_of (λ x. number (lo + x)) n) (value hi)
  says-rows n a q e =
      rw (← q, turn-from lo (λ x. text (lo + x)) text (λ x. refl) n, first-from lo (λ x. number (lo + x)) number (λ x. refl) n)
      (says-each n lo (omega arith) e)

-- from the first slot on
module _ {A : Type 0} (f : ℕ → A → Lines A) (text : ℕ → List ℕ) (number : ℕ → ℕ) (value : ℕ → A) (n : ℕ)
    (turn : (i : ℕ) → i < n → Says (f i (value i)) (text i) (number i) (value (suc i))) where
  pub says_all : (a : A) → value 0 ≡ a → Says (each f n 0 a) (in_turn text n) (first_of number n) (value n)
  says_all a q =
      rw (← q, turn-from 0 text text (λ x. ap text (sym (zero-add x))) n, first-from 0 number number (λ x. ap number (sym (zero-add x))) n)
      (says-each f text number value 0 n (λ i l h. turn i h) n 0 (omega arith) (zero-add n))
