-- Every kind of line as it is written is read as what it says, or refused with its number.
-- Assumes nothing.
use Prim.Native.Nat.{ℕ, ◌^◌, ◌<◌, ◌≤◌}
use mathlib.Core.List.{List, [], ◌∷◌, ◌++◌, append_assoc}
use mathlib.Core.Bool.{Bool, true, false, not, ◌&&◌}
use mathlib.Core.Path.{◌≡◌, refl, sym, ap, ◌∙◌}
use mathlib.Core.Logic.{by_cases}
use native.Mathlib.Omega.{arith}
use native.Mathlib.Decide.{dec_lt, ℕ_discrete}
use native.Mathlib.Nat.{le_refl, lt_of_lt_of_le}
use lib.Pow.{pow_mono}
use lib.Dec.{eqb}
use borrow.Author.Tests.{eqb-true, eqb-false, le-leb, lt-leb, lt-ltb, le-ltb, ne_eqb, eq-eqb}
use Rattle.item_spec.specs.Reader.{got, refused, Reader, read_on, byte, bytes, give, check}
use Rattle.item_spec.specs.Read.{key, given, upon, one_form, two_form, list_form}
use Rattle.item_spec.specs.Write.{mask_text, one_text, two_text}
use Rattle.item_spec.proofs.Tests.{by-test}
use Rattle.item_spec.proofs.Round.{key-round, one-round, two-round, set-round, sets-round, mask-round, lf, set_of, top_of, top_within, top-none}
use Rattle.item_spec.proofs.Back.{list_back}
use Rattle.read_spec.specs.Limits.{five_digits, list_ok, mask_ok, end_ok, ends_ok, initial_ok, use_ok, edition_ok}
use Rattle.read_spec.specs.Kinds.{edition_line, due_line, count_line_in, count_line, initial_line, tran_line, behavior_line, group, port_line}
use Rattle.rules_spec.specs.Refusal.{◌⇒◌∣◌}
use Rattle.report_spec.specs.Report.{count_text}
use Rattle.write_spec.specs.Kinds.{limit_fault, edition_fault, initial_text, initial_fault, tran_text, tran_fault, behavior_text, behavior_fault, port_line_text, port_fault, set_text, sets_text}
use Rattle.write_spec.specs.Round.{Digits, Mask}
use Rattle.write_spec.proofs.Says.{SaysLine}

-- ---- a key, a shape, and what is asked of its value
module _ {B A : Type 0} (k : List ℕ) (shape : Reader B) (y : List ℕ) (v : B) (f : B → Reader A) (n : ℕ) (a : A) where
  says-form : ((s : List ℕ) → shape (y ++ s) ≡ got v s) → SaysLine (f v) [] n a → SaysLine (λ s. read_on (key k s) (λ _. λ s. read_on (shape s) f)) (k ++ y) n a
  says-form h g = record { reads = λ e s. first s ∙ g.reads e s; refuses = λ e s. first s ∙ g.refuses e s }
    where
      first : (s : List ℕ) → read_on (key k ((k ++ y) ++ s)) (λ _. λ s. read_on (shape s) f) ≡ f v s
      first s = rw (append_assoc k y s, key-round k (y ++ s)) (ap (λ r. read_on r f) (h s))

-- a row of limits, and of clauses of 4
pub says-limit : {A : Type 0} (p : Bool) (a : A) → SaysLine (λ s. read_on (check p 3 s) (λ _. give a)) [] (limit_fault p) a
says-limit true a = record { reads = λ e s. refl; refuses = λ e s. absurd (e refl) }
says-limit false a = record { reads = λ e s. absurd (omega arith); refuses = λ e s. refl }

says-clause : {A : Type 0} (p q : Bool) (a : A) → SaysLine (λ s. read_on (check p 3 s) (λ _. λ s. read_on (check q 4 s) (λ _. give a))) [] (not p ⇒ 3 ∣ not q ⇒ 4 ∣ 0) a
says-clause true true a = record { reads = λ e s. refl; refuses = λ e s. absurd (e refl) }
says-clause true false a = record { reads = λ e s. absurd (omega arith); refuses = λ e s. refl }
says-clause false q a = record { reads = λ e s. absurd (omega arith); refuses = λ e s. refl }

-- ---- the kinds of lines
pub five : 1 ≤ five_digits
five = omega arith

pub seven : five_digits ≤ 7
seven = omega arith

pub says-due : (k : List ℕ) (n : ℕ) → Digits n → SaysLine (due_line k n) (count_text k n) 0 tt
unfolding due_line count_text
says-due k n h = says-form k (one_form five_digits) (one_text n) n _ 0 tt (one-round five_digits five seven n h) (by-test (eqb n n) (λ e. rw e (record { reads = λ z s. refl; refuses = λ z s. absurd (z refl) })) (λ e. absurd (eqb-false n n e refl)))

pub says-edition : (n : ℕ) → Digits n → SaysLine edition_line (count_text (bytes "sheet=") n) (edition_fault n) n
unfolding edition_line count_text edition_fault
says-edition n h = says-form (bytes "sheet=") (one_form five_digits) (one_text n) n _ _ n (one-round five_digits five seven n h) (go (edition_ok n))
  where
    go : (p : Bool) → SaysLine (λ s. read_on (check p 2 s) (λ _. give n)) [] (not p ⇒ 2 ∣ 0) n
    go true = record { reads = λ e s. refl; refuses = λ e s. absurd (e refl) }
    go false = record { reads = λ e s. absurd (omega arith); refuses = λ e s. refl }

pub says-count : (k : List ℕ) (limit : ℕ → Bool) (n : ℕ) → Digits n → SaysLine (count_line k limit) (count_text k n) (limit_fault (limit n)) n
unfolding count_line_in count_text
says-count k limit n h = says-form k (one_form five_digits) (one_text n) n _ _ n (one-round five_digits five seven n h) (says-limit (limit n) n)

pub says-tran : (n : ℕ) (y : ℕ × ℕ) → Digits y.0 → Digits y.1 → SaysLine (tran_line n) (tran_text y) (tran_fault n y) y
unfolding tran_line tran_text tran_fault
says-tran n y h g =
    says-form (bytes "tran=") (two_form five_digits) (two_text y.0 y.1) y _ _ y (two-round five_digits five seven y.0 y.1 h g) (says-clause (end_ok n y.0 && end_ok n y.1) (ends_ok y.0 y.1) y)

-- a mask's limit is its list's: it lies below its top, and its top within every bound of it
top_above : (m : ℕ) → Mask m → m < 2 ^ top_of m
top_above m h = (list_back five_digits seven (byte "\n") (mask_text m ++ (byte "\n" ∷ [])) (mask-round five_digits five seven lf m h []) (top_within 32 m (le_refl 32) h)).1.within

mask-limit : (n m : ℕ) → n ≤ 32 → Mask m → list_ok n (top_of m) ≡ mask_ok n m
mask-limit n m l h =
    by_cases (dec_lt m (2 ^ n)) (λ b. le-leb (top_of m) n (top_within n m l b) ∙ sym (lt-ltb m (2 ^ n) b))
    (λ b. lt-leb (top_of m) n (by_cases (dec_lt n (top_of m)) (λ x. x) (λ x. absurd (b (lt_of_lt_of_le (top_above m h) (pow_mono (le_of_not_lt x)))))) ∙ sym (le-ltb m (2 ^ n) (le_of_not_lt b)))
  where
    le_of_not_lt : {a b : ℕ} → (a < b → ⊥) → b ≤ a
    le_of_not_lt f = omega arith

mask-none : (m : ℕ) → Mask m → initial_ok (top_of m) ≡ initial_ok m
mask-none m h =
    by_cases (ℕ_discrete m 0) (λ e. ap not (eq-eqb (top_of m) 0 (omega (arith, top_within 0 m (omega arith) (omega arith))) ∙ sym (eq-eqb m 0 e))) (λ e. ap not (ne_eqb (top_of m) 0 (λ q. e (top-none m h q)) ∙ sym (ne_eqb m 0 e)))

pub says-initial : (n m : ℕ) → n ≤ 32 → Mask m → SaysLine (initial_line n) (initial_text m) (initial_fault n m) m
unfolding initial_line initial_text initial_fault
says-initial n m l h =
    rw (← mask-limit n m l h, ← mask-none m h)
    (says-form (bytes "initial=") (list_form five_digits) (set_text m) (set_of m) _ _ m (set-round five_digits five seven m h) (says-clause (list_ok n (top_of m)) (initial_ok (top_of m)) m))

pub says-behavior : (k m : ℕ) → k ≤ 32 → Mask m → SaysLine (behavior_line k) (behavior_text m) (behavior_fault k m) m
unfolding behavior_line behavior_text behavior_fault
says-behavior k m l h =
    rw (← mask-limit k m l h) (says-form (bytes "behavior=") (list_form five_digits) (set_text m) (set_of m) _ _ m (set-round five_digits five seven m h) (says-limit (list_ok k (top_of m)) m))

-- a port's group, and what comes after it
module _ {A : Type 0} (n k a b : ℕ) (f : ℕ × ℕ → Reader A) (i : ℕ) (x : A) where
  says-group : n ≤ 32 → k ≤ 32 → Mask a → Mask b → SaysLine (f (a, b)) [] i x
      → SaysLine (λ s. read_on (group n k s) f) (sets_text a b) (not (mask_ok n a && mask_ok k b) ⇒ 3 ∣ i) x
  unfolding group
  says-group ln lk ha hb g =
      rw (← mask-limit n a ln ha, ← mask-limit k b lk hb)
      (after (list_ok n (top_of a) && list_ok k (top_of b)) (λ s. rw (sets-round five_digits five seven a b ha hb s)))
    where
      after : (p : Bool) → ((s : List ℕ) → read_on (group n k (sets_text a b ++ s)) f ≡ read_on (read_on (check p 3 s) (λ _. give (a, b))) f)
          → SaysLine (λ s. read_on (group n k s) f) (sets_text a b) (not p ⇒ 3 ∣ i) x
      after true q = record { reads = λ e s. q s ∙ g.reads e s; refuses = λ e s. q s ∙ g.refuses e s }
      after false q = record { reads = λ e s. absurd (omega arith); refuses = λ e s. q s }

-- a line that begins with the key of one of several; keys that stand before it do not begin it
module _ {A : Type 0} (k : List ℕ) (m other : Reader A) (y : List ℕ) (n : ℕ) (a : A) where
  pub says_on : SaysLine m y n a → SaysLine (upon k m other) (k ++ y) n a
  says_on h = record { reads = λ e s. first s ∙ h.reads e s; refuses = λ e s. first s ∙ h.refuses e s }
    where
      first : (s : List ℕ) → upon k m other ((k ++ y) ++ s) ≡ m (y ++ s)
      first s = ap (upon k m other) (append_assoc k y s) ∙ rw (key-round k (y ++ s), given)

  pub says_other : ((s : List ℕ) → key k (y ++ s) ≡ refused 2) → SaysLine other y n a → SaysLine (upon k m other) y n a
  says_other f h = record { reads = λ e s. rw (f s, given) (h.reads e s); refuses = λ e s. rw (f s, given) (h.refuses e s) }

pub says_none : {A : Type 0} (y : List ℕ) (a : A) → SaysLine (λ s. refused 2) y 2 a
says_none y a = record { reads = λ e s. absurd (omega arith); refuses = λ e s. refl }

pub says-give : {A : Type 0} (a : A) → SaysLine (give a) [] 0 a
says-give a = record { reads = λ e s. refl; refuses = λ e s. absurd (e refl) }

says_four : {A : Type 0} (p : Bool) (a : A) → SaysLine (λ s. read_on (check p 4 s) (λ _. give a)) [] (not p ⇒ 4 ∣ 0) a
says_four true a = record { reads = λ e s. refl; refuses = λ e s. absurd (e refl) }
says_four false a = record { reads = λ e s. absurd (omega arith); refuses = λ e s. refl }

pub says-port : (n k m : ℕ) (y : ℕ × ℕ × ℕ) → n ≤ 32 → k ≤ 32 → Mask y.1 → Mask y.2 → SaysLine (port_line n k m) (port_line_text y) (port_fault n k m y) y
unfolding port_line port_line_text port_fault key
says-port n k m y ln lk ha hb =
    by-test (eqb y.0 1)
    (λ e. rw (eqb-true y.0 1 e)
    (says_on (bytes "port=use,") _ _ (sets_text y.1 y.2) _ _ (says-group n k y.1 y.2 _ _ _ ln lk ha hb (says_four (use_ok m y.1) _))))
    (λ e. by-test (eqb y.0 0)
    (λ z. rw (eqb-true y.0 0 z)
    (says_other (bytes "port=use,") _ _ (bytes "port=provide," ++ sets_text y.1 y.2) _ _ (λ s. refl)
    (says_on (bytes "port=provide,") _ _ (sets_text y.1 y.2) _ _ (says-group n k y.1 y.2 _ _ _ ln lk ha hb (says-give _)))))
    (λ z. rw (e, z, lt-leb y.0 1 (omega (arith, eqb-false y.0 1 e, eqb-false y.0 0 z)))
    (says_other (bytes "port=use,") _ _ (bytes "port=\n") _ _ (λ s. refl) (says_other (bytes "port=provide,") _ _ (bytes "port=\n") _ _ (λ s. refl) (says_none (bytes "port=\n") _)))))
