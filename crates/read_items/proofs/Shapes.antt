-- Two readers one after the other, and the shapes of lines put so: a first number or list, and the rest of the line.
-- Assumes nothing.
use Prim.Native.Nat.{ℕ}
use mathlib.Core.List.{List}
use mathlib.Core.Path.{◌≡◌, refl, sym, ap, ◌∙◌}
use lib.ListN.{drop}
use Rattle.item_spec.specs.Reader.{Reply, Reader, got, refused, read_on, byte, give, ◌>>=◌}
use Rattle.item_spec.specs.Read.{key, list, list_form, lists_form}
use Rattle.read_items.specs.Reads.{Outcome, past, fault, Reads}
use Rattle.read_items.specs.Keyed.{keyed}

-- first f, then m, and what g makes of their values
unfoldable pub joined : {A B C : Type 0} → (A → B → C) → Reader A → Reader B → Reader C
joined g f m = do
  a ← f
  b ← m
  give (g a b)

module _ {A B C : Type 0} (g : A → B → C) (f : Reader A) (m : Reader B) {s t : List ℕ} where
  pub first-fault : {k : ℕ} → Reads s (fault k) (f t) → Reads s (fault k) (joined g f m t)
  unfolding joined
  first-fault h = record { within = h.within; same = sym (rw (sym h.same, joined)) }

  pub second-fault : {a : A} {i k : ℕ} → Reads s (past a i) (f t) → Reads s (fault k) (m (drop i s)) → Reads s (fault k) (joined g f m t)
  unfolding joined
  second-fault h l = record { within = l.within; same = sym (rw (sym h.same, sym l.same, joined)) }

  pub both : {a : A} {b : B} {i n : ℕ} → Reads s (past a i) (f t) → Reads s (past b n) (m (drop i s)) → Reads s (past (g a b) n) (joined g f m t)
  unfolding joined
  both h l = record { within = l.within; same = sym (rw (sym h.same, sym l.same, joined)) }

-- a key, and what follows it
module _ {A : Type 0} (k : List ℕ) (m : Reader A) {s : List ℕ} where
  pub key-fault : {n : ℕ} → Reads s (fault n) (key k s) → Reads s (fault n) (keyed k m s)
  unfolding keyed
  key-fault h = record { within = h.within; same = sym (rw (sym h.same, keyed)) }

  pub key-then : {o : Outcome A} {i : ℕ} → Reads s (past tt i) (key k s) → Reads s o (m (drop i s)) → Reads s o (keyed k m s)
  unfolding keyed
  key-then h l = record { within = l.within; same = l.same ∙ sym (rw (sym h.same, keyed)) }

-- ---- readers one after the other: by what follows, and from the left or from the right
pub bind-same : {A B : Type 0} (x : Reply A) (f g : A → Reader B) → ((a : A) (r : List ℕ) → f a r ≡ g a r) → read_on x f ≡ read_on x g
bind-same (got a r) f g h = h a r
bind-same (refused n) f g h = refl

pub bind-bind : {A B C : Type 0} (x : Reply A) (f : A → Reader B) (g : B → Reader C) → read_on (read_on x f) g ≡ read_on x (λ a r. read_on (f a r) g)
bind-bind (got a r) f g = refl
bind-bind (refused n) f g = refl

-- a line's definition, `key k` first, then m, then f, by what was read of its key and m
module _ {A B : Type 0} (k : List ℕ) (m : Reader A) (f : A → Reader B) {s : List ℕ} where
  pub keyed-got : {a : A} {n : ℕ} → Reads s (past a n) (keyed k m s) → read_on (key k s) (λ _ r. read_on (m r) f) ≡ f a (drop n s)
  unfolding keyed
  keyed-got h = sym (bind-bind (key k s) (λ _. m) f) ∙ ap (λ x. read_on x f) (sym h.same)

  pub keyed-fault : {n : ℕ} → Reads s (fault n) (keyed k m s) → read_on (key k s) (λ _ r. read_on (m r) f) ≡ refused n
  unfolding keyed
  keyed-fault h = sym (bind-bind (key k s) (λ _. m) f) ∙ ap (λ x. read_on x f) (sym h.same)

-- ---- the shape of two lists
module _ (d : ℕ) (s : List ℕ) where
  pub sets-is : lists_form d s ≡ joined (λ a b. (a, b)) (list d (byte ",")) (list_form d) s
  unfolding lists_form list_form joined
  sets-is = refl
