-- A form that was read and the limits that it is held to; a line by its verb.
-- Assumes nothing.
use Prim.Native.Nat.{ℕ, zero-le}
use mathlib.Core.List.{List}
use mathlib.Core.Path.{◌≡◌, sym, ap, ◌∙◌}
use lib.ListN.{drop}
use Rattle.item_spec.specs.Reader.{Reply, Reader, got, refused, read_on}
use Rattle.item_spec.specs.Read.{given, key, upon}
use Rattle.read_items.specs.Reads.{Outcome, past, fault, Reads}
use Rattle.read_items.specs.Keyed.{keyed}
use Rattle.read_items.proofs.Shapes.{bind-bind}

-- the form m, then the limits f
module _ {A B : Type 0} (m : Reply A) (f : A → Reader B) {s : List ℕ} where
  pub form-fault : {k : ℕ} → Reads s (fault k) m → Reads s (fault k) (read_on m f)
  form-fault h = record { within = h.within; same = ap (λ (x : Reply A). read_on x f) h.same }

  pub form-then : {a : A} {i : ℕ} {o : Outcome B} → Reads s (past a i) m → Reads s o (f a (drop i s)) → Reads s o (read_on m f)
  form-then h l = record { within = l.within; same = l.same ∙ ap (λ (x : Reply A). read_on x f) h.same }

  pub limit-fault : {a : A} {i k : ℕ} → Reads s (past a i) m → f a (drop i s) ≡ refused k → Reads s (fault k) (read_on m f)
  limit-fault h e = record { within = zero-le; same = sym e ∙ ap (λ (x : Reply A). read_on x f) h.same }

  pub limit-kept : {a : A} {b : B} {i : ℕ} → Reads s (past a i) m → f a (drop i s) ≡ got b (drop i s) → Reads s (past b i) (read_on m f)
  limit-kept h e = record { within = h.within; same = sym e ∙ ap (λ (x : Reply A). read_on x f) h.same }

-- a line's form is its key and what follows it
pub whole-line : {A B : Type 0} (k : List ℕ) (m : Reader A) (f : A → Reader B) {s : List ℕ} {o : Outcome B}
    → Reads s o (read_on (keyed k m s) f) → Reads s o (read_on (key k s) (λ _ r. read_on (m r) f))
unfolding keyed
whole-line k m f {s} h = rw (bind-bind (key k s) (λ _. m) f) at h

-- a line by its verb: m where the key k stands, else x
module _ {A : Type 0} (k : List ℕ) (m : Reader A) (x : Reply A) {s : List ℕ} {o : Outcome A} where
  pub verb-here : {i : ℕ} → Reads s (past tt i) (key k s) → Reads s o (m (drop i s)) → Reads s o (upon k m (λ _. x) s)
  verb-here h l = rw (sym h.same, given) l

  pub verb-other : {n : ℕ} → Reads s (fault n) (key k s) → Reads s o x → Reads s o (upon k m (λ _. x) s)
  verb-other h l = rw (sym h.same, given) l
