-- The one form of a reader's promise: what its enum says is the reply of the definition, and the place lies within the text.
use Rattle.std.specs.Prelude.{ℕ, ◌≤◌, List, ◌≡◌, length, drop}
use Rattle.item_spec.specs.Reader.{Reply, got, refused}

-- what a case of an enum says: a value and the place past it, or 01's number
pub data Outcome (A : Type 0) : Type 0 where
  past : A → ℕ → Outcome A
  fault : ℕ → Outcome A

-- the same as a reply, on the text s
abbrev pub reply : {A : Type 0} → List ℕ → Outcome A → Reply A
reply s (past a n) = got a (drop n s)
reply s (fault k) = refused k

abbrev pub place : {A : Type 0} → Outcome A → ℕ
place (past a n) = n
place (fault k) = 0

-- the number of a refusal, 0 where there is none
abbrev pub refusal : {A : Type 0} → Outcome A → ℕ
refusal (past a n) = 0
refusal (fault k) = k

-- on the text s, o is what a definition that replies m says
pub record Reads {A : Type 0} (s : List ℕ) (o : Outcome A) (m : Reply A) : Type 0 where
  pub within : place o ≤ length s
  pub same : reply s o ≡ m

-- no other case of the enum fits the promise
unfoldable pub NoOther : {A R : Type 0} → (R → Outcome A) → Type 0
NoOther {A} {R} says = (s : List ℕ) (m : Reply A) (r q : R) → Reads s (says r) m → Reads s (says q) m → r ≡ q
