-- What is proved of every reader, put together as readers are. `Reads P m`: on any text m answers a value with P and a rest of that text, or a refusal from 2 to 5.
-- `Runs P m`: the same of a run of lines, and it stops at a rest of the text.
-- Assumes nothing.
use Prim.Native.Nat.{ℕ, zero, suc, ◌+◌, ◌-◌, ◌<◌, ◌≤◌}
use mathlib.Core.List.{List, [], ◌∷◌, ◌++◌, append_assoc}
use mathlib.Core.Bool.{Bool, true, false}
use mathlib.Core.Path.{◌≡◌, refl, ap, sym, subst, ◌∙◌}
use native.Mathlib.Omega.{arith}
use lib.Dec.{eqb}
use lib.ListN.{length, drop, length-append}
use lib.Seq.{drop_at}
use Rattle.item_spec.specs.Reader.{Reply, got, refused, Reader, read_on, give, check, no_line}
use Rattle.item_spec.specs.Read.{key, given, upon}
use Rattle.read_spec.specs.Lines.{Run, on, stop, Lines, run_on, line, line_of, each, at_end}
use Rattle.read_spec.specs.Lines.{hand_on}

-- ---- rests of a text
pub record Rest (s r : List ℕ) : Type 0 where
  pub front : List ℕ
  pub is : s ≡ front ++ r

pub here : {s : List ℕ} → Rest s s
here {s} = record { front = []; is = refl }

pub past : {c : ℕ} {s : List ℕ} → Rest (c ∷ s) s
past {c} {s} = record { front = c ∷ []; is = refl }

far : {s t r : List ℕ} → Rest s t → Rest t r → Rest s r
far {s} {t} {r} h g = record { front = h.front ++ g.front; is = h.is ∙ ap (λ (l : List ℕ). h.front ++ l) g.is ∙ sym (append_assoc h.front g.front r) }

-- a rest is the text from a place on
rest-place : (s r : List ℕ) → Rest s r → r ≡ drop (length s - length r) s
rest-place s r h =
    let e : length h.front ≡ length s - length r = omega (arith, ap length h.is, length-append h.front r) in
    sym (ap (drop (length s - length r)) h.is ∙ drop_at h.front r (length s - length r) e)

-- ---- readers
-- the numbers that a reading is refused with: form, limit, clause, bytes left over
pub record Fault (n : ℕ) : Type 0 where
  pub low : 2 ≤ n
  pub high : n ≤ 5

pub form-fault : Fault 2
form-fault = omega arith

pub limit-fault : Fault 3
limit-fault = omega arith

pub clause-fault : Fault 4
clause-fault = omega arith

end-fault : Fault 5
end-fault = omega arith

pub data Told {A : Type 0} (P : A → Type 0) (s : List ℕ) : Reply A → Type 0 where
  gives : {a : A} {r : List ℕ} → Rest s r → P a → Told P s (got a r)
  refuses : {n : ℕ} → Fault n → Told P s (refused n)

abbrev pub Reads : {A : Type 0} → (A → Type 0) → Reader A → Type 0
Reads P m = (s : List ℕ) → Told P s (m s)

-- nothing is asked of the value
abbrev pub Any : {A : Type 0} → A → Type 0
Any a = Unit {0}

pub told-from : {A : Type 0} {P : A → Type 0} {s t : List ℕ} {x : Reply A} → Rest s t → Told P t x → Told P s x
told-from h (gives g p) = gives (far h g) p
told-from h (refuses u) = refuses u

pub bad-form : {A : Type 0} {P : A → Type 0} {s : List ℕ} → Told P s (refused 2)
bad-form = refuses form-fault

told-then : {A B : Type 0} {P : A → Type 0} {Q : B → Type 0} {s : List ℕ} {x : Reply A} (f : A → Reader B) →
    Told P s x → ((a : A) → P a → Reads Q (f a)) → Told Q s (read_on x f)
told-then f (gives {a} {r} h p) g = told-from h (g a p r)
told-then f (refuses u) g = refuses u

pub reads_then : {A B : Type 0} {P : A → Type 0} {Q : B → Type 0} {m : Reader A} {f : A → Reader B} →
    Reads P m → ((a : A) → P a → Reads Q (f a)) → Reads Q (λ s. read_on (m s) f)
reads_then {f = f} h g s = told-then f (h s) g

pub reads-give : {A : Type 0} {P : A → Type 0} {a : A} → P a → Reads P (give a)
reads-give p s = gives here p

pub reads-check : {n : ℕ} (b : Bool) → Fault n → Reads (λ _. b ≡ true) (check b n)
reads-check true u s = gives here refl
reads-check false u s = refuses u

-- what is known of every value that is read
pub told-known : {A : Type 0} {P Q : A → Type 0} {s : List ℕ} {x : Reply A} → Told P s x → ((a : A) (r : List ℕ) → x ≡ got a r → Q a) → Told Q s x
told-known (gives {a} {r} h p) f = gives h (f a r refl)
told-known (refuses u) f = refuses u

-- one of two answers, by a test
pub told-if : {A : Type 0} {P : A → Type 0} {s : List ℕ} {x y : Reply A} (b : Bool) → (b ≡ true → Told P s x) → (b ≡ false → Told P s y) →
    Told P s (elim b [ true ↦ x | false ↦ y ])
told-if true h g = h refl
told-if false h g = g refl

pub reads-key : (k : List ℕ) → Reads Any (key k)
unfolding key
reads-key [] s = gives here tt
reads-key (a ∷ k) [] = bad-form
reads-key (a ∷ k) (b ∷ s) = told-if (eqb b a) (λ _. told-from past (reads-key k s)) (λ _. bad-form)

-- one of two readers, by what is read there
told-given : {A B : Type 0} {P : B → Type 0} {f : A → Reader B} {other : Reader B} {s : List ℕ} {x : Reply A} → Told Any s x → ((a : A) → Reads P (f a)) → Reads P other →
    Told P s (elim x [ got a r ↦ f a r | refused n ↦ other s ])
told-given (gives {a} {r} h p) f g = told-from h (f a r)
told-given {s = s} (refuses u) f g = g s

pub reads-given : {A B : Type 0} {P : B → Type 0} {m : Reader A} {f : A → Reader B} {other : Reader B} → Reads Any m → ((a : A) → Reads P (f a)) → Reads P other → Reads P (given m f other)
reads-given h f g s = told-given (h s) f g

pub reads_on : {A : Type 0} {P : A → Type 0} {m other : Reader A} (k : List ℕ) → Reads P m → Reads P other → Reads P (upon k m other)
reads_on k f g = reads-given (reads-key k) (λ _. f) g

pub reads_none : {A : Type 0} {P : A → Type 0} → Reads P (no_line {A = A})
reads_none s = bad-form

-- ---- runs of lines
pub data Went {A : Type 0} (P : A → Type 0) (s : List ℕ) : Run A → Type 0 where
  goes : {a : A} {r : List ℕ} → Rest s r → P a → Went P s (on a r)
  stops : {n : ℕ} {r : List ℕ} → Rest s r → Fault n → Went P s (stop n r)

abbrev pub Runs : {A : Type 0} → (A → Type 0) → Lines A → Type 0
Runs P m = (s : List ℕ) → Went P s (m s)

went-from : {A : Type 0} {P : A → Type 0} {s t : List ℕ} {x : Run A} → Rest s t → Went P t x → Went P s x
went-from h (goes g p) = goes (far h g) p
went-from h (stops g u) = stops (far h g) u

went_then : {A B : Type 0} {P : A → Type 0} {Q : B → Type 0} {s : List ℕ} {x : Run A} (f : A → Lines B) →
    Went P s x → ((a : A) → P a → Runs Q (f a)) → Went Q s (run_on x f)
went_then f (goes {a} {r} h p) g = went-from h (g a p r)
went_then f (stops h u) g = stops h u

pub runs_then : {A B : Type 0} {P : A → Type 0} {Q : B → Type 0} {m : Lines A} {f : A → Lines B} →
    Runs P m → ((a : A) → P a → Runs Q (f a)) → Runs Q (λ s. run_on (m s) f)
runs_then {f = f} h g s = went_then f (h s) g

pub runs-give : {A : Type 0} {P : A → Type 0} {a : A} → P a → Runs P (hand_on a)
runs-give p s = goes here p

went_line : {A : Type 0} {P : A → Type 0} {s : List ℕ} {x : Reply A} → Told P s x → Went P s (line_of x s)
went_line (gives h p) = goes h p
went_line (refuses u) = stops here u

pub runs-line : {A : Type 0} {P : A → Type 0} {m : Reader A} → Reads P m → Runs P (line m)
runs-line h s = went_line (h s)

pub runs-end : Runs Any at_end
runs-end [] = goes here tt
runs-end (c ∷ s) = stops here end-fault

-- what each turn below hi keeps holds at the end
module _ {A : Type 0} (f : ℕ → A → Lines A) (P : ℕ → A → Type 0) (hi : ℕ) (turn : (j : ℕ) (a : A) → j < hi → P j a → Runs (P (suc j)) (f j a)) where
  pub runs-each : (n i : ℕ) (a : A) → i + n ≡ hi → P i a → Runs (P hi) (each f n i a)
  unfolding each
  runs-each zero i a e p = runs-give (subst (λ (x : ℕ). P x a) (omega arith) p)
  runs-each (suc n) i a e p = runs_then (turn i a (omega arith) p) (λ b q. runs-each n (suc i) b (omega arith) q)

-- ---- what a run of lines tells
-- the place of a fault is a place of the text, and its number is from 2 to 5
abbrev pub StopsAt : List ℕ → ℕ → List ℕ → Type 0
StopsAt s n r = (r ≡ drop (length s - length r) s) × (2 ≤ n) × (n ≤ 5)

pub run-stops : {A : Type 0} {P : A → Type 0} {m : Lines A} → Runs P m → (s : List ℕ) (n : ℕ) (r : List ℕ) → m s ≡ stop n r → StopsAt s n r
run-stops {P = P} h s n r e = told (subst (Went P s) e (h s))
  where
    told : Went P s (stop n r) → StopsAt s n r
    told (stops g u) = (rest-place s r g, u.low, u.high)

pub run-gives : {A : Type 0} {P : A → Type 0} {m : Lines A} → Runs P m → (s : List ℕ) (a : A) (r : List ℕ) → m s ≡ on a r → P a
run-gives {P = P} h s a r e = told (subst (Went P s) e (h s))
  where
    told : Went P s (on a r) → P a
    told (goes g p) = p
