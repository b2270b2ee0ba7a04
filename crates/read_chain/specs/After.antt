-- Lines after what was read so far, whatever refusal that stopped with, and that no other answer fits.
use Rattle.std.specs.Prelude.{ℕ, List, ◌≡◌, drop}
use Rattle.item_spec.specs.Refusal.{number_of}
use Rattle.item_spec.specs.declared.Refusal.{Refusal}
use Rattle.read_spec.specs.Lines.{Run, Lines}
use Rattle.read_lines.specs.declared.LineFault.{LineFault}
use Rattle.read_lines.specs.Runs.{Came, onto, fault_at, RunsTo}
use Rattle.std.specs.declared.result.Result.{Result}
use Rattle.std.specs.declared.result.Result.TheVariants.{Ok, Err}

-- what a value that was read holds, and the next line's place: of lines of which no value is looked at, and of a line of one number
abbrev pub no_value : ℕ → Unit {0} × ℕ
no_value at = (tt, at)

abbrev pub one_number : ℕ × ℕ → ℕ × ℕ
one_number v = v

-- what the answer r tells is c; says n x, where x may be said for a refusal of the number n
abbrev pub Tells : {A R T : Type 0} → (ℕ → R → Type 0) → (T → A × ℕ) → Result T (LineFault R) → Came A → Type 0
Tells says holds (Ok v) c = c ≡ onto (holds v).0 (holds v).1
Tells says holds (Err e) c = (n : ℕ) × says n e.refusal × (c ≡ fault_at n e.at)

-- on the text s, the answer r is what a definition says that runs to m
pub record ComesTo {A R T : Type 0} (says : ℕ → R → Type 0) (holds : T → A × ℕ) (s : List ℕ) (r : Result T (LineFault R)) (m : Run A) : Type 0 where
  pub comes : Came A
  pub told : Tells says holds r comes
  pub runs : RunsTo s comes m

-- on the text s, where a was answered of the lines before: r is what f comes to from there on, and nothing more is read where a had stopped
pub record After {A R T : Type 0} (says : ℕ → R → Type 0) (holds : T → A × ℕ) (s : List ℕ)
    (a : Result ℕ (LineFault R)) (f : Lines A) (r : Result T (LineFault R)) : Type 0 where
  pub went : (at : ℕ) → a ≡ Ok at → ComesTo says holds s r (f (drop at s))
  pub stopped : (e : LineFault R) → a ≡ Err e → r ≡ Err e

-- x is said for a reader's refusal, of 01's number n, as gives has it
abbrev pub SaidFor : {R : Type 0} → (Refusal → R → Type 0) → ℕ → R → Type 0
SaidFor gives n x = (k : Refusal) × (n ≡ number_of k) × gives k x

-- the answer r is the readers' answer q, a fault's refusal said as gives has it
abbrev pub SaidAs : {R T : Type 0} → (Refusal → R → Type 0) → Result T (LineFault Refusal) → Result T (LineFault R) → Type 0
SaidAs gives (Ok v) r = r ≡ Ok v
SaidAs {R} gives (Err f) r = (e : LineFault R) × (r ≡ Err e) × gives f.refusal e.refusal × (e.at ≡ f.at)

-- a number is said in one way
abbrev pub OneWay : {R : Type 0} → (ℕ → R → Type 0) → Type 0
OneWay {R} says = (n : ℕ) (x y : R) → says n x → says n y → x ≡ y

-- where it is, no other answer fits: to lines, and to lines after what was read so far
unfoldable pub NoOtherAnswer : Type 1
NoOtherAnswer = (A R T : Type 0) (says : ℕ → R → Type 0) → OneWay says
    → (holds : T → A × ℕ) → ((v w : T) → (holds v).0 ≡ (holds w).0 → (holds v).1 ≡ (holds w).1 → v ≡ w)
    → (s : List ℕ) (m : Run A) (r q : Result T (LineFault R)) → ComesTo says holds s r m → ComesTo says holds s q m → r ≡ q

unfoldable pub NoOtherAfter : Type 1
NoOtherAfter = (R : Type 0) (says : ℕ → R → Type 0) → OneWay says
    → (s : List ℕ) (a : Result ℕ (LineFault R)) (f : Lines (Unit {0})) (r q : Result ℕ (LineFault R))
    → After says no_value s a f r → After says no_value s a f q → r ≡ q

unfoldable pub NoOtherNumberAfter : Type 1
NoOtherNumberAfter = (R : Type 0) (says : ℕ → R → Type 0) → OneWay says
    → (s : List ℕ) (a : Result ℕ (LineFault R)) (f : Lines ℕ) (r q : Result (ℕ × ℕ) (LineFault R))
    → After says one_number s a f r → After says one_number s a f q → r ≡ q
