-- A reader of one line: it answers a value and the rest of the text, or a refusal's number.
use Rattle.std.specs.Prelude.{ℕ, List, [], ◌∷◌, Bool, true, false}
use Prim.Native.Char.{Char, code}
use Prim.Native.String.{String, [] as []ˢ, ◌∷◌ as ◌∷ˢ◌}
use Rattle.item_spec.specs.Refusal.{bad_form}

infixl 20 ◌>>=◌
infixl 20 ◌>>◌
infixr 15 ◌or◌
pub data Reply (A : Type 0) : Type 0 where
  got : A → List ℕ → Reply A
  refused : ℕ → Reply A

abbrev pub Reader : Type 0 → Type 0
Reader A = List ℕ → Reply A

-- what comes after: with the value and the rest, or the refusal passed on
abbrev pub read_on : {A B : Type 0} → Reply A → (A → Reader B) → Reply B
read_on (got a s) f = f a s
read_on (refused n) f = refused n

abbrev pub ◌>>=◌ : {A B : Type 0} → Reader A → (A → Reader B) → Reader B
◌>>=◌ m f = λ s. read_on (m s) f

abbrev pub ◌>>◌ : {A B : Type 0} → Reader A → Reader B → Reader B
◌>>◌ m f = λ s. read_on (m s) (λ _. f)

-- a value, with nothing read
abbrev pub give : {A : Type 0} → A → Reader A
give a = λ s. got a s

-- refused with n unless the test holds; nothing read
abbrev pub check : Bool → ℕ → Reader (Unit {0})
check true n = λ s. got tt s
check false n = λ s. refused n

-- no line that is due: 2
abbrev pub no_line : {A : Type 0} → Reader A
no_line = λ s. refused bad_form

-- one of several: f with what comes after it as the other way
abbrev pub ◌or◌ : {A : Type 0} → (Reader A → Reader A) → Reader A → Reader A
◌or◌ f other = f other

-- the bytes of a text in ASCII, and one byte
abbrev pub bytes : String → List ℕ
bytes []ˢ = []
bytes (c ∷ˢ s) = code c ∷ bytes s

abbrev pub byte : Char → ℕ
byte c = code c
