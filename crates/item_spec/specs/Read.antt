-- How keys, numbers, lists and the shapes of lines are read. Every fault of form is a 2.
use Rattle.std.specs.Prelude.{ℕ, suc, ◌+◌, ◌-◌, ◌*◌, List, [], ◌∷◌, Bool, true, false, ◌&&◌, ◌||◌, not, ltb, leb, eqb}
use Rattle.sets.specs.Mask.{with}
use Rattle.item_spec.specs.Refusal.{bad_form}
use Rattle.item_spec.specs.Reader.{got, refused, Reader, ◌>>=◌, ◌>>◌, give, byte}

-- the bytes that stand in this place
unfoldable pub key : List ℕ → Reader (Unit {0})
key [] s = got tt s
key (a ∷ k) [] = refused bad_form
key (a ∷ k) (b ∷ s) = elim (eqb b a) [ true ↦ key k s | false ↦ refused bad_form ]

-- what f reads after m, where m reads something, else the other
abbrev pub given : {A B : Type 0} → Reader A → (A → Reader B) → Reader B → Reader B
given m f other = λ s. elim (m s) [ got a r ↦ f a r | refused n ↦ other s ]

-- m where the key k stands, else the other
abbrev pub upon : {A : Type 0} → List ℕ → Reader A → Reader A → Reader A
upon k m other = given (key k) (λ _. m) other

-- "decimal, one to five digits, no leading zero": the digit c may follow k digits whose value is v, at most d in all
unfoldable pub digit : ℕ → ℕ → ℕ → ℕ → Bool
digit d k v c = leb (byte "0") c && (leb c (byte "9") && (ltb k d && (eqb k 0 || not (eqb v 0))))

-- a number of at most d digits and the byte e that ends it, after k digits whose value is v
unfoldable pub number_from : ℕ → ℕ → ℕ → ℕ → Reader ℕ
number_from d e k v [] = refused bad_form
number_from d e k v (c ∷ s) =
    elim (eqb c e) [
      | true ↦ elim (eqb k 0) [ true ↦ refused bad_form | false ↦ got v s ]
      | false ↦ elim (digit d k v c) [ true ↦ number_from d e (suc k) (v * 10 + (c - byte "0")) s | false ↦ refused bad_form ]
    ]

-- a number of at most d digits, and the byte e that ends it
abbrev pub number : ℕ → ℕ → Reader ℕ
number d e = number_from d e 0 0

-- a list: its members below 32 as a mask, and one more than its greatest member, 0 where it is empty
pub record Set : Type 0 where
  pub mask : ℕ
  pub top : ℕ

-- "strictly ascending": v, of k digits, may be the next member after members that are all below t
abbrev pub follows : ℕ → ℕ → ℕ → Bool
follows k t v = not (eqb k 0) && leb t v

-- the members from here on and the byte e that ends them, after members of mask m, all below t, and k digits of value v
unfoldable pub members_from : ℕ → ℕ → ℕ → ℕ → ℕ → ℕ → Reader Set
members_from d e m t k v [] = refused bad_form
members_from d e m t k v (c ∷ s) =
    elim (eqb c e) [
      | true ↦ elim (follows k t v) [ true ↦ got (record { mask = with v m; top = suc v }) s | false ↦ refused bad_form ]
      | false ↦ elim (eqb c (byte "+")) [
        | true ↦ elim (follows k t v) [ true ↦ members_from d e (with v m) (suc v) 0 0 s | false ↦ refused bad_form ]
        | false ↦ elim (digit d k v c) [ true ↦ members_from d e m t (suc k) (v * 10 + (c - byte "0")) s | false ↦ refused bad_form ]
      ]
    ]

-- "A list is numbers joined by `+`, strictly ascending; `-` is the empty list", and the byte e that ends it
unfoldable pub list : ℕ → ℕ → Reader Set
list d e [] = refused bad_form
list d e (c ∷ s) =
    elim (eqb c (byte "-")) [
      | true ↦ (do key (e ∷ []); give (record { mask = 0; top = 0 })) s
      | false ↦ members_from d e 0 0 0 0 (c ∷ s)
    ]

-- two of a kind, a comma between them
abbrev two : {A : Type 0} → (ℕ → ℕ → Reader A) → ℕ → Reader (A × A)
two m d = do
  a ← m d (byte ",")
  b ← m d (byte "\n")
  give (a, b)

-- what stands between the key and the line's end: one to four numbers; a list; two lists
unfoldable pub one_form : ℕ → Reader ℕ
one_form d = number d (byte "\n")

unfoldable pub two_form : ℕ → Reader (ℕ × ℕ)
two_form d = two number d

unfoldable pub three_form : ℕ → Reader (ℕ × ℕ × ℕ)
three_form d = do
  a ← number d (byte ",")
  b ← number d (byte ",")
  c ← number d (byte "\n")
  give (a, b, c)

unfoldable pub four_form : ℕ → Reader (ℕ × ℕ × ℕ × ℕ)
four_form d = do
  a ← number d (byte ",")
  b ← number d (byte ",")
  c ← number d (byte ",")
  e ← number d (byte "\n")
  give (a, b, c, e)

unfoldable pub list_form : ℕ → Reader Set
list_form d = list d (byte "\n")

unfoldable pub lists_form : ℕ → Reader (Set × Set)
lists_form d = two list d
