-- How the same forms are written.
use Rattle.std.specs.Prelude.{ℕ, zero, suc, ◌+◌, ◌/◌, ◌%◌, List, [], ◌∷◌, ◌++◌, Bool, true, false, ltb}
use Rattle.sets.specs.Mask.{member}
use Rattle.item_spec.specs.Reader.{bytes, byte}

-- a where the test holds, else nothing
abbrev pub only_if : Bool → List ℕ → List ℕ
only_if true a = a
only_if false a = []

-- v in at most n digits, the last one cut off first
unfoldable pub digits_in : ℕ → ℕ → List ℕ
digits_in zero v = []
digits_in (suc n) v =
    elim (ltb v 10) [
      | true ↦ (byte "0" + v) ∷ []
      | false ↦ digits_in n (v / 10) ++ ((byte "0" + v % 10) ∷ [])
    ]

-- a number in decimal: 20 digits write every number below 2 ^ 64, and no field holds another
unfoldable pub number_text : ℕ → List ℕ
number_text v = digits_in 20 v

-- the members of the mask m that are below n, ascending
unfoldable pub members_below : ℕ → ℕ → List ℕ
members_below zero m = []
members_below (suc n) m = members_below n m ++ only_if (member n m) (n ∷ [])

abbrev pub members : ℕ → List ℕ
members m = members_below 32 m

-- the further numbers of a list, each after its `+`
unfoldable pub more_text : List ℕ → List ℕ
more_text [] = []
more_text (v ∷ vs) = (byte "+" ∷ number_text v) ++ more_text vs

-- numbers joined by `+`; `-` is the empty list
unfoldable pub list_text : List ℕ → List ℕ
list_text [] = bytes "-"
list_text (v ∷ vs) = number_text v ++ more_text vs

-- a mask as the list of its members
unfoldable pub mask_text : ℕ → List ℕ
mask_text m = list_text (members m)

-- f 0, f 1, .. n of them, one after the other
unfoldable pub in_turn : (ℕ → List ℕ) → ℕ → List ℕ
in_turn f zero = []
in_turn f (suc n) = in_turn f n ++ f n

-- what stands between the key and the line's end
unfoldable pub one_text : ℕ → List ℕ
one_text a = number_text a ++ bytes "\n"

unfoldable pub two_text : ℕ → ℕ → List ℕ
two_text a b = number_text a ++ bytes "," ++ one_text b

unfoldable pub three_text : ℕ → ℕ → ℕ → List ℕ
three_text a b c = number_text a ++ bytes "," ++ two_text b c

unfoldable pub four_text : ℕ → ℕ → ℕ → ℕ → List ℕ
four_text a b c d = number_text a ++ bytes "," ++ three_text b c d
