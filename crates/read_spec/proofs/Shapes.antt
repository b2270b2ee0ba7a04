-- Numbers, lists and the shapes of lines: each is read as a value and a rest of the text, or refused (`Reads`).
-- Assumes nothing.
use Prim.Native.Nat.{ℕ, suc, ◌+◌, ◌-◌, ◌*◌, ◌≤◌}
use mathlib.Core.List.{List, [], ◌∷◌}
use lib.Dec.{eqb}
use Rattle.sets.specs.Mask.{with}
use Rattle.item_spec.specs.Reader.{byte}
use Rattle.item_spec.specs.Read.{digit, number, number_from, Set, follows, members_from, list, one_form, two_form, three_form, four_form, list_form, lists_form}
use Rattle.item_spec.proofs.Back.{Topped, list_back}
use Rattle.read_spec.proofs.Rests.{past, Told, gives, Reads, Any, told-from, bad-form, told-known, told-if, reads_then, reads-give, reads-key}

number-told : (d e : ℕ) (s : List ℕ) (k v : ℕ) → Told Any s (number_from d e k v s)
unfolding number_from
number-told d e [] k v = bad-form
number-told d e (c ∷ s) k v =
    told-if (eqb c e)
    (λ _. told-if (eqb k 0) (λ _. bad-form) (λ _. gives past tt))
    (λ _. told-if (digit d k v c) (λ _. told-from past (number-told d e s (suc k) (v * 10 + (c - byte "0")))) (λ _. bad-form))

pub reads-number : (d e : ℕ) → Reads Any (number d e)
reads-number d e s = number-told d e s 0 0

pub reads-one : (d : ℕ) → Reads Any (one_form d)
unfolding one_form
reads-one d = reads-number d _

pub reads_two : (d : ℕ) → Reads Any (two_form d)
unfolding two_form
reads_two d = reads_then (reads-number d _) (λ _ _. reads_then (reads-number d _) (λ _ _. reads-give tt))

pub reads_three : (d : ℕ) → Reads Any (three_form d)
unfolding three_form
reads_three d = reads_then (reads-number d _) (λ _ _. reads_then (reads-number d _) (λ _ _. reads_then (reads-number d _) (λ _ _. reads-give tt)))

pub reads-four : (d : ℕ) → Reads Any (four_form d)
unfolding four_form
reads-four d =
    reads_then (reads-number d _) (λ _ _. reads_then (reads-number d _) (λ _ _. reads_then (reads-number d _) (λ _ _. reads_then (reads-number d _) (λ _ _. reads-give tt))))

members-told : (d e : ℕ) (s : List ℕ) (m t k v : ℕ) → Told Any s (members_from d e m t k v s)
unfolding members_from
members-told d e [] m t k v = bad-form
members-told d e (c ∷ s) m t k v =
    told-if (eqb c e)
    (λ _. told-if (follows k t v) (λ _. gives past tt) (λ _. bad-form))
    (λ _. told-if (eqb c (byte "+"))
    (λ _. told-if (follows k t v) (λ _. told-from past (members-told d e s (with v m) (suc v) 0 0)) (λ _. bad-form))
    (λ _. told-if (digit d k v c) (λ _. told-from past (members-told d e s m t (suc k) (v * 10 + (c - byte "0")))) (λ _. bad-form)))

list-told : (d e : ℕ) (s : List ℕ) → Told Any s (list d e s)
unfolding list
list-told d e [] = bad-form
list-told d e (c ∷ s) =
    told-if (eqb c (byte "-"))
    (λ _. told-from past (reads_then (reads-key (e ∷ [])) (λ _ _. reads-give tt) s))
    (λ _. members-told d e (c ∷ s) 0 0 0 0)

-- a list whose members are all below 32 is its mask
abbrev pub Masked : Set → Type 0
Masked x = x.top ≤ 32 → Topped x

pub reads-list : (d e : ℕ) → d ≤ 7 → Reads Masked (list d e)
reads-list d e l s = told-known (list-told d e s) (λ x r q h. (list_back d l e s q h).1)

pub reads-set : (d : ℕ) → d ≤ 7 → Reads Masked (list_form d)
unfolding list_form
reads-set d l = reads-list d _ l

pub reads-sets : (d : ℕ) → d ≤ 7 → Reads (λ (x : Set × Set). Masked x.0 × Masked x.1) (lists_form d)
unfolding lists_form
reads-sets d l = reads_then (reads-list d _ l) (λ _ p. reads_then (reads-list d _ l) (λ _ q. reads-give (p, q)))
