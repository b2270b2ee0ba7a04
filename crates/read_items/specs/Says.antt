-- What each case of each enum says. A fault of form is 01's number 2.
use Rattle.std.specs.Prelude.{ℕ}
use Rattle.item_spec.specs.Refusal.{bad_form}
use Rattle.item_spec.specs.Read.{Set}
use Rattle.read_items.specs.Reads.{Outcome, past, fault}
use Rattle.read_items.specs.declared.Digits.{Digits}
use Rattle.read_items.specs.declared.Digits.TheVariants as digits
use Rattle.read_items.specs.declared.Listed.{Listed}
use Rattle.std.specs.declared.option.Option.{Option}
use Rattle.std.specs.declared.option.Option.TheVariants.{Some, None}

-- how many digits a number may have
abbrev pub most : Digits → ℕ
most digits.Five = 5
most digits.Seven = 7

abbrev pub due_says : Option ℕ → Outcome (Unit {0})
due_says (Some n) = past tt n
due_says None = fault bad_form

abbrev pub number_says : Option (ℕ × ℕ) → Outcome ℕ
number_says (Some (a, n)) = past a n
number_says None = fault bad_form

-- a list as a set
abbrev pub set_of : Listed → Set
set_of l = record { mask = l.mask; top = l.top }

abbrev pub list_says : Option (Listed × ℕ) → Outcome Set
list_says (Some (l, n)) = past (set_of l) n
list_says None = fault bad_form

abbrev pub lists_says : Option (Listed × Listed × ℕ) → Outcome (Set × Set)
lists_says (Some (l, m, n)) = past (set_of l, set_of m) n
lists_says None = fault bad_form
