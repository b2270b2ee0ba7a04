-- What follows the verb of a `step` line, by the limits of its numbers.
-- Assumes nothing.
use Prim.Native.Nat.{ℕ, suc}
use mathlib.Core.List.{List}
use mathlib.Core.Path.{◌≡◌, sym}
use lib.Dec.{leb, leb-suc-suc}
use Rattle.item_spec.specs.Reader.{Reader, give}
use Rattle.model.specs.declared.Step.{Step}
use Rattle.read_items.specs.declared.numbers.Four.{Four}
use Rattle.read_items.specs.declared.numbers.Limits.TheVariants.{One, Two}
use Rattle.read_items.proofs.Within.{one-within, two-within}
use Rattle.read_spec.specs.Limits.{five_digits, id_ok}
use Rattle.read_spec.specs.Kinds.{a_step, step_id, step_number}
use Rattle.read_answer.specs.Says.{step_numbers}

module _ (v : ℕ) (t : List ℕ) where
  abbrev numbered : Four → Reader Step
  numbered n = give (a_step v n.first n.second)

  pub id-is : step_numbers v (One 32) t ≡ step_id v t
  unfolding step_numbers step_id
  id-is = sym (one-within five_digits numbered t 32 id_ok (λ a. leb-suc-suc a 31))

  -- the second number runs to n
  pub number_is : (n : ℕ) → step_numbers v (Two 32 (suc n)) t ≡ step_number v (λ b. leb b n) t
  unfolding step_numbers step_number
  number_is n = sym (two-within five_digits numbered t 32 (suc n) id_ok (λ b. leb b n) (λ a. leb-suc-suc a 31) (λ b. leb-suc-suc b n))
