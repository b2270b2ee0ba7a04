-- What follows each verb is so many numbers, each below its limit.
-- Assumes nothing.
use Prim.Native.Nat.{ℕ}
use mathlib.Core.List.{List}
use mathlib.Core.Bool.{true}
use mathlib.Core.Path.{◌≡◌, refl}
use lib.Dec.{leb, leb-suc-suc}
use Rattle.read_items.specs.declared.numbers.Limits.TheVariants as limits
use Rattle.read_items.proofs.Within.{one-within, two-within, three-within}
use Rattle.aeolus_read_spec.specs.Limits.{id_ok, name_ok, change_ok, type_ok}
use Rattle.aeolus_read_spec.specs.Kinds.{new_step, del_step, change_step, ends_step}
use Rattle.aeolus_read_plan.specs.Says.{step_numbers}

module _ (s : List ℕ) where
  pub new-numbers : (n : ℕ) → new_step n s ≡ step_numbers 0 (limits.Two 32 n) s
  unfolding new_step step_numbers
  new-numbers n = two-within 5 _ s 32 n id_ok (type_ok n) (λ a. leb-suc-suc a 31) (λ b. refl)

  pub del-numbers : del_step s ≡ step_numbers 1 (limits.One 32) s
  unfolding del_step step_numbers
  del-numbers = one-within 5 _ s 32 id_ok (λ a. leb-suc-suc a 31)

  pub change-numbers : change_step s ≡ step_numbers 2 (limits.Three 32 16 16) s
  unfolding change_step step_numbers
  change-numbers = three-within 5 _ s 32 16 16 id_ok change_ok change_ok (λ a. leb-suc-suc a 31) (λ b. leb-suc-suc b 15) (λ c. leb-suc-suc c 15)

  pub ends-numbers : (v : ℕ) → leb 3 v ≡ true → ends_step v s ≡ step_numbers v (limits.Three 256 32 32) s
  unfolding ends_step step_numbers
  ends-numbers v e = rw (e, step_numbers) (three-within 5 _ s 256 32 32 name_ok id_ok id_ok (λ a. leb-suc-suc a 255) (λ b. leb-suc-suc b 31) (λ c. leb-suc-suc c 31))
