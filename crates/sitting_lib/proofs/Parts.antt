-- A line as a part of its text, the print as a part of its buffer, and what a text begins with.
-- Assumes nothing.
use Prim.Native.Nat.{ℕ}
use mathlib.Core.Bool.{true, false}
use mathlib.Core.List.{List, [], ◌∷◌}
use mathlib.Core.Path.{◌≡◌, refl, ap}
use lib.Dec.{eqb}
use lib.ListN.{length, take, drop}
use lib.Seq.{take_at}
use Rattle.item_spec.specs.Reader.{got, refused}
use Rattle.item_spec.specs.Read.{key}
use Rattle.item_spec.proofs.Tests.{by-test}
use Rattle.read_items.specs.Reads.{reply}
use Rattle.read_items.specs.Says.{due_says}
use Rattle.read_spec.specs.Place.{up_to_lf}
use Rattle.judge_spec.specs.Judged.{over}
use Rattle.sitting_spec.specs.Block.{begins}
use Rattle.std.specs.Option.{is_some}
use Rattle.std.specs.declared.option.Option.{Option}
use Rattle.std.specs.declared.option.Option.TheVariants.{Some, None}

-- so many bytes of the text as the line has
pub line_taken : (s : List ℕ) → take (length (up_to_lf s)) s ≡ up_to_lf s
unfolding up_to_lf
line_taken [] = refl
line_taken (c ∷ s) = by-test (eqb c 10) (λ e. rw (e, up_to_lf)) (λ e. rw (e, up_to_lf) (ap (◌∷◌ c) (line_taken s)))

-- what stands first in the buffer
pub print-taken : (p old new : List ℕ) (n : ℕ) → n ≡ length p → new ≡ over p old → take n new ≡ p
unfolding over
print-taken p old new n e f = rw (e, f) (take_at p (drop (length p) old) (length p) refl)

module _ (k s : List ℕ) where
  begins-so : (r : List ℕ) → got tt r ≡ key k s → true ≡ begins k s
  unfolding begins
  begins-so r e = rw (← e, begins)

  begins-not : (n : ℕ) → refused n ≡ key k s → false ≡ begins k s
  unfolding begins
  begins-not n e = rw (← e, begins)

  -- by what `past_key` says of it
  pub begins-as : (t : List ℕ) (r : Option ℕ) → reply t (due_says r) ≡ key k s → is_some r ≡ begins k s
  begins-as t (Some n) e = begins-so (drop n t) e
  begins-as t None e = begins-not 2 e
