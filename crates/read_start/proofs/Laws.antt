-- What the proofs of a start's readers cite.
-- Assumes nothing.
use Prim.Native.Nat.{ℕ, zero, suc, zero-le, ◌-◌, ◌≤◌, ◌<◌, min}
use mathlib.Core.List.{List, [], ◌∷◌}
use mathlib.Core.Bool.{Bool, true, false}
use mathlib.Core.Path.{◌≡◌, refl, sym, ap, fun_ext, ◌∙◌}
use mathlib.Core.Logic.{◌≢◌}
use native.Mathlib.Omega.{arith}
use native.Mathlib.Nat.{zero-min, min-zero, suc-min-suc}
use lib.Dec.{leb, leb-zero}
use lib.ListN.{length, get_or, take, drop}
use borrow.Author.Tests.{le-leb, lt-leb}
use Rattle.model.specs.declared.Tables.{Tables}
use Rattle.model.specs.View.{behavior_in, behavior_of}
use Rattle.rules_spec.specs.PushB.{depth_of}
use Rattle.read_lines.specs.Runs.{onto, fault_at, RunsTo}
use Rattle.read_lines.proofs.Runs.{stopped, went_on, place_is}
use Rattle.start_spec.specs.Row.{head_of}
use Rattle.model.specs.declared.Begun.{Begun}
use Rattle.model.specs.declared.Configuration.{Configuration}
use Rattle.model.specs.Empty.{start, none_begun}
use Rattle.start_spec.specs.Text.{Outset}
use Rattle.start_spec.specs.Served.{some_unserved}
use Rattle.read_lines.specs.Counts.{in_range}
use Rattle.read_start.specs.Start.{queue_room, short_start, shown, start_run, start_read, came_to}
use Rattle.read_chain.specs.Whole.{Whole}

pub room-few : (default : ℕ) (t : Tables) → queue_room default t ≤ 8
unfolding queue_room
room-few default t = omega arith

pub room-is : (default : ℕ) (t : Tables) → depth_of default t ≤ 8 → queue_room default t ≡ depth_of default t
unfolding queue_room
room-is default t h = omega arith

pub start-long : (s : List ℕ) → 8192 < length s → RunsTo s (fault_at 1 0) (short_start s)
unfolding short_start
start-long s l = stopped zero-le (rw (lt-leb (length s) 8192 l, short_start))

pub start_fits : (s : List ℕ) → length s ≤ 8192 → RunsTo s (onto tt 0) (short_start s)
unfolding short_start
start_fits s l = went_on zero-le (rw (le-leb (length s) 8192 l, short_start))

pub head-slot : (t : Tables) (k n : ℕ) (slots : List ℕ) → n ≢ 0 → length slots ≢ 0 → behavior_of t k (behavior_in (get_or slots 0 0)) ≡ head_of t k (take n slots)
head-slot t k n [] z e = absurd (e refl)
head-slot t k zero (a ∷ l) z e = absurd (z refl)
head-slot t k (suc n) (a ∷ l) z e = refl

-- ---- the queue in its slots
pub drop_get : (l : List ℕ) (r : ℕ) → r < length l → drop r l ≡ get_or l r 0 ∷ drop (suc r) l
drop_get [] r h = absurd (omega arith)
drop_get (a ∷ l) zero h = refl
drop_get (a ∷ l) (suc r) h = drop_get l r (omega arith)

pub get_take : (l : List ℕ) (n r : ℕ) → r < n → get_or (take n l) r 0 ≡ get_or l r 0
get_take [] zero r h = refl
get_take [] (suc n) r h = refl
get_take (a ∷ l) zero r h = absurd (omega arith)
get_take (a ∷ l) (suc n) zero h = refl
get_take (a ∷ l) (suc n) (suc r) h = get_take l n r (omega arith)

pub take-min : (n : ℕ) (l : List ℕ) → take (min n (length l)) l ≡ take n l
take-min zero l = rw (zero-min (length l)) refl
take-min (suc n) [] = rw (min-zero (suc n)) refl
take-min (suc n) (a ∷ l) = rw (suc-min-suc n (length l)) (ap (λ q. a ∷ q) (take-min n l))

-- nothing stands in no slots
pub no-slots : (t : Tables) (k n : ℕ) (slots : List ℕ) → length slots ≡ 0 → 0 ≡ head_of t k (take n slots)
no-slots t k zero [] e = refl
no-slots t k (suc n) [] e = refl
no-slots t k n (a ∷ l) e = absurd (omega arith)

-- a count from 0 on
pub none-least : (b : ℕ) → in_range 0 b ≡ (λ a. leb a b)
none-least b = fun_ext (λ a. rw (leb-zero a))

-- ---- what the lines came to
module _ (e d : ℕ) (t : Tables) (s : List ℕ) where
  abbrev fifty : Bool → Outset → List ℕ → Whole (Configuration × Begun)
  fifty b x r =
      elim b [ true ↦ record { refused = 50; place = 0; value = (start, none_begun) } | false ↦ record { refused = 0; place = length s - length r; value = shown x } ]

  pub start-stopped : {k at : ℕ} → RunsTo s (fault_at k at) (start_run e d t s) → record { refused = k; place = at; value = (start, none_begun) } ≡ start_read e d t s
  unfolding start_read
  start-stopped {at = at} h = rw (sym h.same, place_is s at h.within)

  pub start-fifty : {at : ℕ} {x : Outset} → RunsTo s (onto x at) (start_run e d t s) → some_unserved t x.0 ≡ true
      → record { refused = 50; place = 0; value = (start, none_begun) } ≡ start_read e d t s
  unfolding start_read
  start-fifty {at} {x} h u = sym (ap (λ (b : Bool). fifty b x (drop at s)) u) ∙ ap (came_to t s) h.same

  pub start-served : {at : ℕ} {x : Outset} → RunsTo s (onto x at) (start_run e d t s) → some_unserved t x.0 ≡ false
      → record { refused = 0; place = at; value = shown x } ≡ start_read e d t s
  unfolding start_read
  start-served {at} {x} h u =
      ap (λ (n : ℕ). record { refused = 0; place = n; value = shown x }) (sym (place_is s at h.within)) ∙ sym (ap (λ (b : Bool). fifty b x (drop at s)) u) ∙ ap (came_to t s) h.same
