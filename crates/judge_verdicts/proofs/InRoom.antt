-- The judgement in a room: its place, and its verdict where the report fits.
-- Assumes nothing.
use Prim.Native.Nat.{ℕ}
use mathlib.Core.List.{List}
use mathlib.Core.Bool.{Bool, true, false}
use mathlib.Core.Path.{◌≡◌, refl, ap, ◌∙◌}
use lib.Dec.{leb}
use lib.ListN.{length}
use Rattle.model.specs.declared.Walked.{Walked}
use Rattle.judge_spec.specs.declared.Place.{Place}
use Rattle.judge_spec.specs.declared.Verdict.{Verdict}
use Rattle.judge_spec.specs.Judged.{Judgement, no_room, walk_verdict, after_walk, in_room}
use Rattle.judge_verdicts.specs.Fits.{place_for}

module _ (w : Walked) (x a : List ℕ) where
  pub in-room-place : (room : ℕ) → place_for (leb (length x) room) w.refused w.accepted a ≡ (in_room room w x a).place
  unfolding place_for in_room after_walk
  in-room-place room = go (leb (length x) room)
    where
      go : (b : Bool) → place_for b w.refused w.accepted a ≡ (elim b as (λ _. Judgement) [ true ↦ after_walk w x a | false ↦ no_room ]).place
      go true = refl
      go false = refl

  -- what the code answers, of a report of which it knows whether it fits
  pub fits-place : {p : Place} {fits : Bool} (room : ℕ) → p ≡ place_for fits w.refused w.accepted a → fits ≡ leb (length x) room → p ≡ (in_room room w x a).place
  fits-place room h e = h ∙ ap (λ (b : Bool). place_for b w.refused w.accepted a) e ∙ in-room-place room

  -- of one that fits and has so many bytes
  pub size-verdict : {v : Verdict} {size : ℕ} → v ≡ walk_verdict w size → size ≡ length x → v ≡ (after_walk w x a).verdict
  unfolding after_walk
  size-verdict h e = h ∙ ap (walk_verdict w) e
