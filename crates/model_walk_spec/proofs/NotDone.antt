-- What names forbid is not carried out, so the program is not at its end.
-- Assumes nothing.
use mathlib.Core.Path.{◌≡◌, refl, sym, ap, ◌∙◌}
use mathlib.Core.Bool.{Bool, true, false, cond, true≢false}
use native.Mathlib.Omega.{arith}
use lib.Dec.{leb}
use lib.ListN.{length}
use borrow.Author.Tests.{lt-leb}
use Rattle.done_spec.specs.Done.{all_done}
use Rattle.foretell_spec.specs.Foretold.{NumbersForetold}
use Rattle.foretell_spec.proofs.Foretold.{numbers-foretold-holds, never-past}
use Rattle.model_walk_spec.specs.declared.Ending.{Ending}
use Rattle.model_walk_spec.specs.declared.Ending.TheVariants.{NoEnding, Done, Cut, Stuck}
use Rattle.model_walk_spec.specs.Walk.{most_steps, model_steps, model_reached, model_ending}
use Rattle.model_walk_spec.specs.NotDone.{ForetoldIsNotDone}

is_done : Ending → Bool
is_done NoEnding = false
is_done Done = true
is_done Cut = false
is_done Stuck = false

cut-or-stuck : (b : Bool) → is_done (cond b Cut Stuck) ≡ false
unfolding is_done
cut-or-stuck true = refl
cut-or-stuck false = refl

pub foretold-is-not-done : ForetoldIsNotDone
unfolding ForetoldIsNotDone NumbersForetold model_ending all_done is_done
foretold-is-not-done default t p c z n e =
    let far = never-past default t p c (model_steps default t p c) z in
    let l = ((numbers-foretold-holds t p c z).one n).0 in
    let off : leb p.count (model_reached default t p c).done ≡ false = lt-leb p.count (model_reached default t p c).done (omega arith) in
    let not : is_done (model_ending default t p c) ≡ false = rw off (cut-or-stuck (leb most_steps (length (model_steps default t p c)))) in
    true≢false (sym (ap is_done e) ∙ not)
