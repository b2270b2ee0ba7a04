-- What the readers of the two texts answered is how far these come, in the paper's order.
-- Assumes nothing.
use Prim.Native.Nat.{ℕ}
use mathlib.Core.List.{List}
use mathlib.Core.Path.{◌≡◌, refl}
use lib.ListN.{length}
use Rattle.read_chain.specs.declared.Place.{Place}
use Rattle.read_chain.specs.Whole.{Whole, whole, beside}
use Rattle.model.specs.declared.Text.{Text}
use Rattle.judge_spec.specs.Course.{faulty, reached, short_start}
use Rattle.judge_lib.specs.Came.{alone_as, outcome_of, came}
use Rattle.start_spec.specs.Paper.{nothing as unstarted}
use Rattle.judge_lib.proofs.Order.{in_order_is, begins-alone, unbegun, Told, told-then}
use Rattle.aeolus_model.specs.Model.{Universe, Configuration, no_universe, nothing}
use Rattle.aeolus_model.specs.Action.{Plan, no_plan, actions_of}
use Rattle.aeolus_read_spec.specs.Texts.{sheet, plan}
use Rattle.aeolus_read_spec.proofs.Lawful.{sheet-stops, plan-stops}
use Rattle.aeolus_rules_spec.specs.Run.{Ran, run}
use Rattle.aeolus_judge_spec.specs.Course.{both, course}

module _ (s a : List ℕ) where
  -- of what the two readers answered, x beside the universe and y beside the plan
  pub both-comes : (x y : Place) (u : Universe) (g : Plan) → beside x u ≡ whole no_universe sheet s → beside y g ≡ whole no_plan (plan u.count) a
      → (came (outcome_of (length s) (alone_as x) (length a) y) (λ _. (u, g)) ≡ both s a) × Told s unstarted a (both s a)
  unfolding both short_start
  both-comes x y u g is also =
      in_order_is sheet (λ _. reached tt) (λ u. plan u.count) (λ u _ g. (u, g)) s unstarted a no_universe no_plan {r = beside x u} {b = unbegun} {y = beside y g} is (λ p l e. begins-alone) also
      (sheet-stops s) (plan-stops u.count a)

  -- the course goes on with the run of what they say, from c, where nothing is deployed
  pub run-goes : (u : Universe) (g : Plan) {w : Ran} {c : Configuration} → reached (u, g) ≡ both s a → c ≡ nothing
      → w ≡ run u c (actions_of g) → reached (u, w) ≡ course s a
  unfolding course
  run-goes u g e z f = rw (← e, f, z)

  pub fault-goes : (x : Text) (n at : ℕ) → faulty x n at ≡ both s a → faulty x n at ≡ course s a
  unfolding course
  fault-goes x n at e = rw (← e)

  -- a fault lies in its text
  pub course-told : Told s unstarted a (course s a)
  unfolding course
  course-told = told-then _ (go (whole no_universe sheet s) refl (whole no_plan (plan (whole no_universe sheet s).value.count) a) refl)
    where
      go : (one : Whole Universe) → one ≡ whole no_universe sheet s → (two : Whole Plan) → two ≡ whole no_plan (plan one.value.count) a → Told s unstarted a (both s a)
      go one e two f = (both-comes (record { refused = one.refused; place = one.place }) (record { refused = two.refused; place = two.place }) one.value two.value e f).1
