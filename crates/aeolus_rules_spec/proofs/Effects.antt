-- What each action makes of a configuration: a row that changes is that of one component and one interface.
-- Assumes nothing.
use mathlib.Core.Path.{◌≡◌, refl, sym, ap, ◌∙◌}
use mathlib.Core.Logic.{◌≢◌, by_cases}
use mathlib.Core.Bool.{Bool, true, false, not, cond, ◌&&◌, true≢false, and-false, and-true, or-false}
use mathlib.Core.List.{List}
use Prim.Native.Nat.{ℕ, ◌+◌, ◌*◌, ◌<◌}
use native.Mathlib.Omega.{arith}
use native.Mathlib.Decide.{ℕ_discrete}
use lib.Dec.{eqb}
use lib.ListN.{length, get_or, set}
use lib.Seq.{get_or-set_same, get_or-set_other}
use borrow.Author.Tests.{eq-eqb, ne_eqb}
use Rattle.sets.specs.Mask.{member, with, without, only}
use Rattle.sets.proofs.Laws.{member-with, member-without, member-only}
use Rattle.item_spec.proofs.Tests.{by-test}
use Rattle.aeolus_model.specs.Model.{Universe, Configuration, nothing, type_of, place_of, lists, kind_of, deployed, bound_at, bound}
use Rattle.aeolus_rules_spec.specs.Definition1.{Lawful}
use Rattle.aeolus_rules_spec.specs.Definition5.{Sized, PointsAreSized, BindAdds, UnbindTakes, BindingsLeaveComponents, ChangeMoves, NewAdds, NewLeavesBindings, NewHasNone}
use Rattle.aeolus_rules_spec.specs.Bind.{rebound, joined}
use Rattle.aeolus_rules_spec.specs.Unbind.{parted}
use Rattle.aeolus_rules_spec.specs.Change.{changed}
use Rattle.aeolus_rules_spec.specs.New.{added}
use Rattle.aeolus_rules_spec.specs.Action.{effect}
use Rattle.aeolus_rules_spec.specs.Run.{run}
use Rattle.aeolus_rules_spec.proofs.Exactly.{both}
use Rattle.aeolus_rules_spec.proofs.Kept.{place_is, place-small, points-sound}

pub points-are-sized : PointsAreSized
unfolding PointsAreSized
points-are-sized u acts law known = let s = points-sound u law acts known in record { kinds = s.kinds-length; states = s.states-length; rows = s.bound-length }

-- the providers of z for r become f of what they were, and no other row changes
module _ (u : Universe) (law : Lawful u) (c : Configuration) (sized : Sized c) (r z : ℕ) (hz : z < 32) (here : deployed c z ≡ true) (listed : lists u (kind_of c z) r ≡ true) (f : ℕ → ℕ) where
  abbrev j : ℕ
  j = place_of u (kind_of c z) r

  bound-at : (w : ℕ) → bound u c r z w ≡ member w (bound_at c z j)
  unfolding bound
  bound-at w = rw (here, listed) refl

  rebound-at : (w : ℕ) → bound u (rebound u c r z f) r z w ≡ member w (f (bound_at c z j))
  unfolding bound rebound
  rebound-at w = rw (here, listed, get_or-set_same c.bound (z * 16 + j) (f (bound_at c z j)) 0 (omega (arith, sized.rows, place-small u law (kind_of c z) r listed))) refl

  rebound-away : (q x w : ℕ) → (q ≡ r → x ≡ z → ⊥) → bound u (rebound u c r z f) q x w ≡ bound u c q x w
  unfolding bound rebound
  rebound-away q x w apart =
      by-test (lists u (kind_of c x) q)
      (λ l. rw (l, get_or-set_other c.bound (z * 16 + j) (x * 16 + place_of u (kind_of c x) q) (f (bound_at c z j)) 0 (other l)) refl)
      (λ l. rw l refl)
    where
      other : lists u (kind_of c x) q ≡ true → x * 16 + place_of u (kind_of c x) q ≢ z * 16 + j
      other l e =
          let a = place-small u law (kind_of c x) q l in
          let b = place-small u law (kind_of c z) r listed in
          let same : x ≡ z = omega arith in
          let place : place_of u (kind_of c x) q ≡ j = omega arith in
          apart (sym (place_is u law (kind_of c x) q l).1 ∙ rw (place, same) (place_is u law (kind_of c z) r listed).1) same

module _ (q r x z w y : ℕ) where
  test-here : q ≡ r → x ≡ z → (eqb q r && (eqb x z && eqb w y)) ≡ eqb w y
  test-here e f = rw (eq-eqb q r e, eq-eqb x z f) refl

  test-away : (q ≡ r → x ≡ z → ⊥) → (eqb q r && (eqb x z && eqb w y)) ≡ false
  test-away apart =
      by_cases (ℕ_discrete q r)
      (λ e. by_cases (ℕ_discrete x z) (λ f. absurd (apart e f)) (λ f. rw (eq-eqb q r e, ne_eqb x z f) refl))
      (λ e. rw (ne_eqb q r e) refl)

  either : {P : Type 0} → (q ≡ r → x ≡ z → P) → ((q ≡ r → x ≡ z → ⊥) → P) → P
  either g h = by_cases (ℕ_discrete q r) (λ e. by_cases (ℕ_discrete x z) (λ f. g e f) (λ f. h (λ _ e'. f e'))) (λ e. h (λ e' _. e e'))

pub bind-adds : BindAdds
unfolding BindAdds effect joined
bind-adds u c r z y q x w law sized hz hw (here, _, required, _, _, _) =
    let listed = (both (lists u (kind_of c z) r) required).0 in
    either q r x z w y
    (λ e f. rw (test-here q r x z w y e f, e, f, rebound-at u law c sized r z hz here listed (with y) w, bound-at u law c sized r z hz here listed (with y) w) (member-with w y (bound_at c z (place_of u (kind_of c z) r)) hw))
    (λ apart. rw (test-away q r x z w y apart, or-false (bound u c q x w)) (rebound-away u law c sized r z hz here listed (with y) q x w apart))

stands-listed : (u : Universe) (c : Configuration) (r z y : ℕ) → bound u c r z y ≡ true → (deployed c z ≡ true) × (lists u (kind_of c z) r ≡ true)
unfolding bound
stands-listed u c r z y stands = let (d, rest) = both (deployed c z) stands in (d, (both (lists u (kind_of c z) r) rest).0)

pub unbind-takes : UnbindTakes
unfolding UnbindTakes effect parted
unbind-takes u c r z y q x w law sized hz hw stands =
    let (here, listed) = stands-listed u c r z y stands in
    either q r x z w y
    (λ e f. rw (test-here q r x z w y e f, e, f, rebound-at u law c sized r z hz here listed (λ m. without m (only y)) w, bound-at u law c sized r z hz here listed (λ m. without m (only y)) w)
    (member-without w (bound_at c z (place_of u (kind_of c z) r)) (only y) hw ∙ ap (λ (b : Bool). member w (bound_at c z (place_of u (kind_of c z) r)) && not b) (member-only w y hw)))
    (λ apart. rw (test-away q r x z w y apart, and-true (bound u c q x w)) (rebound-away u law c sized r z hz here listed (λ m. without m (only y)) q x w apart))

pub bindings-leave-components : BindingsLeaveComponents
unfolding BindingsLeaveComponents effect joined parted rebound
bindings-leave-components u c r z y x = ((refl, refl, refl), (refl, refl, refl))

-- a place of an array, written once
set_told : (xs : List ℕ) (z v x : ℕ) → z < length xs → get_or (set xs z v) x 0 ≡ cond (eqb x z) v (get_or xs x 0)
set_told xs z v x h =
    by_cases (ℕ_discrete x z)
    (λ e. rw (eq-eqb x z e, e) (get_or-set_same xs z v 0 h))
    (λ n. rw (ne_eqb x z n) (get_or-set_other xs z x v 0 n))

pub change-moves : ChangeMoves
unfolding ChangeMoves effect changed bound
change-moves u c z q s x r y sized hz = (set_told c.states z s x (omega (arith, sized.states)), refl, refl, refl)

pub new-adds : NewAdds
unfolding NewAdds effect added
new-adds u c z k x sized hz hx =
    (member-with x z c.present hx, set_told c.kinds z k x (omega (arith, sized.kinds)), set_told c.states z (type_of u k).initial x (omega (arith, sized.states)))

pub new-leaves-bindings : NewLeavesBindings
unfolding NewLeavesBindings effect added bound
new-leaves-bindings u c z k r x y hz hx n =
    rw (member-with x z c.present hx, ne_eqb x z n, or-false (deployed c x), get_or-set_other c.kinds z x k 0 n) refl

pub new-has-none : NewHasNone
unfolding NewHasNone effect added bound
new-has-none u acts z k r y law known hz hy absent =
    let c = (run u nothing acts).configuration in
    let s = points-sound u law acts known in
    by-test (lists u k r)
    (λ l. by-test (member y (get_or c.bound (z * 16 + place_of u k r) 0))
    (λ m. absurd (true≢false (sym (s.rows z (place_of u k r) y hz (place-small u law k r l) hy m).requirer ∙ absent)))
    (λ m. rw (get_or-set_same c.kinds z k 0 (omega (arith, s.kinds-length)), l, m) (and-false (member z (with z c.present)))))
    (λ l. rw (get_or-set_same c.kinds z k 0 (omega (arith, s.kinds-length)), l) (and-false (member z (with z c.present))))
