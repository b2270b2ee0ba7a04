-- Every kind of line gives values that keep to its limits and clauses, and a rest of the text, or refuses (`Reads` of crate reading).
-- Assumes nothing.
use Prim.Native.Nat.{ℕ, ◌-◌, ◌^◌, ◌≤◌, ◌<◌}
use mathlib.Core.Bool.{Bool, true, false, ◌&&◌}
use mathlib.Core.Logic.{◌≢◌}
use mathlib.Core.Path.{◌≡◌, sym, ◌∙◌}
use native.Mathlib.Nat.{lt_of_lt_of_le}
use native.Mathlib.Omega.{arith}
use lib.Dec.{eqb}
use lib.Pow.{pow_mono}
use borrow.Author.Tests.{leb-true, ltb-true, eq-eqb, ne_eqb, eqb-false, not-true}
use Rattle.sets.specs.Mask.{member}
use Rattle.item_spec.specs.Reader.{bytes}
use Rattle.item_spec.proofs.Tests.{by-test, and_left, and_right, or-not}
use Rattle.read_spec.specs.Limits.{five_digits, list_ok}
use Rattle.read_spec.proofs.Rests.{Reads, limit-fault, clause-fault, reads_then, reads-give, reads-check, reads-key, reads_on, reads_none}
use Rattle.read_spec.proofs.Shapes.{reads-one, reads_two, reads_three, reads-set}
use Rattle.aeolus_model.specs.declared.Step.{Step}
use Rattle.aeolus_model.specs.Model.{Universe, provision, weak, strong, type_of, name_of, place_of, lists}
use Rattle.aeolus_model.specs.Action.{bind_verb, unbind_verb, action_of}
use Rattle.aeolus_model.proofs.Find.{some-found}
use Rattle.aeolus_read_spec.specs.Limits.{id_ok, name_ok, number_ok, change_ok, type_ok, above_ok, listed_ok, new_ok, first_ok, ends_ok}
use Rattle.aeolus_read_spec.specs.Kinds.{provide_kind, require_kind, both_kind, interface_name, interface_line, to_line, row_port, row_line, step, new_step, del_step, change_step, ends_step, step_line}
use Rattle.aeolus_read_spec.specs.Lawful.{side, ActionLawful}

-- ---- an interface: its name is above that of the one before it
pub record Named (u : Universe) (k j : ℕ) (y : ℕ × ℕ) : Type 0 where
  pub small : y.1 ≤ 255
  pub above : j ≢ 0 → name_of u k (j - 1) < y.1

module _ (u : Universe) (k j : ℕ) where
  reads-name : (c : ℕ) → Reads (Named u k j) (interface_name u k j c)
  unfolding interface_name
  reads-name c =
      reads_then (reads-one five_digits) (λ r _.
      reads_then (reads-check (name_ok r) limit-fault) (λ _ e.
      reads_then (reads-check (above_ok u k j r) clause-fault) (λ _ f.
      reads-give (record { small = leb-true r 255 e; above = λ d. ltb-true _ _ (or-not (eqb j 0) _ f (ne_eqb j 0 d)) }))))

  pub reads-interface : Reads (Named u k j) (interface_line u k j)
  unfolding interface_line
  reads-interface =
      reads_on (bytes "interface=provide,") (reads-name provide_kind)
      (reads_on (bytes "interface=require,") (reads-name require_kind)
      (reads_on (bytes "interface=both,") (reads-name both_kind) reads_none))

-- ---- `to=`, in a type of n states
pub reads-to : (n : ℕ) → n ≤ 32 → Reads (λ m. m < 2 ^ n) (to_line n)
unfolding to_line
reads-to n h =
    reads_then (reads-key (bytes "to=")) (λ _ _. reads_then (reads-set five_digits (omega arith)) (λ l w.
    reads_then (reads-check (list_ok n l.top) limit-fault) (λ _ e.
    let t = leb-true l.top n e in
    reads-give (lt_of_lt_of_le (w (omega arith)).within (pow_mono t)))))

-- ---- a row: map, place of its interface, one more than its number
pub record Ported (u : Universe) (k q : ℕ) (y : ℕ × ℕ × ℕ) : Type 0 where
  pub map : y.0 < 3
  pub place : y.1 < (type_of u k).interfaces
  pub small : y.2 ≤ 65
  pub listed : member y.1 (side (type_of u k) y.0) ≡ true
  pub later : y.0 ≡ strong → q ≢ (type_of u k).initial

module _ (u : Universe) (k : ℕ) where
  found : (r : ℕ) → lists u k r ≡ true → place_of u k r < (type_of u k).interfaces
  found r e = ltb-true _ _ (sym (some-found _ (type_of u k).interfaces) ∙ e)

  lists-it : (m r : ℕ) → listed_ok u k m r ≡ true → lists u k r ≡ true
  lists-it m r e =
      by-test (eqb m provision)
      (λ t. and_left (lists u k r) _ (rw t at e))
      (λ t. and_left (lists u k r) _ (rw t at e))

  has-it : (m r : ℕ) → listed_ok u k m r ≡ true → member (place_of u k r) (side (type_of u k) m) ≡ true
  has-it m r e =
      by-test (eqb m provision)
      (λ t. rw t (and_right (lists u k r) _ (rw t at e)))
      (λ t. rw t (and_right (lists u k r) _ (rw t at e)))

  not_first : (q m : ℕ) → first_ok u k q m ≡ true → m ≡ strong → q ≢ (type_of u k).initial
  not_first q m e s d =
      let z : ◌≡◌ {A = Bool} true false = sym (both q m s d) ∙ not-true _ e in
      absurd (let o : ◌≡◌ {A = ℕ} 0 1 = cc in omega arith)
    where
      both : (q m : ℕ) → m ≡ strong → q ≡ (type_of u k).initial → (eqb m strong && eqb q (type_of u k).initial) ≡ true
      both q m s d = rw (eq-eqb m strong s, eq-eqb q _ d)

  reads-port : (q m : ℕ) → m < 3 → Reads (Ported u k q) (row_port u k q m)
  unfolding row_port
  reads-port q m few =
      reads_then (reads_two five_digits) (λ y _.
      reads_then (reads-check (name_ok y.0 && number_ok y.1) limit-fault) (λ _ e.
      reads_then (reads-check (listed_ok u k m y.0 && (new_ok u k q m y.0 && first_ok u k q m)) clause-fault) (λ _ f.
      let n = leb-true y.1 _ (and_right (name_ok y.0) _ e) in
      let l = and_left (listed_ok u k m y.0) _ f in
      let g = and_right (new_ok u k q m y.0) _ (and_right (listed_ok u k m y.0) _ f) in
      reads-give (record {
        map = few;
        place = found y.0 (lists-it m y.0 l);
        small = omega arith;
        listed = has-it m y.0 l;
        later = not_first q m g;
      }))))

  pub reads-row : (q : ℕ) → Reads (Ported u k q) (row_line u k q)
  unfolding row_line
  reads-row q =
      reads_on (bytes "provide=") (reads-port q provision (omega arith))
      (reads_on (bytes "weak=") (reads-port q weak (omega arith))
      (reads_on (bytes "strong=") (reads-port q strong (omega arith)) reads_none))

-- ---- a step, in a sheet of n types
abbrev pub Lawfully : ℕ → Step → Type 0
Lawfully n x = ActionLawful n (action_of x)

module _ (n : ℕ) where
  reads-new : Reads (Lawfully n) (new_step n)
  unfolding new_step action_of
  reads-new =
      reads_then (reads_two five_digits) (λ y _. reads_then (reads-check (id_ok y.0 && type_ok n y.1) limit-fault) (λ _ e.
      reads-give (leb-true _ 31 (and_left (id_ok y.0) _ e), ltb-true _ n (and_right (id_ok y.0) _ e))))

  reads-del : Reads (Lawfully n) del_step
  unfolding del_step action_of
  reads-del = reads_then (reads-one five_digits) (λ z _. reads_then (reads-check (id_ok z) limit-fault) (λ _ e. reads-give (leb-true z 31 e)))

  reads-change : Reads (Lawfully n) change_step
  unfolding change_step action_of
  reads-change =
      reads_then (reads_three five_digits) (λ y _.
      reads_then (reads-check (id_ok y.0 && (change_ok y.1 && change_ok y.2)) limit-fault) (λ _ e.
      let f = and_right (id_ok y.0) _ e in
      reads-give (leb-true _ 31 (and_left (id_ok y.0) _ e), leb-true _ 15 (and_left (change_ok y.1) _ f), leb-true _ 15 (and_right (change_ok y.1) _ f))))

  module _ (v : ℕ) (ends : (r z y : ℕ) → (r ≤ 255) × (z ≤ 31) × (y ≤ 31) × (z ≢ y) → Lawfully n (step v r z y)) where
    reads-ends : Reads (Lawfully n) (ends_step v)
    unfolding ends_step
    reads-ends =
        reads_then (reads_three five_digits) (λ y _.
        reads_then (reads-check (name_ok y.0 && (id_ok y.1 && id_ok y.2)) limit-fault) (λ _ e.
        reads_then (reads-check (ends_ok y.1 y.2) clause-fault) (λ _ g.
        let f = and_right (name_ok y.0) _ e in
        reads-give (ends y.0 y.1 y.2 (
          leb-true _ 255 (and_left (name_ok y.0) _ e),
          leb-true _ 31 (and_left (id_ok y.1) _ f),
          leb-true _ 31 (and_right (id_ok y.1) _ f),
          eqb-false _ _ (not-true _ g),
        )))))

  reads-bind : Reads (Lawfully n) (ends_step bind_verb)
  unfolding action_of
  reads-bind = reads-ends bind_verb (λ r z y h. h)

  reads-unbind : Reads (Lawfully n) (ends_step unbind_verb)
  unfolding action_of
  reads-unbind = reads-ends unbind_verb (λ r z y h. h)

  pub reads-step : Reads (Lawfully n) (step_line n)
  unfolding step_line
  reads-step =
      reads_on (bytes "step=new,") reads-new
      (reads_on (bytes "step=del,") reads-del
      (reads_on (bytes "step=change,") reads-change
      (reads_on (bytes "step=bind,") reads-bind
      (reads_on (bytes "step=unbind,") reads-unbind reads_none))))
