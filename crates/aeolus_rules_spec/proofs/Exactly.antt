-- The test of a configuration is Definition 3.
-- Assumes nothing.
use mathlib.Core.Bool.{Bool, true, false, not, ◌&&◌, ◌||◌, and-eq-true_iff, or-true}
use mathlib.Core.Path.{◌≡◌, refl, sym, ◌∙◌, subst}
use mathlib.Core.Logic.{◌≢◌, ◌⊎◌, inl, inr, ◌↔◌}
use Prim.Native.Nat.{ℕ, zero, suc, ◌<◌}
use native.Mathlib.Omega.{arith}
use native.Mathlib.Nat.{le_step}
use lib.Dec.{eqb}
use borrow.Author.Tests.{eq-eqb, ne_eqb, eqb-true, eqb-false, not-true, leb-true, le-leb}
use Rattle.sets.proofs.Laws.{any-hit, all-at, all_of}
use Rattle.sets.specs.Test.{any_below, tally}
use Rattle.aeolus_model.specs.Model.{Universe, Configuration, provision, weak, strong, kind_of, state_of, deployed, number_in, number_of, number_at, is_active, type_of, name_of, find, NamesDiffer}
use Rattle.aeolus_rules_spec.specs.Correct.{provides, serves, employs, required, provided, asked, port_holds, component_holds, holds}
use Rattle.aeolus_rules_spec.specs.Definition3.{Serves, Employs, Required, Provided, StrongExactly, WeakExactly, SixtyFourIsUnbounded}
use Rattle.item_spec.proofs.Tests.{by-test}
use Rattle.aeolus_rules_spec.proofs.Sizes.{each_map, Passes, distinct-few, some_of, tally-none, none-tally, tally-le}

pub both : (a : Bool) {b : Bool} → (a && b) ≡ true → (a ≡ true) × (b ≡ true)
both a {b} = (and-eq-true_iff a b).0

true≢false' : true ≡ false → ⊥
true≢false' e = subst (λ (b : Bool). elim b as (λ _. Type 0) [ true ↦ Unit | false ↦ ⊥ ]) e tt

not-other : (y z : ℕ) → not (eqb y z) ≡ true → y ≢ z
not-other y z e = eqb-false y z (not-true (eqb y z) e)

either : (a b : Bool) → (a || b) ≡ true → (a ≡ true) ⊎ (b ≡ true)
either true b e = inl refl
either false b e = inr e

either-of : (a b : Bool) → (a ≡ true) ⊎ (b ≡ true) → (a || b) ≡ true
either-of a b (inl e) = rw e
either-of a b (inr e) = rw e (or-true a)

module _ (u : Universe) (c : Configuration) where
  serves-is : (z r y : ℕ) → y < 32 → serves u c r z y ≡ true → Serves u c z r y
  unfolding serves provides
  serves-is z r y h e =
      let (p, b) = both (not (eqb y z) && (deployed c y && is_active u c provision y r)) e in
      let (other, rest) = both (not (eqb y z)) p in
      let (d, a) = both (deployed c y) rest in
      record { component = record { deployed-is = d; known = h; other = not-other y z other }; binding = b; provided = a }

  serves-of : (z r y : ℕ) → Serves u c z r y → Passes 32 (serves u c r z) y
  unfolding serves provides
  serves-of z r y s = (s.component.known, rw (ne_eqb y z s.component.other, s.component.deployed-is, s.provided) s.binding)

  employs-is : (z p y : ℕ) → y < 32 → employs u c p z y ≡ true → Employs u c z p y
  unfolding employs
  employs-is z p y h e =
      let (other, rest) = both (not (eqb y z)) e in
      let (d, more) = both (deployed c y) rest in
      let (a, b) = both (is_active u c weak y p || is_active u c strong y p) more in
      record { component = record { deployed-is = d; known = h; other = not-other y z other }; binding = b; required = either (is_active u c weak y p) (is_active u c strong y p) a }

  employs-of : (z p y : ℕ) → Employs u c z p y → Passes 32 (employs u c p z) y
  unfolding employs
  employs-of z p y s =
      (s.component.known, rw (ne_eqb y z s.component.other, s.component.deployed-is, either-of (is_active u c weak y p) (is_active u c strong y p) s.required) s.binding)

  required-exactly : (z r n : ℕ) → (required u c z r n ≡ true) ↔ Required u c z r n
  unfolding required Required provides
  required-exactly z r zero = (
    (λ e y o. by-test (is_active u c provision y r)
        (λ a. absurd (true≢false' (sym (rw (ne_eqb y z o.other, o.deployed-is) a) ∙ tally-none 32 (provides u c r z) (eqb-true _ 0 e) y o.known)))
        (λ a. a)),
    (λ f. eq-eqb _ 0 (none-tally 32 (provides u c r z) (λ y h. by-test (provides u c r z y)
        (λ e. let (other, rest) = both (not (eqb y z)) e in let (d, a) = both (deployed c y) rest in
        absurd (true≢false' (sym a ∙ f y (record { deployed-is = d; known = h; other = not-other y z other }))))
        (λ e. e)))),
  )
  required-exactly z r (suc n) = (
    (λ e. let s = some_of 32 (suc n) (serves u c r z) (leb-true _ _ e) in
        (s.list, s.many, s.distinct, each_map (Passes 32 (serves u c r z)) (Serves u c z r) s.list (λ y (h, q). serves-is z r y h q) s.pass)),
    (λ (ys, many, distinct, each). le-leb (suc n) (tally 32 (serves u c r z))
        (let few = distinct-few 32 ys (serves u c r z) distinct (each_map (Serves u c z r) (Passes 32 (serves u c r z)) ys (λ y s. serves-of z r y s) each) in omega arith)),
  )

  provided-exactly : (z p n : ℕ) → (provided u c z p n ≡ true) ↔ Provided u c z p n
  unfolding provided Provided
  provided-exactly z p n = (
    (λ e ys distinct each.
        let few = distinct-few 32 ys (employs u c p z) distinct (each_map (Employs u c z p) (Passes 32 (employs u c p z)) ys (λ y s. employs-of z p y s) each) in
        let most = leb-true (tally 32 (employs u c p z)) n e in omega arith),
    (λ f. le-leb (tally 32 (employs u c p z)) n
        (let s = some_of 32 (tally 32 (employs u c p z)) (employs u c p z) (omega arith) in
        let h = f s.list s.distinct (each_map (Passes 32 (employs u c p z)) (Employs u c z p) s.list (λ y (h, q). employs-is z p y h q) s.pass) in
        let m = s.many in omega arith)),
  )

-- ---- interfaces by name and by place

pub find-is : (n : ℕ) (p : ℕ → Bool) → any_below n p ≡ true → (find n p < n) × (p (find n p) ≡ true)
unfolding any_below find
find-is zero p e = absurd (true≢false' (sym e))
find-is (suc n) p e =
    by-test (any_below n p) (λ q. rw q (let (h, f) = find-is n p q in (le_step h, f)))
    (λ q. by-test (p n) (λ r. rw (q, r) (omega arith, r)) (λ r. absurd (true≢false' (sym e ∙ rw (q, r)))))

module _ (u : Universe) (named : NamesDiffer u) (c : Configuration) (m z : ℕ) where
  -- of the interface at place j
  at_place : (j : ℕ) → j < (type_of u (kind_of c z)).interfaces → number_in u c m z (name_of u (kind_of c z) j) ≡ number_at u (kind_of c z) (state_of c z) m j
  unfolding number_of NamesDiffer
  at_place j h =
      let k = kind_of c z in
      let test : ℕ → Bool = λ i. eqb (name_of u k i) (name_of u k j) in
      let there : any_below (type_of u k).interfaces test ≡ true = any-hit (type_of u k).interfaces test j h (eq-eqb (name_of u k j) (name_of u k j) refl) in
      let (l, e) = find-is (type_of u k).interfaces test there in
      rw (there, named k (find (type_of u k).interfaces test) j l h (eqb-true _ _ e))

  -- each interface that is active has a place
  by_name : (P : ℕ → ℕ → Type 0) → ((j : ℕ) → j < (type_of u (kind_of c z)).interfaces → (n : ℕ) → number_at u (kind_of c z) (state_of c z) m j ≡ suc n → P (name_of u (kind_of c z) j) n)
      → (r n : ℕ) → number_in u c m z r ≡ suc n → P r n
  unfolding number_of
  by_name P f r n e =
      let k = kind_of c z in
      let test : ℕ → Bool = λ i. eqb (name_of u k i) r in
      by-test (any_below (type_of u k).interfaces test)
      (λ there. let (l, q) = find-is (type_of u k).interfaces test there in
      subst (λ (x : ℕ). P x n) (eqb-true _ _ q) (f (find (type_of u k).interfaces test) l n (rw there at e)))
      (λ none. absurd (let x : ◌≡◌ {A = ℕ} 0 (suc n) = (rw none at e) in omega arith))

  holds-here : (P : ℕ → ℕ → Type 0) → ((r n : ℕ) → (asked u c m z r (suc n) ≡ true) ↔ P r n) → z < 32 → deployed c z ≡ true
      → (component_holds u c m z ≡ true) ↔ ((r n : ℕ) → number_in u c m z r ≡ suc n → P r n)
  unfolding component_holds port_holds asked
  holds-here P exactly h d = (
    (λ e. by_name P (λ j l n q. (exactly (name_of u (kind_of c z) j) n).0 (rw q at (all-at (type_of u (kind_of c z)).interfaces (port_holds u c m z) (rw d at e) j l)))),
    (λ f. rw d (all_of (type_of u (kind_of c z)).interfaces (port_holds u c m z) (λ j l. go j l (number_at u (kind_of c z) (state_of c z) m j) refl f))),
  )
    where
      go : (j : ℕ) → j < (type_of u (kind_of c z)).interfaces → (x : ℕ) → number_at u (kind_of c z) (state_of c z) m j ≡ x → ((r n : ℕ) → number_in u c m z r ≡ suc n → P r n)
          → asked u c m z (name_of u (kind_of c z) j) (number_at u (kind_of c z) (state_of c z) m j) ≡ true
      go j l zero e f = rw e
      go j l (suc n) e f = rw e ((exactly (name_of u (kind_of c z) j) n).1 (f (name_of u (kind_of c z) j) n (at_place j l ∙ e)))

holds-exactly : (u : Universe) → NamesDiffer u → (c : Configuration) (m : ℕ) (P : ℕ → ℕ → ℕ → Type 0) → ((z r n : ℕ) → (asked u c m z r (suc n) ≡ true) ↔ P z r n)
    → (holds u c m ≡ true) ↔ ((z r n : ℕ) → z < 32 → deployed c z ≡ true → number_in u c m z r ≡ suc n → P z r n)
unfolding holds component_holds
holds-exactly u named c m P exactly = (
  (λ e z r n h d q. (holds-here u named c m z (P z) (exactly z) h d).0 (all-at 32 (component_holds u c m) e z h) r n q),
  (λ f. all_of 32 (component_holds u c m) (λ z h. by-test (deployed c z) (λ d. (holds-here u named c m z (P z) (exactly z) h d).1 (λ r n q. f z r n h d q)) (λ d. rw d))),
)

pub strong-exactly : StrongExactly
unfolding StrongExactly asked
strong-exactly u c named =
    let a = holds-exactly u named c provision (Provided u c) (λ z r n. provided-exactly u c z r n) in
    let b = holds-exactly u named c strong (Required u c) (λ z r n. required-exactly u c z r n) in (
      (λ (p, s). record { provisions = a.0 p; strong-demands = b.0 s }),
      (λ r. (a.1 r.provisions, b.1 r.strong-demands)),
    )

pub weak-exactly : WeakExactly
unfolding WeakExactly asked
weak-exactly u c named = holds-exactly u named c weak (Required u c) (λ z r n. required-exactly u c z r n)

-- there are no more than 32 components
pub sixty-four-is-unbounded : SixtyFourIsUnbounded
unfolding SixtyFourIsUnbounded provided
sixty-four-is-unbounded u c z p = (provided-exactly u c z p 64).0 (le-leb (tally 32 (employs u c p z)) 64 (omega (arith, tally-le 32 (employs u c p z))))
