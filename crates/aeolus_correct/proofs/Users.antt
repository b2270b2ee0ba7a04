-- Those that have a component as a target are all that can employ it; those that a component is bound to, all that can serve it.
-- Assumes nothing.
use mathlib.Core.Path.{◌≡◌, refl, sym, ap, ◌∙◌}
use mathlib.Core.Bool.{Bool, true, false, not, ◌&&◌, ◌||◌, and_comm, or-true, true≢false, false≢true}
use mathlib.Core.Logic.{◌≢◌, by_cases}
use mathlib.Core.List.{List}
use Prim.Native.Nat.{ℕ, zero, suc, ◌+◌, ◌^◌, ◌<◌}
use native.Mathlib.Omega.{arith}
use native.Mathlib.Numerals.{add-one}
use native.Mathlib.Decide.{ℕ_discrete}
use lib.Dec.{eqb, ltb}
use lib.ListN.{length, get_or, set, length-set}
use lib.Seq.{get_or-set_same, get_or-set_other}
use borrow.Author.Tests.{eqb-true, ltb-true, le-leb}
use Rattle.sets.specs.Test.{all_below, any_below, tally}
use Rattle.sets.specs.Mask.{member, collect, joined, least, later}
use Rattle.sets.proofs.Laws.{any-hit, all_of, all_same, member-none, member-joined, member-collect, collect-is, collect-same}
use Rattle.sets.proofs.Tally.{tally-none, tally-same}
use Rattle.sets.proofs.Members.{rest-start, later-other}
use Rattle.item_spec.proofs.Tests.{by-test}
use Rattle.aeolus_model.specs.Model.{Universe, Configuration, type_of, place_of, kind_of, deployed, is_active, provision, bound_at, bound}
use Rattle.aeolus_rules_spec.specs.Correct.{provides, serves, employs, provided, asked, port_holds, component_holds, holds}
use Rattle.aeolus_correct.specs.Users.{targets_of, Targets, Used, Users}
use Rattle.aeolus_correct.proofs.Members.{all_pass, among-all}
use Rattle.aeolus_correct.proofs.Places.{employs-by}

-- ---- targets gathered row by row

module _ (c : Configuration) (y : ℕ) where
  abbrev pub first_targets : ℕ → ℕ
  first_targets n = collect 32 (λ z. any_below n (λ j. member z (bound_at c y j)))

  pub targets-start : 0 ≡ first_targets 0
  unfolding any_below
  targets-start = collect-is 32 _ 0 (omega arith) (λ z h. member-none z)

  pub targets-more : (j : ℕ) → joined (first_targets j) (bound_at c y j) ≡ first_targets (j + 1)
  unfolding any_below
  targets-more j = collect-same 32 _ _ (λ z h. rw (member-collect 32 _ z h, add-one j))

-- ---- the users

module _ (u : Universe) (c : Configuration) (z : ℕ) where
  -- y has z as a target, and is deployed
  employer : (p y : ℕ) → z < 32 → employs u c p z y ≡ true → (deployed c y ≡ true) × (member z (targets_of u c y) ≡ true)
  unfolding targets_of
  employer p y h e =
      let k = kind_of c y in
      let j = place_of u k p in
      let told = sym (employs-by u c y p j (type_of u k).interfaces refl refl z) ∙ e in
      let (here, below, own) = taken (not (eqb y z)) (deployed c y) (ltb j (type_of u k).interfaces) (member z (bound_at c y j)) _ told in
      (here, member-collect 32 _ z h ∙ any-hit (type_of u k).interfaces (λ i. member z (bound_at c y i)) j (ltb-true j _ below) own)
    where
      taken : (a d l m x : Bool) → ((a && d) && (l && (m && x))) ≡ true → (d ≡ true) × (l ≡ true) × (m ≡ true)
      taken true true true true x e = (refl, refl, refl)
      taken true true true false x e = absurd (false≢true e)
      taken true true false m x e = absurd (false≢true e)
      taken true false l m x e = absurd (false≢true e)
      taken false d l m x e = absurd (false≢true e)

  pub users-are : (targets : List ℕ) (users : ℕ) → z < 32 → Targets u c targets
      → users ≡ collect 32 (λ y. deployed c y && member z (get_or targets y 0)) → Users u c z users
  unfolding Targets Users
  users-are targets users h told e p y l f =
      let (here, aim) = employer p y h f in
      rw e (member-collect 32 _ y l ∙ rw (here, told y l here) aim)

  pub users-counted : (users p : ℕ) → Users u c z users → tally 32 (λ y. member y users && employs u c p z y) ≡ tally 32 (employs u c p z)
  unfolding Users
  users-counted users p f = among-all users (employs u c p z) (f p)

-- ---- the providers

module _ (u : Universe) (c : Configuration) (z r : ℕ) where
  pub providers-counted : tally 32 (λ y. deployed c y && provides u c r z y) ≡ tally 32 (provides u c r z)
  unfolding provides
  providers-counted = tally-same 32 _ _ (λ y h. go (not (eqb y z)) (deployed c y) (is_active u c provision y r))
    where
      go : (a d b : Bool) → (d && (a && (d && b))) ≡ (a && (d && b))
      go a true b = refl
      go true false b = refl
      go false false b = refl

  pub servers-counted : (m : ℕ) → ((y : ℕ) → member y m ≡ bound u c r z y) → tally 32 (λ y. member y m && provides u c r z y) ≡ tally 32 (serves u c r z)
  unfolding serves
  servers-counted m f = tally-same 32 _ _ (λ y h. rw (f y) (and_comm (bound u c r z y) (provides u c r z y)))

-- ---- what is asked of all components

abbrev pub ports_hold : Universe → Configuration → ℕ → ℕ → Bool
ports_hold u c m z = all_below (type_of u (kind_of c z)).interfaces (port_holds u c m z)

module _ (u : Universe) (c : Configuration) (used : ℕ) (all : Used u c used) where
  -- nothing is asked of a component that nobody uses
  no-user : (z p : ℕ) → z < 32 → member z used ≡ false → tally 32 (employs u c p z) ≡ 0
  unfolding Used
  no-user z p h off =
      tally-same 32 (employs u c p z) (λ _. false)
      (λ y l. by-test (employs u c p z y)
      (λ t. let (here, aim) = employer u c z p y h t in absurd (true≢false (sym (all y z l h here aim) ∙ off)))
      (λ f. f))
      ∙ tally-none 32 (λ _. false) (λ _. refl)

  unasked : (z r x : ℕ) → z < 32 → member z used ≡ false → asked u c provision z r x ≡ true
  unfolding asked provided
  unasked z r zero h off = refl
  unasked z r (suc n) h off = rw (no-user z r h off) (le-leb 0 n (omega arith))

  unused : (z : ℕ) → z < 32 → member z used ≡ false → ports_hold u c provision z ≡ true
  unfolding port_holds
  unused z h off = all_of _ _ (λ j l. unasked z _ _ h off)

pub all_hold : (u : Universe) (c : Configuration) (m r used : ℕ) → ((z : ℕ) → z < 32 → member z r ≡ (deployed c z && (not (eqb m 0) || member z used)))
    → (m ≡ 0 → Used u c used) → all_pass (ports_hold u c m) r ≡ holds u c m
unfolding holds component_holds
all_hold u c m r used is all =
    all_same 32 (λ z. not (member z r) || ports_hold u c m z) (λ z. not (deployed c z) || ports_hold u c m z)
    (λ z h. rw (is z h)
    (by-test (deployed c z)
    (λ d. rw d
    (by-test (eqb m 0)
    (λ e. rw e
    (by-test (member z used) (λ t. rw t) (λ f. rw f (sym (rw (eqb-true m 0 e) (unused u c used (all (eqb-true m 0 e)) z h f))))))
    (λ e. rw e)))
    (λ d. rw d)))

-- ---- the table of targets, filled for those that are no more in the rest r

pub record Filled (u : Universe) (c : Configuration) (r : ℕ) (targets : List ℕ) (used : ℕ) : Type 0 where
  pub long : length targets ≡ 32
  pub told : (y : ℕ) → y < 32 → deployed c y ≡ true → member y r ≡ false → get_or targets y 0 ≡ targets_of u c y
  pub all : (y z : ℕ) → y < 32 → z < 32 → deployed c y ≡ true → member y r ≡ false → member z (targets_of u c y) ≡ true → member z used ≡ true

module _ (u : Universe) (c : Configuration) (r : ℕ) (targets : List ℕ) (used : ℕ) where
  pub filled_none : length targets ≡ 32 → r ≡ c.present → Filled u c r targets used
  filled_none l e = record { long = l; told = λ y h d f. absurd (none y d f); all = λ y z h k d f. absurd (none y d f) }
    where
      none : (y : ℕ) → deployed c y ≡ true → member y r ≡ false → ⊥
      none y d f = true≢false (sym d ∙ ap (member y) (sym e) ∙ f)

  pub filled_more : Filled u c r targets used → r < 2 ^ 32 → r ≢ 0 → {y x : ℕ} → y ≡ least r → x ≡ targets_of u c y
      → Filled u c (later r) (set targets y x) (joined used x)
  filled_more g fits some {y} {x} at is = record {
    long = length-set targets y x ∙ g.long;
    told = λ i h d f. by_cases (ℕ_discrete i y)
        (λ e. rw e (get_or-set_same targets y x 0 (omega (arith, g.long)) ∙ is))
        (λ n. get_or-set_other targets y i x 0 n ∙ g.told i h d (still i n f));
    all = λ i z h k d f e. member-joined z used x k ∙ by_cases (ℕ_discrete i y)
        (λ q. rw (is, ← q, e) (or-true (member z used)))
        (λ n. rw (g.all i z h k d (still i n f) e));
  }
    where
      still : (i : ℕ) → i ≢ y → member i (later r) ≡ false → member i r ≡ false
      still i n f = sym (later-other r r (rest-start r fits) some i (λ e. n (e ∙ sym at))) ∙ f

  pub filled-all : r ≡ 0 → Filled u c r targets used → Targets u c targets × Used u c used
  unfolding Targets Used
  filled-all e g = (λ y h d. g.told y h d (rw e (member-none y)), λ y z h k d. g.all y z h k d (rw e (member-none y)))
