-- What an allowed action tells, and what allows it: each row of checks taken apart, both ways. An action's number is 0 or from 60 to 69.
-- Assumes nothing.
use mathlib.Core.Path.{◌≡◌, refl}
use mathlib.Core.Logic.{◌↔◌, by_cases}
use mathlib.Core.Bool.{Bool, true, false, not}
use Prim.Native.Nat.{ℕ, suc}
use native.Mathlib.Omega.{arith}
use native.Mathlib.Decide.{ℕ_discrete}
use lib.Dec.{eqb, ltb}
use borrow.Author.Tests.{eq-eqb, ne_eqb, eqb-true, ltb-true, lt-ltb}
use Rattle.sets.specs.Mask.{member}
use Rattle.rules_spec.specs.Refusal.{◌⇒◌∣◌, or_number}
use Rattle.rules_spec.proofs.Allowed.{passes}
use Rattle.rules_spec.proofs.Numbers.{Among, none, row, or_else as or-number}
use Rattle.aeolus_model.specs.Model.{Universe, Configuration, provision, weak, strong, kind_of, state_of, deployed, bound, to_of}
use Rattle.aeolus_rules_spec.specs.Correct.{holds}
use Rattle.aeolus_rules_spec.specs.New.{new_check}
use Rattle.aeolus_rules_spec.specs.Del.{del_check}
use Rattle.aeolus_rules_spec.specs.Change.{change_check}
use Rattle.aeolus_rules_spec.specs.Bind.{requires, offers, bindings, bind_check}
use Rattle.aeolus_rules_spec.specs.Unbind.{unbind_check}
use Rattle.aeolus_model.specs.Action.{Action, new, del, change, bind, unbind}
use Rattle.aeolus_rules_spec.specs.Action.{check, effect, reached_check, number}
use Rattle.aeolus_rules_spec.specs.Run.{last_check}
use Rattle.aeolus_rules_spec.specs.Definition3.{StrongExactly}
use Rattle.aeolus_rules_spec.specs.Definition7.{Own, AllowedExactly}
use Rattle.aeolus_rules_spec.proofs.Exactly.{strong-exactly}

-- ---- a row

-- a negated test
meets : (b : Bool) (n : ℕ) {m : ℕ} → (not b ⇒ suc n ∣ m) ≡ 0 → (b ≡ true) × (m ≡ 0)
meets true n e = (refl, e)
meets false n e = absurd (omega arith)

or_else : (a b : ℕ) → (or_number a b ≡ 0) ↔ ((a ≡ 0) × (b ≡ 0))
or_else a b = (
  by_cases (ℕ_discrete a 0) (λ e. rw (eq-eqb a 0 e) (λ q. (e, q))) (λ n. rw (ne_eqb a 0 n) (λ q. absurd (n q))),
  (λ (e, q). rw (eq-eqb a 0 e) q),
)

-- ---- the actions' own conditions

own_of : (u : Universe) (c : Configuration) (a : Action) → check u c a ≡ 0 → Own u c a
unfolding check new_check del_check change_check bind_check unbind_check
own_of u c (new z k) e = (passes (deployed c z) _ e).0
own_of u c (del z) e = (meets (deployed c z) _ e).0
own_of u c (change z q s) e =
    let (there, e₁) = meets (deployed c z) _ e in
    let (state, e₂) = meets (eqb (state_of c z) q) _ e₁ in
    (there, eqb-true (state_of c z) q state, (meets (member s (to_of u (kind_of c z) q)) _ e₂).0)
own_of u c (bind r z y) e =
    let (requirer, e₁) = meets (deployed c z) _ e in
    let (provider, e₂) = meets (deployed c y) _ e₁ in
    let (required, e₃) = meets (requires u c z r) _ e₂ in
    let (offered, e₄) = meets (offers u c y r) _ e₃ in
    let (apart, e₅) = passes (bound u c r z y) _ e₄ in
    (requirer, provider, required, offered, apart, ltb-true (bindings c) 64 (meets (ltb (bindings c) 64) _ e₅).0)
own_of u c (unbind r z y) e = (meets (bound u c r z y) _ e).0

of-own : (u : Universe) (c : Configuration) (a : Action) → Own u c a → check u c a ≡ 0
unfolding check new_check del_check change_check bind_check unbind_check
of-own u c (new z k) h = rw h
of-own u c (del z) h = rw h
of-own u c (change z q s) (there, state, changes) = rw (there, eq-eqb (state_of c z) q state, changes)
of-own u c (bind r z y) (requirer, provider, required, offered, apart, few) = rw (requirer, provider, required, offered, apart, lt-ltb (bindings c) 64 few)
of-own u c (unbind r z y) h = rw h

pub own-exactly : (u : Universe) (c : Configuration) (a : Action) → (check u c a ≡ 0) ↔ Own u c a
own-exactly u c a = (own_of u c a, of-own u c a)

-- ---- the configuration reached

abbrev pub Holds : Universe → Configuration → Type 0
Holds u c = (holds u c provision ≡ true) × (holds u c strong ≡ true)

reached-exactly : (u : Universe) (c : Configuration) → (reached_check u c ≡ 0) ↔ Holds u c
unfolding reached_check
reached-exactly u c = (
  (λ e. let (a, e₁) = meets (holds u c provision) _ e in (a, (meets (holds u c strong) _ e₁).0)),
  (λ (a, b). rw (a, b)),
)

pub number-exactly : (u : Universe) (c : Configuration) (a : Action) → (number u c a ≡ 0) ↔ (Own u c a × Holds u (effect u c a))
unfolding number
number-exactly u c a = (
  (λ e. let (own, reached) = (or_else (check u c a) (reached_check u (effect u c a))).0 e in
      ((own-exactly u c a).0 own, (reached-exactly u (effect u c a)).0 reached)),
  (λ (own, reached). (or_else (check u c a) (reached_check u (effect u c a))).1 ((own-exactly u c a).1 own, (reached-exactly u (effect u c a)).1 reached)),
)

pub allowed-exactly : AllowedExactly
unfolding AllowedExactly StrongExactly
allowed-exactly u c a named =
    let e = strong-exactly u (effect u c a) named in (
      (λ n. let (own, h) = (number-exactly u c a).0 n in (own, e.0 h)),
      (λ (own, s). (number-exactly u c a).1 (own, e.1 s)),
    )

-- 70 just where a weak demand is not met
pub last-exactly : (u : Universe) (c : Configuration) → (last_check u c ≡ 0) ↔ (holds u c weak ≡ true)
unfolding last_check
last-exactly u c = ((λ e. (meets (holds u c weak) _ e).0), (λ e. rw e))

-- ---- the numbers

abbrev pub Numbered : ℕ → Type 0
Numbered = Among 60 69

ruleset rows = (row, none)

check-numbered : (u : Universe) (c : Configuration) (a : Action) → Numbered (check u c a)
unfolding check new_check del_check change_check bind_check unbind_check
check-numbered u c (new z k) = search rows
check-numbered u c (del z) = search rows
check-numbered u c (change z q s) = search rows
check-numbered u c (bind r z y) = search rows depth 8
check-numbered u c (unbind r z y) = search rows

reached-numbered : (u : Universe) (c : Configuration) → Numbered (reached_check u c)
unfolding reached_check
reached-numbered u c = search rows

pub number-numbered : (u : Universe) (c : Configuration) (a : Action) → Numbered (number u c a)
unfolding number
number-numbered u c a = or-number (check u c a) (reached_check u (effect u c a)) (check-numbered u c a) (reached-numbered u (effect u c a))
