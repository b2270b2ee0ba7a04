-- What the words say is every word of them: arrays that say the same are the same.
-- Assumes nothing.
use mathlib.Core.Path.{◌≡◌, refl, ap, subst}
use mathlib.Core.Logic.{by_cases}
use mathlib.Core.List.{List}
use Prim.Native.Nat.{ℕ, zero, suc, ◌<◌}
use native.Mathlib.Omega.{arith}
use native.Mathlib.Decide.{dec_lt}
use lib.ListN.{length}
use Rattle.areas.specs.Area.{word}
use Rattle.areas.proofs.Told.{areas-words, words_same, rows_told}
use Rattle.aeolus_model.specs.declared.Step.{Step}
use Rattle.aeolus_model.specs.Model.{ResourceType, Universe, Configuration}
use Rattle.aeolus_model.specs.Action.{Plan}
use Rattle.aeolus_model.specs.Words.{type_from, universe_in, step_from, plan_in, configuration_in}

type_field : ResourceType → ℕ → ℕ
type_field t zero = t.states
type_field t (suc zero) = t.initial
type_field t (suc (suc zero)) = t.interfaces
type_field t (suc (suc (suc zero))) = t.provides
type_field t (suc (suc (suc (suc n)))) = t.requires

type-field : (φ : ℕ → ℕ) (f : ℕ) → f < 5 → type_field (type_from φ) f ≡ φ f
unfolding type_field
type-field φ zero h = refl
type-field φ (suc zero) h = refl
type-field φ (suc (suc zero)) h = refl
type-field φ (suc (suc (suc zero))) h = refl
type-field φ (suc (suc (suc (suc zero)))) h = refl
type-field φ (suc (suc (suc (suc (suc n))))) h = absurd (omega arith)

step_field : Step → ℕ → ℕ
step_field s zero = s.verb
step_field s (suc zero) = s.first
step_field s (suc (suc zero)) = s.second
step_field s (suc (suc (suc n))) = s.third

step_field_is : (φ : ℕ → ℕ) (f : ℕ) → f < 4 → step_field (step_from φ) f ≡ φ f
unfolding step_field
step_field_is φ zero h = refl
step_field_is φ (suc zero) h = refl
step_field_is φ (suc (suc zero)) h = refl
step_field_is φ (suc (suc (suc zero))) h = refl
step_field_is φ (suc (suc (suc (suc n)))) h = absurd (omega arith)

module _ (ws vs : List ℕ) where
  abbrev Same : ℕ → Type 0
  Same n = word ws n ≡ word vs n

  pub universe-words : length ws ≡ 12881 → length vs ≡ 12881 → universe_in ws ≡ universe_in vs → ws ≡ vs
  unfolding universe_in
  universe-words a b e =
      words_same ws vs 12881 a b (λ n h.
      by_cases (dec_lt n 80)
      (rows_told ws vs 16 (omega arith) type_from 5 type_field type-field (ap (λ (u : Universe). u.types) e) n)
      (λ l.
      by_cases (dec_lt n 12880)
      (areas-words ws vs 80 256 256 12288 (ap (λ (u : Universe). u.names) e) (ap (λ (u : Universe). u.to) e) (ap (λ (u : Universe). u.numbers) e) n (omega arith))
      (λ p. subst Same (let s : 12880 ≡ n = omega arith in s) (ap (λ (u : Universe). u.count) e))))

  pub plan-words : length ws ≡ 4097 → length vs ≡ 4097 → plan_in ws ≡ plan_in vs → ws ≡ vs
  unfolding plan_in
  plan-words a b e =
      words_same ws vs 4097 a b (λ n h.
      by_cases (dec_lt n 4096)
      (rows_told ws vs 1024 (omega arith) step_from 4 step_field step_field_is (ap (λ (p : Plan). p.steps) e) n)
      (λ l. subst Same (let s : 4096 ≡ n = omega arith in s) (ap (λ (p : Plan). p.count) e)))

  pub configuration-words : length ws ≡ 577 → length vs ≡ 577 → configuration_in ws ≡ configuration_in vs → ws ≡ vs
  unfolding configuration_in
  configuration-words a b e =
      words_same ws vs 577 a b (λ n h.
      by_cases (dec_lt n 576)
      (areas-words ws vs 0 32 32 512 (ap (λ (c : Configuration). c.kinds) e) (ap (λ (c : Configuration). c.states) e) (ap (λ (c : Configuration). c.bound) e) n (omega arith))
      (λ o. subst Same (let s : 576 ≡ n = omega arith in s) (ap (λ (c : Configuration). c.present) e)))
