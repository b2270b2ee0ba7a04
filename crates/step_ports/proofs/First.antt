-- The pass up to the first port that is unconnected or unserved: what it tells is the answer, but where that port is unserved and another is unconnected.
-- Assumes nothing.
use Rattle.std.proofs.Common.{◌≡◌, ℕ, ◌<◌, Bool, true, false, ◌||◌, eqb, sym, refl, eqb-true}
use mathlib.Core.Bool.{false≢true}
use Rattle.item_spec.proofs.Tests.{by-test}
use Rattle.sets.specs.Test.{any_below, lowest}
use Rattle.sets.specs.Mask.{overlaps}
use Rattle.sets.proofs.Laws.{any-hit, any_none, none_any}
use Rattle.sets.proofs.Lowest.{lowest-is, lowest-holds}
use Rattle.model.specs.declared.Tables.{Tables}
use Rattle.model.specs.declared.Configuration.{Configuration}
use Rattle.model.specs.declared.Concerned.TheVariants.{NoPort, UsePort}
use Rattle.model.specs.View.{instance}
use Rattle.rules_spec.specs.Refusal.{unconnected, unserved, provider_refusing}
use Rattle.rules_spec.specs.Standing.{standing}
use Rattle.rules_spec.specs.Instance.{ports_of}
use Rattle.rules_spec.specs.Ports.{in_use}
use Rattle.step_ports.specs.declared.Sets.{Sets}
use Rattle.step_ports.specs.declared.Answered.{Answered}
use Rattle.step_ports.specs.Turns.{port_refusal, sets_of, gets, ending_below, fails, late_number, first_refusal, ports_refusal}
use Rattle.step_ports.proofs.Lowest.{lowest-same}
use Rattle.step_ports.proofs.Ports.{late-unnamed}

pub neither : (a b : Bool) → (a || b) ≡ false → (a ≡ false) × (b ≡ false)
neither true b e = absurd (false≢true (sym e))
neither false b e = (refl, e)

second : (a b : Bool) → a ≡ false → (a || b) ≡ true → b ≡ true
second true b f e = absurd (false≢true (sym f))
second false b f e = e

module _ (t : Tables) (c : Configuration) (i : ℕ) (next : Sets) where
  abbrev n : ℕ
  n = ports_of t (instance c i)

  abbrev number : ℕ → ℕ
  number q = port_refusal t c i (instance c i).kind (sets_of (instance c i)) next q

  -- the first that fails
  pub first-named : (q x : ℕ) → q < n → any_below q (fails t c i next) ≡ false → number q ≡ x → (eqb x unconnected || eqb x unserved) ≡ true
      → ◌≡◌ {A = Answered} (record { refused = x; port = UsePort q }) (first_refusal t c i next)
  unfolding first_refusal
  first-named q x h off is on =
      let hit : fails t c i next q ≡ true = rw is on in
      rw (any-hit n (fails t c i next) q h hit, lowest-is n (fails t c i next) q h hit (any_none q (fails t c i next) off), is)

  pub first-late : any_below n (fails t c i next) ≡ false → ◌≡◌ {A = Answered} (record { refused = late_number t c i next; port = NoPort }) (first_refusal t c i next)
  unfolding first_refusal
  first-late off = rw off

  -- an unconnected port goes before every unserved one
  pub settled : ((first_refusal t c i next).refused ≡ unserved → any_below n (gets t c i next unconnected) ≡ false)
      → first_refusal t c i next ≡ ports_refusal t c i next
  unfolding first_refusal ports_refusal
  settled none = by-test (any_below n (fails t c i next)) some quiet
    where
      low : ℕ
      low = lowest n (fails t c i next)

      quiet : any_below n (fails t c i next) ≡ false → first_refusal t c i next ≡ ports_refusal t c i next
      quiet off =
          rw (off, none_any n (gets t c i next unconnected) (λ q h. (neither _ _ (any_none n _ off q h)).0), none_any n (gets t c i next unserved) (λ q h. (neither (gets t c i next unconnected q) _ (any_none n _ off q h)).1))
          (late-unnamed (any_below n (gets t c i next provider_refusing)) (overlaps (ending_below t c i next n) (in_use t (standing c) c i)) _ _)

      some : any_below n (fails t c i next) ≡ true → first_refusal t c i next ≡ ports_refusal t c i next
      some on =
          let l = lowest-holds n (fails t c i next) on in
          by-test (gets t c i next unconnected low)
          (λ yes. rw (on, any-hit n (gets t c i next unconnected) low l.below yes, lowest-is n (gets t c i next unconnected) low l.below yes (λ j h. (neither _ _ (l.first j h)).0), eqb-true (number low) unconnected yes))
          (λ no.
          let yes = second (gets t c i next unconnected low) _ no l.passes in
          let is = eqb-true (number low) unserved yes in
          let out = none (rw (on, is)) in
          rw (on, is, out, any-hit n (gets t c i next unserved) low l.below yes, lowest-same n (fails t c i next) (gets t c i next unserved) (λ q h. rw (any_none n _ out q h))))

  -- and is the answer where there is one
  pub unconnected-named : any_below n (gets t c i next unconnected) ≡ true
      → ◌≡◌ {A = Answered} (record { refused = unconnected; port = UsePort (lowest n (gets t c i next unconnected)) }) (ports_refusal t c i next)
  unfolding ports_refusal
  unconnected-named on = rw on
