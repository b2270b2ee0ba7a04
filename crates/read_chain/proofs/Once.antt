-- That no other answer fits the promise of a run of lines whose value is not looked at, nor that of a line of one number.
-- Assumes nothing.
use Prim.Native.Nat.{ℕ}
use mathlib.Core.List.{List}
use mathlib.Core.Path.{◌≡◌, refl, sym, ap, ◌∙◌}
use lib.ListN.{drop}
use Rattle.read_items.proofs.Once.{place-once, refusal_by, refusal-back}
use Rattle.read_spec.specs.Lines.{Run, on, stop}
use Rattle.item_spec.specs.declared.Refusal.{Refusal}
use Rattle.read_lines.specs.declared.LineFault.{LineFault}
use Rattle.read_lines.specs.Runs.{Came, onto, fault_at, place, run, came, number_came, RunsTo}
use Rattle.read_chain.specs.Chain.{NoOtherRun, NoOtherNumber}
use Rattle.std.specs.declared.result.Result.{Result}
use Rattle.std.specs.declared.result.Result.TheVariants.{Ok, Err}

module _ {A : Type 0} where
  abbrev rest : Run A → List ℕ
  rest (on a r) = r
  rest (stop n r) = r

  run-rest : (s : List ℕ) (c : Came A) → rest (run s c) ≡ drop (place c) s
  run-rest s (onto a at) = refl
  run-rest s (fault_at k at) = refl

  same_place : (s : List ℕ) (c d : Came A) {m : Run A} → RunsTo s c m → RunsTo s d m → place c ≡ place d
  same_place s c d h g = place-once s (place c) (place d) h.within g.within (sym (run-rest s c) ∙ ap rest (h.same ∙ sym g.same) ∙ run-rest s d)

  -- what came of it, told by the run and the place
  abbrev back : Run A → ℕ → Came A
  back (on a r) at = onto a at
  back (stop k r) at = fault_at k at

  back-is : (s : List ℕ) (c : Came A) → back (run s c) (place c) ≡ c
  back-is s (onto a at) = refl
  back-is s (fault_at k at) = refl

  pub same_came : (s : List ℕ) (c d : Came A) {m : Run A} → RunsTo s c m → RunsTo s d m → c ≡ d
  same_came s c d h g =
      let p = same_place s c d h g in
      let e = h.same ∙ sym g.same in
      sym (back-is s c) ∙ (λ i. back (e i) (p i)) ∙ back-is s d

-- and that tells the answer
abbrev fault_back : ℕ → ℕ → LineFault Refusal
fault_back k at = record { refusal = refusal_by k; at = at }

abbrev came_back : Came (Unit {0}) → Result ℕ (LineFault Refusal)
came_back (onto a at) = Ok at
came_back (fault_at k at) = Err (fault_back k at)

came-back : (r : Result ℕ (LineFault Refusal)) → came_back (came r tt) ≡ r
came-back (Ok at) = refl
came-back (Err f) = ap (λ q. Err (record { refusal = q; at = f.at })) (refusal-back f.refusal)

abbrev number_back : Came ℕ → Result (ℕ × ℕ) (LineFault Refusal)
number_back (onto a at) = Ok (a, at)
number_back (fault_at k at) = Err (fault_back k at)

number-back : (r : Result (ℕ × ℕ) (LineFault Refusal)) → number_back (number_came r) ≡ r
number-back (Ok (a, at)) = refl
number-back (Err f) = ap (λ q. Err (record { refusal = q; at = f.at })) (refusal-back f.refusal)

pub run-once : NoOtherRun
unfolding NoOtherRun
run-once s m r q h g = sym (came-back r) ∙ ap came_back (same_came s (came r tt) (came q tt) h g) ∙ came-back q

pub number-once : NoOtherNumber
unfolding NoOtherNumber
number-once s m r q h g = sym (number-back r) ∙ ap number_back (same_came s (number_came r) (number_came q) h g) ∙ number-back q
