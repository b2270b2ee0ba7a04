-- That no other answer fits the promise of a count line or of the end of a text.
-- Assumes nothing.
use Prim.Native.Nat.{ℕ}
use mathlib.Core.List.{List}
use mathlib.Core.Path.{◌≡◌, refl, sym, ap, ◌∙◌}
use Rattle.item_spec.specs.Refusal.{number_of}
use Rattle.item_spec.specs.declared.Refusal.{Refusal}
use Rattle.read_spec.specs.Lines.{Run, on, stop}
use Rattle.read_items.specs.Reads.{past, fault, NoOther}
use Rattle.read_items.proofs.Once.{no_other, refusal_by, refusal-back}
use Rattle.read_lines.specs.Counts.{line_says}
use Rattle.read_lines.specs.Runs.{end_says}
use Rattle.std.specs.declared.result.Result.{Result}
use Rattle.std.specs.declared.result.Result.TheVariants.{Ok, Err}

pub line-once : NoOther line_says
line-once =
    no_other line_says
    (elim [ past a n ↦ Ok (a, n) | fault k ↦ Err (refusal_by k) ])
    (elim [ Ok (a, n) ↦ refl | Err r ↦ ap Err (refusal-back r) ])

-- a refusal is told by its number
pub refusal-same : (r q : Refusal) → number_of r ≡ number_of q → r ≡ q
refusal-same r q e = sym (refusal-back r) ∙ ap refusal_by e ∙ refusal-back q

abbrev back : Run (Unit {0}) → Result (Unit {0}) Refusal
back (on u s) = Ok tt
back (stop k s) = Err (refusal_by k)

same-end : (w : Result (Unit {0}) Refusal) (s : List ℕ) → back (end_says w s) ≡ w
same-end (Ok u) s = refl
same-end (Err r) s = ap Err (refusal-back r)

pub end-once : (w v : Result (Unit {0}) Refusal) (s : List ℕ) (m : Run (Unit {0})) → end_says w s ≡ m → end_says v s ≡ m → w ≡ v
end-once w v s m h g = sym (same-end w s) ∙ ap back (h ∙ sym g) ∙ same-end v s
