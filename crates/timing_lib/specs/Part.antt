-- "the line at fault" as a part of whichever of three texts held it: the very part, in its memory.
use Rattle.std.specs.Prelude.{List, Bool, ℕ}
use Rattle.std.specs.Borrow.{Bor}
use Rattle.model.specs.declared.Text.{Text}
use Rattle.model.specs.declared.Text.TheVariants as text
use Rattle.start_spec.specs.Paper.{paper}
use Rattle.judge_spec.specs.declared.Place.{Place}
use Rattle.judge_lib.specs.Part.{Part}
use Rattle.timing_spec.specs.Once.{PromisedPlace}

-- the text that is named; no place is in neither
abbrev pub lender : Text → Bor (List ℕ) → Bor (List ℕ) → Bor (List ℕ) → Bor (List ℕ) → Bor (List ℕ)
lender text.Neither s b a x = a
lender text.Sheet s b a x = s
lender text.Answer s b a x = a
lender text.Times s b a x = x
lender text.Start s b a x = b

abbrev pub PartOf : Place → Bor (List ℕ) → Bor (List ℕ) → Bor (List ℕ) → Bor (List ℕ) → Bor (List ℕ) → Type 0
PartOf p s b a x r = Part (lender p.text s b a x) p.start p.size r

-- the part that the promised place tells
abbrev pub PromisedPart : Bor (List ℕ) → Bool → Bor (List ℕ) → Bor (List ℕ) → Bor (List ℕ) → ℕ → Bor (List ℕ) → Type 0
PromisedPart s given b a x room r = (p : Place) → PromisedPlace (paper s.now given b.now) a.now x.now room p → PartOf p s b a x r
