-- "as a part of the sheet or of the answer": the very part, in its memory, and not only the bytes that it holds.
use Rattle.std.specs.Prelude.{ℕ, ◌+◌, List, ◌≡◌, take, drop}
use Rattle.std.specs.Borrow.{Bor}
use Rattle.model.specs.declared.Text.{Text}
use Rattle.model.specs.declared.Text.TheVariants as text
use Rattle.judge_spec.specs.declared.Place.{Place}

-- r is the n bytes of x from a on: in its memory, at that place, and what they hold
pub record Part (x : Bor (List ℕ)) (a n : ℕ) (r : Bor (List ℕ)) : Type 0 where
  pub block : r.ref_ptr.0 ≡ x.ref_ptr.0
  pub place : r.ref_ptr.1 ≡ a + x.ref_ptr.1
  pub holds : r.now ≡ take n (drop a x.now)

-- the text that is named; no place is in neither (place-held, in proofs/Places)
abbrev pub holder : Text → Bor (List ℕ) → Bor (List ℕ) → Bor (List ℕ) → Bor (List ℕ)
holder text.Neither s b a = a
holder text.Sheet s b a = s
holder text.Answer s b a = a
holder text.Times s b a = a
holder text.Start s b a = b

-- the part of the sheet, of the start or of the answer that a place says
abbrev pub PartAt : Place → Bor (List ℕ) → Bor (List ℕ) → Bor (List ℕ) → Bor (List ℕ) → Type 0
PartAt p s b a r = Part (holder p.text s b a) p.start p.size r
