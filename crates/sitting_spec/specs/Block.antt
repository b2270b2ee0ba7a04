-- The block of an answer on a paper: what the judge prints, and the seven lines.
use Rattle.std.specs.Prelude.{ℕ, Bool, true, false, ◌&&◌, not, List, ◌++◌, ltb, eqb, drop}
use Rattle.item_spec.specs.Refusal.{too_long}
use Rattle.item_spec.specs.Reader.{got, refused, bytes}
use Rattle.item_spec.specs.Read.{key}
use Rattle.model.specs.declared.Program.{Program}
use Rattle.start_spec.specs.Paper.{Paper}
use Rattle.judge_spec.specs.declared.Place.{Place}
use Rattle.judge_spec.specs.Judged.{Judgement, judged, printed, lent_bytes}
use Rattle.foretell_spec.specs.Lines.{instruction_line}
use Rattle.outcome_spec.specs.declared.Outcome.{Outcome}
use Rattle.outcome_spec.specs.declared.Outcome.TheVariants.{Done, Unfinished, Refused, Fault, OfPaper}
use Rattle.outcome_spec.specs.Outcome.{said_program, outcome_of, outcome_text}
use Rattle.sitting_spec.specs.End.{told_text, asked_text}

-- a text begins with these bytes
unfoldable pub begins : List ℕ → List ℕ → Bool
begins k s = elim (key k s) [ got u r ↦ true | refused n ↦ false ]

-- a line of the answer is at fault: after a refusal; no line is read of a text that is too long
abbrev pub at_fault : Outcome → ℕ → Bool
at_fault Done n = false
at_fault Unfinished n = false
at_fault Refused n = true
at_fault Fault n = not (eqb n too_long)
at_fault OfPaper n = false

-- "`instruction=` for a refused `next`": it stands at a place of the answer a, k instructions are done, and one of n is left
abbrev pub asks_more : Outcome → ℕ → ℕ → ℕ → List ℕ → Bool
asks_more Done n k at a = false
asks_more Unfinished n k at a = false
asks_more Refused n k at a = ltb k n && begins (bytes "step=next\n") (drop at a)
asks_more Fault n k at a = false
asks_more OfPaper n k at a = false

-- of an outcome, the sheet's program and what the judge says
abbrev pub end_with : List ℕ → List ℕ → Outcome → Program → Judgement → List ℕ
end_with s a o p j =
    told_text (outcome_text o) (at_fault o j.verdict.refused) j.place a
    ++ asked_text (asks_more o p.count j.verdict.next j.place.start a) s j.verdict.next (instruction_line s p j.verdict.next)

-- the seven lines
unfoldable pub end_text : Paper → List ℕ → List ℕ
end_text s a = end_with s.sheet a (outcome_of s a) (said_program s.sheet) (judged s a lent_bytes)

unfoldable pub block_text : Paper → List ℕ → List ℕ
block_text s a = printed s a ++ end_text s a
