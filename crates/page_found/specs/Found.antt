-- What a page says of an answer is what the register says of it.
use Rattle.std.specs.Prelude.{ℕ, List}
use Rattle.outcome_spec.specs.declared.Outcome.{Outcome}
use Rattle.outcome_spec.specs.declared.Outcome.TheVariants.{Done, Unfinished, Refused, Fault, OfPaper}
use Rattle.register_spec.specs.declared.Row.{Row}
use Rattle.page_spec.specs.declared.Found.{Found}
use Rattle.page_spec.specs.Line.{line_count}

-- the refusal's number, and numbers of their own for the other outcomes
abbrev pub group_of : Outcome → ℕ → ℕ
group_of Done n = 0
group_of Unfinished n = 39
group_of Refused n = n
group_of Fault n = n
group_of OfPaper n = n

-- the offending line, or the answer's end
abbrev pub looked_at : Outcome → ℕ → List ℕ → ℕ
looked_at Done l a = line_count a
looked_at Unfinished l a = line_count a
looked_at Refused l a = l
looked_at Fault l a = l
looked_at OfPaper l a = l

-- of a text at fault no step is walked, and no instruction is shown as the next
abbrev pub next_of : Outcome → ℕ → ℕ → ℕ
next_of Done k n = k
next_of Unfinished k n = k
next_of Refused k n = k
next_of Fault k n = n
next_of OfPaper k n = n

unfoldable pub found_of : Row → List ℕ → Found
found_of r a = record {
  group = group_of r.outcome r.number;
  line = looked_at r.outcome r.line a;
  next = next_of r.outcome r.next r.program;
  program = r.program;
  mark = r.mark;
}
