-- Numbers within the lent arrays.
use Rattle.std.specs.Prelude.{ℕ, ◌≤◌, List, length}
use Rattle.compare_batch.specs.declared.header.Header.{Header}
use Rattle.std.specs.declared.option.Option.{Option}
use Rattle.std.specs.declared.option.Option.TheVariants.{Some, None}
use Rattle.compare_batch.specs.declared.flow.Flow.{Flow}

-- a header's lengths, room and own size
abbrev pub Small : Header → Type 0
Small h = (h.sheet ≤ 40000) × (h.start ≤ 40000) × (h.answer ≤ 40000) × (h.room ≤ 16384) × (h.size ≤ 29)

-- the same where a header stands
abbrev pub SmallIf : Option Header → Type 0
SmallIf (Some h) = Small h
SmallIf None = Unit

-- the unread bytes lie in the input
abbrev pub Inside : Flow → List ℕ → Type 0
Inside f input = (f.at ≤ f.to) × (f.to ≤ length input)
