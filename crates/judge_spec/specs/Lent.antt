-- A paper as a caller lends it, a sheet and a start where there is one, and which of the definitions' papers that is.
use Rattle.std.specs.Prelude.{ℕ, List, [], Option, Some, None}
use Rattle.std.specs.Borrow.{Bor}
use Rattle.start_spec.specs.Paper as start
use Rattle.start_spec.specs.Paper.{Beginning, nothing, given, from}
use Rattle.judge_spec.specs.declared.Paper.{Paper}

-- "no file: nothing up"
abbrev pub begins : Option (Bor (List ℕ)) → Beginning
begins None = nothing
begins (Some x) = given x.now

abbrev pub lent : Paper → start.Paper
lent p = from p.sheet.now (begins p.start)

-- the bytes of a text that may be lent, none where it is not
abbrev pub text_lent : Option (Bor (List ℕ)) → List ℕ
text_lent None = []
text_lent (Some x) = x.now
