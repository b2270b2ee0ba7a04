-- "Refusals: 1 to 5 as the reader gives them, with nothing written": what `rewrite` answers, and the lent buffer afterwards.
use Rattle.std.specs.Prelude.{ℕ, List, ◌++◌, ◌≡◌, length}
use Rattle.judge_spec.specs.Course.{Course, faulty, reached}
use Rattle.judge_spec.specs.Judged.{fault_line, over}
use Rattle.rewrite_spec.specs.Rewritten.{old_head, rewritten}
use Rattle.rewrite_lib.specs.declared.Rewritten.{Rewritten}

-- of the sheet s: the number and the line of a refusal, or how many bytes the rewritten sheet has
abbrev pub answering : List ℕ → Course (List ℕ) → Rewritten
answering s (faulty x n at) = record { refused = n; line = fault_line n at s; written = 0 }
answering s (reached r) = record { refused = 0; line = 0; written = length r }

-- of a buffer that held `old`: as it was beside a refusal, else the rewritten sheet at its start
abbrev pub afterwards : List ℕ → Course (List ℕ) → List ℕ
afterwards old (faulty x n at) = old
afterwards old (reached r) = over r old

-- every field of the result, and every byte of the buffer that held `old`
pub record Rewrites (s old : List ℕ) (r : Rewritten) (after : List ℕ) : Type 0 where
  pub answer-is : r ≡ answering s (rewritten s)
  pub buffer-is : after ≡ afterwards old (rewritten s)

-- a sheet that leaves the depth at 0 begins so
abbrev pub Begins : List ℕ → Type 0
Begins s = (e : ℕ) × (x : List ℕ) × (s ≡ old_head e ++ x)

unfoldable pub NoOtherRewriting : Type 0
NoOtherRewriting = (s old : List ℕ) (r q : Rewritten) (b c : List ℕ) → Rewrites s old r b → Rewrites s old q c → (r ≡ q) × (b ≡ c)
