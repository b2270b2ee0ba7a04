-- What an answer and a buffer are of a judgement.
use Rattle.std.specs.Prelude.{ℕ, List, ◌≡◌}
use Rattle.judge_spec.specs.Judged.{over}
use Rattle.aeolus_judge_spec.specs.Judged.{Judgement}
use Rattle.aeolus_lib.specs.declared.Judged.{Judged}

-- the answer r and a buffer that held `old` and now holds `after` are the judgement j
pub record Comes (r : Judged) (old after : List ℕ) (j : Judgement) : Type 0 where
  pub verdict-is : r.verdict ≡ j.verdict
  pub place_is : r.place ≡ j.place
  pub buffer-is : after ≡ over j.bytes old
