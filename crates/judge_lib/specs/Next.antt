-- What `next_start` promises, and that no other outcome fits.
use Rattle.std.specs.Prelude.{ℕ, List, ◌≡◌, length}
use Rattle.model.specs.declared.Text.TheVariants as text
use Rattle.start_spec.specs.Paper.{Paper}
use Rattle.words.specs.Words.{program_from, state_in}
use Rattle.step_walk.specs.declared.Passed.{Passed}
use Rattle.step_walk.specs.Reached.{walked}
use Rattle.judge_spec.specs.Course.{reached}
use Rattle.judge_spec.specs.Judged.{paper_text, fault_line, judged, over, lent_bytes}
use Rattle.judge_spec.specs.Next.{next_of, next_start}
use Rattle.judge_lib.specs.declared.pairs.TextFault.{TextFault}
use Rattle.judge_lib.specs.declared.next.Next.{Next}

-- after a fault in a text of a paper and an answer
abbrev pub FaultTold : Paper → List ℕ → TextFault → Next → Type 0
FaultTold s a e r = r ≡ record { refused = e.refused; accepted = 0; text = e.text; line = fault_line e.refused e.at (paper_text e.text s a); used = 0 }

-- the start's bytes, of a walk of the program in the words ps, begun with the words bs, that has come to what the words ws of the state say
abbrev pub next_in : Passed → List ℕ → List ℕ → List ℕ → List ℕ
next_in w ps bs ws = next_of (reached (program_from ps bs, walked w (state_in ws)))

pub record WalkTold (w : Passed) (ps bs ws old : List ℕ) (r : Next) (after : List ℕ) : Type 0 where
  pub told_is : r ≡ record { refused = w.refused; accepted = w.accepted; text = text.Neither; line = 0; used = length (next_in w ps bs ws) }
  pub array-is : after ≡ over (next_in w ps bs ws) old

-- how many bytes the start has, every byte of the array that held `old`, and of the verdict what a setter is told
pub record Starts (s : Paper) (a old : List ℕ) (r : Next) (after : List ℕ) : Type 0 where
  pub refused-is : r.refused ≡ (judged s a lent_bytes).verdict.refused
  pub accepted-is : r.accepted ≡ (judged s a lent_bytes).verdict.accepted
  pub text-is : r.text ≡ (judged s a lent_bytes).verdict.text
  pub line-is : r.line ≡ (judged s a lent_bytes).verdict.line
  pub used-is : r.used ≡ length (next_start s a)
  pub array-is : after ≡ over (next_start s a) old

unfoldable pub NoOtherNext : Type 0
NoOtherNext = (s : Paper) (a old : List ℕ) (r q : Next) (b c : List ℕ) → Starts s a old r b → Starts s a old q c → (r ≡ q) × (b ≡ c)
