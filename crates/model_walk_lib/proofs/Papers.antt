-- What the paper's reader answered, as what a model walk promises.
-- Assumes nothing.
use mathlib.Core.List.{List}
use mathlib.Core.Logic.{◌≢◌}
use mathlib.Core.Path.{◌≡◌, refl, ◌∙◌}
use Prim.Native.Nat.{ℕ}
use lib.ListN.{length}
use Rattle.start_spec.specs.Paper.{Paper}
use Rattle.judge_spec.specs.Course.{Course, faulty, reached, paper_course}
use Rattle.judge_spec.specs.Judged.{over}
use Rattle.judge_lib.specs.declared.papers.PaperFault.{PaperFault}
use Rattle.judge_lib.specs.Alone.{fault_in, paper_fault}
use Rattle.model_walk_spec.specs.OnTexts.{Said}
use Rattle.model_walk_lib.specs.declared.Modelled.{Modelled}
use Rattle.model_walk_lib.specs.Models.{no_model, model_in, bytes_in, answering, writing, Models}

module _ (s : Paper) (old : List ℕ) where
  -- a paper at fault
  pub fault-models : (f : PaperFault) → f ≡ paper_fault s → f.refused ≢ 0 → (q : Modelled) → q ≡ no_model f.refused f.text f.line → Models s old q old
  unfolding paper_fault over
  fault-models f is n q e = record { answer-is = e ∙ rw is (told (paper_course s) (rw is at n)); buffer-is = none (paper_course s) (rw is at n) }
    where
      told : (z : Course Said) → (fault_in s z).refused ≢ 0 → no_model (fault_in s z).refused (fault_in s z).text (fault_in s z).line ≡ answering s (length old) z
      told (faulty x n at) d = refl
      told (reached y) d = absurd (d refl)

      none : (z : Course Said) → (fault_in s z).refused ≢ 0 → old ≡ over (writing (length old) z) old
      none (faulty x n at) d = refl
      none (reached y) d = absurd (d refl)

  -- a paper that is read
  pub walk-models : (x : Said) → paper_course s ≡ reached x → (q : Modelled) (new : List ℕ) → (q ≡ model_in (length old) x) × (new ≡ over (bytes_in (length old) x) old) → Models s old q new
  walk-models x e q new (a, b) = record { answer-is = rw e a; buffer-is = rw e b }
