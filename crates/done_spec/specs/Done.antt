-- When all of a paper is done, however it came there. 02, C-18: "done (program at its end, all queues empty, at whatever length)".
use Rattle.std.specs.Prelude.{Bool, true, ◌&&◌, ◌≡◌, ℕ, ◌≤◌, ◌<◌, eqb, leb}
use Rattle.sets.specs.Test.{all_below}
use Rattle.model.specs.declared.Program.{Program}
use Rattle.model.specs.declared.Configuration.{Configuration}
use Rattle.model.specs.View.{instance}

-- the program is at its end, and all queues are empty
unfoldable pub all_done : Program → Configuration → Bool
all_done p c = leb p.count c.done && all_below 32 (λ i. eqb (instance c i).queued 0)

-- in other words
pub record AllDone (p : Program) (c : Configuration) : Type 0 where
  pub program : p.count ≤ c.done
  pub queues : (i : ℕ) → i < 32 → (instance c i).queued ≡ 0

unfoldable pub DoneExactly : Type 0
DoneExactly = (p : Program) (c : Configuration) → (all_done p c ≡ true → AllDone p c) × (AllDone p c → all_done p c ≡ true)
