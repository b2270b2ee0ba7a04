-- Check 36 by the set of the provide ports in use.
-- Assumes nothing.
use Rattle.sets.proofs.Laws.{member-collect}
use Rattle.rules_spec.specs.Ports.{employs, fails_in_use, in_use, InUseByTheSet}

pub in-use-by-the-set : InUseByTheSet
unfolding InUseByTheSet fails_in_use in_use
in-use-by-the-set t x c i v w q h = rw (member-collect 32 (λ j. x.some (employs t c i j)) q h)
