use Rattle.std.proofs.Common.{◌∙◌}
use Rattle.words.specs.Words.{state_in}
use Rattle.foretell_lib.proofs.Kept.{quiet-start, quiet-more}
use Rattle.foretell_lib.proofs.names.quiet_all.Goals as goal

pub loop-i-init : goal.loop-i-init
loop-i-init c = quiet-start _

pub loop-i-preserved : goal.loop-i-preserved
loop-i-preserved c =
    let l = c.loop-i in c.put_bare.ensures ∙ rw (c.kind-k.ensures, c.present-here.ensures) (quiet-more _ (state_in l.state) l.i l.invariant)
