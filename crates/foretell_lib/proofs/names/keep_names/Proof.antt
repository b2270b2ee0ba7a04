use mathlib.Core.Path.{◌∙◌}
use borrow.Author.Rules.{rules}
use Rattle.foretell_lib.proofs.Kept.{names-kept, instances-length, queue-length}
use Rattle.foretell_lib.proofs.names.keep_names.Statement.{statement}
use Rattle.foretell_lib.proofs.names.keep_names.Tie as tie

returns : tie.Need-returns
returns c = c.zero_queues.ensures ∙ names-kept _ _ (instances-length _) (queue-length _) c.quiet_all.ensures

pub keep_names_spec : {M : Type 1} → statement M
keep_names_spec = tie.close (tie.spec
    (λ c κs. search rules) (λ c κs. search rules) returns)
