use mathlib.Core.Path.{ap, ◌∙◌}
use borrow.Author.Rules.{rules}
use Rattle.foretell_spec.specs.Names.{foretold, foretold_from}
use Rattle.foretell_lib.proofs.foretell_program.Statement.{statement}
use Rattle.foretell_lib.proofs.foretell_program.Tie as tie

returns : tie.Need-returns
unfolding foretold
returns c = λ fits. c.foretell_names.ensures fits ∙ ap (foretold_from _ _ _) c.keep_names.ensures

pub foretell_program_spec : {M : Type 1} → statement M
foretell_program_spec = tie.close (tie.spec
    (λ c κs. search rules) (λ c κs. search rules) returns)
