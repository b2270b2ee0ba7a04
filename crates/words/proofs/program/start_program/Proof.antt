use Rattle.model.specs.Empty.{no_program}
use Rattle.read_spec.specs.Fill.{program_of}
use borrow.Author.Rules.{rules}
use Rattle.words.proofs.program.start_program.Statement.{statement}
use Rattle.words.proofs.program.start_program.Tie as tie

returns : tie.Need-returns
unfolding program_of no_program
returns c = rw (c.put_edition.ensures, c.put_instructions.ensures, c.clear_program.ensures)

pub start_program_spec : {M : Type 1} → statement M
start_program_spec = tie.close (tie.spec
    (λ c κs. search rules) (λ c κs. search rules) (λ c κs. search rules) returns)
