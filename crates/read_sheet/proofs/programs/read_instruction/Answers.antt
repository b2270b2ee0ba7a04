use mathlib.Core.Path.{refl}
use Rattle.read_items.proofs.Laws.{handed_on}
use Rattle.read_spec.specs.Kinds.{do_line}
use Rattle.read_spec.specs.Fill.{with_instruction}
use Rattle.read_spec.specs.Texts.{instruction_at}
use Rattle.read_chain.proofs.Placed.{line-put, line-stop}
use Rattle.words.specs.Words.{program_in}
use Rattle.read_sheet_lines.specs.Says.{instruction_says}
use Rattle.read_sheet.proofs.programs.read_instruction.Goals as goal

pub returns-in_err-said : goal.returns-in_err-said
unfolding instruction_at
returns-in_err-said c =
    let a = c.args in
    rw (handed_on _ c.from_residual.ensures.1)
    (line-stop instruction_says (do_line a.edition a.types) (with_instruction (program_in a.program.now) a.n) _ _ _ c.place_in-at.ensures _ c.do_line-line.ensures c.in_err-said.ensures refl)

pub returns : goal.returns
unfolding instruction_at
returns c =
    let a = c.args in
    rw c.put_instruction.ensures
    (line-put instruction_says (do_line a.edition a.types) (with_instruction (program_in a.program.now) a.n) _ _ _ c.place_in-at.ensures _ c.do_line-line.ensures c.in_ok-said.ensures refl)
