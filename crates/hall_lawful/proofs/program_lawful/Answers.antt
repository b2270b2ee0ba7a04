use Rattle.std.proofs.Common.{◌≡◌, ℕ, Bool, ◌&&◌, get_or, sym, ap, arith, ◌∙◌}
use lib.Dec.{eqb}
use borrow.Author.Tests.{ne_eqb, lt-leb, le-leb}
use Rattle.sets.specs.Test.{all_below}
use Rattle.sets.proofs.Laws.{all_start}
use Rattle.model.specs.declared.Program.{Program}
use Rattle.model.specs.Empty.{no_instruction}
use Rattle.read_spec.specs.Limits.{program_ok, edition_ok}
use Rattle.read_spec.specs.Lawful.{instruction_lawful, program_lawful}
use Rattle.hall_lawful.proofs.Loops.{one-fails, one_more, all-passed}
use Rattle.hall_lawful.proofs.program_lawful.Goals as goal

-- of a sheet that opens with 1
plainly : (n : ℕ) (p : Program) → p.edition ≡ 1 → (b : Bool)
    → b ≡ (program_ok p.count && all_below p.count (λ j. instruction_lawful 1 n (get_or p.instructions j no_instruction))) → b ≡ (eqb p.edition 1 && program_lawful n p)
unfolding program_lawful
plainly n p e b q =
    q ∙ sym (ap (λ (k : ℕ). eqb k 1 && (program_ok p.count && (edition_ok k && all_below p.count (λ j. instruction_lawful k n (get_or p.instructions j no_instruction))))) e)

pub returns-then-edition-ne1 : goal.returns-then-edition-ne1
returns-then-edition-ne1 c = rw (← c.edition.ensures, ne_eqb _ _ c.if-edition-ne1.true)

pub returns-then-count-gt256 : goal.returns-then-count-gt256
returns-then-count-gt256 c =
    plainly _ _ (sym c.edition.ensures ∙ c.if-edition-ne1.false) _ (rw (← c.instructions-count.ensures, lt-leb _ _ c.if-count-gt256.true))

pub loop-j-init : goal.loop-j-init
loop-j-init c = all_start _

pub returns-then-not-instruction_lawful : goal.returns-then-not-instruction_lawful
returns-then-not-instruction_lawful c =
    plainly _ _ (sym c.edition.ensures ∙ c.if-edition-ne1.false) _
    (rw (← c.instructions-count.ensures, le-leb _ _ c.if-count-gt256.false) (one-fails _ c.loop-j.j _ c.instruction_lawful.ensures _ c.loop-j-test.true c.if-not-instruction_lawful.true))

pub loop-j-preserved : goal.loop-j-preserved
loop-j-preserved c = one_more _ c.loop-j.j _ c.instruction_lawful.ensures c.loop-j.invariant c.if-not-instruction_lawful.false

pub returns : goal.returns
returns c =
    plainly _ _ (sym c.edition.ensures ∙ c.if-edition-ne1.false) _
    (rw (← c.instructions-count.ensures, le-leb _ _ c.if-count-gt256.false) (all-passed _ _ c.loop-j.j c.loop-j.invariant (omega arith)))
