use lib.ListN.{drop}
use mathlib.Core.Path.{ap, ◌∙◌}
use Rattle.item_spec.specs.declared.Refusal.TheVariants.{BadForm}
use Rattle.std.specs.declared.result.Result.TheVariants.{Err}
use Rattle.read_items.proofs.Laws.{told}
use Rattle.read_sheet_lines.specs.Says.{instruction_says}
use borrow.Author.Rules.{rules}
use Rattle.read_sheet_lines.proofs.Limits.{id-is, ticket_is, wait-read, wait-plain, wait-kept}
use Rattle.read_sheet_lines.proofs.wait_after.Goals as goal

pub returns-then-edition-ne2 : goal.returns-then-edition-ne2
returns-then-edition-ne2 c = wait-plain c.args.edition (drop c.args.at c.args.s.now) c.if-edition-ne2.true (rw (id-is 5) at c.do_numbers-alone.ensures)

pub returns-in_default : goal.returns-in_default
returns-in_default c =
    wait-kept c.args.edition (drop c.args.at c.args.s.now) c.if-edition-ne2.false _ (rw (id-is 5) at c.do_numbers-alone.ensures)
    (λ e. search (e, rules))

pub returns-in_default-2 : goal.returns-in_default-2
returns-in_default-2 c =
    wait-kept c.args.edition (drop c.args.at c.args.s.now) c.if-edition-ne2.false _ (rw (id-is 5) at c.do_numbers-alone.ensures)
    (λ e. search (e, rules))

pub returns : goal.returns
returns c =
    let w = c.in-Err-BadForm in
    wait-read c.args.edition (drop c.args.at c.args.s.now) c.if-edition-ne2.false (rw (id-is 5) at (told instruction_says (Err BadForm) c.do_numbers-alone.ensures (w.is ∙ ap Err (rw w.is at w.field-0-is))))
    (rw (ticket_is 7) at c.do_numbers.ensures)
