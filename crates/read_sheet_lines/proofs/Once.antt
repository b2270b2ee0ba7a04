-- That no other answer fits a line's promise.
-- Assumes nothing.
use mathlib.Core.Path.{refl, ap}
use Rattle.read_items.specs.Reads.{past, fault, NoOther}
use Rattle.read_items.proofs.Once.{no_other, refusal_by, refusal-back}
use Rattle.read_sheet_lines.specs.Says.{row_says, instruction_says}
use Rattle.std.specs.declared.result.Result.TheVariants.{Ok, Err}

pub row-once : NoOther row_says
row-once =
    no_other row_says
    (elim [ past x n ↦ Ok (x, n) | fault k ↦ Err (refusal_by k) ])
    (elim [ Ok (x, n) ↦ refl | Err r ↦ ap Err (refusal-back r) ])

pub instruction-once : NoOther instruction_says
instruction-once =
    no_other instruction_says
    (elim [
      | past x n ↦ Ok (record { verb = x.verb; id = x.id; number = x.number; provider = x.provider; provideport = x.provideport }, n)
      | fault k ↦ Err (refusal_by k)
    ])
    (elim [ Ok (x, n) ↦ refl | Err r ↦ ap Err (refusal-back r) ])
