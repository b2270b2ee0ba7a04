-- `rewrite_lib::rewrite` meets its contract: what the sheet's reader answered is the course that `rewrite_spec` says.
-- Assumes nothing.
use borrow.Author.Rules.{rules}
use mathlib.Core.Path.{refl, sym, ap, ◌∙◌}
use Rattle.judge_spec.specs.declared.Verdict.{Verdict}
use Rattle.judge_spec.specs.Judged.{after_fault}
use Rattle.rewrite_lib.proofs.Came.{sheet-came, refused-so, rewritten-so}
use Rattle.rewrite_lib.proofs.Bytes.{counted}
use Rattle.rewrite_lib.proofs.rewrite.Statement.{statement}
use Rattle.rewrite_lib.proofs.rewrite.Tie as tie

returns : tie.Need-returns-then-refused
unfolding after_fault
returns c =
    let y = c.fill_sheet-read in
    let s = c in
    (refused-so (sheet-came _ y.ensures) s.args.out.now c.if-refused.true c.after_fault-fault.result.line (ap (λ (v : Verdict). v.line) c.after_fault-fault.ensures), (search rules, refl))

write-sheet-requires : tie.Need-write_sheet-written-requires
write-sheet-requires c κs =
    let k = sheet-came _ c.fill_sheet-read.ensures in
    let z = c.if-refused.false in
    (k.short-is z, λ e. k.begins-so z (sym c.depth-depth.ensures ∙ e))

returns-2 : tie.Need-returns
returns-2 c =
    let k = sheet-came _ c.fill_sheet-read.ensures in
    let s = c in
    let d = c.depth-depth.ensures in
    let (size, is) = rw d at c.write_sheet-written.ensures in
    (rewritten-so k s.args.out.now c.if-refused.false _ _ size is, counted _ s.args.out.now _ _ size is)

pub rewrite_spec : {M : Type 1} → statement M
rewrite_spec = tie.close (tie.spec
    (λ c κs. search rules) (λ c κs. search rules) returns (λ c κs. search rules) write-sheet-requires returns-2)
