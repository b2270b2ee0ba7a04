use mathlib.Core.Path.{refl, sym}
use lib.Seq.{length-take-le}
use Rattle.write_spec.proofs.Trips.{penned-within}
use Rattle.form_lib.proofs.Laws.{refused-so, written-so}
use borrow.Author.Rules.{rules}
use Rattle.form_lib.proofs.write_draft.Statement.{statement}
use Rattle.form_lib.proofs.write_draft.Tie as tie

pub write_draft_spec : {M : Type 1} → statement M
write_draft_spec =
    tie.close
    (tie.spec
    (λ c κs. search rules) (λ c. (refused-so _ _ _ _ c.read_for-fault.ensures c.if-fault-ne0.true, (search rules, refl))) (λ c κs. search rules)
    (λ c. search rules)
    (λ c.
    let w = c.write_for-written.ensures in
    let l = penned-within w in
    (written-so _ _ _ _ c.read_for-fault.ensures c.if-fault-ne0.false _ _ _ w, (l, sym (length-take-le _ _ l)))))
