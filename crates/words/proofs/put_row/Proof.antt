use mathlib.Core.Path.{ap, ◌∙◌}
use Prim.Native.Nat.{ℕ}
use borrow.Author.Rules.{rules}
use borrow.Author.Tests.{lt-ltb, le-ltb}
use Rattle.words.specs.Rows.{puts}
use Rattle.words.proofs.put_row.Statement.{statement}
use Rattle.words.proofs.put_row.Tie as tie

returns : tie.Need-returns-then-k-rows
returns c =
    let p = c in
    let s = c in
    rw (lt-ltb _ _ p.if-k-rows.true)
    (c.put_words.ensures ∙ ap (λ (q : ℕ). puts s.args.words.now q s.args.xs.now) p.place.ensures.place)

returns-2 : tie.Need-returns-else-k-rows
returns-2 c = rw (le-ltb _ _ c.if-k-rows.false)

pub put_row_spec : {M : Type 1} → statement M
put_row_spec = tie.close (tie.spec
    (λ c κs. search rules) (λ c κs. search rules) (λ c. search rules) returns returns-2)
