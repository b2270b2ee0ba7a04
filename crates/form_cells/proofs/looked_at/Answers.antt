use Prim.Native.Nat.{ℕ, ◌-◌}
use mathlib.Core.List.{List, [], ◌∷◌}
use mathlib.Core.Bool.{true≢false}
use mathlib.Core.Path.{sym, ap, ◌∙◌}
use lib.ListN.{length, take}
use Rattle.std.proofs.lemmas.Bool.Decides.{Decides-eqb}
use Rattle.std.proofs.lemmas.Slice.Eq.{ends_is}
use Rattle.form_cells.proofs.Looked.{looked_shorter, looked_whole}
use Rattle.form_cells.proofs.looked_at.Goals as goal

pub loop-looked-preserved : goal.loop-looked-preserved
loop-looked-preserved c =
    let s : List ℕ = c.loop-looked.looked.now in
    looked_shorter (take (length s - 2) s) s ((ends_is Decides-eqb s (10 ∷ 10 ∷ []) c.ends_empty.result c.ends_empty.ensures).0 c.loop-looked-test.true)
    ∙ c.loop-looked.invariant

pub returns : goal.returns
returns c =
    let s : List ℕ = c.loop-looked.looked.now in
    let whole = looked_whole s (λ z e. true≢false (sym ((ends_is Decides-eqb s (10 ∷ 10 ∷ []) c.ends_empty.result c.ends_empty.ensures).1 z e) ∙ c.loop-looked-test.false)) in
    ap length (sym whole ∙ c.loop-looked.invariant)
