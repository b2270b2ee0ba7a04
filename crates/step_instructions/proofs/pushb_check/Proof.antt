use mathlib.Core.Path.{◌≡◌, sym, ◌∙◌}
use native.Mathlib.Omega.{arith}
use Rattle.words.specs.Words.{tables_in, state_in}
use Rattle.rules_spec.specs.PushB.{push_with, pushb_check}
use Rattle.rules_spec.proofs.Allowed.{pushb-facts}
use borrow.Author.Rules.{rules}
use Rattle.step_instructions.proofs.pushb_check.Statement.{statement}
use Rattle.step_instructions.proofs.pushb_check.Tie as tie

value : (c : tie.After-refuse_if-2)
    → let s = c.args in
    c.refuse_if-2.result ≡ pushb_check s.default (tables_in s.tables.now) (state_in s.state.now) s.i (push_with s.b s.late)
unfolding pushb_check
value c =
    let d = c in
    let k = c in
    rw (← k.present-here.ensures, ← k.kind.ensures, ← d.behaviors_of.ensures, ← d.queued.ensures, ← d.depth_of.ensures, ← c.refuse_if-full.ensures, ← c.refuse_if-above.ensures, ← c.refuse_if.ensures) c.refuse_if-2.ensures

pub pushb_check_spec : {M : Type 1} → statement M
pushb_check_spec = tie.close (tie.spec
    (λ c κs. search rules) (λ c κs. search rules) (λ c κs. search rules) (λ c κs. search rules) (λ c κs. search rules) (λ c κs. search rules)
    (λ c κs. search rules) (λ c κs. search rules) (λ c κs. search rules)
    (λ c. (value c, λ e. let f = pushb-facts _ _ _ _ _ (sym (value c) ∙ e) in let d = c in omega (arith, f.short, d.depth_of.ensures, d.depth_of.type_inv))))
