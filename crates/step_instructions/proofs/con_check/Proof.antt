use mathlib.Core.Path.{◌≡◌}
use borrow.Author.Rules.{rules}
use Rattle.rules_spec.specs.Standing.{standing}
use Rattle.rules_spec.specs.Con.{con_check}
use Rattle.words.specs.Words.{tables_in, state_in}
use Rattle.words.specs.Parts.{connection_of_words}
use Rattle.step_instructions.proofs.con_check.Statement.{statement}
use Rattle.step_instructions.proofs.con_check.Tie as tie

value : (c : tie.After-refuse_if-4)
    → let s = c.args in
    c.refuse_if-4.result ≡ con_check (tables_in s.tables.now) (standing (state_in s.state.now)) (state_in s.state.now) (connection_of_words s.u s.uq s.v s.vq)
unfolding con_check
value c =
    let l = c in
    let q = c in
    rw (← q.present-user.ensures, ← q.present-provider.ensures, ← q.is_port-uses.ensures, ← q.is_port-provides.ensures, ← l.has_server-taken.ensures, ← l.entries-room.ensures.0, ← l.refuse_if-late.ensures, ← c.refuse_if.ensures, ← c.refuse_if-joined.ensures, ← c.refuse_if-2.ensures, ← c.refuse_if-kinds.ensures, ← c.refuse_if-3.ensures) c.refuse_if-4.ensures

pub con_check_spec : {M : Type 1} → statement M
con_check_spec = tie.close (tie.spec
    (λ c κs. search rules) (λ c κs. search rules) (λ c κs. search rules) (λ c κs. search rules) (λ c κs. search rules) (λ c κs. search rules)
    (λ c κs. search rules) (λ c κs. search rules) (λ c κs. search rules) (λ c κs. search rules) (λ c κs. search rules) (λ c κs. search rules)
    (λ c κs. search rules) value)
