use borrow.Author.Rules.{rules}
use Rattle.write_texts.proofs.rows.port_at.Statement.{statement}
use Rattle.write_texts.proofs.rows.port_at.Tie as tie

pub port_at_spec : {M : Type 1} → statement M
port_at_spec =
    tie.close
    (tie.spec
    (λ c κs. search rules) (λ c κs. search rules) (λ c κs. search rules)
    (λ c. rw (c.port_kind-uses.ensures, c.group_places-places.ensures, c.group_transitions-transitions.ensures)))
