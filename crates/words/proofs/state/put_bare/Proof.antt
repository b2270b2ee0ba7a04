use borrow.Author.Rules.{rules}
use Rattle.words.proofs.InState.{instance-put}
use Rattle.words.proofs.state.put_bare.Statement.{statement}
use Rattle.words.proofs.state.put_bare.Tie as tie

returns : tie.Need-returns
returns c =
    let p = c in
    let s = c.args in
    rw (c.put_row.ensures, p.put_at.ensures, p.changed-m.ensures)
    (instance-put s.state.now s.i s.kind s.marked s.present p.put_at-arg-1.given.0.1)

pub put_bare_spec : {M : Type 1} → statement M
put_bare_spec = tie.close (tie.spec
    (λ c. search rules) (λ c κs. search rules) (λ c κs. search rules) (λ c. search rules) (λ c κs. search rules) returns)
