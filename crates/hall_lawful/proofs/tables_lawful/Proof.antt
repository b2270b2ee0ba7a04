use Rattle.words.specs.Words.{tables_in}
use borrow.Author.Rules.{rules}
use Rattle.hall_lawful.proofs.Heads.{head-fails, head-holds}
use Rattle.hall_lawful.proofs.tables_lawful.Statement.{statement}
use Rattle.hall_lawful.proofs.tables_lawful.Tie as tie

returns : tie.Need-returns-then-not-head
returns c =
    let d = c in
    head-fails (tables_in d.args.tables.now) _ _ d.depth.ensures d.types-n.ensures c.if-not-head.true

returns-2 : tie.Need-returns
returns-2 c =
    let e = c in
    let d = c in
    head-holds (tables_in d.args.tables.now) _ _ d.depth.ensures d.types-n.ensures e.if-not-head.false _ c.types_lawful.ensures

pub tables_lawful_spec : {M : Type 1} → statement M
tables_lawful_spec = tie.close (tie.spec
    (λ c κs. search rules) (λ c κs. search rules) returns (λ c κs. search rules) returns-2)
