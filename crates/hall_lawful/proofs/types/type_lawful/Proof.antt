use lib.Dec.{leb}
use borrow.Author.Rules.{rules}
use Rattle.sets.specs.Test.{all_below}
use Rattle.read_spec.specs.Limits.{places_ok, mask_ok, initial_ok}
use Rattle.read_spec.specs.Lawful.{transition_lawful, behavior_lawful, port_lawful, type_lawful}
use Rattle.words.specs.Words.{tables_in}
use Rattle.hall_lawful.specs.Parts.{part_lawful}
use Rattle.hall_lawful.proofs.Heads.{joined}
use Rattle.hall_lawful.proofs.types.type_lawful.Statement.{statement}
use Rattle.hall_lawful.proofs.types.type_lawful.Tie as tie

returns : tie.Need-returns
unfolding type_lawful part_lawful
returns c =
    let b = c in
    let x = c in
    let m = c in
    let s = c.args in
    let t = tables_in s.tables.now in
    let places = c.places_of-places.result in
    let initial = c.initial_of-initial.result in
    let xs = c.transitions_of.result in
    let bs = c.behaviors_of.result in
    let qs = c.ports_of.result in
    rw (← m.places_of-places.ensures, ← m.initial_of-initial.ensures, ← x.transitions_of.ensures, ← b.behaviors_of.ensures, ← c.ports_of.ensures, m.mask_ok-within.ensures)
    (joined (places_ok places) (mask_ok places initial) (initial_ok initial) (leb xs 32) (all_below xs (transition_lawful t s.k)) (leb bs 8) (all_below bs (behavior_lawful t s.k)) (leb qs 16) (all_below qs (port_lawful t s.k))
    x.parts_lawful-transitions.result b.parts_lawful-behaviors.result c.parts_lawful-ports.result x.parts_lawful-transitions.ensures b.parts_lawful-behaviors.ensures c.parts_lawful-ports.ensures)

pub type_lawful_spec : {M : Type 1} → statement M
type_lawful_spec = tie.close (tie.spec
    (λ c κs. search rules) (λ c κs. search rules) (λ c κs. search rules) (λ c κs. search rules) (λ c κs. search rules) (λ c κs. search rules)
    (λ c κs. search rules) (λ c κs. search rules) (λ c κs. search rules) returns)
