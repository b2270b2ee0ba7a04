use mathlib.Core.Path.{◌≡◌, ap, ◌∙◌}
use mathlib.Core.Bool.{Bool, true, false, ◌&&◌, and_assoc}
use lib.Dec.{eqb}
use borrow.Author.Rules.{rules}
use Rattle.read_spec.specs.Lawful.{program_lawful}
use Rattle.words.specs.Words.{tables_in, program_in}
use Rattle.hall.specs.Screen.{lent_lawful}
use Rattle.hall.proofs.lent_lawful.Statement.{statement}
use Rattle.hall.proofs.lent_lawful.Tie as tie

-- three tests and then the rest, which is looked at where they hold
module _ (x y z a b c d : Bool) (p : x ≡ a) (q : y ≡ b) (r : z ≡ c) where
  after : ((x && (y && z)) && d) ≡ (a && (b && (c && d)))
  after = and_assoc x (y && z) d ∙ ap (◌&&◌ x) (and_assoc y z d) ∙ rw (p, q, r)

  fails : (x && (y && z)) ≡ false → false ≡ (a && (b && (c && d)))
  fails e = rw (← after, e)

  passes : (x && (y && z)) ≡ true → (o : Bool) → o ≡ d → o ≡ (a && (b && (c && d)))
  passes e o f = rw (← after, e) f

-- the program in a sheet of as many types as the tables have
program : (c : tie.After-program_lawful-program_law)
    → let s = c.args in c.program_lawful-program_law.result ≡ (eqb (program_in s.program.now).edition 1 && program_lawful (tables_in s.tables.now).count (program_in s.program.now))
program c = rw c.types.ensures at c.program_lawful-program_law.ensures

pub lent_lawful_spec : {M : Type 1} → statement M
unfolding lent_lawful
lent_lawful_spec =
    tie.close
    (tie.spec
    (λ c κs. search rules) (λ c κs. search rules) (λ c κs. search rules) (λ c κs. search rules)
    (λ c. let s = c in fails _ _ _ _ _ _ _ s.tables_lawful.ensures (program c.before.before.before) s.step_lawful.ensures c.if-not-first.true)
    (λ c. search rules) (λ c κs. search rules)
    (λ c. let s = c in passes _ _ _ _ _ _ _ s.tables_lawful.ensures (program c.before.before.before.before) s.step_lawful.ensures c.if-not-first.false _ c.configuration_lawful.ensures))
