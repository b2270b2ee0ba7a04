use mathlib.Core.Path.{◌≡◌, sym, ◌∙◌}
use borrow.Author.Tests.{eq-eqb, ne_eqb}
use Prim.Native.Nat.{ℕ}
use mathlib.Core.Bool.{true}
use Rattle.model.specs.declared.Program.{Program}
use Rattle.model.specs.declared.Configuration.{Configuration}
use Rattle.model.specs.View.{instance}
use Rattle.read_spec.specs.Limits.{has_tickets}
use Rattle.rules_spec.specs.Tickets.{pushed_to, last_stamp}
use Rattle.start_spec.specs.Round.{last_of}
use borrow.Author.Rules.{rules}
use Rattle.judge_lib.proofs.next.last_of.Statement.{statement}
use Rattle.judge_lib.proofs.next.last_of.Tie as tie

returns : tie.Need-returns-then-edition-ne2
unfolding last_of
returns c = rw (← c.edition.ensures, ne_eqb _ _ c.if-edition-ne2.true)

-- of who is there, in a sheet with tickets
told : (p : Program) (c : Configuration) (i n : ℕ) → has_tickets p.edition ≡ true → (instance c i).present ≡ true → n ≡ c.done → last_of p c i ≡ last_stamp (pushed_to p i n)
unfolding last_of
told p c i n e h d = rw (d, e, h)

returns-2 : tie.Need-returns-then-present
returns-2 c =
    let d = c in
    let h = c in
    let e = c in
    c.last_stamp.ensures
    ∙ sym (told _ _ _ _ (rw e.edition.ensures at (eq-eqb _ _ e.if-edition-ne2.false)) (sym h.present.ensures ∙ h.if-present.true) d.done.ensures)

returns-3 : tie.Need-returns
unfolding last_of
returns-3 c =
    let p = c in
    let e = c in
    rw (← e.edition.ensures, eq-eqb _ _ e.if-edition-ne2.false, ← p.present.ensures, c.if-present.false)

pub last_of_spec : {M : Type 1} → statement M
last_of_spec = tie.close (tie.spec
    (λ c κs. search rules) returns (λ c κs. search rules) (λ c κs. search rules) (λ c κs. search rules) returns-2 returns-3)
