use borrow.Author.Tests.{ne_eqb}
use Rattle.aeolus_read_spec.specs.Texts.{in_provides, in_requires, with_interface}
use borrow.Author.Rules.{rules}
use Rattle.aeolus_read_sheet.proofs.types.put_interface.Statement.{statement}
use Rattle.aeolus_read_sheet.proofs.types.put_interface.Tie as tie

pub put_interface_spec : {M : Type 1} → statement M
unfolding in_provides in_requires with_interface
put_interface_spec =
    tie.close
    (tie.spec
    (λ c κs. search rules) (λ c κs. search rules) (λ c. rw (c.if-kind-eq-REQUIRE.true, c.mark_required.ensures, c.put_name.ensures))
    (λ c κs. search rules) (λ c. rw (c.if-kind-eq-PROVIDE.true, c.mark_provided.ensures, c.put_name.ensures)) (λ c κs. search rules)
    (λ c. rw (ne_eqb _ _ c.if-kind-eq-REQUIRE.false, ne_eqb _ _ c.if-kind-eq-PROVIDE.false, in_provides, in_requires, c.mark_required-2.ensures, c.mark_provided.ensures, c.put_name.ensures)))
