use Rattle.read_sheet.proofs.filled.read_either.Goals as goal

pub returns-then-form : goal.returns-then-form
returns-then-form c = rw c.if-form.true c.read_type_form.ensures

pub returns : goal.returns
returns c = rw c.if-form.false c.read_type.ensures
