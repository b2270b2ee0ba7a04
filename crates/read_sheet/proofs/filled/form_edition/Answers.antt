use mathlib.Core.Path.{sym, ◌∙◌}
use Rattle.read_sheet.proofs.Forms.{edition-said, edition-unsaid}
use Rattle.read_sheet.proofs.filled.form_edition.Goals as goal

pub returns-then-begins : goal.returns-then-begins
returns-then-begins c = edition-said _ _ (sym c.begins.ensures ∙ c.if-begins.true) c.edition_run.ensures.reads

pub returns : goal.returns
returns c = edition-unsaid _ _ _ c.place_in-at.ensures (sym c.begins.ensures ∙ c.if-begins.false)
