-- No other outcome fits what `write_draft` promises.
-- Assumes nothing.
use mathlib.Core.Path.{sym, ◌∙◌}
use Rattle.form_lib.specs.Drafts.{NoOtherDraft}

pub draft-once : NoOtherDraft
unfolding NoOtherDraft
draft-once d s old r q b c x y = (x.answer-is ∙ sym y.answer-is, x.buffer-is ∙ sym y.buffer-is)
