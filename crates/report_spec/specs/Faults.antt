-- "After 1 to 5 it prints `text=sheet` or `text=answer`, `line=`, `refused=`"; 02, C-20: "faults print `text=start`".
use Rattle.std.specs.Prelude.{ℕ, List, [], ◌++◌}
use Rattle.item_spec.specs.Reader.{bytes}
use Rattle.model.specs.declared.Text.{Text}
use Rattle.model.specs.declared.Text.TheVariants as text
use Rattle.report_spec.specs.Report.{count_text}

unfoldable pub text_text : Text → List ℕ
text_text text.Neither = []
text_text text.Sheet = bytes "text=sheet\n"
text_text text.Answer = bytes "text=answer\n"
text_text text.Times = bytes "text=times\n"
text_text text.Start = bytes "text=start\n"

unfoldable pub fault_text : Text → ℕ → ℕ → List ℕ
fault_text x at refused = text_text x ++ count_text (bytes "line=") at ++ count_text (bytes "refused=") refused
