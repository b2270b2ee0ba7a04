-- What is printed after a verdict, over the report: after the numbers of a text the three lines.
use Rattle.std.specs.Prelude.{ℕ, ◌≤◌, List, ◌≡◌, ◌⊎◌}
use Rattle.model.specs.declared.Text.{Text}
use Rattle.report_spec.specs.Faults.{fault_text}
use Rattle.write_items.specs.Written.{Written}

-- "after 1 to 5", and 50
abbrev pub OfText : ℕ → Type 0
OfText n = ((1 ≤ n) × (n ≤ 5)) ⊎ (n ≡ 50)

-- the buffer held `old` with a report of so many bytes; it holds `new`, and `used` bytes of it are the print
pub record Shown (x : Text) (line refused written : ℕ) (old : List ℕ) (used : ℕ) (new : List ℕ) : Type 0 where
  pub three-lines : OfText refused → Written old (fault_text x line refused) new 0 used
  pub the-report : (OfText refused → ⊥) → (used ≡ written) × (new ≡ old)
