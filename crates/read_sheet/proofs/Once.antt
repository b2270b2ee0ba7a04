-- That no other outcome and no other words fit the promise, and that all words are 0 beside a refusal.
-- Assumes nothing.
use Prim.Native.Nat.{ℕ}
use mathlib.Core.Path.{◌≡◌, sym, ap, ◌∙◌}
use lib.ListN.{length-replicate}
use Rattle.model.specs.declared.Tables.{Tables}
use Rattle.model.specs.declared.Program.{Program}
use Rattle.model.specs.Empty.{no_tables, no_program}
use Rattle.read_spec.specs.Lines.{Lines}
use Rattle.read_spec.specs.Texts.{sheet}
use Rattle.read_chain.specs.Whole.{Whole}
use Rattle.read_chain.proofs.Chain.{nothing-beside}
use Rattle.words.proofs.InTables.{no-tables}
use Rattle.words.proofs.InTexts.{no_program_is}
use Rattle.words.proofs.Whole.{tables-words, program-words}
use Rattle.read_sheet.specs.Sheet.{NoOther, NoneLeft, NoOtherSheet, NoWordsLeft}
use Rattle.read_sheet.specs.Form.{form, NoOtherForm}

once : (m : Lines (Tables × Program)) → NoOther m
once m s r q ws vs ps qs a b e f =
    let g = e ∙ sym f in (
      ap (λ (x : Whole (Tables × Program)). record { refused = x.refused; place = x.place }) g,
      tables-words ws vs a.0 b.0 (ap (λ (x : Whole (Tables × Program)). x.value.0) g),
      program-words ps qs a.1 b.1 (ap (λ (x : Whole (Tables × Program)). x.value.1) g),
    )

none_left : (m : Lines (Tables × Program)) → NoneLeft m
none_left m s r ws ps a e n =
    let none : ◌≡◌ {A = Tables × Program} _ (no_tables, no_program) =
    ap (λ (x : Whole (Tables × Program)). x.value) e
    ∙ nothing-beside (no_tables, no_program) m s (λ z. n (ap (λ (x : Whole (Tables × Program)). x.refused) e ∙ z)) in (
      tables-words ws _ a.0 (length-replicate {A = ℕ} 2002 0) (ap (λ (x : Tables × Program). x.0) none ∙ sym no-tables),
      program-words ps _ a.1 (length-replicate {A = ℕ} 1282 0) (ap (λ (x : Tables × Program). x.1) none ∙ sym no_program_is),
    )

pub sheet-once : NoOtherSheet
unfolding NoOtherSheet
sheet-once = once sheet

pub no-words-left : NoWordsLeft
unfolding NoWordsLeft
no-words-left = none_left sheet

pub form-once : NoOtherForm
unfolding NoOtherForm
form-once = (once form, none_left form)
