-- A count's line has at most 21 bytes beside its key, a fault's lines 67.
-- Assumes nothing.
use Prim.Native.Nat.{ℕ, zero, suc, ◌+◌, ◌-◌, ◌/◌, ◌≤◌}
use mathlib.Core.Path.{◌≡◌, refl}
use mathlib.Core.Logic.{by_cases}
use mathlib.Core.List.{List}
use native.Mathlib.Omega.{arith}
use native.Mathlib.Decide.{dec_lt}
use lib.ListN.{length, length-append}
use Rattle.item_spec.specs.Reader.{bytes}
use Rattle.item_spec.specs.Write.{digits_in, number_text, one_text}
use Rattle.model.specs.declared.Text.{Text}
use Rattle.model.specs.declared.Text.TheVariants as text
use Rattle.write_items.proofs.Items.{digits-none, digits_last, digits_more}
use Rattle.report_spec.specs.Report.{count_text}
use Rattle.report_spec.specs.Faults.{text_text, fault_text}

digits-short : (n v : ℕ) → length (digits_in n v) ≤ n
digits-short zero v = rw (digits-none 0 v refl) (omega arith)
digits-short (suc n) v =
    let e : suc n - 1 ≡ n = omega arith in
    by_cases (dec_lt v 10)
    (λ l. rw (digits_last (suc n) v (λ z. omega arith) l) (omega arith))
    (λ l. rw (digits_more (suc n) v (λ z. omega arith) (omega arith), e) (simp length-append (omega (arith, digits-short n (v / 10)))))

number_short : (v : ℕ) → length (number_text v) ≤ 20
unfolding number_text
number_short v = digits-short 20 v

pub count-short : (k : List ℕ) (n : ℕ) → length (count_text k n) ≤ length k + 21
unfolding count_text one_text
count-short k n = simp length-append (omega (arith, number_short n))

text-short : (x : Text) → length (text_text x) ≤ 12
unfolding text_text
text-short text.Neither = omega arith
text-short text.Sheet = omega arith
text-short text.Answer = omega arith
text-short text.Times = omega arith
text-short text.Start = omega arith

pub fault-short : (x : Text) (at refused : ℕ) → length (fault_text x at refused) ≤ 67
unfolding fault_text
fault-short x at refused =
    simp length-append (omega (arith, text-short x, count-short (bytes "line=") at, count-short (bytes "refused=") refused))
