-- A sheet that opens with `sheet=1` gets the report that it got before there were tickets.
-- Assumes nothing.
use Prim.Native.Nat.{ℕ}
use mathlib.Core.List.{List}
use mathlib.Core.Path.{◌≡◌, sym, ap, ◌∙◌}
use native.Mathlib.Omega.{arith}
use Rattle.model.specs.declared.Tables.{Tables}
use Rattle.model.specs.declared.Program.{Program}
use Rattle.model.specs.declared.Answer.{Answer}
use Rattle.model.specs.declared.Configuration.{Configuration}
use Rattle.model.specs.View.{steps_of}
use Rattle.read_spec.specs.Lines.{on}
use Rattle.read_spec.specs.Lawful.{Lawful, SheetsAreLawful}
use Rattle.read_spec.proofs.Lawful.{sheets-are-lawful}
use Rattle.rules_spec.specs.Walk.{walk_from}
use Rattle.rules_spec.specs.Proper.{slot_limit, Proper}
use Rattle.rules_spec.proofs.Proper.{proper-from}
use Rattle.rules_spec.proofs.Tables.{facts}
use Rattle.report_spec.specs.Plain.{NoTickets, PlainAsBefore}
use Rattle.report_spec.proofs.Plain.{plain-as-before}
use Rattle.judge_spec.specs.Course.{default_depth}
use Rattle.judge_spec.specs.Plain.{PlainReportsAsBefore}
use Rattle.judge_spec.proofs.Read.{all_read, begun-lawful, begun-edition, begun-permitted}

on_value : {A : Type 0} {a b : A} {s r : List ℕ} → on a s ≡ on b r → a ≡ b
on_value {a = a} {b = b} {s = s} {r = r} e = cc

limit-plain : (p : Program) → p.edition ≡ 1 → slot_limit p ≡ 8
unfolding slot_limit
limit-plain p one = rw one

no-tickets : (t : Tables) (p : Program) (c : Configuration) (y : Answer) → Lawful t p → Proper default_depth t p c → p.edition ≡ 1 → NoTickets (walk_from default_depth t p c y).configuration
unfolding walk_from
no-tickets t p c y law now one i r here l = rw (limit-plain p one) at (((proper-from default_depth t p (facts default_depth t p (omega arith) law) (steps_of y) c now).each i here).tickets r l)

pub plain-reports-as-before : PlainReportsAsBefore
unfolding PlainReportsAsBefore PlainAsBefore SheetsAreLawful
plain-reports-as-before s a r t p w q one c =
    let b = all_read s a w c in
    let law = sheets-are-lawful s.sheet _ _ _ b.sheet-is in
    let same : b.sheet-program ≡ p = ap (λ (x : Tables × Program). x.1) (on_value (sym b.sheet-is ∙ q)) in
    plain-as-before w (rw b.walked (no-tickets b.tables b.program b.begin b.steps (begun-lawful b.tables b.sheet-program law s.beginning (b.program, b.begin) b.begun) (begun-permitted b.tables b.sheet-program law s.beginning (b.program, b.begin) b.begun).proper
    (begun-edition b.tables b.sheet-program s.beginning (b.program, b.begin) b.begun ∙ ap (λ (x : Program). x.edition) same ∙ one)))
