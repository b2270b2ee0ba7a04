-- The round trips of both texts, and what a writer promises of a lent buffer holds of one answer only.
-- Assumes nothing.
use Prim.Native.Nat.{ℕ, ◌+◌, ◌≤◌}
use mathlib.Core.List.{List, [], ◌++◌}
use mathlib.Core.Path.{◌≡◌, sym, ap, ◌∙◌}
use native.Mathlib.Omega.{arith}
use lib.ListN.{length, drop, length-append}
use Rattle.read_spec.specs.Lines.{on}
use Rattle.read_spec.specs.Lawful.{SheetsAreLawful, AnswersAreLawful}
use Rattle.read_spec.proofs.Lawful.{sheets-are-lawful, answers-are-lawful}
use Rattle.write_spec.specs.Round.{Scribed, RoundTrips, a_sheet, an_answer, SheetsRoundTrip, AnswersRoundTrip}
use Rattle.write_spec.specs.Buffer.{penned, Penned, NoOtherPenned}
use Rattle.write_spec.proofs.Says.{Ends}
use Rattle.write_spec.proofs.Took.{on_value}
use Rattle.write_spec.proofs.Sheet.{sheet-says}
use Rattle.write_spec.proofs.Back.{sheets-are-their-texts}
use Rattle.write_spec.proofs.Lawful.{sheet-held, sheet-none}
use Rattle.write_spec.proofs.Faultless.{sheet-lawful}
use Rattle.write_spec.proofs.Answer.{answer-says, answer-taken, answer-none, answer-lawful, answer-held}

-- the rest of them from those of one text
module _ {A : Type 0} (w : Scribed A)
    (says : (a : A) → w.Writable a → Ends w.reads (w.text a) (w.fault a) (w.says a))
    (theirs : (s r : List ℕ) (a : A) → w.reads s ≡ on a r → s ≡ w.text a)
    (keeps : (s r : List ℕ) (a : A) → w.reads s ≡ on a r → w.Rules a)
    (none : (a : A) → w.Rules a → w.fault a ≡ 0)
    (lawful : (a : A) → w.fault a ≡ 0 → w.Rules a)
    (held : (a : A) → w.fault a ≡ 0 → w.Writable a) where
  read_back : (a : A) → w.fault a ≡ 0 → w.reads (w.text a) ≡ on (w.says a) []
  read_back a e = (says a (held a e)).goes e

  trips : RoundTrips w
  trips = record {
    written-is-read = λ a h e. (says a h).goes e;
    refused-as-read = λ a h e. (says a h).stops e;
    read-is-written = λ s r a q. (none a (keeps s r a q), theirs s r a q);
    read-is-said = λ s r a q. on_value (sym (read_back a (none a (keeps s r a q))) ∙ ap w.reads (sym (theirs s r a q)) ∙ q);
    lawful-is-faultless = none;
    faultless-is-lawful = lawful;
    faultless-is-writable = held;
    lawful-is-said = λ a l. (w.text a, read_back a (none a l));
  }

pub sheets-round-trip : SheetsRoundTrip
unfolding SheetsRoundTrip SheetsAreLawful
sheets-round-trip =
    trips a_sheet (λ x. sheet-says x.0 x.1) (λ s r x. sheets-are-their-texts s r x.0 x.1) (λ s r x. sheets-are-lawful s r x.0 x.1)
    (λ x. sheet-none x.0 x.1) (λ x. sheet-lawful x.0 x.1) (λ x e. sheet-held x.0 x.1 (sheet-lawful x.0 x.1 e))

pub answers-round-trip : AnswersRoundTrip
unfolding AnswersRoundTrip AnswersAreLawful
answers-round-trip = trips an_answer answer-says answer-taken answers-are-lawful answer-none answer-lawful answer-held

pub no-other-penned : NoOtherPenned
unfolding NoOtherPenned
no-other-penned n x old b c k l v w p q =
    let same : v ≡ w = p.written_is ∙ sym q.written_is in
    (p.new_is ∙ ap (λ (i : ℕ). penned n x (length old) ++ drop i old) same ∙ sym q.new_is, p.refused-is ∙ sym q.refused-is, same)

-- what was written lies within the buffer
pub penned-within : {n : ℕ} {x old new : List ℕ} {k b : ℕ} → Penned n x old new k b → b ≤ length new
penned-within {n} {x} {old} {new} {k} {b} p =
    let l = length-append (penned n x (length old)) (drop b old) in
    let e : length new ≡ length (penned n x (length old)) + length (drop b old) = ap length p.new_is ∙ l in
    omega (arith, p.written_is)
