use Rattle.item_spec.specs.Write.{one_text, two_text, three_text, four_text}
use Rattle.report_spec.specs.Report.{connection_text}
use Rattle.write_items.proofs.Laws.{then, length-written}
use borrow.Author.Rules.{rules}
use Rattle.write_report.proofs.write_connection.Statement.{statement}
use Rattle.write_report.proofs.write_connection.Tie as tie

returns : tie.Need-returns
unfolding connection_text four_text three_text two_text one_text
returns c =
    let end = c in
    let provideport = c in
    let provider-end = c in
    let provider = c in
    let useport-end = c in
    let useport = c in
    let user-end = c in
    let user = c in
    let key = c in
    let from-provideport = then (rw provideport.provideport.ensures at provideport.write_number-at-4.ensures) end.write_byte.ensures in
    let from-provider = then (then (rw provider.provider.ensures at provider.write_number-at-3.ensures) provider-end.write_byte-at-3.ensures) from-provideport in
    let from-useport = then (then useport.write_number-at-2.ensures useport-end.write_byte-at-2.ensures) from-provider in
    then key.write_key-at.ensures (then (then user.write_number-at.ensures user-end.write_byte-at.ensures) from-useport)

pub write_connection_spec : {M : Type 1} → statement M
write_connection_spec =
    tie.close
    (tie.spec
    (λ c κs. search rules) (λ c. search rules) (λ c κs. search rules) (λ c κs. search rules) (λ c. search rules) (λ c κs. search rules)
    (λ c κs. search rules) (λ c κs. search rules) (λ c. search rules) (λ c κs. search rules) (λ c κs. search rules) (λ c κs. search rules)
    (λ c. search rules) (λ c κs. search rules) (λ c κs. search rules) (λ c. length-written (returns c)) returns)
