-- The report as it was made from the old list of connections.
use Rattle.std.specs.Prelude.{ℕ, zero, suc, List, [], true, false, ◌&&◌, eqb}
use Rattle.item_spec.specs.Write.{in_turn}
use Rattle.model.specs.declared.Walked.{Walked}
use Rattle.rules_spec.specs.Listed.{Chain, linked, unlisted, ListedWalked}
use Rattle.report_spec.specs.Report.{connection_text, report_with}

-- among the first n connections: the line of the one with the user u and its port q, nothing where there is none
unfoldable pub link_at : Chain → ℕ → ℕ → ℕ → List ℕ
link_at x zero u q = []
link_at x (suc n) u q =
    elim (eqb (linked x n).user u && eqb (linked x n).useport q) [
      | true ↦ connection_text (linked x n)
      | false ↦ link_at x n u q
    ]

-- "per connection by user then port"
unfoldable pub links_text : Chain → List ℕ
links_text x = in_turn (λ u. in_turn (link_at x x.count u) 16) 32

-- all but the connections
abbrev pub unlisted_walked : ListedWalked → Walked
unlisted_walked v = record { accepted = v.accepted; refused = v.refused; port = v.port; configuration = unlisted v.outcome }

unfoldable pub listed_report : ListedWalked → List ℕ
listed_report v = report_with (unlisted_walked v) v.outcome.connections.count (links_text v.outcome.connections)
