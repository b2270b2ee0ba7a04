-- What `con` and `dcon` ask of a use port, by its server: that it is connected, and that it is connected to that very provide port.
-- Assumes nothing.
use mathlib.Core.Path.{◌≡◌, sym, ap, ◌∙◌}
use mathlib.Core.Bool.{true, not, ◌&&◌, and-true}
use mathlib.Core.List.{List}
use Prim.Native.Nat.{ℕ, ◌-◌, ◌/◌, ◌%◌}
use lib.Dec.{eqb}
use Rattle.model.specs.Empty.{no_server}
use Rattle.rules_spec.specs.Standing.{some_connection}
use Rattle.rules_spec.specs.Ports.{is_of}
use Rattle.rules_spec.specs.DCon.{same_connection}
use Rattle.words.specs.Words.{state_in}
use Rattle.words.specs.Parts.{connection_of_words, server_of}
use Rattle.words.proofs.InState.{servers-length}
use Rattle.words.proofs.Served.{looked}

module _ (ws : List ℕ) (i q : ℕ) where
  abbrev its : ℕ
  its = server_of (state_in ws) i q

  pub taken-looked : some_connection (state_in ws) (is_of i q) ≡ not (eqb its no_server)
  unfolding is_of
  taken-looked =
      ap (some_connection (state_in ws)) (λ j k. eqb k.user i && sym (and-true (eqb k.useport q)) j)
      ∙ looked (state_in ws) (servers-length ws) i q (λ k. true) ∙ and-true (not (eqb its no_server))

  pub same-looked : (v p : ℕ) → some_connection (state_in ws) (same_connection (connection_of_words i q v p))
      ≡ (not (eqb its no_server) && (eqb ((its - 1) / 16) v && eqb ((its - 1) % 16) p))
  unfolding same_connection
  same-looked v p = looked (state_in ws) (servers-length ws) i q (λ k. eqb k.provider v && eqb k.provideport p)
