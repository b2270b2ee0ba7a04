-- The report, line by line, as bytes.
use Rattle.std.specs.Prelude.{ℕ, List, ◌++◌, ◌&&◌}
use Rattle.sets.specs.Test.{tally}
use Rattle.sets.specs.Mask.{member}
use Rattle.item_spec.specs.Reader.{bytes}
use Rattle.item_spec.specs.Write.{only_if, in_turn, three_text}
use Rattle.report_spec.specs.Report.{count_text}
use Rattle.aeolus_model.specs.Model.{Universe, Configuration, kind_of, state_of, deployed, lists, place_of, bound_at}
use Rattle.aeolus_rules_spec.specs.Bind.{bindings}
use Rattle.aeolus_rules_spec.specs.Run.{Ran}

-- `component=id,type,state`
unfoldable pub component_text : ℕ → ℕ → ℕ → List ℕ
component_text z k q = bytes "component=" ++ three_text z k q

-- `binding=interface,requirer,provider`
unfoldable pub binding_text : ℕ → ℕ → ℕ → List ℕ
binding_text r z y = bytes "binding=" ++ three_text r z y

-- component z's line, nothing where it is absent
unfoldable pub component_at : Configuration → ℕ → List ℕ
component_at c z = only_if (deployed c z) (component_text z (kind_of c z) (state_of c z))

-- the lines of those of these providers that are below n
unfoldable pub providers_text : ℕ → ℕ → ℕ → ℕ → List ℕ
providers_text n r z providers = in_turn (λ y. only_if (member y providers) (binding_text r z y)) n

-- the lines of z for the interface r, nothing where it is absent or its type does not list r
unfoldable pub bindings_at : Universe → Configuration → ℕ → ℕ → List ℕ
bindings_at u c r z =
    only_if (deployed c z && lists u (kind_of c z) r) (providers_text 32 r z (bound_at c z (place_of u (kind_of c z) r)))

-- "per component by ascending id"; "per binding by interface, then requirer, then provider"; "as numbers, not as text"
unfoldable pub components_text : Configuration → List ℕ
components_text c = in_turn (component_at c) 32

unfoldable pub bindings_text : Universe → Configuration → List ℕ
bindings_text u c = in_turn (λ r. in_turn (bindings_at u c r) 32) 256

unfoldable pub head_part : ℕ → ℕ → List ℕ
head_part accepted refused = count_text (bytes "accepted=") accepted ++ count_text (bytes "refused=") refused

unfoldable pub components_part : Configuration → List ℕ
components_part c = count_text (bytes "components=") (tally 32 (deployed c)) ++ components_text c

unfoldable pub bindings_part : Universe → Configuration → List ℕ
bindings_part u c = count_text (bytes "bindings=") (bindings c) ++ bindings_text u c

-- "`accepted=`, `refused=` (0 or the number), `components=`, .. `bindings=`, .."
unfoldable pub report : Universe → Ran → List ℕ
report u w = head_part w.accepted w.refused ++ components_part w.configuration ++ bindings_part u w.configuration
