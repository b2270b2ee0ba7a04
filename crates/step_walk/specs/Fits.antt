-- Which programs the words of the state can hold: those whose `con` lines name servers whose number is a word, and whose pushes are words.
use Rattle.std.specs.Prelude.{true, ◌≡◌, ℕ, ◌<◌}
use Rattle.model.specs.declared.Program.{Program}
use Rattle.model.specs.View.{port_number}
use Rattle.read_spec.specs.Lawful.{program_lawful}
use Rattle.rules_spec.specs.Action.{Action}
use Rattle.rules_spec.specs.Step.{action_at}

abbrev pub PortFits : Action → Type 0
PortFits (Action.con k) = port_number k.provider k.provideport < 4294967295
PortFits (Action.add i k) = Unit {0}
PortFits (Action.del i) = Unit {0}
PortFits (Action.pushb i b) = b.slot < 4294967296
PortFits (Action.dcon k) = Unit {0}
PortFits (Action.wait i) = Unit {0}
PortFits (Action.fire i p) = Unit {0}
PortFits (Action.end i x) = Unit {0}
PortFits (Action.enter i p) = Unit {0}
PortFits (Action.finish i) = Unit {0}

abbrev pub PortsFit : Program → Type 0
PortsFit p = (n : ℕ) → n < p.count → PortFits (action_at p n)

-- "Inside `do` and `step` lines, places and ports run to 15", and ids to 31: so it is with every lawful program, of however many types
unfoldable pub LawfulPortsFit : Type 0
LawfulPortsFit = (n : ℕ) (p : Program) → program_lawful n p ≡ true → PortsFit p
