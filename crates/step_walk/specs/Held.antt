-- What a step and a walk leave in words, of any program: the rules' own, but where a `con` names a server whose number no word holds, or a push is none.
-- No text says such a program, and the hall refuses it with 7 (Fits).
use Rattle.std.specs.Prelude.{cond, List, ◌≡◌, ℕ, suc, ◌<◌, ltb}
use Rattle.model.specs.declared.Tables.{Tables}
use Rattle.model.specs.declared.Program.{Program}
use Rattle.model.specs.declared.Step.{Step}
use Rattle.model.specs.declared.Answer.{Answer}
use Rattle.model.specs.declared.Configuration.{Configuration}
use Rattle.model.specs.declared.Stepped.{Stepped}
use Rattle.model.specs.declared.Walked.{Walked}
use Rattle.model.specs.Empty.{start}
use Rattle.model.specs.View.{port_number, with_done, steps_of}
use Rattle.read_spec.specs.Lawful.{program_lawful}
use Rattle.rules_spec.specs.Refusal.{settle}
use Rattle.rules_spec.specs.Standing.{standing}
use Rattle.rules_spec.specs.PushB.{pushed}
use Rattle.rules_spec.specs.Con.{connected}
use Rattle.rules_spec.specs.DCon.{disconnected}
use Rattle.rules_spec.specs.Action.{Action, effect, concern}
use Rattle.rules_spec.specs.Step.{is_next, action_at, action, step_check, step}
use Rattle.rules_spec.specs.Walk.{walk_by, walk}
use Rattle.words.specs.Parts.{in_word}
use Rattle.step_walk.specs.Fits.{PortsFit}

-- a use port that is to get such a server is left without one
unfoldable pub held : Tables → Configuration → Action → Configuration
held t c (Action.con k) = cond (ltb (port_number k.provider k.provideport) 4294967295) (connected c k) (disconnected c k)
held t c (Action.add i k) = effect t c (Action.add i k)
held t c (Action.del i) = effect t c (Action.del i)
held t c (Action.pushb i b) = pushed c i (in_word b.slot)
held t c (Action.dcon k) = effect t c (Action.dcon k)
held t c (Action.wait i) = effect t c (Action.wait i)
held t c (Action.fire i p) = effect t c (Action.fire i p)
held t c (Action.end i x) = effect t c (Action.end i x)
held t c (Action.enter i p) = effect t c (Action.enter i p)
held t c (Action.finish i) = effect t c (Action.finish i)

unfoldable pub held_to : Tables → Program → Configuration → Step → Configuration
held_to t p c s = cond (is_next s) (with_done (held t c (action p c s)) (suc c.done)) (held t c (action p c s))

unfoldable pub held_step : ℕ → Tables → Program → Configuration → Step → Stepped
held_step default t p c s = settle (step_check default t p c s) (concern t (standing c) c (action p c s)) c (held_to t p c s)

unfoldable pub held_walk : ℕ → Tables → Program → Configuration → List Step → Walked
held_walk default t p c ss = walk_by (held_step default t p) c ss

-- where the numbers are words it is the step and the walk of the rules
unfoldable pub HeldStepIsTheStep : Type 0
HeldStepIsTheStep =
    (default : ℕ) (t : Tables) (p : Program) (c : Configuration) (s : Step) → PortsFit p → held_step default t p c s ≡ step default t p c s

unfoldable pub HeldWalkIsTheWalk : Type 0
HeldWalkIsTheWalk =
    (default : ℕ) (t : Tables) (p : Program) (c : Configuration) (ss : List Step) → PortsFit p → held_walk default t p c ss ≡ walk default t p c ss
