-- What a step and a walk have come to: a number, the use port it is about, and the configuration reached.
use Rattle.std.specs.Prelude.{ℕ}
use Rattle.model.specs.declared.Tables.{Tables}
use Rattle.model.specs.declared.Configuration.{Configuration}
use Rattle.model.specs.declared.Stepped.{Stepped}
use Rattle.model.specs.declared.Walked.{Walked}
use Rattle.model.specs.View.{instance}
use Rattle.rules_spec.specs.Standing.{standing}
use Rattle.rules_spec.specs.Action.{Action, concern}
use Rattle.rules_spec.specs.Step.{check_at}
use Rattle.step_ports.specs.declared.Answered.{Answered}
use Rattle.step_ports.specs.Turns.{answered}
use Rattle.step_walk.specs.declared.Passed.{Passed}

-- the number of an action, and the use port it is about
abbrev pub answer_at : ℕ → Tables → Configuration → Action → Answered
answer_at default t c a = answered (concern t (standing c) c a) (check_at default t c a)

abbrev pub stepped : Answered → Configuration → Stepped
stepped a c = record { refused = a.refused; port = a.port; configuration = c }

abbrev pub passed : ℕ → Answered → Passed
passed n a = record { accepted = n; refused = a.refused; port = a.port }

abbrev pub walked : Passed → Configuration → Walked
walked w c = record { accepted = w.accepted; refused = w.refused; port = w.port; configuration = c }

-- the number that an instruction makes one more, where it has one: of the behaviors queued
abbrev pub tally : Configuration → Action → ℕ
tally c (Action.pushb i b) = (instance c i).queued
tally c (Action.con k) = 0
tally c (Action.add i k) = 0
tally c (Action.del i) = 0
tally c (Action.dcon k) = 0
tally c (Action.wait i) = 0
tally c (Action.fire i p) = 0
tally c (Action.end i x) = 0
tally c (Action.enter i p) = 0
tally c (Action.finish i) = 0
