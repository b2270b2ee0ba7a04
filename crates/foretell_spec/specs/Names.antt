-- "Go through the program on names alone, before any answer exists, and report the first instruction that would get 11 to 18, with its number."
-- "C-19 foretells 19 and 24 too".
-- Names tell who is there, of which type, and who is connected with whom; the program tells which tickets were pushed. Each instruction is taken by its own
-- rule, and after it only the names are kept.
use Rattle.std.specs.Prelude.{true, false, map, ℕ, zero, suc, eqb, replicate}
use Rattle.model.specs.declared.Tables.{Tables}
use Rattle.model.specs.declared.Program.{Program}
use Rattle.model.specs.declared.Instance.{Instance}
use Rattle.model.specs.declared.Step.{Step}
use Rattle.model.specs.declared.Configuration.{Configuration}
use Rattle.model.specs.Verb.{next_verb}
use Rattle.rules_spec.specs.Step.{step}
use Rattle.foretell_spec.specs.declared.Foretelling.{Foretelling}

-- an instance by its name alone: nothing marked, nothing held, nothing queued
abbrev pub quiet : Instance → Instance
quiet v = record { present = v.present; kind = v.kind; marked = 0; running = 0; ended = 0; queued = 0 }

-- a configuration by its names alone
unfoldable pub names_of : Configuration → Configuration
names_of c = record { instances = map quiet c.instances; queue = replicate 256 0; servers = c.servers; done = c.done }

-- `next`, where a queue has room for one behavior: on names alone no queue holds any
abbrev pub next_step : Step
next_step = record { verb = next_verb; id = 0; number = 0 }

abbrev pub room_for_one : ℕ
room_for_one = 1

-- n instructions, from the names c on
unfoldable pub foretold_from : Tables → Program → ℕ → Configuration → Foretelling
foretold_from t p zero c = record { next = c.done; refused = 0 }
foretold_from t p (suc n) c =
    elim (eqb (step room_for_one t p c next_step).refused 0) [
      | true ↦ foretold_from t p n (names_of (step room_for_one t p c next_step).configuration)
      | false ↦ record { next = c.done; refused = (step room_for_one t p c next_step).refused }
    ]

-- the whole program, from the names of the start c on
unfoldable pub foretold : Tables → Program → Configuration → Foretelling
foretold t p c = foretold_from t p p.count (names_of c)
