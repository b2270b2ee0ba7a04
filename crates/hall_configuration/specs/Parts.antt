-- The part of the clauses of number 7 that a function says by itself: a queue.
use Rattle.std.specs.Prelude.{ℕ, Bool, ◌&&◌, leb}
use Rattle.sets.specs.Test.{all_below}
use Rattle.model.specs.declared.Tables.{Tables}
use Rattle.model.specs.declared.Configuration.{Configuration}
use Rattle.model.specs.View.{instance}
use Rattle.rules_spec.specs.PushB.{depth_of}
use Rattle.hall_configuration.specs.Lawful.{queued_lawful}

abbrev pub queue_lawful : ℕ → Tables → Configuration → ℕ → Bool
queue_lawful default t c i = leb (instance c i).queued (depth_of default t) && all_below (instance c i).queued (queued_lawful t c i)
