-- The screen in the hall: "Number 7, before all of 10 to 37, is given exactly when" what is lent breaks a limit; 02's 38 comes after it too.
-- "The hall screen and the judge both pass" the use port on. "Any other configuration,
-- reachable or not, gets the step rules' answer." Depth 0 stands for the board's default here too.
use Rattle.std.specs.Prelude.{eqb, ℕ, Bool, ◌&&◌, cond, ◌≡◌}
use Rattle.model.specs.declared.Tables.{Tables}
use Rattle.model.specs.declared.Program.{Program}
use Rattle.model.specs.declared.Step.{Step}
use Rattle.model.specs.declared.Configuration.{Configuration}
use Rattle.model.specs.declared.Stepped.{Stepped}
use Rattle.model.specs.declared.Concerned.TheVariants.{NoPort}
use Rattle.read_spec.specs.Lawful.{tables_lawful, program_lawful, step_lawful}
use Rattle.rules_spec.specs.Step.{step}
use Rattle.step_ports.specs.declared.Answered.{Answered}
use Rattle.judge_spec.specs.Course.{default_depth}
use Rattle.hall_configuration.specs.Lawful.{configuration_lawful}

-- hall screen only: the lent tables, configuration or step break a limit
abbrev pub limit_broken : ℕ
limit_broken = 7

-- "tables or program break a sheet's rules (its length aside), the step breaks an answer line's, or the configuration" one of its own; "`sheet=1` reads
-- and reports as before, and the hall screen keeps to it"
unfoldable pub lent_lawful : Tables → Program → Configuration → Step → Bool
lent_lawful t p c s =
    tables_lawful t && ((eqb p.edition 1 && program_lawful t.count p) && (step_lawful s && configuration_lawful default_depth t p c))

-- "it lends its configuration and finds it moved on afterwards, or untouched on a refusal"
unfoldable pub hall_step : Tables → Program → Configuration → Step → Stepped
hall_step t p c s = cond (lent_lawful t p c s) (step default_depth t p c s) (record { refused = limit_broken; port = NoPort; configuration = c })

-- what the screen promises of a lent configuration c: it answers a and leaves d
abbrev pub Left : Tables → Program → Configuration → Step → Answered → Configuration → Type 0
Left t p c s a d =
    (a.refused ≡ (hall_step t p c s).refused) × (a.port ≡ (hall_step t p c s).port) × (d ≡ (hall_step t p c s).configuration)
