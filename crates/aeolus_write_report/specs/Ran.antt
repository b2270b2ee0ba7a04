-- What a run came to, as the rules say it: the two counts beside the configuration that the words say.
use Rattle.aeolus_model.specs.Model.{Configuration}
use Rattle.aeolus_step.specs.declared.Passed.{Passed}
use Rattle.aeolus_rules_spec.specs.Run.{Ran}

abbrev pub ran : Passed → Configuration → Ran
ran p c = record { accepted = p.accepted; refused = p.refused; configuration = c }
