-- An answer's steps, one after the other, "to its end or to the first step the rules forbid".
use Rattle.std.specs.Prelude.{true, false, List, [], ◌∷◌, ℕ, suc, eqb}
use Rattle.model.specs.declared.Tables.{Tables}
use Rattle.model.specs.declared.Program.{Program}
use Rattle.model.specs.declared.Step.{Step}
use Rattle.model.specs.declared.Answer.{Answer}
use Rattle.model.specs.declared.Configuration.{Configuration}
use Rattle.model.specs.declared.Stepped.{Stepped}
use Rattle.model.specs.declared.Walked.{Walked}
use Rattle.model.specs.declared.Concerned.TheVariants.{NoPort}
use Rattle.model.specs.Empty.{start}
use Rattle.model.specs.View.{steps_of}
use Rattle.rules_spec.specs.Step.{step}

unfoldable pub one_more : Walked → Walked
one_more w = record { accepted = suc w.accepted; refused = w.refused; port = w.port; configuration = w.configuration }

-- the steps by a machine that answers each of them, to their end or to the first that it refuses
abbrev pub walk_by : (Configuration → Step → Stepped) → Configuration → List Step → Walked
walk_by answers c [] = record { accepted = 0; refused = 0; port = NoPort; configuration = c }
walk_by answers c (s ∷ ss) =
    elim (eqb (answers c s).refused 0) [
      | true ↦ one_more (walk_by answers (answers c s).configuration ss)
      | false ↦ record { accepted = 0; refused = (answers c s).refused; port = (answers c s).port; configuration = (answers c s).configuration }
    ]

-- what goes on beside it: at each allowed step, from c to d
abbrev pub beside_by : {A : Type 0} → (Configuration → Step → Stepped) → (Configuration → Configuration → Step → A → A) → Configuration → List Step → A → A
beside_by answers goes_on c [] x = x
beside_by answers goes_on c (s ∷ ss) x =
    elim (eqb (answers c s).refused 0) [
      | true ↦ beside_by answers goes_on (answers c s).configuration ss (goes_on c (answers c s).configuration s x)
      | false ↦ x
    ]

-- by the rules
unfoldable pub walk : ℕ → Tables → Program → Configuration → List Step → Walked
walk default t p c ss = walk_by (step default t p) c ss

-- an answer's walk from c; from the empty start
unfoldable pub walk_from : ℕ → Tables → Program → Configuration → Answer → Walked
walk_from default t p c a = walk default t p c (steps_of a)

unfoldable pub walk_answer : ℕ → Tables → Program → Answer → Walked
walk_answer default t p a = walk default t p start (steps_of a)
