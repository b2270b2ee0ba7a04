-- C-22 on the two texts themselves, for every sheet and every answer that are read without fault: "Prove that every accepted point meets it",
-- and what 0 and 70 mean. The reader gives what the rules ask for, so nothing is asked of the texts but that they are read.
use Rattle.std.specs.Prelude.{List, ◌≡◌, ◌↔◌, ℕ, take}
use Rattle.aeolus_model.specs.Model.{Universe, Configuration, nothing}
use Rattle.aeolus_model.specs.Action.{Plan, actions_of}
use Rattle.aeolus_rules_spec.specs.Definition1.{Lawful}
use Rattle.aeolus_rules_spec.specs.Definition2.{Configured, AllKnown}
use Rattle.aeolus_rules_spec.specs.Definition3.{StrongCorrect, Correct}
use Rattle.aeolus_rules_spec.specs.Definition7.{Reaches, DeploymentRun}
use Rattle.aeolus_rules_spec.specs.Run.{run}
use Rattle.judge_spec.specs.Course.{reached}
use Rattle.judge_spec.specs.Judged.{lent_bytes}
use Rattle.aeolus_judge_spec.specs.Course.{both}
use Rattle.aeolus_judge_spec.specs.Judged.{judged}

-- the two texts are read, and say this
abbrev pub Say : List ℕ → List ℕ → Universe → Plan → Type 0
Say s a u p = both s a ≡ reached (u, p)

-- what the judge answers of them in 8,192 bytes
abbrev pub answered : List ℕ → List ℕ → ℕ
answered s a = (judged s a lent_bytes).verdict.refused

-- what was read is a universe and a plan that the rules take
unfoldable pub SaidIsLawful : Type 0
SaidIsLawful = (s a : List ℕ) (u : Universe) (p : Plan) → Say s a u p → Lawful u × AllKnown u (actions_of p)

-- every accepted point, and so each configuration that a report shows, is a configuration of the universe and strong correct:
-- the first n actions end at the n-th accepted point, or at the last one
unfoldable pub PointsOnTexts : Type 0
PointsOnTexts =
    (s a : List ℕ) (u : Universe) (p : Plan) (n : ℕ)
    → Say s a u p
    → Configured u (run u nothing (take n (actions_of p))).configuration × StrongCorrect u (run u nothing (take n (actions_of p))).configuration

-- 0 is answered just for two texts that are read and say a deployment run
unfoldable pub ZeroOnTexts : Type 0
ZeroOnTexts =
    (s a : List ℕ)
    → (answered s a ≡ 0)
    ↔ ((u : Universe) × (p : Plan) × Say s a u p × ((d : Configuration) × DeploymentRun u nothing (actions_of p) d))

-- 70 just for those whose actions are all allowed and end in a configuration that is not correct
unfoldable pub SeventyOnTexts : Type 0
SeventyOnTexts =
    (s a : List ℕ)
    → (answered s a ≡ 70)
    ↔ ((u : Universe) × (p : Plan) × Say s a u p × ((d : Configuration) × Reaches u nothing (actions_of p) d × (Correct u d → ⊥)))
