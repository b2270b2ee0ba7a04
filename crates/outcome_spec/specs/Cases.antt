-- Cases: the pair used in examples, an answer, and its outcome.
use Rattle.std.specs.Prelude.{ℕ, List, [], ◌∷◌, ◌++◌, ◌≡◌}
use Rattle.item_spec.specs.Reader.{bytes}
use Rattle.start_spec.specs.Paper.{nothing_up}
use Rattle.judge_spec.specs.Cases.{CaseOf, case, AllMetBy, P, pair_with, answer_with}
use Rattle.outcome_spec.specs.declared.Outcome.{Outcome}
use Rattle.outcome_spec.specs.declared.Outcome.TheVariants.{Done, Unfinished, Refused, Fault, OfPaper}
use Rattle.outcome_spec.specs.Outcome.{outcome_of}
use Rattle.outcome_spec.specs.Paper.{no_steps}

abbrev pub outcomes : List (CaseOf Outcome)
outcomes =
    case P (answer_with 13 5 "step=fire,0,0\nstep=end,0,0\nstep=enter,0,1\nstep=fire,1,0\nstep=end,1,0\nstep=enter,1,1\nstep=finish,0\nstep=finish,1\n") Done
    -- one queue is not empty; no queue is; the program isn't at its end; nothing is done at all
    ∷ case P (answer_with 12 5 "step=fire,0,0\nstep=end,0,0\nstep=enter,0,1\nstep=fire,1,0\nstep=end,1,0\nstep=enter,1,1\nstep=finish,0\n") Unfinished
    ∷ case P (answer_with 5 5 "") Unfinished
    ∷ case P (answer_with 3 3 "") Unfinished
    ∷ case P no_steps Unfinished
    -- a program of no instructions is done by no steps
    ∷ case (pair_with "1,-" ++ bytes "program=0\n") no_steps Done
    -- a step is refused; a blank after a line; a sheet at fault, beside an answer that is too
    ∷ case P (answer_with 6 6 "") Refused
    ∷ case P (bytes "answer=1\nsteps=1\nstep=next \n") Fault
    ∷ case (bytes "sheet=1\ndepth=9\n") (bytes "x") OfPaper
    ∷ []

abbrev pub AllOutcomes : List (CaseOf Outcome) → Type 0
AllOutcomes ks = AllMetBy (λ s a o. outcome_of (nothing_up s) a ≡ o) ks
