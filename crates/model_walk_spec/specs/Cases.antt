-- The model walks of some papers: they pin the order in which steps are tried.
use Rattle.std.specs.Prelude.{ℕ, List, [], ◌∷◌, ◌++◌, ◌≡◌}
use Prim.Native.String.{String}
use Rattle.item_spec.specs.Reader.{bytes}
use Rattle.model.specs.Empty.{no_tables, no_program, start}
use Rattle.start_spec.specs.Paper.{Paper, nothing_up, up_as}
use Rattle.judge_spec.specs.Course.{faulty, reached, paper_course}
use Rattle.judge_spec.specs.Cases.{pair_with, P}
use Rattle.judge_spec.specs.StartCases.{down, started, both_up}
use Rattle.model_walk_spec.specs.declared.Ending.{Ending}
use Rattle.model_walk_spec.specs.declared.Ending.TheVariants.{Done, Cut, Stuck}
use Rattle.model_walk_spec.specs.OnTexts.{Said, model_text, ending_of}

-- what a paper says, where it is read
abbrev pub said : Paper → Said
said s = elim (paper_course s) [ reached x ↦ x | faulty x n at ↦ (no_tables, no_program, start) ]

-- a type where one `fire` starts two transitions beside a second marked place; two instances of it are up before the first move
abbrev pub fork : List ℕ
fork = bytes "sheet=1\ndepth=0\ntypes=1\ntype=0\nplaces=5\ninitial=0+3\ntransitions=3\ntran=0,1\ntran=0,2\ntran=3,4\nbehaviors=1\nbehavior=0+1+2\nports=0\n"
    ++ bytes "program=4\ndo=add,1,0\ndo=add,0,0\ndo=pushb,1,0\ndo=pushb,0,0\n"

-- a sheet with tickets, of one type whose behavior is finished at once
abbrev pub ticketed : String → List ℕ
ticketed program =
    bytes "sheet=2\ndepth=0\ntypes=1\ntype=0\nplaces=1\ninitial=0\ntransitions=0\nbehaviors=1\nbehavior=-\nports=0\nprogram=" ++ bytes program

pub record Case : Type 0 where
  pub paper : Paper
  pub text : List ℕ
  pub ending : Ending

abbrev case_of : Paper → String → Ending → Case
case_of s a e = record { paper = s; text = bytes a; ending = e }

abbrev case : List ℕ → String → Ending → Case
case s a e = case_of (nothing_up s) a e

abbrev pub AllModelled : List Case → Type 0
AllModelled [] = Unit {0}
AllModelled (x ∷ xs) = ((model_text (said x.paper) ≡ x.text) × (ending_of (said x.paper) ≡ x.ending)) × AllModelled xs

abbrev pub table : List Case
table =
    -- the pair
    case P "answer=1\nsteps=13\nstep=next\nstep=next\nstep=next\nstep=next\nstep=next\nstep=fire,0,0\nstep=end,0,0\nstep=enter,0,1\nstep=finish,0\nstep=fire,1,0\nstep=end,1,0\nstep=enter,1,1\nstep=finish,1\n" Done
    -- `enter` before `end` before `fire`, `finish` of the lower id before a move of the higher, and by number the lower first
    ∷ case fork "answer=1\nsteps=22\nstep=next\nstep=next\nstep=next\nstep=next\nstep=fire,0,0\nstep=end,0,0\nstep=enter,0,1\nstep=end,0,1\nstep=enter,0,2\nstep=fire,0,3\nstep=end,0,2\nstep=enter,0,4\nstep=finish,0\nstep=fire,1,0\nstep=end,1,0\nstep=enter,1,1\nstep=end,1,1\nstep=enter,1,2\nstep=fire,1,3\nstep=end,1,2\nstep=enter,1,4\nstep=finish,1\n" Done
    -- stuck on an instruction that names foretell
    ∷ case (pair_with "1,-" ++ bytes "program=2\ndo=add,0,0\ndo=con,1,0,0,0\n") "answer=1\nsteps=1\nstep=next\n" Stuck
    -- the program at its end, and a behavior left that its port holds back
    ∷ case (pair_with "1,-" ++ bytes "program=2\ndo=add,1,1\ndo=pushb,1,0\n") "answer=1\nsteps=2\nstep=next\nstep=next\n" Stuck
    -- nothing to do
    ∷ case (pair_with "1,-" ++ bytes "program=0\n") "answer=1\nsteps=0\n" Done
    -- the pair up, and taken down: the lower id waits only until the higher, which uses it, has left its port's group
    ∷ case_of (up_as down (started both_up)) "answer=1\nsteps=10\nstep=next\nstep=next\nstep=fire,1,1\nstep=fire,0,1\nstep=end,0,1\nstep=enter,0,0\nstep=finish,0\nstep=end,1,1\nstep=enter,1,0\nstep=finish,1\n" Done
    -- something has ended at the start, and a queue waits
    ∷ case_of (up_as (pair_with "1,-" ++ bytes "program=0\n") (started "instances=1\ninstance=0,0,-,-,1,1+0\nconnections=0\n")) "answer=1\nsteps=6\nstep=enter,0,0\nstep=finish,0\nstep=fire,0,0\nstep=end,0,0\nstep=enter,0,1\nstep=finish,0\n" Done
    -- at 23 the moves go on, and the wait is taken once its push is finished, while a later one is queued
    ∷ case (ticketed "4\ndo=add,0,0\ndo=pushb,0,0,5\ndo=pushb,0,0,6\ndo=wait,0,5\n") "answer=1\nsteps=6\nstep=next\nstep=next\nstep=next\nstep=finish,0\nstep=next\nstep=finish,0\n" Done
    -- no move helps at 19, nor at 24
    ∷ case (ticketed "3\ndo=add,0,0\ndo=pushb,0,0,5\ndo=pushb,0,0,5\n") "answer=1\nsteps=3\nstep=next\nstep=next\nstep=finish,0\n" Stuck
    ∷ case (ticketed "3\ndo=add,0,0\ndo=pushb,0,0,5\ndo=wait,0,4\n") "answer=1\nsteps=3\nstep=next\nstep=next\nstep=finish,0\n" Stuck
    -- from a start that tells the last ticket: it counts as finished, and the next push is above it
    ∷ case_of (up_as (ticketed "2\ndo=wait,0,7\ndo=pushb,0,0,8\n") (started "instances=1\ninstance=0,0,0,-,-,-,7\nconnections=0\n")) "answer=1\nsteps=3\nstep=next\nstep=next\nstep=finish,0\n" Done
    ∷ []

unfoldable pub CasesModelled : Type 0
CasesModelled = AllModelled table
