-- What is foretold of some papers, and on which line: each number as the first fault, what names leave open passed over, names that are up at the start; and
-- with tickets.
use Rattle.std.specs.Prelude.{ℕ, List, [], ◌∷◌, ◌++◌, ◌≡◌}
use Prim.Native.String.{String}
use Rattle.item_spec.specs.Reader.{bytes}
use Rattle.start_spec.specs.Paper.{Paper, nothing_up, up_as}
use Rattle.judge_spec.specs.Course.{reached}
use Rattle.judge_spec.specs.Cases.{pair_with, P}
use Rattle.judge_spec.specs.StartCases.{started, both_up}
use Rattle.foretell_spec.specs.declared.Foretelling.{Foretelling}
use Rattle.foretell_spec.specs.OnTexts.{foretold_on, foretold_line}

-- the types of the pair, and then a program
abbrev pub pair_does : String → List ℕ
pair_does program = pair_with "1,-" ++ bytes program

-- a type that provides and uses
abbrev pub both_ways : String → List ℕ
both_ways program = bytes "sheet=1\ndepth=0\ntypes=1\ntype=0\nplaces=2\ninitial=0\ntransitions=1\ntran=0,1\nbehaviors=1\nbehavior=0\nports=2\nport=provide,1,-\nport=use,1,0\n" ++ bytes program

-- a type with one behavior, and pushes with tickets
abbrev pub with_tickets : String → List ℕ
with_tickets program = bytes "sheet=2\ndepth=3\ntypes=1\ntype=0\nplaces=1\ninitial=0\ntransitions=0\nbehaviors=1\nbehavior=-\nports=0\n" ++ bytes program

-- it is up, with this queue and this last ticket
abbrev pub queue_up : String → List ℕ
queue_up queue = started "instances=1\ninstance=0,0,0,-,-," ++ bytes queue ++ bytes "\nconnections=0\n"

-- a paper, how many instructions the names allow, the number of the one after them, and its line
pub record Case : Type 0 where
  pub paper : Paper
  pub tells : Foretelling
  pub line : ℕ

abbrev case_of : Paper → ℕ → ℕ → ℕ → Case
case_of s k n l = record { paper = s; tells = record { next = k; refused = n }; line = l }

abbrev case : List ℕ → ℕ → ℕ → ℕ → Case
case s k n l = case_of (nothing_up s) k n l

abbrev pub AllForetold : List Case → Type 0
AllForetold [] = Unit {0}
AllForetold (x ∷ xs) = ((foretold_on x.paper ≡ reached x.tells) × (foretold_line x.paper x.tells ≡ x.line)) × AllForetold xs

abbrev pub table : List Case
table =
    -- none
    case P 5 0 0
    -- "a component that was never added"; added again; no such behavior; one instance at both ends; connected already
    ∷ case (pair_does "program=2\ndo=add,0,0\ndo=con,1,0,0,0\n") 1 11 28
    ∷ case (pair_does "program=2\ndo=add,0,0\ndo=add,0,1\n") 1 12 28
    ∷ case (pair_does "program=2\ndo=add,0,0\ndo=pushb,0,2\n") 1 13 28
    ∷ case (both_ways "program=2\ndo=add,0,0\ndo=con,0,1,0,0\n") 1 14 16
    ∷ case (pair_does "program=4\ndo=add,0,0\ndo=add,1,1\ndo=con,1,0,0,0\ndo=con,1,0,0,0\n") 3 15 30
    -- never connected, of ids that are absent too; deleted while connected
    ∷ case (pair_does "program=1\ndo=dcon,1,0,0,0\n") 0 17 27
    ∷ case (pair_does "program=4\ndo=add,0,0\ndo=add,1,1\ndo=con,1,0,0,0\ndo=del,0\n") 3 18 30
    -- a ninth push, a wait and a del with a queue count as done, and after the del nobody is there
    ∷ case (pair_does "program=13\ndo=add,0,0\ndo=pushb,0,0\ndo=pushb,0,0\ndo=pushb,0,0\ndo=pushb,0,0\ndo=pushb,0,0\ndo=pushb,0,0\ndo=pushb,0,0\ndo=pushb,0,0\ndo=pushb,0,0\ndo=wait,0\ndo=del,0\ndo=wait,0\n") 12 11 39
    -- disconnected and connected again, deleted and added again as another type
    ∷ case (pair_does "program=8\ndo=add,0,0\ndo=add,1,1\ndo=con,1,0,0,0\ndo=dcon,1,0,0,0\ndo=con,1,0,0,0\ndo=dcon,1,0,0,0\ndo=del,0\ndo=add,0,1\n") 8 0 0
    -- with the pair up and connected: there to be pushed to; added again; connected already; deleted while connected; disconnected, deleted and added again
    ∷ case_of (up_as (pair_does "program=3\ndo=pushb,0,1\ndo=wait,1\ndo=dcon,1,0,0,0\n") (started both_up)) 3 0 0
    ∷ case_of (up_as (pair_does "program=1\ndo=add,1,1\n") (started both_up)) 0 12 27
    ∷ case_of (up_as (pair_does "program=3\ndo=add,2,0\ndo=con,1,0,2,0\ndo=del,2\n") (started both_up)) 1 15 28
    ∷ case_of (up_as (pair_does "program=1\ndo=del,0\n") (started both_up)) 0 18 27
    ∷ case_of (up_as (pair_does "program=4\ndo=dcon,1,0,0,0\ndo=del,1\ndo=add,1,0\ndo=pushb,2,0\n") (started both_up)) 3 11 30
    -- a ticket as high as the last, and one above it; 13 before 19
    ∷ case (with_tickets "program=4\ndo=add,0,0\ndo=pushb,0,0,4\ndo=pushb,0,0,5\ndo=pushb,0,0,5\n") 3 19 15
    ∷ case (with_tickets "program=3\ndo=add,0,0\ndo=pushb,0,0,5\ndo=pushb,0,1,5\n") 2 13 14
    -- waits for pushes that may still be queued pass, whichever they are; one for a ticket that was left out, one for a push that comes later
    ∷ case (with_tickets "program=6\ndo=add,0,0\ndo=pushb,0,0,3\ndo=pushb,0,0,5\ndo=wait,0,5\ndo=wait,0,3\ndo=wait,0,4\n") 5 24 17
    ∷ case (with_tickets "program=3\ndo=add,0,0\ndo=wait,0,0\ndo=pushb,0,0,0\n") 1 24 13
    -- another life: its tickets begin anew, and the old ones were never pushed
    ∷ case (with_tickets "program=6\ndo=add,0,0\ndo=pushb,0,0,9\ndo=del,0\ndo=add,0,0\ndo=pushb,0,0,2\ndo=wait,0,9\n") 5 24 17
    -- a start's queue and its last ticket were pushed, and no lower one
    ∷ case_of (up_as (with_tickets "program=4\ndo=wait,0,2\ndo=wait,0,5\ndo=pushb,0,0,6\ndo=wait,0,4\n") (queue_up "0:2+0:5,5")) 3 24 15
    ∷ case_of (up_as (with_tickets "program=2\ndo=wait,0,7\ndo=pushb,0,0,7\n") (queue_up "-,7")) 1 19 13
    ∷ []

unfoldable pub CasesForetold : Type 0
CasesForetold = AllForetold table
