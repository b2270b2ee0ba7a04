-- Cases of C-20 as a table, and of C-20 with C-21 as another: a start of the pair used in examples, an answer, and what they must come to.
use Rattle.std.specs.Prelude.{ℕ, List, [], ◌∷◌, ◌++◌, ◌≡◌, replicate}
use Prim.Native.String.{String}
use Rattle.item_spec.specs.Reader.{bytes}
use Rattle.start_spec.specs.Paper.{up_as}
use Rattle.model.specs.declared.Text.TheVariants as text
use Rattle.judge_spec.specs.Judged.{empty_at, judged, printed, lent_bytes}
use Rattle.judge_spec.specs.Cases.{pair_with}

-- both components are there, and the program pushes the behaviors that take them down
abbrev pub down : List ℕ
down = pair_with "1,-" ++ bytes "program=2\ndo=pushb,1,1\ndo=pushb,0,1\n"

abbrev pub started : String → List ℕ
started lines = bytes "start=1\n" ++ bytes lines

abbrev pub both_up : String
both_up = "instances=2\ninstance=0,0,1,-,-,-\ninstance=1,1,1,-,-,-\nconnections=1\nconnection=1,0,0,0\n"

pub record StartCase : Type 0 where
  pub start : List ℕ
  pub answer : List ℕ
  pub prints : List ℕ

abbrev pub start_case : List ℕ → String → String → StartCase
start_case x a r = record { start = x; answer = bytes "answer=1\nsteps=" ++ bytes a; prints = bytes r }

-- a user whose provider is down
abbrev pub unserved : List ℕ
unserved = started "instances=2\ninstance=0,0,0,-,-,-\ninstance=1,1,1,-,-,-\nconnections=1\nconnection=1,0,0,0\n"

abbrev pub start_table : List StartCase
start_table =
    -- up and left so
    start_case (started both_up) "0\n" "accepted=0\nrefused=0\nport=-\nnext=0\ninstances=2\ninstance=0,0,1,-,-,-\ninstance=1,1,1,-,-,-\nconnections=1\nconnection=1,0,0,0\n"
    -- something runs, something has ended, a queue waits
    ∷ start_case (started "instances=2\ninstance=0,0,-,-,1,1+0\ninstance=3,1,0,-,-,-\nconnections=1\nconnection=3,0,0,0\n") "2\nstep=enter,0,0\nstep=finish,0\n"
    "accepted=2\nrefused=0\nport=-\nnext=0\ninstances=2\ninstance=0,0,0,-,-,0\ninstance=3,1,0,-,-,-\nconnections=1\nconnection=3,0,0,0\n"
    -- 50, before the answer's lines are looked at
    ∷ start_case unserved "x" "text=start\nline=0\nrefused=50\n"
    -- an empty text; a place outside the type; held without a queue; ids that do not rise; bytes after the last line
    ∷ start_case [] "0\n" "text=start\nline=1\nrefused=2\n"
    ∷ start_case (started "instances=1\ninstance=0,0,2,-,-,-\nconnections=0\n") "0\n" "text=start\nline=3\nrefused=3\n"
    ∷ start_case (started "instances=1\ninstance=0,0,-,0,-,-\nconnections=0\n") "0\n" "text=start\nline=3\nrefused=4\n"
    ∷ start_case (started "instances=2\ninstance=1,1,0,-,-,-\ninstance=0,0,0,-,-,-\nconnections=0\n") "0\n" "text=start\nline=4\nrefused=4\n"
    ∷ start_case (started "instances=0\nconnections=0\nx") "0\n" "text=start\nline=4\nrefused=5\n"
    ∷ []

abbrev pub AllStarted : List StartCase → Type 0
AllStarted [] = Unit
AllStarted (k ∷ ks) = (printed (up_as down k.start) k.answer ≡ k.prints) × AllStarted ks

-- "The three lengths come first (sheet, start, answer)": 8,192 bytes are read, and 8,193 are too many; after 50 the empty start of the start
abbrev pub xs : ℕ → List ℕ
xs n = replicate n 120

unfoldable pub StartLengths : Type 0
StartLengths =
    (printed (up_as down (xs 8192)) (bytes "x") ≡ bytes "text=start\nline=1\nrefused=2\n")
    × (printed (up_as (bytes "x") (xs 8193)) (xs 32769) ≡ bytes "text=start\nline=0\nrefused=1\n")
    × (printed (up_as (xs 32769) (xs 8193)) [] ≡ bytes "text=sheet\nline=0\nrefused=1\n")
    × (printed (up_as (bytes "x") (bytes "x")) (xs 32769) ≡ bytes "text=answer\nline=0\nrefused=1\n")
    × ((judged (up_as down unserved) (bytes "x") lent_bytes).place ≡ empty_at text.Start 0)

-- C-20 and C-21 together: a program of one component that pushes and waits, its start, an answer, and what they must come to
pub record TicketCase : Type 0 where
  pub sheet : List ℕ
  pub start : List ℕ
  pub answer : List ℕ
  pub prints : List ℕ

abbrev pub ticket_case : String → String → String → String → TicketCase
ticket_case p x a r = record {
  sheet = bytes "sheet=2\ndepth=3\ntypes=1\ntype=0\nplaces=1\ninitial=0\ntransitions=0\nbehaviors=1\nbehavior=-\nports=0\nprogram=" ++ bytes p;
  start = started x;
  answer = bytes "answer=1\nsteps=" ++ bytes a;
  prints = bytes r;
}

abbrev pub ticket_table : List TicketCase
ticket_table =
    -- the last counts as finished, a lower one was never pushed
    ticket_case "2\ndo=wait,0,7\ndo=wait,0,6\n" "instances=1\ninstance=0,0,0,-,-,-,7\nconnections=0\n" "2\nstep=next\nstep=next\n"
    "accepted=1\nrefused=24\nport=-\nnext=1\ninstances=1\ninstance=0,0,0,-,-,-\nconnections=0\n"
    -- what is queued at the start is waited for; what was finished since then is not
    ∷ ticket_case "2\ndo=wait,0,2\ndo=wait,0,5\n" "instances=1\ninstance=0,0,0,-,-,0:2+0:5,5\nconnections=0\n" "3\nstep=finish,0\nstep=next\nstep=next\n"
    "accepted=2\nrefused=23\nport=-\nnext=1\ninstances=1\ninstance=0,0,0,-,-,0:5\nconnections=0\n"
    -- not above the tail; above it
    ∷ ticket_case "2\ndo=pushb,0,0,6\ndo=pushb,0,0,6\n" "instances=1\ninstance=0,0,0,-,-,0:2+0:5,5\nconnections=0\n" "2\nstep=next\nstep=next\n"
    "accepted=1\nrefused=19\nport=-\nnext=1\ninstances=1\ninstance=0,0,0,-,-,0:2+0:5+0:6\nconnections=0\n"
    -- not above the last of an empty queue
    ∷ ticket_case "1\ndo=pushb,0,0,7\n" "instances=1\ninstance=0,0,0,-,-,-,7\nconnections=0\n" "1\nstep=next\n"
    "accepted=0\nrefused=19\nport=-\nnext=0\ninstances=1\ninstance=0,0,0,-,-,-\nconnections=0\n"
    -- a new life begins anew
    ∷ ticket_case "4\ndo=del,0\ndo=add,0,0\ndo=pushb,0,0,0\ndo=wait,0,7\n" "instances=1\ninstance=0,0,0,-,-,-,7\nconnections=0\n" "4\nstep=next\nstep=next\nstep=next\nstep=next\n"
    "accepted=3\nrefused=24\nport=-\nnext=3\ninstances=1\ninstance=0,0,0,-,-,0:0\nconnections=0\n"
    -- none pushed
    ∷ ticket_case "2\ndo=pushb,0,0,0\ndo=wait,0\n" "instances=1\ninstance=0,0,0,-,-,-,-\nconnections=0\n" "3\nstep=next\nstep=finish,0\nstep=next\n"
    "accepted=3\nrefused=0\nport=-\nnext=2\ninstances=1\ninstance=0,0,0,-,-,-\nconnections=0\n"
    -- a last ticket other than the tail's; none where a queue stands; no rise
    ∷ ticket_case "0\n" "instances=1\ninstance=0,0,0,-,-,0:2+0:5,6\nconnections=0\n" "0\n"
    "text=start\nline=3\nrefused=4\n"
    ∷ ticket_case "0\n" "instances=1\ninstance=0,0,0,-,-,0:2,-\nconnections=0\n" "0\n"
    "text=start\nline=3\nrefused=4\n"
    ∷ ticket_case "0\n" "instances=1\ninstance=0,0,0,-,-,0:5+0:5,5\nconnections=0\n" "0\n"
    "text=start\nline=3\nrefused=4\n"
    -- 256, as a ticket and as the last
    ∷ ticket_case "0\n" "instances=1\ninstance=0,0,0,-,-,0:256,256\nconnections=0\n" "0\n"
    "text=start\nline=3\nrefused=3\n"
    ∷ ticket_case "0\n" "instances=1\ninstance=0,0,0,-,-,-,256\nconnections=0\n" "0\n"
    "text=start\nline=3\nrefused=3\n"
    -- six fields; no ticket
    ∷ ticket_case "0\n" "instances=1\ninstance=0,0,0,-,-,-\nconnections=0\n" "0\n"
    "text=start\nline=3\nrefused=2\n"
    ∷ ticket_case "0\n" "instances=1\ninstance=0,0,0,-,-,0,0\nconnections=0\n" "0\n"
    "text=start\nline=3\nrefused=2\n"
    ∷ []

abbrev pub AllTicketed : List TicketCase → Type 0
AllTicketed [] = Unit
AllTicketed (k ∷ ks) = (printed (up_as k.sheet k.start) k.answer ≡ k.prints) × AllTicketed ks
