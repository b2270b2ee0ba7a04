-- The marked cases of 01, section 'The pair used in examples', as one table: the two texts and what they must come to.
use Rattle.std.specs.Prelude.{ℕ, zero, suc, List, [], ◌∷◌, ◌++◌, ◌≡◌}
use Prim.Native.String.{String}
use Rattle.model.specs.declared.Concerned.{Concerned}
use Rattle.model.specs.declared.Concerned.TheVariants.{NoPort, UsePort}
use Rattle.item_spec.specs.Reader.{bytes}
use Rattle.item_spec.specs.Write.{one_text}
use Rattle.start_spec.specs.Paper.{nothing_up}
use Rattle.judge_spec.specs.Judged.{judged, printed, lent_bytes}

-- the pair used in examples, in a sheet that opens with this line, where the provide port has this group
abbrev pub pair_in : String → String → List ℕ
pair_in first group = bytes first ++ bytes "\ndepth=0\ntypes=2\n"
    ++ bytes "type=0\nplaces=2\ninitial=0\ntransitions=2\ntran=0,1\ntran=1,0\nbehaviors=2\nbehavior=0\nbehavior=1\nports=1\nport=provide," ++ bytes group ++ bytes "\n"
    ++ bytes "type=1\nplaces=2\ninitial=0\ntransitions=2\ntran=0,1\ntran=1,0\nbehaviors=2\nbehavior=0\nbehavior=1\nports=1\nport=use,1,0\n"

abbrev pub pair_with : String → List ℕ
pair_with group = pair_in "sheet=1" group

-- one of the pair is pushed 3 and then 5, and then comes this line
abbrev pub ticketed : String → List ℕ
ticketed line = pair_in "sheet=2" "1,-" ++ bytes "program=4\ndo=add,0,0\ndo=pushb,0,0,3\ndo=pushb,0,1,5\n" ++ bytes line

abbrev pub five : List ℕ
five = bytes "do=add,0,0\ndo=add,1,1\ndo=con,1,0,0,0\ndo=pushb,0,0\ndo=pushb,1,0\n"

-- then the program
abbrev pub program_p : String → List ℕ
program_p group = pair_with group ++ bytes "program=5\n" ++ five

abbrev pub P : List ℕ
P = program_p "1,-"

abbrev pub P+ : List ℕ
P+ = pair_with "1,-" ++ bytes "program=6\n" ++ five ++ bytes "do=pushb,0,1\n"

-- n times `next`
unfoldable pub nexts : ℕ → List ℕ
nexts zero = []
nexts (suc n) = bytes "step=next\n" ++ nexts n

-- an answer of k steps: n times `next`, and further steps
abbrev pub answer_with : ℕ → ℕ → String → List ℕ
answer_with k n further = bytes "answer=1\nsteps=" ++ one_text k ++ nexts n ++ bytes further

-- what a case must come to: the whole print, or the two counts and no port, or the two counts and this use port
pub data Expected : Type 0 where
  prints : List ℕ → Expected
  ends : ℕ → ℕ → Expected
  ends_at : ℕ → ℕ → ℕ → Expected

-- two texts, and what they must come to
pub record CaseOf (E : Type 0) : Type 0 where
  pub sheet : List ℕ
  pub answer : List ℕ
  pub expected : E

abbrev pub case : {E : Type 0} → List ℕ → List ℕ → E → CaseOf E
case s a e = record { sheet = s; answer = a; expected = e }

abbrev pub Case : Type 0
Case = CaseOf Expected

-- each case is met, as `met` says it
abbrev pub AllMetBy : {E : Type 0} → (List ℕ → List ℕ → E → Type 0) → List (CaseOf E) → Type 0
AllMetBy met [] = Unit
AllMetBy met (k ∷ ks) = met k.sheet k.answer k.expected × AllMetBy met ks

abbrev pub whole_report : List ℕ
whole_report = bytes "accepted=13\nrefused=0\nport=-\nnext=5\ninstances=2\ninstance=0,0,1,-,-,-\ninstance=1,1,1,-,-,-\nconnections=1\nconnection=1,0,0,0\n"

abbrev pub table : List Case
table =
    case P (answer_with 13 5 "step=fire,0,0\nstep=end,0,0\nstep=enter,0,1\nstep=fire,1,0\nstep=end,1,0\nstep=enter,1,1\nstep=finish,0\nstep=finish,1\n") (prints whole_report)
    ∷ case P (answer_with 13 5 "step=fire,0,0\nstep=end,0,0\nstep=enter,0,1\nstep=finish,0\nstep=fire,1,0\nstep=end,1,0\nstep=enter,1,1\nstep=finish,1\n") (prints whole_report)
    ∷ case P (answer_with 6 5 "step=fire,1,0\n") (ends_at 5 34 0)
    ∷ case P+ (answer_with 11 6 "step=fire,0,0\nstep=end,0,0\nstep=enter,0,1\nstep=finish,0\nstep=fire,1,0\n") (ends 10 35)
    ∷ case P+ (answer_with 12 6 "step=fire,0,0\nstep=end,0,0\nstep=enter,0,1\nstep=fire,1,0\nstep=finish,0\nstep=fire,0,1\n") (ends 11 36)
    ∷ case P (answer_with 6 6 "") (ends 5 10)
    ∷ case P (answer_with 6 5 "step=finish,1\n") (ends 5 37)
    ∷ case P (answer_with 6 5 "step=fire,2,0\n") (ends 5 11)
    ∷ case P (answer_with 6 5 "step=end,0,0\n") (ends 5 31)
    ∷ case P (answer_with 6 5 "step=enter,0,1\n") (ends 5 31)
    ∷ case P (answer_with 6 5 "step=enter,0,0\n") (ends 5 32)
    -- 02, C-13: a provider with its action ended, "and nothing left but to enter a place outside the group"; its action still runs; the place is of the group
    ∷ case (program_p "-,0") (answer_with 8 5 "step=fire,0,0\nstep=end,0,0\nstep=fire,1,0\n") (ends 7 35)
    ∷ case (program_p "-,0") (answer_with 7 5 "step=fire,0,0\nstep=fire,1,0\n") (ends 7 0)
    ∷ case (program_p "1,0") (answer_with 8 5 "step=fire,0,0\nstep=end,0,0\nstep=fire,1,0\n") (ends 8 0)
    -- 02, C-11: the program without its `con`
    ∷ case (pair_with "1,-" ++ bytes "program=4\ndo=add,0,0\ndo=add,1,1\ndo=pushb,0,0\ndo=pushb,1,0\n") (answer_with 5 4 "step=fire,1,0\n") (ends_at 4 38 0)
    -- 02, C-21: "A wait with ticket is allowed once that push is finished", though a later one is queued; before that 23; one that was skipped; no rise
    ∷ case (ticketed "do=wait,0,3\n") (answer_with 8 3 "step=fire,0,0\nstep=end,0,0\nstep=enter,0,1\nstep=finish,0\nstep=next\n")
    (prints (bytes "accepted=8\nrefused=0\nport=-\nnext=4\ninstances=1\ninstance=0,0,1,-,-,1:5\nconnections=0\n"))
    ∷ case (ticketed "do=wait,0,3\n") (answer_with 4 4 "") (ends 3 23)
    ∷ case (ticketed "do=wait,0,4\n") (answer_with 4 4 "") (ends 3 24)
    ∷ case (ticketed "do=pushb,0,0,5\n") (answer_with 4 4 "") (ends 3 19)
    ∷ []

-- what the judge comes to
abbrev pub Comes : List ℕ → List ℕ → ℕ → ℕ → Concerned → Type 0
Comes s a n k q =
    ((judged (nothing_up s) a lent_bytes).verdict.accepted ≡ n) × ((judged (nothing_up s) a lent_bytes).verdict.refused ≡ k) × ((judged (nothing_up s) a lent_bytes).verdict.port ≡ q)

-- a case is met
abbrev pub Met : List ℕ → List ℕ → Expected → Type 0
Met s a (prints r) = printed (nothing_up s) a ≡ r
Met s a (ends n k) = Comes s a n k NoPort
Met s a (ends_at n k q) = Comes s a n k (UsePort q)

abbrev pub AllMet : List Case → Type 0
AllMet ks = AllMetBy Met ks
