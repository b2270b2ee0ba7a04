-- Cases: an answer on the pair used in examples, or a plan on the figures of the Aeolus paper, and the seven lines of its block.
use Rattle.std.specs.Prelude.{ℕ, List, [], ◌∷◌, ◌++◌, ◌≡◌, replicate}
use Prim.Native.String.{String}
use Rattle.item_spec.specs.Reader.{bytes}
use Rattle.start_spec.specs.Paper.{nothing_up}
use Rattle.judge_spec.specs.Cases.{CaseOf, case, AllMetBy, P, ticketed, answer_with}
use Rattle.aeolus_judge_spec.specs.Cases.{W, steps}
use Rattle.sitting_spec.specs.Block.{end_text}
use Rattle.sitting_spec.specs.Plan.{plan_end}

-- no line is at fault, at the end of so many bytes
abbrev pub faultless : String → String → List ℕ
faultless word at = bytes "outcome=" ++ bytes word ++ bytes "\nat=-\nplace=answer," ++ bytes at ++ bytes ",0\noffending=\nended=-\nleft=0\ninstruction=-\n"

abbrev pub answers : List (CaseOf (List ℕ))
answers =
    case P (answer_with 13 5 "step=fire,0,0\nstep=end,0,0\nstep=enter,0,1\nstep=fire,1,0\nstep=end,1,0\nstep=enter,1,1\nstep=finish,0\nstep=finish,1\n") (faultless "done" "180")
    ∷ case P (answer_with 0 0 "") (faultless "unfinished" "17")
    -- a `next` whose instruction is refused; one past the last instruction; another step
    ∷ case (ticketed "do=wait,0,3\n") (answer_with 4 4 "")
    (bytes "outcome=refused\nat=6\nplace=answer,47,9\noffending=step=next\nended=lf\nleft=0\ninstruction=3,30,do=wait,0,3\n")
    ∷ case P (answer_with 6 6 "") (bytes "outcome=refused\nat=8\nplace=answer,67,9\noffending=step=next\nended=lf\nleft=0\ninstruction=-\n")
    ∷ case P (answer_with 6 5 "step=fire,1,0\n") (bytes "outcome=refused\nat=8\nplace=answer,67,13\noffending=step=fire,1,0\nended=lf\nleft=0\ninstruction=-\n")
    -- a blank after a line; a text that ends in a line; a `next` after the last line due, of which no instruction is asked; a line of 203 bytes
    ∷ case P (bytes "answer=1\nsteps=1\nstep=next \n") (bytes "outcome=fault\nat=3\nplace=answer,17,10\noffending=step=next\\x20\nended=lf\nleft=0\ninstruction=-\n")
    ∷ case P (bytes "answer=1\nsteps=1\nstep=next") (bytes "outcome=fault\nat=3\nplace=answer,17,9\noffending=step=next\nended=end\nleft=0\ninstruction=-\n")
    ∷ case P (answer_with 0 1 "") (bytes "outcome=fault\nat=3\nplace=answer,17,9\noffending=step=next\nended=lf\nleft=0\ninstruction=-\n")
    ∷ case P (bytes "answer=1\nsteps=1\n" ++ replicate 203 120 ++ bytes "\n")
    (bytes "outcome=fault\nat=3\nplace=answer,17,203\noffending=" ++ replicate 200 120 ++ bytes "\nended=lf\nleft=3\ninstruction=-\n")
    -- a text that is too long has no line at fault; nor has the answer where the sheet is at fault
    ∷ case P (replicate 32769 120) (faultless "fault" "0")
    ∷ case (bytes "x") (bytes "x") (bytes "outcome=paper\nat=-\nplace=sheet,0,1\noffending=\nended=-\nleft=0\ninstruction=-\n")
    ∷ []

abbrev pub AllEnd : List (CaseOf (List ℕ)) → Type 0
AllEnd ks = AllMetBy (λ s a e. end_text (nothing_up s) a ≡ e) ks

abbrev pub plans : List (CaseOf (List ℕ))
plans =
    case W (steps 0 []) (faultless "allowed" "15")
    -- a second component of one id; a weak demand unmet at the end, of which no line is at fault; no step of that name; a sheet at fault
    ∷ case W (steps 2 (bytes "step=new,0,0\nstep=new,0,1\n")) (bytes "outcome=refused\nat=4\nplace=answer,28,12\noffending=step=new,0,1\nended=lf\nleft=0\ninstruction=-\n")
    ∷ case W (steps 4 (bytes "step=new,0,0\nstep=new,1,1\nstep=bind,0,0,1\nstep=change,0,0,1\n")) (faultless "refused" "75")
    ∷ case W (steps 1 (bytes "step=next\n")) (bytes "outcome=fault\nat=3\nplace=answer,15,9\noffending=step=next\nended=lf\nleft=0\ninstruction=-\n")
    ∷ case (bytes "aeolus=2\n") (steps 0 []) (bytes "outcome=paper\nat=-\nplace=sheet,0,8\noffending=\nended=-\nleft=0\ninstruction=-\n")
    ∷ []

abbrev pub AllPlanned : List (CaseOf (List ℕ)) → Type 0
AllPlanned ks = AllMetBy (λ s a e. plan_end s a ≡ e) ks
