-- Cases of C-14 as one table: three texts, and the clock's mark that they must come to.
use Rattle.std.specs.Prelude.{ℕ, List, [], ◌∷◌, ◌++◌, ◌≡◌}
use Prim.Native.String.{String}
use Rattle.start_spec.specs.Paper.{nothing_up}
use Rattle.judge_spec.specs.Judged.{lent_bytes}
use Rattle.item_spec.specs.Reader.{bytes}
use Rattle.timing_spec.specs.Timed.{timed}

-- two components of one type: its one behavior goes from place 0 to place 1 by transition 0, and no port stands in the way
abbrev pub twins : List ℕ
twins = bytes "sheet=1\ndepth=0\ntypes=1\ntype=0\nplaces=2\ninitial=0\ntransitions=1\ntran=0,1\nbehaviors=1\nbehavior=0\nports=0\n"
    ++ bytes "program=4\ndo=add,0,0\ndo=add,1,0\ndo=pushb,0,0\ndo=pushb,1,0\n"

-- both at once, and one after the other: each component's moves are the same in both
abbrev pub together : List ℕ
together = bytes "answer=1\nsteps=8\nstep=next\nstep=next\nstep=next\nstep=next\nstep=fire,0,0\nstep=fire,1,0\nstep=end,0,0\nstep=end,1,0\n"

abbrev pub one_by_one : List ℕ
one_by_one = bytes "answer=1\nsteps=8\nstep=next\nstep=next\nstep=next\nstep=next\nstep=fire,0,0\nstep=end,0,0\nstep=fire,1,0\nstep=end,1,0\n"

-- the second end comes before its fire
abbrev pub too_soon : List ℕ
too_soon = bytes "answer=1\nsteps=7\nstep=next\nstep=next\nstep=next\nstep=next\nstep=fire,0,0\nstep=end,0,0\nstep=end,1,0\n"

-- par, and the seconds of the two components' transition
abbrev pub seconds : String → String → String → List ℕ
seconds par first second =
    bytes "times=1\npar=" ++ bytes par ++ bytes "\nrows=2\ntime=0,0," ++ bytes first ++ bytes "\ntime=1,0," ++ bytes second ++ bytes "\n"

pub record TimedCase : Type 0 where
  pub answer : List ℕ
  pub times : List ℕ
  pub refused : ℕ
  pub mark : ℕ

abbrev pub timed_case : List ℕ → List ℕ → ℕ → ℕ → TimedCase
timed_case a x n m = record { answer = a; times = x; refused = n; mark = m }

abbrev pub timed_table : List TimedCase
timed_table =
    -- equal projections, and clocks of 30 and of 50
    timed_case together (seconds "15" "20" "30") 0 500
    ∷ timed_case one_by_one (seconds "15" "20" "30") 0 300
    -- 1,000 times 1 over 16 is 62.5: the half goes down; over 400, 2.5
    ∷ timed_case one_by_one (seconds "1" "8" "8") 0 62
    ∷ timed_case one_by_one (seconds "1" "200" "200") 0 2
    -- a par above the clock is capped, one below it by a thousandth is not
    ∷ timed_case together (seconds "31" "20" "30") 0 1000
    ∷ timed_case together (seconds "1000000" "20" "30") 0 1000
    ∷ timed_case one_by_one (seconds "9990" "5000" "5000") 0 999
    -- 0.496 of the clock: rounded to hundredths first it would come to 500
    ∷ timed_case one_by_one (seconds "62" "25" "100") 0 496
    -- no time at all
    ∷ timed_case one_by_one (seconds "1" "0" "0") 0 1000
    ∷ timed_case one_by_one (bytes "times=1\npar=1\nrows=0\n") 0 1000
    -- a refused step
    ∷ timed_case too_soon (seconds "15" "20" "30") 31 0
    -- a missing text; a bad row; a number beyond its limit; a pair listed twice; going on past the last row
    ∷ timed_case one_by_one [] 40 0
    ∷ timed_case one_by_one (bytes "times=1\npar=1\nrows=1\ntime=0,0\n") 40 0
    ∷ timed_case one_by_one (bytes "times=1\npar=1\nrows=1\ntime=0,0,86401\n") 41 0
    ∷ timed_case one_by_one (bytes "times=1\npar=1\nrows=2\ntime=0,0,5\ntime=0,0,6\n") 42 0
    ∷ timed_case one_by_one (bytes "times=1\npar=1\nrows=0\ntime=0,0,5\n") 40 0
    ∷ []

-- a case is met
abbrev pub TimedMet : TimedCase → Type 0
TimedMet k =
    ((timed (nothing_up twins) k.answer k.times lent_bytes).judgement.verdict.refused ≡ k.refused) × ((timed (nothing_up twins) k.answer k.times lent_bytes).mark ≡ k.mark)

abbrev pub AllTimedMet : List TimedCase → Type 0
AllTimedMet [] = Unit
AllTimedMet (k ∷ ks) = TimedMet k × AllTimedMet ks
