-- The paper's cases of reading, one claim over one table: the number, and the text from the line at fault on.
use Rattle.std.specs.Prelude.{List, [], ◌≡◌, ℕ}
use Prim.Native.String.{String}
use Rattle.item_spec.specs.Reader.{bytes}
use Rattle.read_spec.specs.Lines.{Run, on, stop}
use Rattle.aeolus_read_spec.specs.Texts.{sheet, plan}

-- what a reading stopped with; a text that is read has number 0
abbrev pub stopped : {A : Type 0} → Run A → ℕ × List ℕ
stopped (on a r) = (0, r)
stopped (stop n r) = (n, r)

abbrev pub Read : List ℕ → ℕ → String → Type 0
Read s n r = stopped (sheet s) ≡ (n, bytes r)

-- a plan, on a sheet of five types
abbrev pub Planned : List ℕ → ℕ → String → Type 0
Planned s n r = stopped (plan 5 s) ≡ (n, bytes r)

unfoldable pub ReadingCases : Type 0
ReadingCases =
    Read [] 2 ""
    × Read (bytes "sheet=1\n") 2 "sheet=1\n"
    × Read (bytes "aeolus=1\ntypes=1\ntype=0\nstates=1\ninitial=0\ninterfaces=0\nstate=0\nto=0\nactive=0\n") 0 ""
    × Read (bytes "aeolus=1\ntypes=1\ntype=0\nstates=1\ninitial=1\n") 3 "initial=1\n"
    × Read (bytes "aeolus=1\ntypes=1\ntype=0\nstates=1\ninitial=0\ninterfaces=17\n") 3 "interfaces=17\n"
    × Read (bytes "aeolus=1\ntypes=1\ntype=0\nstates=1\ninitial=0\ninterfaces=1\ninterface=both,256\n") 3 "interface=both,256\n"
    × Read (bytes "aeolus=1\ntypes=1\ntype=0\nstates=1\ninitial=0\ninterfaces=2\ninterface=provide,3\ninterface=require,3\n") 4 "interface=require,3\n"
    × Read (bytes "aeolus=1\ntypes=1\ntype=0\nstates=1\ninitial=0\ninterfaces=1\ninterface=require,1\nstate=0\nto=-\nactive=1\nstrong=1,1\n") 4 "strong=1,1\n"
    × Read (bytes "aeolus=1\ntypes=1\ntype=0\nstates=1\ninitial=0\ninterfaces=1\ninterface=require,1\nstate=0\nto=-\nactive=1\nweak=1,65\n") 3 "weak=1,65\n"
    × Read (bytes "aeolus=1\ntypes=1\ntype=0\nstates=1\ninitial=0\ninterfaces=1\ninterface=require,1\nstate=0\nto=-\nactive=1\nprovide=1,64\n") 4 "provide=1,64\n"
    × Read (bytes "aeolus=1\ntypes=1\ntype=0\nstates=1\ninitial=0\ninterfaces=1\ninterface=both,1\nstate=0\nto=-\nactive=2\nweak=1,0\nweak=1,64\n") 4 "weak=1,64\n"
    × Read (bytes "aeolus=1\ntypes=1\ntype=0\nstates=1\ninitial=0\ninterfaces=0\nstate=0\nto=-\nactive=49\n") 3 "active=49\n"
    × Planned (bytes "plan=1\nsteps=2\nstep=new,0,0\nstep=bind,0,0,0\n") 4 "step=bind,0,0,0\n"
    × Planned (bytes "plan=1\nsteps=1\nstep=new,0,5\n") 3 "step=new,0,5\n"
    × Planned (bytes "answer=1\nsteps=0\n") 2 "answer=1\nsteps=0\n"
    × Planned (bytes "plan=1\nsteps=0\n") 0 ""
