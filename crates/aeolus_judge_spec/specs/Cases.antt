-- The marked cases of the paper as one table: the two texts and what they must come to.
use Rattle.std.specs.Prelude.{ℕ, ◌+◌, List, [], ◌∷◌, ◌++◌, ◌≡◌}
use Rattle.judge_spec.specs.Cases.{CaseOf, case, AllMetBy}
use Rattle.judge_spec.specs.Judged.{lent_bytes}
use Rattle.item_spec.specs.Reader.{bytes}
use Rattle.item_spec.specs.Write.{in_turn, one_text, two_text}
use Rattle.aeolus_judge_spec.specs.Judged.{judged, printed}

-- after Figures 2 to 4: WordPress, Apache2, MySQL, Varnish, the old common package; the interfaces httpd, mysql_up, wp_up, apache2.2-common
abbrev pub W : List ℕ
W = bytes "aeolus=1\ntypes=5\n"
    ++ bytes "type=0\nstates=3\ninitial=0\ninterfaces=3\ninterface=require,0\ninterface=require,1\ninterface=provide,2\nstate=0\nto=1\nactive=0\nstate=1\nto=0+2\nactive=1\nweak=0,1\nstate=2\nto=1\nactive=3\nprovide=2,64\nweak=0,1\nstrong=1,1\n"
    ++ bytes "type=1\nstates=2\ninitial=0\ninterfaces=2\ninterface=provide,0\ninterface=require,3\nstate=0\nto=1\nactive=0\nstate=1\nto=0\nactive=2\nprovide=0,64\nstrong=3,0\n"
    ++ bytes "type=2\nstates=3\ninitial=0\ninterfaces=1\ninterface=provide,1\nstate=0\nto=1\nactive=0\nstate=1\nto=0+2\nactive=0\nstate=2\nto=1\nactive=1\nprovide=1,2\n"
    ++ bytes "type=3\nstates=2\ninitial=0\ninterfaces=1\ninterface=require,2\nstate=0\nto=1\nactive=0\nstate=1\nto=0\nactive=1\nstrong=2,3\n"
    ++ bytes "type=4\nstates=2\ninitial=0\ninterfaces=1\ninterface=provide,3\nstate=0\nto=1\nactive=0\nstate=1\nto=0\nactive=1\nprovide=3,64\n"

-- after Figure 5: two packages, each of which wants the other first
abbrev pub F : List ℕ
F = bytes "aeolus=1\ntypes=2\n"
    ++ bytes "type=0\nstates=2\ninitial=0\ninterfaces=2\ninterface=provide,0\ninterface=require,1\nstate=0\nto=1\nactive=0\nstate=1\nto=0\nactive=2\nprovide=0,64\nstrong=1,1\n"
    ++ bytes "type=1\nstates=2\ninitial=0\ninterfaces=2\ninterface=require,0\ninterface=provide,1\nstate=0\nto=1\nactive=0\nstate=1\nto=0\nactive=2\nprovide=1,64\nstrong=0,1\n"

-- a type that requires and activates nothing, and one that provides for one
abbrev pub L : List ℕ
L = bytes "aeolus=1\ntypes=2\n"
    ++ bytes "type=0\nstates=1\ninitial=0\ninterfaces=1\ninterface=require,0\nstate=0\nto=-\nactive=0\n"
    ++ bytes "type=1\nstates=1\ninitial=0\ninterfaces=1\ninterface=provide,0\nstate=0\nto=-\nactive=1\nprovide=0,1\n"

-- an answer of n steps
abbrev pub steps : ℕ → List ℕ → List ℕ
steps n lines = bytes "plan=1\nsteps=" ++ one_text n ++ lines

-- WordPress, Apache2 and MySQL, bound; Apache2 runs, the others are installed
abbrev pub U : List ℕ
U = bytes "step=new,0,0\nstep=new,1,1\nstep=new,2,2\nstep=bind,0,0,1\nstep=bind,1,0,2\nstep=change,1,0,1\nstep=change,2,0,1\nstep=change,0,0,1\n"

-- and both run
abbrev pub D : List ℕ
D = U ++ bytes "step=change,2,1,2\nstep=change,0,1,2\n"

-- three WordPress bound to one MySQL, two of them run
abbrev pub J : List ℕ
J = bytes "step=new,0,0\nstep=new,1,0\nstep=new,2,0\nstep=new,3,2\nstep=bind,1,0,3\nstep=bind,1,1,3\nstep=bind,1,2,3\nstep=change,3,0,1\nstep=change,3,1,2\nstep=change,0,0,1\nstep=change,1,0,1\nstep=change,2,0,1\nstep=change,0,1,2\nstep=change,1,1,2\n"

-- V of the paper: and the third runs with a MySQL of its own
abbrev pub V' : List ℕ
V' = J ++ bytes "step=new,5,1\nstep=change,5,0,1\nstep=bind,0,0,5\nstep=bind,0,1,5\nstep=bind,0,2,5\nstep=new,4,2\nstep=change,4,0,1\nstep=change,4,1,2\nstep=unbind,1,2,3\nstep=bind,1,2,4\nstep=change,2,1,2\n"

-- nine that require, eight that provide, and each of the nine bound to each of the eight
abbrev pub all72 : List ℕ
all72 =
    in_turn (λ z. bytes "step=new," ++ two_text z 0) 9 ++ in_turn (λ y. bytes "step=new," ++ two_text (9 + y) 1) 8
    ++ in_turn (λ z. in_turn (λ y. bytes "step=bind,0," ++ two_text z (9 + y)) 8) 9

-- what a case must come to: the whole print, or the two counts
pub data Expected : Type 0 where
  prints : List ℕ → Expected
  ends : ℕ → ℕ → Expected

abbrev pub Case : Type 0
Case = CaseOf Expected

-- the figures and the conflicts
abbrev pub figures : List Case
figures =
    case W (steps 5 (bytes "step=new,0,0\nstep=new,1,1\nstep=bind,0,0,1\nstep=change,1,0,1\nstep=change,0,0,1\n")) (prints (bytes "accepted=5\nrefused=0\ncomponents=2\ncomponent=0,0,1\ncomponent=1,1,1\nbindings=1\nbinding=0,0,1\n"))
    ∷ case W (steps 4 (bytes "step=new,0,0\nstep=new,1,1\nstep=bind,0,0,1\nstep=change,0,0,1\n")) (ends 4 70)
    ∷ case W (steps 5 (bytes "step=new,0,0\nstep=new,1,1\nstep=change,0,0,1\nstep=change,1,0,1\nstep=bind,0,0,1\n")) (ends 5 0)
    ∷ case W (steps 9 (U ++ bytes "step=change,0,1,2\n")) (ends 8 69)
    ∷ case W (steps 10 (D)) (ends 10 0)
    ∷ case W (steps 11 (D ++ bytes "step=change,2,2,1\n")) (ends 10 69)
    ∷ case W (steps 11 (D ++ bytes "step=unbind,1,0,2\n")) (ends 10 69)
    ∷ case W (steps 11 (D ++ bytes "step=del,2\n")) (prints (bytes "accepted=10\nrefused=69\ncomponents=3\ncomponent=0,0,2\ncomponent=1,1,1\ncomponent=2,2,2\nbindings=2\nbinding=0,0,1\nbinding=1,0,2\n"))
    ∷ case W (steps 11 (D ++ bytes "step=del,0\n")) (prints (bytes "accepted=11\nrefused=0\ncomponents=2\ncomponent=1,1,1\ncomponent=2,2,2\nbindings=0\n"))
    ∷ case W (steps 15 (J ++ bytes "step=change,2,1,2\n")) (ends 14 68)
    ∷ case W (steps 29 (V' ++ bytes "step=new,6,3\nstep=bind,2,6,0\nstep=bind,2,6,1\nstep=change,6,0,1\n")) (ends 28 69)
    ∷ case W (steps 30 (V' ++ bytes "step=new,6,3\nstep=bind,2,6,0\nstep=bind,2,6,1\nstep=bind,2,6,2\nstep=change,6,0,1\n")) (ends 30 0)
    ∷ case W (steps 4 (bytes "step=new,0,4\nstep=change,0,0,1\nstep=new,1,1\nstep=change,1,0,1\n")) (ends 3 69)
    ∷ case W (steps 4 (bytes "step=new,1,1\nstep=change,1,0,1\nstep=new,0,4\nstep=change,0,0,1\n")) (ends 3 69)
    ∷ case F (steps 5 (bytes "step=new,0,0\nstep=new,1,1\nstep=bind,1,0,1\nstep=bind,0,1,0\nstep=change,0,0,1\n")) (ends 4 69)
    ∷ []

-- the 65th binding
abbrev pub full : List Case
full = case L (steps 89 (all72)) (ends 81 67) ∷ []

abbrev pub table : List Case
table = figures ++ full

-- a case is met
abbrev pub Met : List ℕ → List ℕ → Expected → Type 0
Met s a (prints r) = printed s a ≡ r
Met s a (ends n k) = ((judged s a lent_bytes).verdict.accepted ≡ n) × ((judged s a lent_bytes).verdict.refused ≡ k)

abbrev pub AllMet : List Case → Type 0
AllMet ks = AllMetBy Met ks
