-- "A program rewrites such a sheet with `depth=4` and nothing else altered." "A sheet with another depth comes out unchanged."
use Rattle.std.specs.Prelude.{ℕ, ◌+◌, cond, List, ◌∷◌, ◌++◌, ◌≡◌, ◌⊎◌, ◌≢◌, eqb, length, take, drop}
use Rattle.item_spec.specs.Reader.{bytes, byte}
use Rattle.model.specs.declared.Tables.{Tables}
use Rattle.model.specs.declared.Program.{Program}
use Rattle.start_spec.specs.Paper.{Beginning, from}
use Rattle.judge_spec.specs.Course.{Course, reached, ◌>>=◌, default_depth, sheet_course}
use Rattle.rewrite_spec.specs.Under.{judged_under, printed_under}

-- what 0 stood for: "Some forty old sheets rely on 4"
abbrev pub old_default : ℕ
old_default = 4

-- the first two lines of a sheet that opens with e and has a depth of the digit c
abbrev pub head_of : ℕ → ℕ → List ℕ
head_of e c = bytes "sheet=" ++ (byte "0" + e) ∷ bytes "\ndepth=" ++ c ∷ bytes "\n"

-- of a sheet that leaves the depth at 0, and of the same sheet rewritten
abbrev pub old_head : ℕ → List ℕ
old_head e = head_of e (byte "0")

abbrev pub new_head : ℕ → List ℕ
new_head e = head_of e (byte "4")

-- what a sheet of depth d that is read becomes: one byte is another
abbrev pub sheet_after : ℕ → List ℕ → List ℕ
sheet_after d s = cond (eqb d 0) (take 14 s ++ byte "4" ∷ drop 15 s) s

-- "Refusals: 1 to 5 as the reader gives them"
unfoldable pub rewritten : List ℕ → Course (List ℕ)
rewritten s = do
  (t, p) ← sheet_course s
  reached (sheet_after t.depth s)

-- nothing else is altered: the sheet as it was, or its first lines alone
unfoldable pub NothingElseAltered : Type 0
NothingElseAltered = (s r : List ℕ) → rewritten s ≡ reached r → (r ≡ s) ⊎ ((e : ℕ) × (x : List ℕ) × (s ≡ old_head e ++ x) × (r ≡ new_head e ++ x))

-- so it stays as long as it was
unfoldable pub LengthStays : Type 0
LengthStays = (s r : List ℕ) → rewritten s ≡ reached r → length r ≡ length s

unfoldable pub AnotherDepthUnchanged : Type 0
AnotherDepthUnchanged = (s : List ℕ) (t : Tables) (p : Program) → sheet_course s ≡ reached (t, p) → t.depth ≢ 0 → rewritten s ≡ reached s

-- rewriting twice is rewriting once
unfoldable pub RewrittenOnce : Type 0
RewrittenOnce = (s r : List ℕ) → rewritten s ≡ reached r → rewritten r ≡ reached r

-- "the rewritten sheet gets, under the new rule, the verdict and report that the old one got under the old rule, for every answer"; and from every start
unfoldable pub JudgedAlike : Type 0
JudgedAlike =
    (s r a : List ℕ) (g : Beginning)
    → rewritten s ≡ reached r
    → ((room : ℕ) → judged_under default_depth (from r g) a room ≡ judged_under old_default (from s g) a room)
    × (printed_under default_depth (from r g) a ≡ printed_under old_default (from s g) a)
