-- How far the texts come: "The three lengths come first (sheet, start, answer), then the lines in that order", then the steps.
use Rattle.std.specs.Prelude.{ℕ, ◌-◌, List, true, false, length}
use Rattle.item_spec.specs.Refusal.{too_long}
use Rattle.model.specs.declared.Text.{Text}
use Rattle.model.specs.declared.Text.TheVariants as text
use Rattle.model.specs.declared.Tables.{Tables}
use Rattle.model.specs.declared.Program.{Program}
use Rattle.model.specs.declared.Answer.{Answer}
use Rattle.model.specs.declared.Walked.{Walked}
use Rattle.model.specs.declared.Configuration.{Configuration}
use Rattle.model.specs.Empty.{start}
use Rattle.model.specs.View.{begun_with}
use Rattle.read_spec.specs.Limits.{length_ok}
use Rattle.read_spec.specs.Lines.{Lines, on, stop}
use Rattle.read_spec.specs.Texts.{sheet, answer}
use Rattle.rules_spec.specs.PushB.{depth_of}
use Rattle.rules_spec.specs.Walk.{walk_from}
use Rattle.start_spec.specs.Paper.{Beginning, nothing, given, Paper}
use Rattle.start_spec.specs.Text.{start_length_ok, Outset, start_lines}
use Rattle.start_spec.specs.Served.{some_unserved, unserved_at_start}

infixl 20 ◌>>=◌
infixl 20 ◌>>◌
-- faulty: a text is refused, 1 to 5 or 50, at a place of it. reached: what comes of texts that are read
pub data Course (A : Type 0) : Type 0 where
  faulty : Text → ℕ → ℕ → Course A
  reached : A → Course A

abbrev pub go_on : {A B : Type 0} → Course A → (A → Course B) → Course B
go_on (faulty x n at) f = faulty x n at
go_on (reached a) f = f a

abbrev pub ◌>>=◌ : {A B : Type 0} → Course A → (A → Course B) → Course B
◌>>=◌ m f = go_on m f

abbrev pub ◌>>◌ : {A B : Type 0} → Course A → Course B → Course B
◌>>◌ m f = go_on m (λ _. f)

-- "a text is too long": 1
unfoldable pub short : Text → List ℕ → Course (Unit {0})
short x s = elim (length_ok (length s)) [ true ↦ reached tt | false ↦ faulty x too_long 0 ]

-- a text's lines, read by m; at a fault the place is that of the line at fault
unfoldable pub read : {A : Type 0} → Text → Lines A → List ℕ → Course A
read x m s = elim (m s) [ on a r ↦ reached a | stop n r ↦ faulty x n (length s - length r) ]

-- "0 stands for the default"; 02, C-15: "From the spring sitting 0 stands for 8"
abbrev pub default_depth : ℕ
default_depth = 8

-- what a sheet alone says
unfoldable pub sheet_course : List ℕ → Course (Tables × Program)
sheet_course s = do
  short text.Sheet s
  read text.Sheet sheet s

-- "with 1 past 8,192 bytes"
unfoldable pub short_start : Beginning → Course (Unit {0})
short_start nothing = reached tt
short_start (given x) = elim (start_length_ok (length x)) [ true ↦ reached tt | false ↦ faulty text.Start too_long 0 ]

-- the program from there: what the start shows had been pushed before its first line
abbrev pub begun_from : Program → Outset → Program
begun_from p x = begun_with p x.0.queue x.1

-- "50 for an unserved use port, after the start's last line, answered as 1 is"
unfoldable pub served : Tables → Program → Outset → Course (Program × Configuration)
served t p x = elim (some_unserved t x.0) [ true ↦ faulty text.Start unserved_at_start 0 | false ↦ reached (begun_from p x, x.0) ]

-- "no file: nothing up"; else what the start's lines give, where 0 stands for d
unfoldable pub outset : ℕ → Tables → Program → Beginning → Course (Program × Configuration)
outset d t p nothing = reached (p, start)
outset d t p (given x) = do
  y ← read text.Start (start_lines p.edition (depth_of d t) t) x
  served t p y

-- what a paper alone says, before any answer exists
unfoldable pub paper_course : Paper → Course (Tables × Program × Configuration)
paper_course s = do
  short text.Sheet s.sheet
  short_start s.beginning
  (t, p) ← read text.Sheet sheet s.sheet
  (b, c) ← outset default_depth t p s.beginning
  reached (t, b, c)

-- what the texts say, where all are read
unfoldable pub all_under : ℕ → Paper → List ℕ → Course (Tables × Program × Configuration × Answer)
all_under d s a = do
  short text.Sheet s.sheet
  short_start s.beginning
  short text.Answer a
  (t, p) ← read text.Sheet sheet s.sheet
  (b, c) ← outset d t p s.beginning
  y ← read text.Answer answer a
  reached (t, b, c, y)

-- where 0 stands for d
abbrev pub course_under : ℕ → Paper → List ℕ → Course Walked
course_under d s a = do
  (t, p, c, y) ← all_under d s a
  reached (walk_from d t p c y)

unfoldable pub course : Paper → List ℕ → Course Walked
course s a = course_under default_depth s a
