-- A paper alone, beside any answer: what it says is what the judge goes on from, and its faults are the judge's.
-- Assumes nothing.
use Prim.Native.Nat.{ℕ}
use mathlib.Core.Bool.{true}
use mathlib.Core.List.{List}
use mathlib.Core.Path.{◌≡◌, refl, sym, ap, ◌∙◌}
use lib.ListN.{length}
use Rattle.model.specs.declared.Tables.{Tables}
use Rattle.model.specs.declared.Program.{Program}
use Rattle.model.specs.declared.Configuration.{Configuration}
use Rattle.model.specs.declared.Answer.{Answer}
use Rattle.model.specs.declared.Text.{Text}
use Rattle.model.specs.declared.Text.TheVariants as text
use Rattle.read_spec.specs.Limits.{length_ok}
use Rattle.read_spec.specs.Lines.{on}
use Rattle.read_spec.specs.Texts.{sheet, answer}
use Rattle.read_spec.specs.Lawful.{Lawful, SheetsAreLawful}
use Rattle.read_spec.proofs.Lawful.{sheet-stops, sheets-are-lawful}
use Rattle.start_spec.specs.Paper.{Paper}
use Rattle.judge_spec.specs.Course.{Course, faulty, reached, go_on, short, short_start, outset, read, default_depth, paper_course, all_under, course}
use Rattle.judge_spec.specs.Alone.{RefusedAsJudged}
use Rattle.judge_spec.proofs.Read.{Numbered, low-number, Ends, faults, reaches, ends-then, short-ends, short-start-ends, read-ends, Begun, begins-ends, begun-lawful}

-- ---- what is read

pub record PaperRead (s : Paper) (x : Tables × Program × Configuration) : Type 0 where
  pub sheet-program : Program
  pub sheet-rest : List ℕ
  pub sheet-is : sheet s.sheet ≡ on (x.0, sheet-program) sheet-rest
  pub sheet-lawful : Lawful x.0 sheet-program
  pub lawful : Lawful x.0 x.1
  pub begun : Begun default_depth x.0 sheet-program s.beginning (x.1, x.2)

paper-ends : (s : Paper) → Ends Numbered (PaperRead s) (paper_course s)
unfolding paper_course SheetsAreLawful
paper-ends s =
    ends-then _ (short-ends low-number text.Sheet s.sheet) (λ _ _.
    ends-then _ (short-start-ends s.beginning) (λ _ _.
    ends-then _ (read-ends low-number text.Sheet sheet s.sheet (sheet-stops s.sheet)) (λ x (r, e).
    let law = sheets-are-lawful s.sheet _ _ _ e in
    ends-then _ (begins-ends x.0 x.1 law s.beginning) (λ c b.
    reaches (record { sheet-program = x.1; sheet-rest = r; sheet-is = e; sheet-lawful = law; lawful = begun-lawful x.0 x.1 law s.beginning c b; begun = b })))))

pub paper-read : (s : Paper) (x : Tables × Program × Configuration) → paper_course s ≡ reached x → PaperRead s x
paper-read s x e = told (rw e at (paper-ends s))
  where
    told : Ends Numbered (PaperRead s) (reached x) → PaperRead s x
    told (reaches b) = b

pub paper-numbered : (s : Paper) (x : Text) (n at : ℕ) → paper_course s ≡ faulty x n at → Numbered n
paper-numbered s x n at e = told (rw e at (paper-ends s))
  where
    told : Ends Numbered (PaperRead s) (faulty x n at) → Numbered n
    told (faults l) = l

-- ---- beside an answer

on-and-on : {A B C : Type 0} (m : Course A) (f : A → Course B) (g : B → Course C) → go_on (go_on m f) g ≡ go_on m (λ a. go_on (f a) g)
on-and-on (faulty x n at) f g = refl
on-and-on (reached a) f g = refl

answer-fits : (a : List ℕ) → length_ok (length a) ≡ true → short text.Answer a ≡ reached tt
unfolding short
answer-fits a l = rw (l, short)

-- what the judge goes on with
abbrev pub with_answer : List ℕ → Tables × Program × Configuration → Course (Tables × Program × Configuration × Answer)
with_answer a x = go_on (read text.Answer answer a) (λ y. reached (x.0, x.1, x.2, y))

-- the lines of the sheet, and where the paper begins
said : Paper → Course (Tables × Program × Configuration)
said s = go_on (read text.Sheet sheet s.sheet) (λ x. go_on (outset default_depth x.0 x.1 s.beginning) (λ c. reached (x.0, c.0, c.1)))

said-on : (s : Paper) (a : List ℕ) → go_on (said s) (with_answer a)
    ≡ go_on (read text.Sheet sheet s.sheet) (λ x. go_on (outset default_depth x.0 x.1 s.beginning) (λ c. with_answer a (x.0, c.0, c.1)))
unfolding said
said-on s a =
    on-and-on (read text.Sheet sheet s.sheet) _ (with_answer a)
    ∙ ap (go_on (read text.Sheet sheet s.sheet)) (λ i x. on-and-on (outset default_depth x.0 x.1 s.beginning) (λ c. reached (x.0, c.0, c.1)) (with_answer a) i)

pub beside-answer : (s : Paper) (a : List ℕ) → length_ok (length a) ≡ true → all_under default_depth s a ≡ go_on (paper_course s) (with_answer a)
unfolding all_under paper_course said
beside-answer s a l = go (short text.Sheet s.sheet) (short_start s.beginning)
  where
    fits : short text.Answer a ≡ reached tt
    fits = answer-fits a l

    go : (u v : Course (Unit {0}))
        → go_on u (λ _. go_on v (λ _. go_on (short text.Answer a) (λ _. go_on (read text.Sheet sheet s.sheet) (λ x. go_on (outset default_depth x.0 x.1 s.beginning) (λ c. with_answer a (x.0, c.0, c.1))))))
        ≡ go_on (go_on u (λ _. go_on v (λ _. said s))) (with_answer a)
    go (faulty x n at) v = refl
    go (reached u) (faulty x n at) = refl
    go (reached u) (reached v) = rw fits (sym (said-on s a))

pub refused-as-judged : RefusedAsJudged
unfolding RefusedAsJudged course
refused-as-judged s a x n at l e = rw (beside-answer s a l, e) refl
