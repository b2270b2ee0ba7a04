-- What the names foretell of the texts themselves: of a paper, a sheet with or without a start, and of every answer to it that the judge is given.
use Rattle.std.specs.Prelude.{◌≡◌, ◌⊎◌, ◌≢◌, true, cond, List, ℕ, ◌≤◌, ◌<◌, eqb, get_or}
use Rattle.model.specs.Empty.{no_step}
use Rattle.rules_spec.specs.Step.{is_next}
use Rattle.start_spec.specs.Paper.{Paper}
use Rattle.judge_spec.specs.Course.{Course, reached, paper_course, ◌>>=◌, ◌>>◌}
use Rattle.write_spec.specs.Kinds.{do_text}
use Rattle.write_spec.specs.Texts.{instruction_row}
use Rattle.demands.specs.OnTexts.{sheet_program, answer_steps, AllRead, verdict_on}
use Rattle.foretell_spec.specs.declared.Foretelling.{Foretelling}
use Rattle.foretell_spec.specs.Names.{foretold}
use Rattle.foretell_spec.specs.Foretold.{Tickets, ByName, Waits, due}
use Rattle.foretell_spec.specs.Lines.{instruction_line, line_text}

-- what is foretold of a paper, from where it begins
unfoldable pub foretold_on : Paper → Course Foretelling
foretold_on s = do
  (t, p, c) ← paper_course s
  reached (foretold t p c)

-- the line of the sheet on which the foretold instruction stands; 0 where none is foretold
unfoldable pub foretold_line : Paper → Foretelling → ℕ
foretold_line s f = cond (eqb f.refused 0) 0 (instruction_line s.sheet (sheet_program s) f.next)

-- that line says the instruction
unfoldable pub LineSaysIt : Type 0
LineSaysIt =
    (s : Paper) (f : Foretelling)
    → foretold_on s ≡ reached f
    → f.refused ≢ 0
    → line_text (foretold_line s f) s.sheet ≡ do_text (instruction_row (sheet_program s) f.next)

-- the step that the judge refused is a `next`
pub record NextRefused (s : Paper) (a : List ℕ) : Type 0 where
  pub all_are : AllRead s a
  pub refused : (verdict_on s a).refused ≢ 0
  pub next : is_next (get_or (answer_steps a) (verdict_on s a).accepted no_step) ≡ true

-- "no sequence of allowed steps carries it out": of every answer, read or not
unfoldable pub NeverCarriedOut : Type 0
NeverCarriedOut = (s : Paper) (a : List ℕ) (f : Foretelling) → foretold_on s ≡ reached f → (verdict_on s a).next ≤ f.next

-- what is foretold is a number that names tell: 11 to 18, and for `sheet=2` 19 and 24 too
unfoldable pub NumbersOnTexts : Type 0
NumbersOnTexts = (s : Paper) (f : Foretelling) → foretold_on s ≡ reached f → f.refused ≢ 0 → ByName (Tickets (sheet_program s)) f.refused

-- "any which comes to it gets the number foretold": a judged answer whose refused step is a `next` gets the foretold number (10 where there is none) at the
-- foretold instruction, or 20, 21, 22 before it, and for `sheet=2` 23 too
unfoldable pub RefusedAsForetold : Type 0
RefusedAsForetold =
    (s : Paper) (a : List ℕ) (f : Foretelling)
    → foretold_on s ≡ reached f
    → NextRefused s a
    → (((verdict_on s a).next ≡ f.next) × ((verdict_on s a).refused ≡ due f)) ⊎ (((verdict_on s a).next < f.next) × Waits (Tickets (sheet_program s)) (verdict_on s a).refused)
