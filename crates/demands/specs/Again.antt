-- A report as the next paper's start: at each accepted point, the report's lines from `instances=` on, after `start=1`, are a start of the same sheet's types that
-- is not too long, is read without fault, and gives that configuration, with the program at its first line.
use Rattle.std.specs.Prelude.{◌≡◌, List, false, ℕ, ◌≤◌, length}
use Rattle.model.specs.Empty.{none_begun}
use Rattle.model.specs.View.{begun_with, with_done}
use Rattle.read_spec.specs.Limits.{has_tickets}
use Rattle.start_spec.specs.Paper.{Paper, given}
use Rattle.start_spec.specs.Round.{plain_start, lasts_of, start_of}
use Rattle.judge_spec.specs.Course.{reached, short_start, outset, default_depth}
use Rattle.judge_spec.specs.Next.{next_start}
use Rattle.demands.specs.OnTexts.{sheet_tables, sheet_program, answer_steps, AllRead, AllAllowed, walk_on, up_to}

unfoldable pub ReportsAreStartsOnTexts : Type 0
ReportsAreStartsOnTexts =
    (s : Paper) (a : List ℕ) (n : ℕ)
    → AllRead s a
    → has_tickets (sheet_program s).edition ≡ false
    → (length (plain_start (walk_on s (up_to n a)).configuration) ≤ 8192)
    × (short_start (given (plain_start (walk_on s (up_to n a)).configuration)) ≡ reached tt)
    × (outset default_depth (sheet_tables s) (sheet_program s) (given (plain_start (walk_on s (up_to n a)).configuration))
    ≡ reached (begun_with (sheet_program s) (walk_on s (up_to n a)).configuration.queue none_begun.last, with_done (walk_on s (up_to n a)).configuration 0))

-- for both kinds of sheets: it is short enough, is read without fault, and gives that configuration, with its queues and last tickets as what had been pushed
unfoldable pub ReportsWithLastsAreStarts : Type 0
ReportsWithLastsAreStarts =
    (s : Paper) (a : List ℕ) (n : ℕ)
    → AllRead s a
    → (let c = (walk_on s (up_to n a)).configuration in
    let p = sheet_program s in
    (length (start_of p c) ≤ 8192)
    × (outset default_depth (sheet_tables s) p (given (start_of p c)) ≡ reached (begun_with p c.queue (lasts_of p c), with_done c 0)))

-- what `start-from` prints of an answer whose steps are all allowed: a start that is not too long, is read without fault, and gives the configuration in which
-- the answer ends, with its queues and last tickets as what had been pushed
unfoldable pub NextStartsAreStarts : Type 0
NextStartsAreStarts =
    (s : Paper) (a : List ℕ)
    → AllAllowed s a
    → (let c = (walk_on s (answer_steps a)).configuration in
    let p = sheet_program s in
    (short_start (given (next_start s a)) ≡ reached tt)
    × (outset default_depth (sheet_tables s) p (given (next_start s a)) ≡ reached (begun_with p c.queue (lasts_of p c), with_done c 0)))
