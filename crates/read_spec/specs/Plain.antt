-- "`sheet=1` reads .. as before": the sheet as it was read before there were tickets.
use Rattle.std.specs.Prelude.{ℕ, List, ◌≡◌}
use Rattle.item_spec.specs.Reader.{Reader, got, bytes, ◌or◌, no_line}
use Rattle.item_spec.specs.Read.{upon}
use Rattle.model.specs.declared.Tables.{Tables}
use Rattle.model.specs.declared.Instruction.{Instruction}
use Rattle.model.specs.declared.Program.{Program}
use Rattle.model.specs.Verb.{add_verb, del_verb, pushb_verb, con_verb, dcon_verb, wait_verb}
use Rattle.read_spec.specs.Limits.{depth_ok, types_ok, program_ok, behavior_ok, type_ok}
use Rattle.read_spec.specs.Lines.{Lines, ◌>>=◌, ◌>>◌, hand_on, line, each, at_end}
use Rattle.read_spec.specs.Kinds.{edition_line, due_line, count_line, do_id, do_number, do_ends}
use Rattle.read_spec.specs.Fill.{headed, program_of, with_instruction}
use Rattle.read_spec.specs.Texts.{type_lines, sheet}

unfoldable pub plain_line : ℕ → Reader Instruction
plain_line n =
    upon (bytes "do=add,") (do_number add_verb (type_ok n))
    or upon (bytes "do=del,") (do_id del_verb)
    or upon (bytes "do=pushb,") (do_number pushb_verb behavior_ok)
    or upon (bytes "do=con,") (do_ends con_verb)
    or upon (bytes "do=dcon,") (do_ends dcon_verb)
    or upon (bytes "do=wait,") (do_id wait_verb)
    or no_line

unfoldable pub plain_at : ℕ → ℕ → Program → Lines Program
plain_at n j p = do
  x ← line (plain_line n)
  hand_on (with_instruction p j x)

unfoldable pub plain_sheet : Lines (Tables × Program)
plain_sheet = do
  line (due_line (bytes "sheet=") 1)
  d ← line (count_line (bytes "depth=") depth_ok)
  n ← line (count_line (bytes "types=") types_ok)
  t ← each type_lines n 0 (headed d n)
  k ← line (count_line (bytes "program=") program_ok)
  p ← each (plain_at n) k 0 (program_of 1 k)
  at_end
  hand_on (t, p)

-- whatever does not open with `sheet=2` is read, or refused at its place, as it was
unfoldable pub PlainReadAsBefore : Type 0
PlainReadAsBefore = (s : List ℕ) → ((r : List ℕ) → edition_line s ≡ got 2 r → ⊥) → sheet s ≡ plain_sheet s
