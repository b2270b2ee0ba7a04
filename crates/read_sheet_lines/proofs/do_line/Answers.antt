use Prim.Native.Nat.{ℕ, zero-le}
use mathlib.Core.List.{List}
use mathlib.Core.Path.{refl}
use Rattle.item_spec.specs.Reader.{Reader, bytes, ◌or◌, no_line}
use Rattle.item_spec.specs.Read.{key, upon}
use Rattle.model.specs.declared.Instruction.{Instruction}
use Rattle.model.specs.Verb.{del_verb, con_verb, dcon_verb}
use Rattle.read_spec.specs.Kinds.{do_id, do_ends, do_push_in, do_wait_in, do_line}
use Rattle.read_items.specs.Reads.{Outcome, fault, Reads}
use Rattle.read_items.proofs.Limits.{verb-here, verb-other}
use Rattle.read_sheet_lines.proofs.Limits.{id-is, number_is, ends_is}
use Rattle.read_sheet_lines.proofs.do_line.Goals as goal

-- the line from a verb on
abbrev from_wait : ℕ → Reader Instruction
from_wait e = upon (bytes "do=wait,") (do_wait_in e) or no_line

abbrev from_dcon : ℕ → Reader Instruction
from_dcon e = upon (bytes "do=dcon,") (do_ends dcon_verb) or from_wait e

abbrev from_con : ℕ → Reader Instruction
from_con e = upon (bytes "do=con,") (do_ends con_verb) or from_dcon e

abbrev from_pushb : ℕ → Reader Instruction
from_pushb e = upon (bytes "do=pushb,") (do_push_in e) or from_con e

abbrev from_del : ℕ → Reader Instruction
from_del e = upon (bytes "do=del,") (do_id del_verb) or from_pushb e

-- the verbs before it have not been there: what is read of the rest is read of the line
abbrev Onward : List ℕ → ℕ → ℕ → Reader Instruction → Type 0
Onward s e n rest = (o : Outcome Instruction) → Reads s o (rest s) → Reads s o (do_line e n s)

abbrev Other : List ℕ → List ℕ → Type 0
Other s k = Reads {A = Unit {0}} s (fault 2) (key k s)

module _ (s : List ℕ) (e n : ℕ) where
  next : (k : List ℕ) (m rest : Reader Instruction) → Onward s e n (upon k m or rest) → Other s k → Onward s e n rest
  next k m rest f a o h = f o (verb-other _ _ _ a h)

  to-del : Other s (bytes "do=add,") → Onward s e n (from_del e)
  unfolding do_line
  to-del a o h = verb-other _ _ _ a h

  to-pushb : Other s (bytes "do=add,") → Other s (bytes "do=del,") → Onward s e n (from_pushb e)
  to-pushb a b = next (bytes "do=del,") (do_id del_verb) (from_pushb e) (to-del a) b

  to-con : Other s (bytes "do=add,") → Other s (bytes "do=del,") → Other s (bytes "do=pushb,") → Onward s e n (from_con e)
  to-con a b d = next (bytes "do=pushb,") (do_push_in e) (from_con e) (to-pushb a b) d

  to-dcon : Other s (bytes "do=add,") → Other s (bytes "do=del,") → Other s (bytes "do=pushb,") → Other s (bytes "do=con,") → Onward s e n (from_dcon e)
  to-dcon a b d f = next (bytes "do=con,") (do_ends con_verb) (from_dcon e) (to-con a b d) f

  to-wait : Other s (bytes "do=add,") → Other s (bytes "do=del,") → Other s (bytes "do=pushb,") → Other s (bytes "do=con,") → Other s (bytes "do=dcon,")
      → Onward s e n (from_wait e)
  to-wait a b d f g = next (bytes "do=dcon,") (do_ends dcon_verb) (from_wait e) (to-dcon a b d f) g

pub returns-in-Some : goal.returns-in-Some
unfolding do_line
returns-in-Some c = verb-here _ _ _ c.in-Some.ensures (rw number_is at c.do_numbers.ensures)

pub returns-in-Some-past_key : goal.returns-in-Some-past_key
returns-in-Some-past_key c = to-del _ _ _ c.in_default.ensures _ (verb-here _ _ _ c.in-Some-past_key.ensures (rw id-is at c.do_numbers-in-Some-past_key.ensures))

pub returns-in-Some-past_key-2 : goal.returns-in-Some-past_key-2
returns-in-Some-past_key-2 c =
    to-pushb _ _ _ c.in_default.ensures c.in_default-past_key.ensures _ (verb-here _ _ _ c.in-Some-past_key-2.ensures c.push_after.ensures)

pub returns-in-Some-past_key-3 : goal.returns-in-Some-past_key-3
returns-in-Some-past_key-3 c =
    to-con _ _ _ c.in_default.ensures c.in_default-past_key.ensures c.in_default-past_key-2.ensures _
    (verb-here _ _ _ c.in-Some-past_key-3.ensures (rw ends_is at c.do_numbers-in-Some-past_key-3.ensures))

pub returns-in-Some-past_key-4 : goal.returns-in-Some-past_key-4
returns-in-Some-past_key-4 c =
    to-dcon _ _ _ c.in_default.ensures c.in_default-past_key.ensures c.in_default-past_key-2.ensures c.in_default-past_key-3.ensures _
    (verb-here _ _ _ c.in-Some-past_key-4.ensures (rw ends_is at c.do_numbers-in-Some-past_key-4.ensures))

pub returns-in-Some-past_key-5 : goal.returns-in-Some-past_key-5
returns-in-Some-past_key-5 c =
    to-wait _ _ _ c.in_default.ensures c.in_default-past_key.ensures c.in_default-past_key-2.ensures c.in_default-past_key-3.ensures
    c.in_default-past_key-4.ensures _ (verb-here _ _ _ c.in-Some-past_key-5.ensures c.wait_after.ensures)

pub returns : goal.returns
returns c =
    to-wait _ _ _ c.in_default.ensures c.in_default-past_key.ensures c.in_default-past_key-2.ensures c.in_default-past_key-3.ensures
    c.in_default-past_key-4.ensures _ (verb-other _ _ _ c.in_default-past_key-5.ensures (record { within = zero-le; same = refl }))
