-- What is written of a candidate: the name, and the block after it.
use Rattle.std.specs.Prelude.{ℕ, Bool, true, false, List, ◌++◌}
use Rattle.item_spec.specs.Reader.{bytes}
use Rattle.start_spec.specs.Paper.{Paper}
use Rattle.sitting_shown.specs.Shown.{cell}
use Rattle.sitting_spec.specs.Block.{begins, block_text}
use Rattle.sitting_spec.specs.Plan.{plan_block}

-- "An Aeolus sheet (`aeolus=` at its start) is judged by its own rules: the same blocks for plans."
abbrev pub is_aeolus : List ℕ → Bool
is_aeolus s = begins (bytes "aeolus=") s

unfoldable pub either_block : Paper → List ℕ → List ℕ
either_block s a = elim (is_aeolus s.sheet) [ true ↦ plan_block s.sheet a | false ↦ block_text s a ]

-- the name as a cell of a table shows it
unfoldable pub name_text : List ℕ → List ℕ
name_text name = bytes "candidate=" ++ cell name ++ bytes "\n"

unfoldable pub candidate_text : List ℕ → Paper → List ℕ → List ℕ
candidate_text name s a = name_text name ++ either_block s a

-- an answer that can't be read
unfoldable pub unread_text : List ℕ → List ℕ
unread_text name = name_text name ++ bytes "unreadable=1\n"
