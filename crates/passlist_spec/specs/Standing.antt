-- Where a row stands by the pass line.
use Rattle.std.specs.Prelude.{ℕ, cond, List, ◌++◌, leb}
use Rattle.item_spec.specs.Reader.{got, refused, bytes}
use Rattle.passlist_spec.specs.declared.Pass.{Pass}
use Rattle.passlist_spec.specs.declared.Pass.TheVariants.{AtLeast, NoTimes}
use Rattle.passlist_spec.specs.declared.Said.{Said}
use Rattle.passlist_spec.specs.declared.Said.TheVariants as said
use Rattle.passlist_spec.specs.declared.Standing.{Standing}
use Rattle.passlist_spec.specs.declared.Standing.TheVariants as stands
use Rattle.std.specs.declared.option.Option.{Option}
use Rattle.std.specs.declared.option.Option.TheVariants.{Some, None}
use Rattle.passlist_spec.specs.Row.{Mark, name_cell, last_mark, row_says}

-- the pass line that a mark, or none, is
abbrev pub pass_of : Mark → Pass
pass_of (Some n) = AtLeast n
pass_of None = NoTimes

-- "PASS is 0 to 1000, or `-` for a paper without times": of a word with a line's end
unfoldable pub pass_in : List ℕ → Option Pass
pass_in s = elim (last_mark (bytes "-\n") s) [ got m r ↦ Some (pass_of m) | refused n ↦ None ]

-- "a mark of at least PASS"
abbrev pub by_mark : ℕ → ℕ → Standing
by_mark n m = cond (leb n m) stands.Passed stands.Below

-- one who is done, by the mark
abbrev pub when_done : Pass → Mark → Standing
when_done (AtLeast n) (Some m) = by_mark n m
when_done (AtLeast n) None = stands.OtherKind
when_done NoTimes (Some m) = stands.OtherKind
when_done NoTimes None = stands.Passed

-- one who isn't: whatever the mark is
abbrev pub when_not : Pass → Mark → Standing → Standing
when_not (AtLeast n) (Some m) s = s
when_not (AtLeast n) None s = stands.OtherKind
when_not NoTimes (Some m) s = stands.OtherKind
when_not NoTimes None s = s

-- one who is absent has no mark
abbrev pub when_absent : Mark → Standing
when_absent (Some m) = stands.NoRow
when_absent None = stands.Absent

abbrev pub standing_by : Pass → Said → Mark → Standing
standing_by p said.Done m = when_done p m
standing_by p said.Unfinished m = when_not p m stands.Unfinished
standing_by p said.Refused m = when_not p m stands.Refused
standing_by p said.Fault m = when_not p m stands.Fault
standing_by p said.Absent m = when_absent m

-- of a row with its line's end
unfoldable pub standing : Pass → List ℕ → Standing
standing p s = elim (row_says s) [ got x r ↦ standing_by p x.0 x.1 | refused n ↦ stands.NoRow ]

-- what the list says of a row that stands as passed
unfoldable pub passed_line : List ℕ → List ℕ
passed_line s = bytes "candidate=" ++ name_cell s ++ bytes "\n"
