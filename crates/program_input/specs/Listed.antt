-- A part of the list of names, by its mark: `+NAME` is a plain file's, `-NAME` any other's; `=` is followed by a byte that says how long a path is, the path and the
-- name of a plain file.
use Rattle.std.specs.Prelude.{ℕ, ◌+◌, Bool, ◌&&◌, ◌||◌, cond, eqb, leb, List, length, get_or, take, drop}

-- where the name begins behind a path
abbrev pub name_from : List ℕ → ℕ
name_from s = get_or s 1 0 + 2

abbrev pub has_path : List ℕ → Bool
has_path s = eqb (get_or s 0 0) 61 && leb (name_from s) (length s)

abbrev pub is_plain : List ℕ → Bool
is_plain s = has_path s || eqb (get_or s 0 0) 43

abbrev pub path_in : List ℕ → List ℕ
path_in s = cond (has_path s) (take (get_or s 1 0) (drop 2 s)) (drop 1 s)

abbrev pub name_in : List ℕ → List ℕ
name_in s = cond (has_path s) (drop (name_from s) s) (drop 1 s)
