-- What a setter lends: the sheet, and where the paper begins. "Read `start.txt` (no file: nothing up)".
use Rattle.std.specs.Prelude.{Bool, true, false, List, [], ℕ}

pub data Beginning : Type 0 where
  nothing : Beginning
  given : List ℕ → Beginning

pub record Paper : Type 0 where
  pub sheet : List ℕ
  pub beginning : Beginning

-- a sheet from this beginning; alone
abbrev pub from : List ℕ → Beginning → Paper
from s g = record { sheet = s; beginning = g }

abbrev pub nothing_up : List ℕ → Paper
nothing_up s = from s nothing

-- a sheet and a start
abbrev pub up_as : List ℕ → List ℕ → Paper
up_as s x = from s (given x)

-- as a caller lends them: whether there is a start, and its bytes, which are not looked at where there is none
abbrev pub beginning_of : Bool → List ℕ → Beginning
beginning_of true x = given x
beginning_of false x = nothing

abbrev pub paper : List ℕ → Bool → List ℕ → Paper
paper s b x = from s (beginning_of b x)

-- the start's bytes
abbrev pub start_bytes : Beginning → List ℕ
start_bytes nothing = []
start_bytes (given x) = x
