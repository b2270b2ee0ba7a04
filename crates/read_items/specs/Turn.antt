-- What one byte does to a number or to a list that is being read.
use Rattle.std.specs.Prelude.{ℕ, ◌+◌, ◌-◌, ◌*◌, ◌^◌, ◌≤◌, ◌<◌, List, ◌∷◌, true, false, ◌≡◌}
use Rattle.sets.specs.Mask.{with}
use Rattle.item_spec.specs.Refusal.{bad_form}
use Rattle.item_spec.specs.Reader.{Reply, got, refused, byte}
use Rattle.item_spec.specs.Read.{Set, digit, follows, members_from}
use Rattle.read_items.specs.declared.Listed.{Listed}
use Rattle.read_items.specs.declared.SoFar.{SoFar}
use Rattle.read_items.specs.declared.Turn.{Turn}
use Rattle.read_items.specs.declared.Turn.TheVariants as turn
use Rattle.read_items.specs.Says.{set_of}
use Rattle.std.specs.declared.option.Option.{Option}
use Rattle.std.specs.declared.option.Option.TheVariants.{Some, None}

-- k digits of value v, no more than seven
pub record Small (k v : ℕ) : Type 0 where
  pub few : k ≤ 7
  pub below : v < 10 ^ k

-- the byte c as one digit more after k digits of value v, at most d in all
abbrev pub TakesDigit : ℕ → ℕ → ℕ → ℕ → Option ℕ → Type 0
TakesDigit d k v c (Some w) = (digit d k v c ≡ true) × (w ≡ v * 10 + (c - byte "0")) × Small (k + 1) w
TakesDigit d k v c None = digit d k v c ≡ false

-- the digits of a member are all there: the mask and the top with it
abbrev pub TakesMember : SoFar → Option Listed → Type 0
TakesMember f (Some l) = (follows f.count f.top f.value ≡ true) × (l.mask ≡ with f.value f.mask) × (l.top ≡ f.value + 1)
TakesMember f None = follows f.count f.top f.value ≡ false

-- a list of which f has been read, from s on
abbrev pub members_on : ℕ → ℕ → SoFar → List ℕ → Reply Set
members_on d e f s = members_from d e f.mask f.top f.count f.value s

abbrev pub turn_reply : ℕ → ℕ → List ℕ → Option Turn → Reply Set
turn_reply d e s (Some (turn.On f)) = members_on d e f s
turn_reply d e s (Some (turn.End l)) = got (set_of l) s
turn_reply d e s None = refused bad_form

abbrev pub TurnSmall : Option Turn → Type 0
TurnSmall (Some (turn.On f)) = Small f.count f.value
TurnSmall (Some (turn.End l)) = Unit
TurnSmall None = Unit

-- the byte c of a list of which f has been read
pub record Turns (d e : ℕ) (f : SoFar) (c : ℕ) (r : Option Turn) : Type 0 where
  pub small : TurnSmall r
  pub same : (s : List ℕ) → turn_reply d e s r ≡ members_on d e f (c ∷ s)
