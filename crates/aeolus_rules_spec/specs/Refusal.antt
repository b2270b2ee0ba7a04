-- The refusal numbers 60 to 70 by name, in their order.
use Rattle.std.specs.Prelude.{ℕ}

-- the component is absent: `change`, `del`, either end of `bind`
abbrev pub absent : ℕ
absent = 60

-- the component is present at `new`
abbrev pub present : ℕ
present = 61

-- `change`: the component is not in the state named
abbrev pub other_state : ℕ
other_state = 62

-- `change`: the type has no such change of state
abbrev pub no_such_change : ℕ
no_such_change = 63

-- `bind`: the first does not require the interface, or the second does not provide it
abbrev pub no_such_port : ℕ
no_such_port = 64

-- `bind`: that binding stands
abbrev pub already_bound : ℕ
already_bound = 65

-- `unbind`: no such binding
abbrev pub not_bound : ℕ
not_bound = 66

-- `bind`: 64 bindings stand
abbrev pub no_more_bindings : ℕ
no_more_bindings = 67

-- in the configuration reached a provision is used by more than its number
abbrev pub overused : ℕ
overused = 68

-- in the configuration reached a strong demand is not met, or its conflict stands
abbrev pub unmet : ℕ
unmet = 69

-- after the last action, all allowed: a weak demand is not met
abbrev pub unmet_at_the_end : ℕ
unmet_at_the_end = 70
