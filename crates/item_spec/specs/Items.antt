-- Items joined by `+` in any order, `-` for none: m reads one, told the byte that ends it.
use Rattle.std.specs.Prelude.{ℕ, zero, suc, List, [], ◌∷◌, Bool, true, false, length}
use Rattle.item_spec.specs.Reader.{Reader, got, refused, read_on, ◌>>=◌, give, no_line, byte}
use Rattle.item_spec.specs.Read.{upon}

-- an item, and whether another follows
unfoldable pub item_then : {A : Type 0} → (ℕ → Reader A) → ℕ → Reader (A × Bool)
item_then m e = λ s. elim (m (byte "+") s) [ got a r ↦ got (a, true) r | refused n ↦ read_on (m e s) (λ a. give (a, false)) ]

-- at most n of them
unfoldable pub items_in : {A : Type 0} → ℕ → (ℕ → Reader A) → ℕ → Reader (List A)
items_in zero m e = no_line
items_in (suc n) m e = do
  x ← item_then m e
  rest ← elim x.1 [ true ↦ items_in n m e | false ↦ give [] ]
  give (x.0 ∷ rest)

-- "joined by `+`, head first, `-` when empty; it need not ascend": no text has more items than bytes
unfoldable pub items : {A : Type 0} → (ℕ → Reader A) → ℕ → Reader (List A)
items m e = λ s. upon (byte "-" ∷ e ∷ []) (give []) (items_in (length s) m e) s
