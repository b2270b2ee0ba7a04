-- Readers of a run of lines. "After each line the reader goes on with the rest of the text from there."
use Rattle.std.specs.Prelude.{ℕ, zero, suc, List, [], ◌∷◌}
use Rattle.item_spec.specs.Refusal.{bytes_after}
use Rattle.item_spec.specs.Reader.{Reply, got, refused, Reader}

infixl 20 ◌>>=◌
infixl 20 ◌>>◌
-- on: the value, and the text from the next line on. stop: the refusal's number, and the text from the line at fault on
pub data Run (A : Type 0) : Type 0 where
  on : A → List ℕ → Run A
  stop : ℕ → List ℕ → Run A

abbrev pub Lines : Type 0 → Type 0
Lines A = List ℕ → Run A

abbrev pub run_on : {A B : Type 0} → Run A → (A → Lines B) → Run B
run_on (on a s) f = f a s
run_on (stop n s) f = stop n s

abbrev pub ◌>>=◌ : {A B : Type 0} → Lines A → (A → Lines B) → Lines B
◌>>=◌ m f = λ s. run_on (m s) f

abbrev pub ◌>>◌ : {A B : Type 0} → Lines A → Lines B → Lines B
◌>>◌ m f = λ s. run_on (m s) (λ _. f)

abbrev pub hand_on : {A : Type 0} → A → Lines A
hand_on a = λ s. on a s

abbrev pub line_of : {A : Type 0} → Reply A → List ℕ → Run A
line_of (got a r) s = on a r
line_of (refused n) s = stop n s

-- one line, read by m: "a line that isn't the one due ends the reading", at that line's start
abbrev pub line : {A : Type 0} → Reader A → Lines A
line m = λ s. line_of (m s) s

-- "bytes after the last line due": 5
abbrev pub at_end : Lines (Unit {0})
at_end [] = on tt []
at_end (c ∷ s) = stop bytes_after (c ∷ s)

-- f for n items from number i on, each starting with what the last one gave: "and as many"
unfoldable pub each : {A : Type 0} → (ℕ → A → Lines A) → ℕ → ℕ → A → Lines A
each f zero i a = hand_on a
each f (suc n) i a = do
  b ← f i a
  each f n (suc i) b
