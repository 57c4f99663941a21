-- The lines of a text, and the fields of a line.
use Rattle.std.specs.Prelude.{ℕ, ◌==◌, if◌then◌else◌, List, [], ◌∷◌, Option, Some, None, option_and_then}
use Rattle.nm_text.specs.Cuts.{cut_of, strip_of}

infixl 10 ◌>>=◌
abbrev pub ◌>>=◌ : {A B : Type 0} → Option A → (A → Option B) → Option B
o >>= f = option_and_then f o

-- the line that a byte begins
abbrev pub first_byte : ℕ → List (List ℕ) → List (List ℕ)
first_byte x [] = (x ∷ []) ∷ []
first_byte x (l ∷ ls) = (x ∷ l) ∷ ls

-- the lines of a text: each ends with a newline, which the last may lack
abbrev pub lines_of : List ℕ → List (List ℕ)
lines_of [] = []
lines_of (x ∷ xs) = if x == 10 then [] ∷ lines_of xs else first_byte x (lines_of xs)

-- the field, where nothing was cut from it
abbrev pub uncut : Option (List ℕ × List ℕ) → List ℕ → Option (List ℕ)
uncut None field = Some field
uncut (Some parts) field = None

-- the last field of a line: it has no space
unfoldable pub unspaced_of : List ℕ → Option (List ℕ)
unspaced_of field = uncut (cut_of 32 field) field

-- the one field after a word
unfoldable pub one_of : List ℕ → List ℕ → Option (List ℕ)
one_of word line = do
  rest ← strip_of word line
  unspaced_of rest

-- the two fields after a word
unfoldable pub two_of : List ℕ → List ℕ → Option (List ℕ × List ℕ)
two_of word line = do
  rest ← strip_of word line
  a ← cut_of 32 rest
  b ← unspaced_of a.1
  Some (a.0, b)

-- the three fields after a word
unfoldable pub three_of : List ℕ → List ℕ → Option (List ℕ × List ℕ × List ℕ)
three_of word line = do
  rest ← strip_of word line
  a ← cut_of 32 rest
  b ← cut_of 32 a.1
  c ← unspaced_of b.1
  Some (a.0, b.0, c)
