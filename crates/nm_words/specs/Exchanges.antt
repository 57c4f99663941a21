-- What an exchange does to its word.
use Rattle.std.specs.Prelude.{ℕ, ◌+◌, ◌%◌, ◌^◌, ◌==◌, if◌then◌else◌, bit_and, bit_or, bit_xor}
use Rattle.nm_words.specs.declared.exchanges.Change.{Change}
use Rattle.nm_words.specs.declared.exchanges.Change.TheVariants.{Keep, Swap, Put, Add, And, Or, Xor, Take, IfIs}

-- the word after an exchange on it
abbrev pub changed : Change → ℕ → ℕ
changed Keep n = n
changed (Swap x) n = x
changed (Put x) n = x
changed (Add k) n = (n + k) % 2 ^ 64
changed (And k) n = bit_and n k
changed (Or k) n = bit_or n k
changed (Xor k) n = bit_xor n k
changed (Take x) n = if n == 0 then x else n
changed (IfIs old new) n = if n == old then new else n
