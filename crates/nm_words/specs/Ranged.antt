-- What the words of a machine can be, whatever its actors do within what is permitted.
use Rattle.std.specs.Prelude.{◌≡◌, ℕ, ◌≤◌}
use Rattle.nm_base.specs.Geometry.{Geometry}
use Rattle.nm_base.specs.HomeWord.{IsHomeWord}
use Rattle.nm_base.specs.TableWord.{IsTableInRange}
use Rattle.nm_base.specs.Ranges.{IsWord}
use Rattle.nm_base.specs.ShadowWord.{IsShadowWord}
use Rattle.nm_base.specs.FreeWords.{HasOwnBits}
use Rattle.nm_words.specs.declared.names.Where.{Where}
use Rattle.nm_words.specs.declared.names.Where.TheVariants.{Req, Pte, Stamp, Home, Shadow, Free}
use Rattle.nm_words.specs.Names.{IsPlace}
use Rattle.nm_words.specs.Words.{Words, word_at}

-- what a word can be, where the actors together have made so many bumps and so many raises: the number of bumps is
-- this one, no stamp exceeds the raises, table words and homes name frames in range, shadow words pages and frames
abbrev pub IsRanged : Geometry → ℕ → ℕ → Where → ℕ → Type 0
IsRanged g bumps raises Req word = word ≡ bumps
IsRanged g bumps raises (Pte v) word = IsTableInRange g word
IsRanged g bumps raises (Stamp v) word = word ≤ raises
IsRanged g bumps raises (Home b) word = IsHomeWord g word
IsRanged g bumps raises (Shadow m) word = IsShadowWord g word
IsRanged g bumps raises (Free t k) word = HasOwnBits g t k word
IsRanged g bumps raises _ word = Unit {0}

-- each word of the machine is what it can be
abbrev pub AreRanged : Geometry → ℕ → ℕ → Words → Type 0
AreRanged g bumps raises w = (c : Where) → IsPlace g c → IsRanged g bumps raises c (word_at g w c)

-- each word of the machine has 64 bits
abbrev pub AreWords : Geometry → Words → Type 0
AreWords g w = (c : Where) → IsPlace g c → IsWord (word_at g w c)
