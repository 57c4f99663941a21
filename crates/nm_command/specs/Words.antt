-- The forms of the words behind the program's name: a form has one list of words, with each number in its one spelling.
use Rattle.std.specs.Prelude.{◌≡◌, ◌↔◌, ℕ, ◌+◌, ◌<◌, ◌≤◌, ◌^◌, List, [], ◌∷◌, String, map, length, string_bytes, codes, Option, Some, None, IfSome}
use Rattle.std.specs.Fmt.{decimal}
use Rattle.std.specs.List.{AllByRecursion}
use Rattle.std.specs.declared.alloc.Global.{Global}
use Rattle.nm_command.specs.declared.form.Form.{Form}
use Rattle.nm_command.specs.declared.form.Form.TheVariants.{Sim, Gen, Drill, Import, Run, Journal, Check, Lab}

-- the word of a retry: a number, or none
abbrev pub retry_word : Option ℕ → List ℕ
retry_word None = codes "never"
retry_word (Some number) = decimal number

-- a number of a retry is at most 1000
abbrev pub IsRetry : Option ℕ → Type 0
IsRetry retry = IfSome retry (λ number. number ≤ 1000)

-- the words of a form
abbrev pub words_of : Form → List (List ℕ)
words_of Sim = codes "sim" ∷ []
words_of (Gen number size) = codes "gen" ∷ decimal number ∷ decimal size ∷ []
words_of (Drill number size) = codes "drill" ∷ decimal number ∷ decimal size ∷ []
words_of (Import fast slow) = codes "import" ∷ decimal fast ∷ decimal slow ∷ []
words_of Run = codes "run" ∷ []
words_of Journal = codes "journal" ∷ []
words_of Check = codes "check" ∷ []
words_of (Lab retries) = codes "lab" ∷ map retry_word retries

-- a number of 64 bits, and a size of 1 to 100,000
abbrev pub AreNumbers : ℕ → ℕ → Type 0
AreNumbers number size = (number < 2 ^ 64) × (1 ≤ size) × (size ≤ 100000)

-- the frames of a fast and a slow tier: each 1 or more, and at most 4,096 together, so that each is at most 4,095
abbrev pub AreTierSizes : ℕ → ℕ → Type 0
AreTierSizes fast slow = (1 ≤ fast) × (1 ≤ slow) × (fast + slow ≤ 4096)

-- one to eight retries
abbrev pub AreRetries : List (Option ℕ) → Type 0
AreRetries retries = (1 ≤ length retries) × (length retries ≤ 8) × AllByRecursion IsRetry retries

-- the numbers of a form are in range
abbrev pub IsInRange : Form → Type 0
IsInRange (Gen number size) = AreNumbers number size
IsInRange (Drill number size) = AreNumbers number size
IsInRange (Import fast slow) = AreTierSizes fast slow
IsInRange (Lab retries) = AreRetries retries
IsInRange _ = Unit {0}

-- the texts are the words of this form
abbrev pub AreTextsOf : Form → List (List ℕ) → Type 0
AreTextsOf form texts = (texts ≡ words_of form) × IsInRange form

-- the answer to the texts: the form that has them, and none where none has them
abbrev pub IsAnswer : Option Form → List (List ℕ) → Type 0
IsAnswer answer texts = (form : Form) → (answer ≡ Some form) ↔ AreTextsOf form texts

-- the words are those of this form
abbrev pub IsFormOf : Form → List (String Global) → Type 0
IsFormOf form words = AreTextsOf form (map string_bytes words)

-- the words are those of a form
abbrev pub IsForm : List (String Global) → Type 0
IsForm words = (form : Form) × IsFormOf form words

-- the fields say these numbers
abbrev pub SayNumbers : List ℕ → List ℕ → ℕ → ℕ → Type 0
SayNumbers first second number size = (first ≡ decimal number) × (second ≡ decimal size) × AreNumbers number size

-- the fields say these sizes of tiers
abbrev pub SayTierSizes : List ℕ → List ℕ → ℕ → ℕ → Type 0
SayTierSizes first second fast slow = (first ≡ decimal fast) × (second ≡ decimal slow) × AreTierSizes fast slow

-- the word says this retry
abbrev pub SaysRetry : List ℕ → Option ℕ → Type 0
SaysRetry word retry = (word ≡ retry_word retry) × IsRetry retry

-- each word says its retry
abbrev pub SayRetries : List (List ℕ) → List (Option ℕ) → Type 0
SayRetries words retries = (words ≡ map retry_word retries) × AllByRecursion IsRetry retries
