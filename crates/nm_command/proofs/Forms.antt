-- From a command with its fields to the form of the words.
use Rattle.std.proofs.Common.{ap₂, zero, suc, slice_index_or, ◌≡◌, ℕ, ◌==◌, ◌<◌, ◌≤◌, ◌^◌, if◌then◌else◌, true, false, List, [], ◌∷◌, ◌↔◌, map, Option, Some, None, length, codes, refl, sym, ap, subst, ◌∙◌, arith}
use Rattle.std.specs.Borrow.{Bor}
use Rattle.std.proofs.lemmas.List.{length-map}
use Rattle.std.specs.List.{AllByRecursion}
use Rattle.std.specs.Fmt.{decimal}
use Rattle.std.specs.Str.Parse.{digits_value}
use Rattle.std.proofs.lemmas.Fmt.{decimal_injective, decimal_is_IsNumeral}
use Rattle.std.proofs.lemmas.Bool.{eq-eqb}
use Rattle.std.proofs.lemmas.Option.{same_Some, none-some}
use Rattle.nm_text.specs.Numbers.{IsNumber}
use Rattle.nm_text.specs.Cuts.{Lacks}
use Rattle.nm_text.proofs.NumberLemmas.{decimal-lacks}
use Rattle.nm_text.proofs.CutLemmas.{Lacks-first}
use Rattle.nm_command.specs.declared.form.Form.{Form}
use Rattle.nm_command.specs.declared.form.Form.TheVariants.{Sim, Gen, Drill, Import, Run, Journal, Check, Lab}
use Rattle.clap.specs.Faults.{fault_of}
use Rattle.clap.specs.Walk.{Row, texts}
use Rattle.nm_command.specs.declared.line.Fields.{Fields}
use Rattle.nm_command.specs.Line.{AreFields, IsRead, Reads, SaysFields, words_in, is_refused, nomad}
use Rattle.nm_command.specs.Words.{AreTierSizes, IsAnswer, IsInRange, IsRetry, SayNumbers, SayRetries, SayTierSizes, SaysRetry, retry_word, words_of}
use Rattle.nm_command.proofs.Levels.{not_eq}
use Rattle.nm_command.proofs.Splits.{fields_read, taken_lab, taken_pair, taken_single}
use Rattle.nm_command.proofs.Walks.{OfNumbers, OfSizes, pair_drill, pair_gen, pair_import, single_check, single_journal, single_run, single_sim}

-- ---- a form by its words

abbrev letter : List ℕ → ℕ
letter [] = 0
letter (x ∷ xs) = x

-- the texts behind the first, and the first of them
abbrev rest_of : List (List ℕ) → List (List ℕ)
rest_of [] = []
rest_of (x ∷ xs) = xs

abbrev head_of : List (List ℕ) → List ℕ
head_of [] = []
head_of (x ∷ xs) = x

-- the number that a text of digits says
abbrev number_in : List ℕ → ℕ
number_in text = digits_value 10 text

number_read : (n : ℕ) → n < 2 ^ 64 → number_in (decimal n) ≡ n
number_read n h = (decimal_is_IsNumeral n h).1

-- the retry that a word says
abbrev retry_in : List ℕ → Option ℕ
retry_in word = if letter word == 110 then None else Some (number_in word)

first_letter : (c : ℕ) (text : List ℕ) → Lacks c text → (c == 0) ≡ false → (letter text == c) ≡ false
first_letter c [] h some = not_eq 0 c (λ e. let hit : (c == 0) ≡ true = eq-eqb c 0 (sym e) in cc)
first_letter c (x ∷ xs) h some = not_eq x c (Lacks-first c x xs h).0

retry_read : (r : Option ℕ) → IsRetry r → retry_in (retry_word r) ≡ r
retry_read None h = refl
retry_read (Some n) h =
    let most : n < 2 ^ 64 = omega (arith, h) in
    rw (first_letter 110 (decimal n) (decimal-lacks n 110 most refl) refl, number_read n most) refl

retries_read : (rs : List (Option ℕ)) → AllByRecursion IsRetry rs → map retry_in (map retry_word rs) ≡ rs
retries_read [] h = refl
retries_read (r ∷ rs) h = rw (retry_read r h.0, retries_read rs h.1) refl

-- the form with this letter and these words behind it
abbrev form_by : ℕ → List (List ℕ) → Form
form_by c fields =
    if c == 115 then Sim
    else if c == 103 then Gen (number_in (head_of fields)) (number_in (head_of (rest_of fields)))
    else if c == 100 then Drill (number_in (head_of fields)) (number_in (head_of (rest_of fields)))
    else if c == 105 then Import (number_in (head_of fields)) (number_in (head_of (rest_of fields)))
    else if c == 114 then Run
    else if c == 106 then Journal
    else if c == 99 then Check
    else Lab (map retry_in fields)

abbrev form_in : List (List ℕ) → Form
form_in texts = form_by (letter (head_of texts)) (rest_of texts)

form_read : (form : Form) → IsInRange form → form_in (words_of form) ≡ form
form_read Sim h = refl
form_read (Gen n s) h = rw (number_read n h.0, number_read s (omega (arith, h.2))) refl
form_read (Drill n s) h = rw (number_read n h.0, number_read s (omega (arith, h.2))) refl
form_read (Import f s) h = rw (number_read f (omega (arith, h.2)), number_read s (omega (arith, h.2))) refl
form_read Run h = refl
form_read Journal h = refl
form_read Check h = refl
form_read (Lab rs) h = rw (retries_read rs h.2) refl

-- words of a form are those of no other
pub only_form : (own : Form) → IsInRange own → IsAnswer (Some own) (words_of own)
only_form own range form = (
  λ e. let same : own ≡ form = same_Some _ _ e in (ap words_of same, subst IsInRange same range),
  λ h. ap (λ (f : Form). Some f) (sym (form_read own range) ∙ ap form_in h.0 ∙ form_read form h.1),
)

-- ---- fields, and the form that they say

pub gen_form_is : (first second : List ℕ) (n s : ℕ) → SayNumbers first second n s → IsAnswer (Some (Gen n s)) (codes "gen" ∷ first ∷ second ∷ [])
gen_form_is first second n s h =
    subst (λ t. IsAnswer (Some (Gen n s)) (codes "gen" ∷ t)) (ap₂ (λ (a b : List ℕ). a ∷ b ∷ []) (sym h.0) (sym h.1)) (only_form (Gen n s) h.2)

pub drill_form_is : (first second : List ℕ) (n s : ℕ) → SayNumbers first second n s → IsAnswer (Some (Drill n s)) (codes "drill" ∷ first ∷ second ∷ [])
drill_form_is first second n s h =
    subst (λ t. IsAnswer (Some (Drill n s)) (codes "drill" ∷ t)) (ap₂ (λ (a b : List ℕ). a ∷ b ∷ []) (sym h.0) (sym h.1)) (only_form (Drill n s) h.2)

pub import_form_is : (first second : List ℕ) (f s : ℕ) → SayTierSizes first second f s → IsAnswer (Some (Import f s)) (codes "import" ∷ first ∷ second ∷ [])
import_form_is first second f s h =
    subst (λ t. IsAnswer (Some (Import f s)) (codes "import" ∷ t)) (ap₂ (λ (a b : List ℕ). a ∷ b ∷ []) (sym h.0) (sym h.1)) (only_form (Import f s) h.2)

pub lab_form_is : (words : List (List ℕ)) (retries : List (Option ℕ)) → SayRetries words retries → 1 ≤ length words → length words ≤ 8 → IsAnswer (Some (Lab retries)) (codes "lab" ∷ words)
lab_form_is words retries h least most =
    let size : length words ≡ length retries = ap length h.0 ∙ length-map retries retry_word in
    subst (λ t. IsAnswer (Some (Lab retries)) (codes "lab" ∷ t)) (sym h.0) (only_form (Lab retries) (omega (arith, size, least), omega (arith, size, most), h.1))

-- ---- what clap takes, and what it refuses

-- a number is no option, and not the word help
plain_field : (field : List ℕ) → Lacks 45 field → Lacks 104 field → is_refused field ≡ false
plain_field [] h k = refl
plain_field (x ∷ xs) h k = rw (not_eq x 45 (Lacks-first 45 x xs h).0, not_eq x 104 (Lacks-first 104 x xs k).0) refl

number_field : (n : ℕ) → n < 2 ^ 64 → is_refused (decimal n) ≡ false
number_field n h = plain_field (decimal n) (decimal-lacks n 45 h refl) (decimal-lacks n 104 h refl)

retry_field : (r : Option ℕ) → IsRetry r → is_refused (retry_word r) ≡ false
retry_field None h = refl
retry_field (Some n) h = number_field n (omega (arith, h))

retry_fields : (rs : List (Option ℕ)) → AllByRecursion IsRetry rs → AreFields (map retry_word rs)
retry_fields [] h = tt
retry_fields (r ∷ rs) h = (retry_field r h.0, retry_fields rs h.1)

number_fields : (m n : ℕ) → m < 2 ^ 64 → n < 2 ^ 64 → AreFields (decimal m ∷ decimal n ∷ [])
number_fields m n g h = (number_field m g, (number_field n h, tt))

-- the words of a form are no options
form_fields : (form : Form) → IsInRange form → AreFields (words_of form)
form_fields Sim h = (refl, tt)
form_fields (Gen n s) h = (refl, number_fields n s h.0 (omega (arith, h.2)))
form_fields (Drill n s) h = (refl, number_fields n s h.0 (omega (arith, h.2)))
form_fields (Import f s) h = (refl, number_fields f s (omega (arith, h.2)) (omega (arith, h.2)))
form_fields Run h = (refl, tt)
form_fields Journal h = (refl, tt)
form_fields Check h = (refl, tt)
form_fields (Lab rs) h = (refl, retry_fields rs h.2)

-- clap takes the words of a form
form_taken : (form : Form) → IsInRange form → AreFields (words_of form) → fault_of nomad (words_of form) ≡ []
form_taken Sim h f = taken_single (codes "sim") single_sim
form_taken (Gen n s) h f = taken_pair OfNumbers (codes "gen") (decimal n) (decimal s) pair_gen f.1
form_taken (Drill n s) h f = taken_pair OfNumbers (codes "drill") (decimal n) (decimal s) pair_drill f.1
form_taken (Import n s) h f = taken_pair OfSizes (codes "import") (decimal n) (decimal s) pair_import f.1
form_taken Run h f = taken_single (codes "run") single_run
form_taken Journal h f = taken_single (codes "journal") single_journal
form_taken Check h f = taken_single (codes "check") single_check
form_taken (Lab rs) h f =
    let size : length (map retry_word rs) ≡ length rs = length-map rs retry_word in
    taken_lab (map retry_word rs) f.1 (omega (arith, size, h.0)) (omega (arith, size, h.1))

form_some : (form : Form) → words_of form ≡ [] → ⊥
form_some Sim e = cc e
form_some (Gen n s) e = cc e
form_some (Drill n s) e = cc e
form_some (Import f s) e = cc e
form_some Run e = cc e
form_some Journal e = cc e
form_some Check e = cc e
form_some (Lab rs) e = cc e

-- words that clap refuses are those of no form
pub none_read_answer : (words : List (List ℕ)) → Reads words None → IsAnswer None words
none_read_answer words none form = (
  λ e. absurd (none-some _ e),
  λ h.
      let fields = form_fields form h.1 in
      let empty = none (subst AreFields (sym h.0) fields) (ap (fault_of nomad) h.0 ∙ form_taken form h.1 fields) in
      absurd (form_some form (sym h.0 ∙ empty)),
)

-- words that clap takes have the answer that their fields have
pub read_answer : (met : Option (List ℕ × List Row)) (r : Option Fields) (f : Fields) (o : Option Form) → r ≡ Some f → SaysFields met r → IsAnswer o (words_in f) → (words : List (List ℕ)) → IsRead words met → IsAnswer o words
read_answer met r f o is said answer words h = subst (IsAnswer o) (sym (fields_read words met r f is said h).0) answer

-- ---- words of retries

pub never_said : (word : List ℕ) → word ≡ codes "never" → (r : Option ℕ) → (◌≡◌ {A = Option (Option ℕ)} (Some None) (Some r)) ↔ SaysRetry word r
never_said word is r = (
  λ e. let same : None ≡ r = same_Some _ _ e in subst (SaysRetry word) same (is, tt),
  λ h. ap (λ (o : Option ℕ). Some o) (ap retry_in (sym is ∙ h.0) ∙ retry_read r h.1),
)

pub number_said : (word : List ℕ) (n : ℕ) → IsNumber word n → n ≤ 1000 → (r : Option ℕ) → (◌≡◌ {A = Option (Option ℕ)} (Some (Some n)) (Some r)) ↔ SaysRetry word r
number_said word n is most r = (
  λ e. let same : Some n ≡ r = same_Some _ _ e in subst (SaysRetry word) same (is.1, most),
  λ h. ap (λ (o : Option ℕ). Some o) (sym (retry_read (Some n) most) ∙ ap retry_in (sym is.1 ∙ h.0) ∙ retry_read r h.1),
)

pub none_said : (word : List ℕ) → (word ≡ codes "never" → ⊥) → ((n : ℕ) → IsNumber word n → n ≤ 1000 → ⊥) → (r : Option ℕ) → (◌≡◌ {A = Option (Option ℕ)} None (Some r)) ↔ SaysRetry word r
none_said word never not r = ((λ e. absurd (none-some _ e)), no r)
  where
    no : (o : Option ℕ) → SaysRetry word o → ◌≡◌ {A = Option (Option ℕ)} None (Some r)
    no None h = absurd (never h.0)
    no (Some n) h = absurd (not n (omega (arith, h.1), h.0) h.1)

pub large_said : (word : List ℕ) (m : ℕ) → (word ≡ codes "never" → ⊥) → IsNumber word m → 1000 < m → (r : Option ℕ) → (◌≡◌ {A = Option (Option ℕ)} None (Some r)) ↔ SaysRetry word r
large_said word m never is large =
    none_said word never (λ n h most. let same : m ≡ n = decimal_injective m n is.0 h.0 (sym is.1 ∙ h.1) in absurd (omega (arith, same, most, large)))

-- no retries say words among which one says none
pub none_said_at : (ws : List (Bor (List ℕ))) (i : ℕ) (d : Bor (List ℕ)) → i < length ws → ((r : Option ℕ) → SaysRetry (slice_index_or ws i d).now r → ⊥) → (rs : List (Option ℕ)) → SayRetries (texts ws) rs → ⊥
none_said_at [] i d low not rs h = absurd (omega (arith, low))
none_said_at (x ∷ xs) i d low not [] h = absurd (cc h.0)
none_said_at (x ∷ xs) zero d low not (r ∷ rs) h = not r (ap head_of h.0, h.1.0)
none_said_at (x ∷ xs) (suc i) d low not (r ∷ rs) h = none_said_at xs i d (omega (arith, low)) not rs (ap rest_of h.0, h.1.1)

-- ---- fields of numbers

-- a field is the spelling of one number
same_number : (field : List ℕ) (m n : ℕ) → IsNumber field m → field ≡ decimal n → n < 2 ^ 64 → m ≡ n
same_number field m n h k low = decimal_injective m n h.0 low (sym h.1 ∙ k)

pub numbers_are : (first second : List ℕ) (number size n s : ℕ) → IsNumber first number → IsNumber second size → 1 ≤ size → size ≤ 100000 → (◌≡◌ {A = Option (ℕ × ℕ)} (Some (number, size)) (Some (n, s))) ↔ SayNumbers first second n s
numbers_are first second number size n s f g low high = (
  λ e.
      let same : ◌≡◌ {A = ℕ × ℕ} (number, size) (n, s) = same_Some _ _ e in
      let a : number ≡ n = ap (λ p. p.0) same in
      let b : size ≡ s = ap (λ p. p.1) same in
      subst (λ m. SayNumbers first second m s) a (subst (λ t. SayNumbers first second number t) b (f.1, g.1, (f.0, low, high))),
  λ h.
      let a = same_number first number n f h.0 h.2.0 in
      let b = same_number second size s g h.1 (omega (arith, h.2.2)) in
      ap {A = ℕ} {B = Option (ℕ × ℕ)} (λ m. Some (m, size)) a ∙ ap {A = ℕ} {B = Option (ℕ × ℕ)} (λ t. Some (n, t)) b,
)

pub no_numbers : (first second : List ℕ) (m : ℕ) → IsNumber second m → (1 ≤ m → m ≤ 100000 → ⊥) → (n s : ℕ) → (◌≡◌ {A = Option (ℕ × ℕ)} None (Some (n, s))) ↔ SayNumbers first second n s
no_numbers first second m g not n s = (
  λ e. absurd (none-some _ e),
  λ h. let b = same_number second m s g h.1 (omega (arith, h.2.2)) in absurd (not (omega (arith, b, h.2.1)) (omega (arith, b, h.2.2))),
)

pub sizes_are : (first second : List ℕ) (fast slow f s : ℕ) → IsNumber first fast → IsNumber second slow → AreTierSizes fast slow → (◌≡◌ {A = Option (ℕ × ℕ)} (Some (fast, slow)) (Some (f, s))) ↔ SayTierSizes first second f s
sizes_are first second fast slow f s g h sizes = (
  λ e.
      let same : ◌≡◌ {A = ℕ × ℕ} (fast, slow) (f, s) = same_Some _ _ e in
      let a : fast ≡ f = ap (λ p. p.0) same in
      let b : slow ≡ s = ap (λ p. p.1) same in
      subst (λ m. SayTierSizes first second m s) a (subst (λ t. SayTierSizes first second fast t) b (g.1, h.1, sizes)),
  λ k.
      let a = same_number first fast f g k.0 (omega (arith, k.2.2)) in
      let b = same_number second slow s h k.1 (omega (arith, k.2.2)) in
      ap {A = ℕ} {B = Option (ℕ × ℕ)} (λ m. Some (m, slow)) a ∙ ap {A = ℕ} {B = Option (ℕ × ℕ)} (λ n. Some (f, n)) b,
)

pub no_sizes : (first second : List ℕ) (fast slow : ℕ) → IsNumber first fast → IsNumber second slow → (AreTierSizes fast slow → ⊥) → (f s : ℕ) → (◌≡◌ {A = Option (ℕ × ℕ)} None (Some (f, s))) ↔ SayTierSizes first second f s
no_sizes first second fast slow g h not f s = (
  λ e. absurd (none-some _ e),
  λ k.
      let a = same_number first fast f g k.0 (omega (arith, k.2.2)) in
      let b = same_number second slow s h k.1 (omega (arith, k.2.2)) in
      absurd (not (omega (arith, a, k.2.0), omega (arith, b, k.2.1), omega (arith, a, b, k.2.2))),
)
