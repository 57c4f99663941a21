-- The fault of a line: the forms of lines, what each may stand after, and its questions in their order.
use Rattle.std.specs.Prelude.{◌≡◌, ◌≢◌, ℕ, ◌<◌, ◌+◌, ◌==◌, nat_lt, nat_le, ◌&&◌, ◌||◌, ◌⊎◌, Bool, false, IsTrue, List, [], ◌∷◌, ◌++◌, length, Option, Some, None, is_some, is_none, slice_index_or, codes}
use Rattle.std.specs.Option.{unwrap_or}
use Rattle.std.specs.List.{AllByRecursion}
use Rattle.nm_text.specs.Numbers.{number_of}
use Rattle.nm_text.specs.Cuts.{Lacks, cut_of}
use Rattle.nm_base.specs.declared.geometry.VPage.{VPage}
use Rattle.nm_tiers.specs.Tiers.{tier_count}
use Rattle.nm_action.specs.declared.kind.ActionKind.{ActionKind}
use Rattle.nm_script.specs.declared.limits.TheConstants.{MOST_FRAMES, MOST_TURNS}
use Rattle.nm_script.specs.declared.fault.ScriptFault.{ScriptFault}
use Rattle.nm_script.specs.declared.fault.ScriptFault.TheVariants as faults
use Rattle.nm_script.specs.declared.item.Place.TheVariants as places
use Rattle.nm_script.specs.declared.script.Line.TheVariants.{Load, Store, Add, Await}
use Rattle.nm_script.specs.declared.item.Item.{Item}
use Rattle.nm_script.specs.declared.item.Item.TheVariants as items
use Rattle.nm_text.specs.Kinds.{kind_text}
use Rattle.nm_script.specs.Items.{right_text}
use Rattle.nm_script.specs.Told.{Told}
use Rattle.nm_script.specs.Following.{IsOneOf, before_of}

-- ---- forms

-- the first line
abbrev pub IsHeader : List ℕ → Type 0
IsHeader line = (line ≡ codes "nomad 1") ⊎ (line ≡ codes "nomad 2")

-- the migrator, the reclaimer, or the processor of the number that a field spells
pub data Actor : Type 0 where
  migrator : Actor
  reclaimer : Actor
  processor : List ℕ → Actor

-- a further line by its form, with its fields as they are spelled: any bytes without a space
pub data Form : Type 0 where
  page : List ℕ → Form
  tiers : List ℕ → List ℕ → Form
  node : List ℕ → List ℕ → Form
  cpus : List ℕ → Form
  retry : List ℕ → Form
  serial : List ℕ → Form
  shuffle : List ℕ → List ℕ → Form
  plan : List ℕ → Form
  go : Actor → ActionKind → List ℕ → Form
  map : List ℕ → List ℕ → Bool → Form
  cpu : List ℕ → Form
  load : List ℕ → Form
  store : List ℕ → List ℕ → Form
  add : List ℕ → List ℕ → Form
  await : List ℕ → List ℕ → List ℕ → Form

abbrev pub actor_word : Actor → List ℕ
actor_word migrator = codes "m"
actor_word reclaimer = codes "r"
actor_word (processor p) = codes "c" ++ p

-- the words and fields of a line
abbrev pub form_words : Form → List (List ℕ)
form_words (page w) = codes "page" ∷ w ∷ []
form_words (tiers f t) = codes "tiers" ∷ f ∷ t ∷ []
form_words (node d f) = codes "node" ∷ d ∷ f ∷ []
form_words (cpus p) = codes "cpus" ∷ p ∷ []
form_words (retry r) = codes "retry" ∷ r ∷ []
form_words (serial t) = codes "serial" ∷ codes "turns" ∷ t ∷ []
form_words (shuffle n t) = codes "shuffle" ∷ n ∷ codes "turns" ∷ t ∷ []
form_words (plan t) = codes "plan" ∷ codes "turns" ∷ t ∷ []
form_words (go a kind n) = codes "go" ∷ actor_word a ∷ kind_text kind ∷ n ∷ []
form_words (map v b right) = codes "map" ∷ v ∷ b ∷ right_text right ∷ []
form_words (cpu p) = codes "cpu" ∷ p ∷ []
form_words (load place) = codes "load" ∷ place ∷ []
form_words (store place x) = codes "store" ∷ place ∷ x ∷ []
form_words (add place x) = codes "add" ∷ place ∷ x ∷ []
form_words (await place x n) = codes "await" ∷ place ∷ x ∷ n ∷ []

-- words with a space between each two
abbrev pub spaced : List (List ℕ) → List ℕ
spaced [] = []
spaced (w ∷ []) = w
spaced (w ∷ v ∷ ws) = w ++ 32 ∷ spaced (v ∷ ws)

-- the line has the form: it is these words and fields, joined by single spaces, and none of them has a space
abbrev pub IsFormOf : List ℕ → Form → Type 0
IsFormOf line form = (line ≡ spaced (form_words form)) × AllByRecursion (Lacks 32) (form_words form)

-- ---- what a line says

abbrev pub is_number : List ℕ → Bool
is_number field = is_some (number_of field)

-- the number that a field spells; it matters only where the field is one
abbrev pub value_of : List ℕ → ℕ
value_of field = unwrap_or (number_of field) 0

-- a field split at its first dot; without a dot the second part has nothing
abbrev pub dotted : Option (List ℕ × List ℕ) → List ℕ → List ℕ × List ℕ
dotted None field = (field, [])
dotted (Some parts) field = parts

-- V and w of a field V.w
unfoldable pub page_word_of : List ℕ → List ℕ × List ℕ
page_word_of field = dotted (cut_of 46 field) field

-- the number of an actor among this many processors
abbrev pub actor_of : ℕ → Actor → ℕ
actor_of n migrator = n
actor_of n reclaimer = n + 1
actor_of n (processor p) = value_of p

-- the virtual page and the word that V.w spells
abbrev pub page_of_place : List ℕ → ℕ
page_of_place place = value_of (page_word_of place).0

abbrev pub word_of_place : List ℕ → ℕ
word_of_place place = value_of (page_word_of place).1

-- what a line of the form says among this many processors, by the values of its fields
abbrev pub item_of : ℕ → Form → Item
item_of p (page w) = items.Page (value_of w)
item_of p (tiers f t) = items.Tiers (value_of f) (value_of t)
item_of p (node d f) = items.Node (record { distance = value_of d; frames = value_of f })
item_of p (cpus n) = items.Cpus (value_of n)
item_of p (retry r) = items.Retry (value_of r)
item_of p (serial t) = items.Serial (value_of t)
item_of p (shuffle n t) = items.Shuffle (value_of n) (value_of t)
item_of p (plan t) = items.Plan (value_of t)
item_of p (go a kind n) = items.Go (record { actor = actor_of p a; kind = kind; count = value_of n })
item_of p (map v b right) = items.Map (value_of v) (record { page = value_of b; writable = right })
item_of p (cpu n) = items.Cpu (value_of n)
item_of p (load place) = items.Access (Load (page_of_place place) (word_of_place place))
item_of p (store place x) = items.Access (Store (page_of_place place) (word_of_place place) (value_of x))
item_of p (add place x) = items.Access (Add (page_of_place place) (word_of_place place) (value_of x))
item_of p (await place x n) = items.Access (Await (page_of_place place) (word_of_place place) (value_of x) (value_of n))

-- ---- where a line may stand

-- two tiers are of version 1; a node and a retry are of version 2, which has at most sixteen nodes
abbrev pub IsOfVersion : Told → Form → Type 0
IsOfVersion s (tiers f t) = s.version ≡ 1
IsOfVersion s (node d f) = (s.version ≡ 2) × (length s.nodes < 16)
IsOfVersion s (retry r) = s.version ≡ 2
IsOfVersion s form = Unit {0}

-- a line of the form may stand after lines that told s
abbrev pub MayStand : Told → Form → Type 0
MayStand s form = IsOneOf (before_of (item_of s.cpus form)) s.place × IsOfVersion s form

-- ---- questions

-- a question: the fault of a line for which the answer is no, and the answer
abbrev pub Question : Type 0
Question = ScriptFault × Bool

-- a power of two, 1 to 512
abbrev pub is_page_size : ℕ → Bool
is_page_size w = w == 1 || w == 2 || w == 4 || w == 8 || w == 16 || w == 32 || w == 64 || w == 128 || w == 256 || w == 512

-- is the field a number?
abbrev pub number : List ℕ → List Question
number field = (faults.BadNumber, is_number field) ∷ []

-- is it a number, and from low to high?
abbrev pub ranged : ℕ → ℕ → List ℕ → List Question
ranged low high field = number field ++ (faults.OutOfRange, nat_le low (value_of field) && nat_le (value_of field) high) ∷ []

-- is it a number, and below the end?
abbrev pub below : ℕ → List ℕ → List Question
below end field = number field ++ (faults.OutOfRange, nat_lt (value_of field) end) ∷ []

-- V.w: is V the number of a virtual page, and w that of a word of a page?
abbrev pub located : Told → List ℕ → List Question
located s place = ranged 0 4095 (page_word_of place).0 ++ below s.words (page_word_of place).1

-- a processor: is its number one, and below P? m and r have no question
abbrev pub known : Told → Actor → List Question
known s migrator = []
known s reclaimer = []
known s (processor p) = below s.cpus p

-- what is mapped at the virtual page of a field
abbrev pub vpage_of : Told → List ℕ → Option VPage
vpage_of s v = slice_index_or s.vpages (value_of v) None

abbrev pub may_write : Option VPage → Bool
may_write None = false
may_write (Some p) = p.writable

-- is the page of V.w mapped?
abbrev pub mapped : Told → List ℕ → List Question
mapped s place = (faults.Unmapped, is_some (vpage_of s (page_word_of place).0)) ∷ []

-- is it mapped, and writable?
abbrev pub writable : Told → List ℕ → List Question
writable s place = mapped s place ++ (faults.ReadOnly, may_write (vpage_of s (page_word_of place).0)) ∷ []

-- the tiers of the nodes with one more
abbrev pub tiers_with : Told → List ℕ → List ℕ → ℕ
tiers_with s d f = tier_count (s.nodes ++ record { distance = value_of d; frames = value_of f } ∷ [])

-- the questions of a line in their order: all fields from the left, then what was told before
abbrev pub questions : Told → Form → List Question
questions s (page w) = number w ++ (faults.OutOfRange, is_page_size (value_of w)) ∷ []
questions s (tiers f t) = ranged 1 4095 f ++ ranged 1 4095 t ++ (faults.OutOfRange, nat_le (value_of f + value_of t) MOST_FRAMES) ∷ []
questions s (node d f) =
    ranged 0 65535 d ++ ranged 1 4095 f ++ (faults.OutOfRange, nat_le (s.frames + value_of f) MOST_FRAMES) ∷
    (faults.TooManyTiers, nat_le (tiers_with s d f) 4) ∷ []
questions s (cpus p) = ranged 1 16 p ++ (faults.TooFewTiers, nat_le 2 (length s.tiers)) ∷ []
questions s (retry r) = ranged 0 1000 r
questions s (serial t) = ranged 0 MOST_TURNS t
questions s (shuffle n t) = number n ++ ranged 0 MOST_TURNS t
questions s (plan t) = ranged 0 MOST_TURNS t
questions s (go a kind n) = known s a ++ ranged 1 1000000 n
questions s (map v b right) =
    ranged 0 4095 v ++ ranged 0 4095 b ++ (faults.DuplicateMap, is_none (vpage_of s v)) ∷
    (faults.TooManyPages, nat_le (value_of b + 1 + s.cpus + 9) s.frames) ∷ []
questions s (cpu p) = number p ++ (faults.OutOfRange, value_of p == length s.programs && nat_lt (value_of p) s.cpus) ∷ []
questions s (load place) = located s place ++ mapped s place
questions s (store place x) = located s place ++ number x ++ writable s place
questions s (add place x) = located s place ++ number x ++ writable s place
questions s (await place x n) = located s place ++ number x ++ ranged 1 1000000000 n ++ mapped s place

-- the first question with the answer no has this fault: those before it have the answer yes
pub record IsFirstNo (asked : List Question) (f : ScriptFault) : Type 0 where
  pub before : List Question
  pub after : List Question
  pub split : asked ≡ before ++ (f, false) ∷ after
  pub yes : AllByRecursion (λ q. IsTrue q.1) before

-- ---- the fault

-- the fault of a line after lines that told s: the first line is no header; or a further one has no form that may stand
-- here; or it has one, and the fault is that of the first no
abbrev pub IsLineFault : Told → List ℕ → ScriptFault → Type 0
IsLineFault s line f =
    ((s.place ≡ places.Begin) × ¬ IsHeader line × (f ≡ faults.BadHeader))
    ⊎ (((s.place ≢ places.Begin) × ((form : Form) → MayStand s form → ¬ IsFormOf line form) × (f ≡ faults.BadLine))
    ⊎ ((form : Form) × MayStand s form × IsFormOf line form × IsFirstNo (questions s form) f))
