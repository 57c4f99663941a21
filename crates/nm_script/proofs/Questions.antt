-- What is read of a line is what its questions let through, or the fault of the first no.
use Rattle.std.proofs.Common.{◌≡◌, ℕ, ◌+◌, ◌==◌, nat_lt, nat_le, ◌&&◌, Bool, true, false, not, List, [], ◌∷◌, ◌++◌, length, Option, Some, None, is_some, Result, Ok, Err, codes, refl, ap, ◌∙◌}
use Rattle.std.specs.Bool.{if◌then◌else◌}
use Rattle.std.specs.Prelude.{is_none}
use Rattle.std.specs.Option.{unwrap_or}
use Rattle.std.specs.List.{AllByRecursion}
use Rattle.std.proofs.lemmas.Bool.{ltb-true, ltb-false, le-leb, lt-leb}
use Rattle.std.proofs.lemmas.List.{append-nil}
use Rattle.nm_text.specs.Numbers.{number_of}
use Rattle.nm_text.proofs.CutLemmas.{strip_of-again}
use Rattle.nm_base.specs.declared.geometry.VPage.{VPage}
use Rattle.nm_base.proofs.Pages as pages
use Rattle.nm_tiers.specs.declared.nodes.Node.{Node}
use Rattle.nm_script.specs.declared.fault.ScriptFault.{ScriptFault}
use Rattle.nm_script.specs.declared.fault.ScriptFault.TheVariants as faults
use Rattle.nm_script.specs.declared.script.Line.{Line}
use Rattle.nm_script.specs.declared.script.Line.TheVariants.{Load, Store, Add, Await}
use Rattle.nm_script.specs.declared.item.Item.{Item}
use Rattle.nm_script.specs.declared.item.Item.TheVariants as items
use Rattle.nm_script.specs.LineFaults.{page_word_of}
use Rattle.nm_script.specs.Told.{Told, with_item}
use Rattle.nm_script.specs.LineFaults as forms
use Rattle.nm_script.specs.LineFaults.{Actor, Form, actor_word, Question, is_number, value_of, actor_of, page_of_place, word_of_place, item_of, number, ranged, below, located, known, vpage_of, may_write, mapped, writable, tiers_with, questions, IsFirstNo}
use Rattle.nm_script.specs.LineFaults.{is_page_size}
use Rattle.nm_script.specs.Reading.{◌>>=◌, or_bad, number_in, ranged_in, below_in, page_in, tiers_in, node_in, cpus_in, retry_in, serial_in, shuffle_in, plan_in, cpu_after, actor_in, go_in, map_in, cpu_in, place_in, reached, load_in, store_in, add_in, await_in, ruled}
use Rattle.nm_script.proofs.Says.{page_size}

-- ---- questions and answers

-- what is read where every answer is yes, or the fault of the first no
abbrev pub answered : {A : Type 0} → List Question → A → Result A ScriptFault
answered [] x = Ok x
answered (q ∷ qs) x = if q.1 then answered qs x else Err q.0

asked_then : {A B : Type 0} (qs rs : List Question) (x : A) (g : A → Result B ScriptFault) (y : B) → g x ≡ answered rs y → (answered qs x >>= g) ≡ answered (qs ++ rs) y
asked_then [] rs x g y e = e
asked_then ((f, true) ∷ qs) rs x g y e = asked_then qs rs x g y e
asked_then ((f, false) ∷ qs) rs x g y e = refl

-- one reading after another asks its questions after those of the first
chain : {A B : Type 0} (r : Result A ScriptFault) (g : A → Result B ScriptFault) (qs rs : List Question) (x : A) (y : B) → r ≡ answered qs x → g x ≡ answered rs y → (r >>= g) ≡ answered (qs ++ rs) y
chain r g qs rs x y e h = ap (λ t. t >>= g) e ∙ asked_then qs rs x g y h

first_no-refuses : {A : Type 0} (before after : List Question) (f : ScriptFault) (x : A) → AllByRecursion (λ q. q.1 ≡ true) before → answered (before ++ (f, false) ∷ after) x ≡ Err f
first_no-refuses [] after f x all = refl
first_no-refuses ((g, b) ∷ before) after f x all = rw all.0 (first_no-refuses before after f x all.1)

-- the first no refuses the line with its fault
pub no-refuses : {A : Type 0} (qs : List Question) (f : ScriptFault) (x : A) → IsFirstNo qs f → answered qs x ≡ Err f
no-refuses qs f x first = ap (λ l. answered l x) first.split ∙ first_no-refuses first.before first.after f x first.yes

-- a fault is that of the first no
pub refused-no : {A : Type 0} (qs : List Question) (f : ScriptFault) (x : A) → answered qs x ≡ Err f → IsFirstNo qs f
refused-no [] f x e = absurd (cc)
refused-no ((g, true) ∷ qs) f x e =
    let first = refused-no qs f x e in
    record { before = (g, true) ∷ first.before; after = first.after; split = ap (λ l. (g, true) ∷ l) first.split; yes = (refl, first.yes) }
refused-no ((g, false) ∷ qs) f x e =
    let same : g ≡ f = cc in
    record { before = []; after = qs; split = ap (λ h. (h, false) ∷ qs) same; yes = tt }

-- ---- the fields

bad-asks : (o : Option ℕ) → or_bad o ≡ answered ((faults.BadNumber, is_some o) ∷ []) (unwrap_or o 0)
bad-asks None = refl
bad-asks (Some n) = refl

number-asks : (field : List ℕ) → number_in field ≡ answered (number field) (value_of field)
unfolding number_in
number-asks field = bad-asks (number_of field)

ranged-asks : (low high : ℕ) (field : List ℕ) → ranged_in low high field ≡ answered (ranged low high field) (value_of field)
unfolding ranged_in
ranged-asks low high field = chain (number_in field) _ (number field) ((faults.OutOfRange, nat_le low (value_of field) && nat_le (value_of field) high) ∷ []) (value_of field) (value_of field) (number-asks field) refl

below-asks : (end : ℕ) (field : List ℕ) → below_in end field ≡ answered (below end field) (value_of field)
unfolding below_in
below-asks end field = chain (number_in field) _ (number field) ((faults.OutOfRange, nat_lt (value_of field) end) ∷ []) (value_of field) (value_of field) (number-asks field) refl

-- two tests with one fault, of which the second holds only where the first does
both_tests : {A : Type 0} (a b : Bool) (x : A) (f : ScriptFault) → (b ≡ true → a ≡ true) → answered ((f, a) ∷ (f, b) ∷ []) x ≡ answered ((f, b) ∷ []) x
both_tests true b x f h = refl
both_tests false true x f h = let other = h refl in absurd (cc)
both_tests false false x f h = refl

size_ranged : (w : ℕ) → is_page_size w ≡ true → (nat_le 1 w && nat_le w 512) ≡ true
size_ranged w e =
    let range = pages.page_size w (page_size w e) in
    rw (le-leb 1 w range.0, le-leb w 512 range.1) refl

page-asks : (s : Told) (w : List ℕ) → page_in w ≡ answered (questions s (forms.page w)) (items.Page (value_of w))
unfolding page_in
page-asks s w =
    let all = chain (ranged_in 1 512 w) _ (ranged 1 512 w) ((faults.OutOfRange, is_page_size (value_of w)) ∷ []) (value_of w) (items.Page (value_of w)) (ranged-asks 1 512 w) refl in
    all ∙ ap (λ r. if is_number w then r else Err faults.BadNumber) (both_tests (nat_le 1 (value_of w) && nat_le (value_of w) 512) (is_page_size (value_of w)) (items.Page (value_of w)) faults.OutOfRange (size_ranged (value_of w)))

tiers-asks : (s : Told) (f t : List ℕ) → tiers_in (f, t) ≡ answered (questions s (forms.tiers f t)) (items.Tiers (value_of f) (value_of t))
unfolding tiers_in
tiers-asks s f t =
    let sum : List Question = (faults.OutOfRange, nat_le (value_of f + value_of t) 4096) ∷ [] in
    chain (ranged_in 1 4095 f) _ (ranged 1 4095 f) (ranged 1 4095 t ++ sum) (value_of f) _ (ranged-asks 1 4095 f) (chain (ranged_in 1 4095 t) _ (ranged 1 4095 t) sum (value_of t) (items.Tiers (value_of f) (value_of t)) (ranged-asks 1 4095 t) refl)

-- at most, for not above
at_most : (a b : ℕ) → nat_le a b ≡ not (nat_lt b a)
at_most a b = go (nat_lt b a) refl
  where
    go : (c : Bool) → nat_lt b a ≡ c → nat_le a b ≡ not c
    go true e = lt-leb a b (ltb-true _ _ e)
    go false e = le-leb a b (ltb-false _ _ e)

-- a test that refuses, for the question that it answers
turned : {A : Type 0} (b c : Bool) (f : ScriptFault) (r : Result A ScriptFault) → c ≡ not b → (if b then Err f else r) ≡ (if c then r else Err f)
turned true c f r e = rw e refl
turned false c f r e = rw e refl

abbrev node_of : List ℕ → List ℕ → Node
node_of d f = record { distance = value_of d; frames = value_of f }

node-asks : (s : Told) (d f : List ℕ) → (node_in s.frames (d, f) >>= ruled s) ≡ answered (questions s (forms.node d f)) (with_item s (items.Node (node_of d f)))
unfolding node_in
node-asks s d f =
    let sum : List Question = (faults.OutOfRange, nat_le (s.frames + value_of f) 4096) ∷ [] in
    let qs : List Question = ranged 0 65535 d ++ ranged 1 4095 f ++ sum in
    let read : node_in s.frames (d, f) ≡ answered qs (items.Node (node_of d f)) =
    chain (ranged_in 0 65535 d) _ (ranged 0 65535 d) (ranged 1 4095 f ++ sum) (value_of d) _ (ranged-asks 0 65535 d) (chain (ranged_in 1 4095 f) _ (ranged 1 4095 f) sum (value_of f) (items.Node (node_of d f)) (ranged-asks 1 4095 f) refl) in
    chain (node_in s.frames (d, f)) (ruled s) qs ((faults.TooManyTiers, nat_le (tiers_with s d f) 4) ∷ []) (items.Node (node_of d f)) _ read (turned _ _ _ _ (at_most (tiers_with s d f) 4))

cpus-asks : (s : Told) (p : List ℕ) → cpus_in (length s.tiers) p ≡ answered (questions s (forms.cpus p)) (items.Cpus (value_of p))
unfolding cpus_in
cpus-asks s p = chain (ranged_in 1 16 p) _ (ranged 1 16 p) ((faults.TooFewTiers, nat_le 2 (length s.tiers)) ∷ []) (value_of p) (items.Cpus (value_of p)) (ranged-asks 1 16 p) (turned _ _ _ _ (at_most 2 (length s.tiers)))

retry-asks : (s : Told) (r : List ℕ) → retry_in r ≡ answered (questions s (forms.retry r)) (items.Retry (value_of r))
unfolding retry_in
retry-asks s r = chain (ranged_in 0 1000 r) _ (ranged 0 1000 r) [] (value_of r) (items.Retry (value_of r)) (ranged-asks 0 1000 r) refl

serial-asks : (s : Told) (t : List ℕ) → serial_in t ≡ answered (questions s (forms.serial t)) (items.Serial (value_of t))
unfolding serial_in
serial-asks s t = chain (ranged_in 0 8000000 t) _ (ranged 0 8000000 t) [] (value_of t) (items.Serial (value_of t)) (ranged-asks 0 8000000 t) refl

shuffle-asks : (s : Told) (n t : List ℕ) → shuffle_in (n, t) ≡ answered (questions s (forms.shuffle n t)) (items.Shuffle (value_of n) (value_of t))
unfolding shuffle_in
shuffle-asks s n t = chain (number_in n) _ (number n) (ranged 0 8000000 t) (value_of n) _ (number-asks n) (chain (ranged_in 0 8000000 t) _ (ranged 0 8000000 t) [] (value_of t) (items.Shuffle (value_of n) (value_of t)) (ranged-asks 0 8000000 t) refl)

plan-asks : (s : Told) (t : List ℕ) → plan_in t ≡ answered (questions s (forms.plan t)) (items.Plan (value_of t))
unfolding plan_in
plan-asks s t = chain (ranged_in 0 8000000 t) _ (ranged 0 8000000 t) [] (value_of t) (items.Plan (value_of t)) (ranged-asks 0 8000000 t) refl

actor-asks : (s : Told) (a : Actor) → actor_in s.cpus (actor_word a) ≡ answered (known s a) (actor_of s.cpus a)
unfolding actor_in cpu_after
actor-asks s forms.migrator = refl
actor-asks s forms.reclaimer = refl
actor-asks s (forms.processor p) = ap (cpu_after s.cpus) (strip_of-again (codes "c") p) ∙ below-asks s.cpus p

go-asks : (s : Told) (a : Actor) (kind : _) (n : List ℕ) → go_in s.cpus (actor_word a, kind, n) ≡ answered (questions s (forms.go a kind n)) (items.Go (record { actor = actor_of s.cpus a; kind = kind; count = value_of n }))
unfolding go_in
go-asks s a kind n = chain (actor_in s.cpus (actor_word a)) _ (known s a) (ranged 1 1000000 n) (actor_of s.cpus a) _ (actor-asks s a) (chain (ranged_in 1 1000000 n) _ (ranged 1 1000000 n) [] (value_of n) _ (ranged-asks 1 1000000 n) refl)

none_not : {A : Type 0} (o : Option A) → is_none o ≡ not (is_some o)
none_not o = refl

map-asks : (s : Told) (v b : List ℕ) (right : Bool) → map_in s (v, b, right) ≡ answered (questions s (forms.map v b right)) (items.Map (value_of v) (record { page = value_of b; writable = right }))
unfolding map_in
map-asks s v b right =
    let told : List Question = (faults.DuplicateMap, is_none (vpage_of s v)) ∷ (faults.TooManyPages, nat_le (value_of b + 1 + s.cpus + 9) s.frames) ∷ [] in
    let last = turned (nat_lt s.frames (value_of b + 1 + s.cpus + 9)) (nat_le (value_of b + 1 + s.cpus + 9) s.frames) faults.TooManyPages (Ok (items.Map (value_of v) (record { page = value_of b; writable = right }))) (at_most (value_of b + 1 + s.cpus + 9) s.frames) in
    let tests = turned (is_some (vpage_of s v)) (is_none (vpage_of s v)) faults.DuplicateMap _ (none_not (vpage_of s v)) ∙ ap (λ r. if is_none (vpage_of s v) then r else Err faults.DuplicateMap) last in
    chain (ranged_in 0 4095 v) _ (ranged 0 4095 v) (ranged 0 4095 b ++ told) (value_of v) _ (ranged-asks 0 4095 v) (chain (ranged_in 0 4095 b) _ (ranged 0 4095 b) told (value_of b) _ (ranged-asks 0 4095 b) tests)

cpu-asks : (s : Told) (p : List ℕ) → cpu_in s p ≡ answered (questions s (forms.cpu p)) (items.Cpu (value_of p))
unfolding cpu_in
cpu-asks s p = chain (number_in p) _ (number p) ((faults.OutOfRange, value_of p == length s.programs && nat_lt (value_of p) s.cpus) ∷ []) (value_of p) (items.Cpu (value_of p)) (number-asks p) refl

-- ---- accesses

place-asks : (s : Told) (place : List ℕ) → place_in s.words place ≡ answered (located s place) (page_of_place place, word_of_place place)
unfolding place_in
place-asks s place =
    let v = (page_word_of place).0 in
    let w = (page_word_of place).1 in
    chain (ranged_in 0 4095 v) _ (ranged 0 4095 v) (below s.words w) (value_of v) (value_of v, value_of w) (ranged-asks 0 4095 v) (chain (below_in s.words w) _ (below s.words w) [] (value_of w) (value_of v, value_of w) (below-asks s.words w) refl)

reads-asks : (o : Option VPage) (l : Line) → reached o false l ≡ answered ((faults.Unmapped, is_some o) ∷ []) (items.Access l)
reads-asks None l = refl
reads-asks (Some p) l = refl

writes-asks : (o : Option VPage) (l : Line) → reached o true l ≡ answered ((faults.Unmapped, is_some o) ∷ (faults.ReadOnly, may_write o) ∷ []) (items.Access l)
writes-asks None l = refl
writes-asks (Some p) l = go p.writable
  where
    go : (w : Bool) → ◌≡◌ {A = Result Item ScriptFault} (if true && (if w then false else true) then Err faults.ReadOnly else Ok (items.Access l)) (if w then Ok (items.Access l) else Err faults.ReadOnly)
    go true = refl
    go false = refl

load-asks : (s : Told) (place : List ℕ) → load_in s place ≡ answered (questions s (forms.load place)) (items.Access (Load (page_of_place place) (word_of_place place)))
unfolding load_in
load-asks s place = chain (place_in s.words place) _ (located s place) (mapped s place) _ _ (place-asks s place) (reads-asks (vpage_of s (page_word_of place).0) _)

store-asks : (s : Told) (place x : List ℕ) → store_in s (place, x) ≡ answered (questions s (forms.store place x)) (items.Access (Store (page_of_place place) (word_of_place place) (value_of x)))
unfolding store_in
store-asks s place x = chain (place_in s.words place) _ (located s place) (number x ++ writable s place) _ _ (place-asks s place) (chain (number_in x) _ (number x) (writable s place) (value_of x) _ (number-asks x) (writes-asks (vpage_of s (page_word_of place).0) _))

add-asks : (s : Told) (place x : List ℕ) → add_in s (place, x) ≡ answered (questions s (forms.add place x)) (items.Access (Add (page_of_place place) (word_of_place place) (value_of x)))
unfolding add_in
add-asks s place x = chain (place_in s.words place) _ (located s place) (number x ++ writable s place) _ _ (place-asks s place) (chain (number_in x) _ (number x) (writable s place) (value_of x) _ (number-asks x) (writes-asks (vpage_of s (page_word_of place).0) _))

await-asks : (s : Told) (place x n : List ℕ) → await_in s (place, x, n) ≡ answered (questions s (forms.await place x n)) (items.Access (Await (page_of_place place) (word_of_place place) (value_of x) (value_of n)))
unfolding await_in
await-asks s place x n =
    chain (place_in s.words place) _ (located s place) (number x ++ ranged 1 1000000000 n ++ mapped s place) _ _ (place-asks s place)
    (chain (number_in x) _ (number x) (ranged 1 1000000000 n ++ mapped s place) (value_of x) _ (number-asks x)
    (chain (ranged_in 1 1000000000 n) _ (ranged 1 1000000000 n) (mapped s place) (value_of n) _ (ranged-asks 1 1000000000 n) (reads-asks (vpage_of s (page_word_of place).0) _)))

-- ---- a line of a form

-- what is read of a line of the form
abbrev pub read_as : Told → Form → Result Item ScriptFault
read_as s (forms.page w) = page_in w
read_as s (forms.tiers f t) = tiers_in (f, t)
read_as s (forms.node d f) = node_in s.frames (d, f)
read_as s (forms.cpus p) = cpus_in (length s.tiers) p
read_as s (forms.retry r) = retry_in r
read_as s (forms.serial t) = serial_in t
read_as s (forms.shuffle n t) = shuffle_in (n, t)
read_as s (forms.plan t) = plan_in t
read_as s (forms.go a kind n) = go_in s.cpus (actor_word a, kind, n)
read_as s (forms.map v b right) = map_in s (v, b, right)
read_as s (forms.cpu p) = cpu_in s p
read_as s (forms.load place) = load_in s place
read_as s (forms.store place x) = store_in s (place, x)
read_as s (forms.add place x) = add_in s (place, x)
read_as s (forms.await place x n) = await_in s (place, x, n)

-- an item that is no node is told with no further question
told_more : (s : Told) (form : Form) → read_as s form ≡ answered (questions s form) (item_of s.cpus form) → ruled s (item_of s.cpus form) ≡ Ok (with_item s (item_of s.cpus form)) → (read_as s form >>= ruled s) ≡ answered (questions s form) (with_item s (item_of s.cpus form))
told_more s form e h =
    let qs = questions s form in
    let i = item_of s.cpus form in
    chain (read_as s form) (ruled s) qs [] i (with_item s i) e h ∙ ap (λ l. answered l (with_item s i)) (append-nil qs)

-- a line of a form is taken where every answer is yes, and else refused with the fault of the first no
pub form-asks : (s : Told) (form : Form) → (read_as s form >>= ruled s) ≡ answered (questions s form) (with_item s (item_of s.cpus form))
form-asks s (forms.page w) = told_more s (forms.page w) (page-asks s w) refl
form-asks s (forms.tiers f t) = told_more s (forms.tiers f t) (tiers-asks s f t) refl
form-asks s (forms.node d f) = node-asks s d f
form-asks s (forms.cpus p) = told_more s (forms.cpus p) (cpus-asks s p) refl
form-asks s (forms.retry r) = told_more s (forms.retry r) (retry-asks s r) refl
form-asks s (forms.serial t) = told_more s (forms.serial t) (serial-asks s t) refl
form-asks s (forms.shuffle n t) = told_more s (forms.shuffle n t) (shuffle-asks s n t) refl
form-asks s (forms.plan t) = told_more s (forms.plan t) (plan-asks s t) refl
form-asks s (forms.go a kind n) = told_more s (forms.go a kind n) (go-asks s a kind n) refl
form-asks s (forms.map v b right) = told_more s (forms.map v b right) (map-asks s v b right) refl
form-asks s (forms.cpu p) = told_more s (forms.cpu p) (cpu-asks s p) refl
form-asks s (forms.load place) = told_more s (forms.load place) (load-asks s place) refl
form-asks s (forms.store place x) = told_more s (forms.store place x) (store-asks s place x) refl
form-asks s (forms.add place x) = told_more s (forms.add place x) (add-asks s place x) refl
form-asks s (forms.await place x n) = told_more s (forms.await place x n) (await-asks s place x n) refl
