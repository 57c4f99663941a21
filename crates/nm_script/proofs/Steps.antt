-- A line that may follow what was told, and its spelling, are read as that line.
use Rattle.std.proofs.Common.{◌≡◌, ℕ, ◌≤◌, ◌==◌, ◌⊎◌, ◌&&◌, nat_lt, Bool, true, false, List, [], ◌∷◌, ◌++◌, length, Option, Some, None, Ok, codes, decimal, refl, sym, ap, ◌∙◌, subst, inl, inr, arith}
use Rattle.std.specs.Bool.{if◌then◌else◌}
use Rattle.std.specs.List.{AllByRecursion}
use Rattle.std.proofs.lemmas.Bool.{eq-eqb, ne_eqb, lt-ltb, le-ltb}
use Rattle.std.proofs.lemmas.Fmt.{decimal_digit}
use Rattle.nm_text.specs.Cuts.{strip_of}
use Rattle.nm_base.proofs.Pages.{page_size}
use Rattle.nm_tiers.specs.declared.nodes.Node.{Node}
use Rattle.nm_tiers.specs.Tiers.{tier_count}
use Rattle.nm_script.specs.declared.script.Line.{Line}
use Rattle.nm_script.specs.declared.script.Line.TheVariants.{Load, Store, Add, Await}
use Rattle.nm_script.specs.declared.item.Item.{Item}
use Rattle.nm_script.specs.declared.item.Item.TheVariants as items
use Rattle.nm_script.specs.declared.item.Place.{Place}
use Rattle.nm_script.specs.declared.item.Place.TheVariants as places
use Rattle.nm_script.specs.Items.{item_text, access_text}
use Rattle.nm_text.specs.Fields.{one_of, two_of, three_of}
use Rattle.nm_script.specs.Fields.{shuffle_of, map_of, go_of}
use Rattle.nm_script.specs.Told.{Told, with_item}
use Rattle.nm_script.specs.Following.{IsOneOf, before_of, IsItemInRange, MayFollow}
use Rattle.nm_script.specs.Holds.{IsToldSoFar}
use Rattle.nm_script.specs.Reading.{either_of, header_in, page_line, node_line, retry_line, schedule_line, go_line, map_line, cpu_line, tier_line, more_line, form_at, item_at, ruled, told_with}
use Rattle.nm_script.proofs.Again.{page_line-again, tiers_line-again, node_line-again, cpus_line-again, retry_line-again, serial-again, shuffle-again, plan-again, go_line-again, map_line-again, cpu_line-again, access_line-again}

-- ---- lines of other forms

pub page_tiers : (x : List ℕ) → page_line (codes "tiers " ++ x) ≡ None
unfolding page_line one_of strip_of
page_tiers x = refl

pub page_node : (x : List ℕ) → page_line (codes "node " ++ x) ≡ None
unfolding page_line one_of strip_of
page_node x = refl

skipped : {A : Type 0} (b : Bool) (o : Option A) → o ≡ None → (if b then o else None) ≡ None
skipped true o e = e
skipped false o e = refl

node_cpus : (frames : ℕ) (x : List ℕ) → node_line frames (codes "cpus " ++ x) ≡ None
unfolding node_line two_of strip_of
node_cpus frames x = refl

pub more_cpus : (s : Told) (x : List ℕ) → more_line s (codes "cpus " ++ x) ≡ None
unfolding more_line
more_cpus s x = skipped (s.version == 2 && nat_lt (length s.nodes) 16) (node_line s.frames (codes "cpus " ++ x)) (node_cpus s.frames x)

pub retry_serial : (version : ℕ) (x : List ℕ) → retry_line version (codes "serial turns " ++ x) ≡ None
unfolding retry_line one_of strip_of
retry_serial version x = skipped (version == 2) None refl

pub retry_shuffle : (version : ℕ) (x : List ℕ) → retry_line version (codes "shuffle " ++ x) ≡ None
unfolding retry_line one_of strip_of
retry_shuffle version x = skipped (version == 2) None refl

pub retry_plan : (version : ℕ) (x : List ℕ) → retry_line version (codes "plan turns " ++ x) ≡ None
unfolding retry_line one_of strip_of
retry_plan version x = skipped (version == 2) None refl

pub retry_map : (version : ℕ) (x : List ℕ) → retry_line version (codes "map " ++ x) ≡ None
unfolding retry_line one_of strip_of
retry_map version x = skipped (version == 2) None refl

pub schedule_map : (x : List ℕ) → schedule_line (codes "map " ++ x) ≡ None
unfolding schedule_line one_of shuffle_of three_of strip_of
schedule_map x = refl

pub go_map : (cpus : ℕ) (x : List ℕ) → go_line cpus (codes "map " ++ x) ≡ None
unfolding go_line go_of three_of strip_of
go_map cpus x = refl

pub map_cpu : (s : Told) (x : List ℕ) → map_line s (codes "cpu " ++ x) ≡ None
unfolding map_line map_of three_of strip_of
map_cpu s x = refl

cpu_access : (s : Told) (l : Line) → cpu_line s (access_text l) ≡ None
unfolding cpu_line one_of strip_of
cpu_access s (Load v w) = refl
cpu_access s (Store v w x) = refl
cpu_access s (Add v w x) = refl
cpu_access s (Await v w x n) = refl

-- the second of two readings, where the first gives nothing
pub second : {A : Type 0} (x y : Option A) (r : A) → x ≡ None → y ≡ Some r → either_of x y ≡ Some r
second x y r none e = ap (λ o. either_of o y) none ∙ e

pub first : {A : Type 0} (x y : Option A) (r : A) → x ≡ Some r → either_of x y ≡ Some r
first x y r e = ap (λ o. either_of o y) e

-- ---- a line at its place

header-again : (n : ℕ) → (n ≡ 1) ⊎ (n ≡ 2) → header_in (codes "nomad " ++ decimal n) ≡ Ok (items.Version n)
unfolding header_in
header-again n h =
    elim h [
      | inl a ↦ subst (λ (k : ℕ). header_in (codes "nomad " ++ decimal k) ≡ Ok (items.Version k)) (sym a) (ap (λ d. header_in (codes "nomad " ++ d)) (decimal_digit 1 (omega arith)))
      | inr b ↦ subst (λ (k : ℕ). header_in (codes "nomad " ++ decimal k) ≡ Ok (items.Version k)) (sym b) (ap (λ d. header_in (codes "nomad " ++ d)) (decimal_digit 2 (omega arith)))
    ]

-- the line is read so at the place p
abbrev Reads : Told → Item → Place → Type 0
Reads s i p = form_at s p (item_text s.cpus i) ≡ Some (Ok i)

-- a line that may stand at one of some places is read there, where it is read at each of them
at_each : (s : Told) (i : Item) (qs : List Place) (p : Place) → AllByRecursion (Reads s i) qs → IsOneOf qs p → Reads s i p
at_each s i [] p h one = absurd one
at_each s i (q ∷ qs) p h one = elim one [ inl e ↦ subst (Reads s i) (sym e) h.0 | inr r ↦ at_each s i qs p h.1 r ]

tier-tiers : (s : Told) (f t : ℕ) → IsItemInRange s (items.Tiers f t) → tier_line s (item_text s.cpus (items.Tiers f t)) ≡ Some (Ok (items.Tiers f t))
unfolding tier_line
tier-tiers s f t h = rw (eq-eqb s.version 1 h.0) (tiers_line-again f t h.1 h.2 h.3 h.4 h.5)

tier-node : (s : Told) (n : Node) → IsItemInRange s (items.Node n) → tier_line s (item_text s.cpus (items.Node n)) ≡ Some (Ok (items.Node n))
unfolding tier_line
tier-node s n h = rw (ne_eqb s.version 1 (λ e. omega (arith, e, h.0))) (node_line-again s.frames n h.2.0 h.2.1 h.2.2 h.3)

more-node : (s : Told) (n : Node) → IsItemInRange s (items.Node n) → more_line s (item_text s.cpus (items.Node n)) ≡ Some (Ok (items.Node n))
unfolding more_line
more-node s n h = rw (eq-eqb s.version 2 h.0, lt-ltb (length s.nodes) 16 h.1) (node_line-again s.frames n h.2.0 h.2.1 h.2.2 h.3)

form_at-again : (s : Told) (p : Place) (i : Item) → s.cpus ≤ 16 → s.words ≤ 512 → IsOneOf (before_of i) p → IsItemInRange s i → Reads s i p
unfolding form_at
form_at-again s p (items.Version n) cpus words one h =
    at_each s (items.Version n) (places.Begin ∷ []) p (ap (λ r. Some r) (header-again n h), tt) one
form_at-again s p (items.Page w) cpus words one h =
    at_each s (items.Page w) (places.Version ∷ []) p (first _ _ _ (page_line-again w h), tt) one
form_at-again s p (items.Tiers f t) cpus words one h =
    let here = tier-tiers s f t h in
    at_each s (items.Tiers f t) (places.Version ∷ places.Page ∷ []) p (second _ _ _ (page_tiers _) here, (here, tt)) one
form_at-again s p (items.Node n) cpus words one h =
    let here = tier-node s n h in
    at_each s (items.Node n) (places.Version ∷ places.Page ∷ places.Tier ∷ []) p (second _ _ _ (page_node _) here, (here, (first _ _ _ (more-node s n h), tt))) one
form_at-again s p (items.Cpus k) cpus words one h =
    at_each s (items.Cpus k) (places.Tier ∷ []) p (second _ _ _ (more_cpus s _) (cpus_line-again (length s.tiers) k h.0 h.1 h.2), tt) one
form_at-again s p (items.Retry r) cpus words one h =
    at_each s (items.Retry r) (places.Cpus ∷ []) p (first _ _ _ (retry_line-again s.version r h.0 h.1), tt) one
form_at-again s p (items.Serial t) cpus words one h =
    let here = first (schedule_line (item_text s.cpus (items.Serial t))) (map_line s (item_text s.cpus (items.Serial t))) _ (serial-again t h) in
    at_each s (items.Serial t) (places.Cpus ∷ places.Retry ∷ []) p (second _ _ _ (retry_serial s.version _) here, (here, tt)) one
form_at-again s p (items.Shuffle n t) cpus words one h =
    let here = first (schedule_line (item_text s.cpus (items.Shuffle n t))) (map_line s (item_text s.cpus (items.Shuffle n t))) _ (shuffle-again n t h.0 h.1) in
    at_each s (items.Shuffle n t) (places.Cpus ∷ places.Retry ∷ []) p (second _ _ _ (retry_shuffle s.version _) here, (here, tt)) one
form_at-again s p (items.Plan t) cpus words one h =
    let here = first (schedule_line (item_text s.cpus (items.Plan t))) (map_line s (item_text s.cpus (items.Plan t))) _ (plan-again t h) in
    at_each s (items.Plan t) (places.Cpus ∷ places.Retry ∷ []) p (second _ _ _ (retry_plan s.version _) here, (here, tt)) one
form_at-again s p (items.Go g) cpus words one h =
    at_each s (items.Go g) (places.Plan ∷ []) p (first _ _ _ (go_line-again s.cpus g cpus h), tt) one
form_at-again s p (items.Map v b) cpus words one h =
    let here = map_line-again s v b h in
    let later = second (schedule_line (item_text s.cpus (items.Map v b))) (map_line s (item_text s.cpus (items.Map v b))) _ (schedule_map _) here in
    at_each s (items.Map v b) (places.Cpus ∷ places.Retry ∷ places.Order ∷ places.Plan ∷ places.Map ∷ []) p (second _ _ _ (retry_map s.version _) later, (later, (here, (second _ _ _ (go_map s.cpus _) here, (first _ _ _ here, tt))))) one
form_at-again s p (items.Cpu k) cpus words one h =
    let here = cpu_line-again s k cpus h in
    at_each s (items.Cpu k) (places.Map ∷ places.Program ∷ []) p (second _ _ _ (map_cpu s _) here, (first _ _ _ here, tt)) one
form_at-again s p (items.Access l) cpus words one h =
    at_each s (items.Access l) (places.Program ∷ []) p (second _ _ _ (cpu_access s l) (access_line-again s l words h), tt) one

ruled-again : (s : Told) (i : Item) → IsItemInRange s i → ruled s i ≡ Ok (with_item s i)
ruled-again s (items.Version n) h = refl
ruled-again s (items.Page n) h = refl
ruled-again s (items.Tiers f t) h = refl
ruled-again s (items.Node n) h = rw (le-ltb 4 (tier_count (s.nodes ++ n ∷ [])) h.4) refl
ruled-again s (items.Cpus n) h = refl
ruled-again s (items.Retry n) h = refl
ruled-again s (items.Serial n) h = refl
ruled-again s (items.Shuffle m n) h = refl
ruled-again s (items.Plan n) h = refl
ruled-again s (items.Go g) h = refl
ruled-again s (items.Map v p) h = refl
ruled-again s (items.Cpu p) h = refl
ruled-again s (items.Access l) h = refl

-- a page has at most 512 words
pub words_few : (s : Told) → IsToldSoFar s → s.words ≤ 512
words_few s told = elim told [ inl e ↦ omega (arith, ap (λ t. t.words) e) | inr h ↦ (page_size s.words h.words).1 ]

-- there are at most 16 processors
pub cpus_few : (s : Told) → IsToldSoFar s → s.cpus ≤ 16
cpus_few s told = elim told [ inl e ↦ omega (arith, ap (λ t. t.cpus) e) | inr h ↦ h.few ]

-- the spelling of a line that may follow is taken as that line
pub step-again : (s : Told) (i : Item) → IsToldSoFar s → MayFollow s i → told_with s (item_text s.cpus i) ≡ Ok (with_item s i)
unfolding told_with item_at
step-again s i told may =
    let read : form_at s s.place (item_text s.cpus i) ≡ Some (Ok i) = form_at-again s s.place i (cpus_few s told) (words_few s told) may.0 may.1 in
    rw read (ruled-again s i may.1)
