-- A line is read by its form, and what is read of a line is by a form that it has.
use Rattle.std.proofs.Common.{◌≡◌, ℕ, ◌<◌, Bool, true, List, [], ◌∷◌, ◌++◌, length, Some, None, codes, refl, sym, ap, ◌∙◌, subst, inl, inr, arith}
use Rattle.std.specs.Option.{option_map}
use Rattle.std.specs.List.{AllByRecursion}
use Rattle.std.proofs.lemmas.Bool.{eq-eqb, ne_eqb, lt-ltb}
use Rattle.nm_text.specs.Cuts.{Lacks, strip_of}
use Rattle.nm_action.specs.declared.kind.ActionKind.{ActionKind}
use Rattle.nm_script.specs.declared.item.Place.{Place}
use Rattle.nm_script.specs.declared.item.Place.TheVariants as places
use Rattle.nm_text.specs.Kinds.{kind_text}
use Rattle.nm_script.specs.Items.{right_text}
use Rattle.nm_text.specs.Fields.{one_of}
use Rattle.nm_script.specs.Fields.{shuffle_of, map_of, is_actor, go_of}
use Rattle.nm_script.specs.Told.{Told}
use Rattle.nm_script.specs.Following.{IsOneOf, before_of}
use Rattle.nm_script.specs.LineFaults as forms
use Rattle.nm_script.specs.LineFaults.{Actor, Form, actor_word, form_words, spaced, IsFormOf, item_of, IsOfVersion, MayStand}
use Rattle.nm_script.specs.Reading.{page_in, page_line, tiers_in, tiers_line, node_in, node_line, cpus_in, cpus_line, retry_in, retry_line, serial_in, shuffle_in, plan_in, schedule_line, go_in, go_line, map_in, map_line, cpu_in, cpu_line, load_in, store_in, add_in, await_in, access_line, tier_line, more_line, form_at}
use Rattle.nm_text.proofs.FieldLemmas.{one_of-again, two_of-again, three_of-again}
use Rattle.nm_text.proofs.KindLemmas.{kind-again}
use Rattle.nm_script.proofs.Again.{serial_shuffle, serial_plan, shuffle_plan, right-again, load_store, load_add, load_await, store_add, store_await, add_await}
use Rattle.nm_script.proofs.Steps.{page_tiers, page_node, more_cpus, retry_serial, retry_shuffle, retry_plan, retry_map, schedule_map, go_map, map_cpu, second, first}
use Rattle.nm_script.proofs.Questions.{read_as}

-- ---- a line of a form is read by it

-- a form that may stand after some places is read at one of them, where it is at each
at_each : (P : Place → Type 0) (qs : List Place) (p : Place) → AllByRecursion P qs → IsOneOf qs p → P p
at_each P [] p h one = absurd one
at_each P (q ∷ qs) p h one = elim one [ inl e ↦ subst P (sym e) h.0 | inr r ↦ at_each P qs p h.1 r ]

-- the form is read so at the place p
abbrev Reads : Told → Form → Place → Type 0
Reads s form p = form_at s p (spaced (form_words form)) ≡ Some (read_as s form)

-- the fields of the form have no spaces
abbrev HasFields : Form → Type 0
HasFields form = AllByRecursion (Lacks 32) (form_words form)

tier-tiers : (s : Told) (f t : List ℕ) → s.version ≡ 1 → Lacks 32 f → Lacks 32 t → tier_line s (spaced (form_words (forms.tiers f t))) ≡ Some (tiers_in (f, t))
unfolding tier_line tiers_line
tier-tiers s f t v a b = rw (eq-eqb s.version 1 v) (ap (option_map tiers_in) (two_of-again (codes "tiers ") f t a b))

node-reads : (s : Told) (d f : List ℕ) → Lacks 32 d → Lacks 32 f → node_line s.frames (spaced (form_words (forms.node d f))) ≡ Some (node_in s.frames (d, f))
unfolding node_line
node-reads s d f a b = ap (option_map (node_in s.frames)) (two_of-again (codes "node ") d f a b)

tier-node : (s : Told) (d f : List ℕ) → s.version ≡ 2 → Lacks 32 d → Lacks 32 f → tier_line s (spaced (form_words (forms.node d f))) ≡ Some (node_in s.frames (d, f))
unfolding tier_line
tier-node s d f v a b = rw (ne_eqb s.version 1 (λ e. omega (arith, e, v))) (node-reads s d f a b)

more-node : (s : Told) (d f : List ℕ) → s.version ≡ 2 → length s.nodes < 16 → Lacks 32 d → Lacks 32 f → more_line s (spaced (form_words (forms.node d f))) ≡ Some (node_in s.frames (d, f))
unfolding more_line
more-node s d f v few a b = rw (eq-eqb s.version 2 v, lt-ltb (length s.nodes) 16 few) (node-reads s d f a b)

page-reads : (w : List ℕ) → Lacks 32 w → page_line (spaced (form_words (forms.page w))) ≡ Some (page_in w)
unfolding page_line
page-reads w a = ap (option_map page_in) (one_of-again (codes "page ") w a)

cpus-reads : (s : Told) (p : List ℕ) → Lacks 32 p → cpus_line (length s.tiers) (spaced (form_words (forms.cpus p))) ≡ Some (cpus_in (length s.tiers) p)
unfolding cpus_line
cpus-reads s p a = ap (option_map (cpus_in (length s.tiers))) (one_of-again (codes "cpus ") p a)

retry-reads : (s : Told) (r : List ℕ) → s.version ≡ 2 → Lacks 32 r → retry_line s.version (spaced (form_words (forms.retry r))) ≡ Some (retry_in r)
unfolding retry_line
retry-reads s r v a = rw (eq-eqb s.version 2 v) (ap (option_map retry_in) (one_of-again (codes "retry ") r a))

serial-reads : (t : List ℕ) → Lacks 32 t → schedule_line (spaced (form_words (forms.serial t))) ≡ Some (serial_in t)
unfolding schedule_line
serial-reads t a = first _ _ _ (ap (option_map serial_in) (one_of-again (codes "serial turns ") t a))

shuffle_of-reads : (n t : List ℕ) → Lacks 32 n → Lacks 32 t → shuffle_of (spaced (form_words (forms.shuffle n t))) ≡ Some (n, t)
unfolding shuffle_of
shuffle_of-reads n t a b = rw (three_of-again (codes "shuffle ") n (codes "turns") t a refl b) refl

shuffle-reads : (n t : List ℕ) → Lacks 32 n → Lacks 32 t → schedule_line (spaced (form_words (forms.shuffle n t))) ≡ Some (shuffle_in (n, t))
unfolding schedule_line
shuffle-reads n t a b =
    second _ _ _ (ap (option_map serial_in) (serial_shuffle (n ++ 32 ∷ spaced (codes "turns" ∷ t ∷ [])))) (first _ _ _ (ap (option_map shuffle_in) (shuffle_of-reads n t a b)))

plan-reads : (t : List ℕ) → Lacks 32 t → schedule_line (spaced (form_words (forms.plan t))) ≡ Some (plan_in t)
unfolding schedule_line
plan-reads t a = second _ _ _ (ap (option_map serial_in) (serial_plan t)) (second _ _ _ (ap (option_map shuffle_in) (shuffle_plan t)) (ap (option_map plan_in) (one_of-again (codes "plan turns ") t a)))

actor_word-is : (a : Actor) → is_actor (actor_word a) ≡ true
unfolding is_actor strip_of
actor_word-is forms.migrator = refl
actor_word-is forms.reclaimer = refl
actor_word-is (forms.processor p) = refl

go_of-reads : (a : Actor) (kind : ActionKind) (n : List ℕ) → Lacks 32 (actor_word a) → Lacks 32 n → go_of (spaced (form_words (forms.go a kind n))) ≡ Some (actor_word a, kind, n)
unfolding go_of
go_of-reads a kind n h k =
    let word = kind-again kind in
    rw (three_of-again (codes "go ") (actor_word a) (kind_text kind) n h word.1 k) (rw word.0 (rw (actor_word-is a) refl))

go-reads : (s : Told) (a : Actor) (kind : ActionKind) (n : List ℕ) → Lacks 32 (actor_word a) → Lacks 32 n → go_line s.cpus (spaced (form_words (forms.go a kind n))) ≡ Some (go_in s.cpus (actor_word a, kind, n))
unfolding go_line
go-reads s a kind n h k = ap (option_map (go_in s.cpus)) (go_of-reads a kind n h k)

map_of-reads : (v b : List ℕ) (right : Bool) → Lacks 32 v → Lacks 32 b → map_of (spaced (form_words (forms.map v b right))) ≡ Some (v, b, right)
unfolding map_of
map_of-reads v b right h k =
    let word = right-again right in
    rw (three_of-again (codes "map ") v b (right_text right) h k word.1) (rw word.0 refl)

map-reads : (s : Told) (v b : List ℕ) (right : Bool) → Lacks 32 v → Lacks 32 b → map_line s (spaced (form_words (forms.map v b right))) ≡ Some (map_in s (v, b, right))
unfolding map_line
map-reads s v b right h k = ap (option_map (map_in s)) (map_of-reads v b right h k)

cpu-reads : (s : Told) (p : List ℕ) → Lacks 32 p → cpu_line s (spaced (form_words (forms.cpu p))) ≡ Some (cpu_in s p)
unfolding cpu_line
cpu-reads s p a = ap (option_map (cpu_in s)) (one_of-again (codes "cpu ") p a)

cpu_load : (s : Told) (x : List ℕ) → cpu_line s (codes "load " ++ x) ≡ None
unfolding cpu_line one_of strip_of
cpu_load s x = refl

cpu_store : (s : Told) (x : List ℕ) → cpu_line s (codes "store " ++ x) ≡ None
unfolding cpu_line one_of strip_of
cpu_store s x = refl

cpu_add : (s : Told) (x : List ℕ) → cpu_line s (codes "add " ++ x) ≡ None
unfolding cpu_line one_of strip_of
cpu_add s x = refl

cpu_await : (s : Told) (x : List ℕ) → cpu_line s (codes "await " ++ x) ≡ None
unfolding cpu_line one_of strip_of
cpu_await s x = refl

load-reads : (s : Told) (place : List ℕ) → Lacks 32 place → access_line s (spaced (form_words (forms.load place))) ≡ Some (load_in s place)
unfolding access_line
load-reads s place a = first _ _ _ (ap (option_map (load_in s)) (one_of-again (codes "load ") place a))

store-reads : (s : Told) (place x : List ℕ) → Lacks 32 place → Lacks 32 x → access_line s (spaced (form_words (forms.store place x))) ≡ Some (store_in s (place, x))
unfolding access_line
store-reads s place x a b = second _ _ _ (ap (option_map (load_in s)) (load_store (place ++ 32 ∷ x))) (first _ _ _ (ap (option_map (store_in s)) (two_of-again (codes "store ") place x a b)))

add-reads : (s : Told) (place x : List ℕ) → Lacks 32 place → Lacks 32 x → access_line s (spaced (form_words (forms.add place x))) ≡ Some (add_in s (place, x))
unfolding access_line
add-reads s place x a b =
    second _ _ _ (ap (option_map (load_in s)) (load_add (place ++ 32 ∷ x))) (second _ _ _ (ap (option_map (store_in s)) (store_add (place ++ 32 ∷ x))) (first _ _ _ (ap (option_map (add_in s)) (two_of-again (codes "add ") place x a b))))

await-reads : (s : Told) (place x n : List ℕ) → Lacks 32 place → Lacks 32 x → Lacks 32 n → access_line s (spaced (form_words (forms.await place x n))) ≡ Some (await_in s (place, x, n))
unfolding access_line
await-reads s place x n a b c =
    let rest : List ℕ = place ++ 32 ∷ (x ++ 32 ∷ n) in
    second _ _ _ (ap (option_map (load_in s)) (load_await rest)) (second _ _ _ (ap (option_map (store_in s)) (store_await rest)) (second _ _ _ (ap (option_map (add_in s)) (add_await rest)) (ap (option_map (await_in s)) (three_of-again (codes "await ") place x n a b c))))

form_at-reads : (s : Told) (p : Place) (form : Form) → IsOneOf (before_of (item_of s.cpus form)) p → IsOfVersion s form → HasFields form → Reads s form p
unfolding form_at
form_at-reads s p (forms.page w) one has h = at_each (Reads s (forms.page w)) (places.Version ∷ []) p (first _ _ _ (page-reads w h.1.0), tt) one
form_at-reads s p (forms.tiers f t) one has h =
    let here = tier-tiers s f t has h.1.0 h.1.1.0 in
    at_each (Reads s (forms.tiers f t)) (places.Version ∷ places.Page ∷ []) p (second _ _ _ (page_tiers _) here, (here, tt)) one
form_at-reads s p (forms.node d f) one has h =
    let here = tier-node s d f has.0 h.1.0 h.1.1.0 in
    at_each (Reads s (forms.node d f)) (places.Version ∷ places.Page ∷ places.Tier ∷ []) p (second _ _ _ (page_node _) here, (here, (first _ _ _ (more-node s d f has.0 has.1 h.1.0 h.1.1.0), tt))) one
form_at-reads s p (forms.cpus n) one has h = at_each (Reads s (forms.cpus n)) (places.Tier ∷ []) p (second _ _ _ (more_cpus s _) (cpus-reads s n h.1.0), tt) one
form_at-reads s p (forms.retry r) one has h = at_each (Reads s (forms.retry r)) (places.Cpus ∷ []) p (first _ _ _ (retry-reads s r has h.1.0), tt) one
form_at-reads s p (forms.serial t) one has h =
    let here = first (schedule_line (spaced (form_words (forms.serial t)))) (map_line s (spaced (form_words (forms.serial t)))) _ (serial-reads t h.1.1.0) in
    at_each (Reads s (forms.serial t)) (places.Cpus ∷ places.Retry ∷ []) p (second _ _ _ (retry_serial s.version _) here, (here, tt)) one
form_at-reads s p (forms.shuffle n t) one has h =
    let here = first (schedule_line (spaced (form_words (forms.shuffle n t)))) (map_line s (spaced (form_words (forms.shuffle n t)))) _ (shuffle-reads n t h.1.0 h.1.1.1.0) in
    at_each (Reads s (forms.shuffle n t)) (places.Cpus ∷ places.Retry ∷ []) p (second _ _ _ (retry_shuffle s.version _) here, (here, tt)) one
form_at-reads s p (forms.plan t) one has h =
    let here = first (schedule_line (spaced (form_words (forms.plan t)))) (map_line s (spaced (form_words (forms.plan t)))) _ (plan-reads t h.1.1.0) in
    at_each (Reads s (forms.plan t)) (places.Cpus ∷ places.Retry ∷ []) p (second _ _ _ (retry_plan s.version _) here, (here, tt)) one
form_at-reads s p (forms.go a kind n) one has h = at_each (Reads s (forms.go a kind n)) (places.Plan ∷ []) p (first _ _ _ (go-reads s a kind n h.1.0 h.1.1.1.0), tt) one
form_at-reads s p (forms.map v b right) one has h =
    let here = map-reads s v b right h.1.0 h.1.1.0 in
    let later = second (schedule_line (spaced (form_words (forms.map v b right)))) (map_line s (spaced (form_words (forms.map v b right)))) _ (schedule_map _) here in
    at_each (Reads s (forms.map v b right)) (places.Cpus ∷ places.Retry ∷ places.Order ∷ places.Plan ∷ places.Map ∷ []) p (second _ _ _ (retry_map s.version _) later, (later, (here, (second _ _ _ (go_map s.cpus _) here, (first _ _ _ here, tt))))) one
form_at-reads s p (forms.cpu n) one has h =
    let here = cpu-reads s n h.1.0 in
    at_each (Reads s (forms.cpu n)) (places.Map ∷ places.Program ∷ []) p (second _ _ _ (map_cpu s _) here, (first _ _ _ here, tt)) one
form_at-reads s p (forms.load place) one has h = at_each (Reads s (forms.load place)) (places.Program ∷ []) p (second _ _ _ (cpu_load s _) (load-reads s place h.1.0), tt) one
form_at-reads s p (forms.store place x) one has h = at_each (Reads s (forms.store place x)) (places.Program ∷ []) p (second _ _ _ (cpu_store s _) (store-reads s place x h.1.0 h.1.1.0), tt) one
form_at-reads s p (forms.add place x) one has h = at_each (Reads s (forms.add place x)) (places.Program ∷ []) p (second _ _ _ (cpu_add s _) (add-reads s place x h.1.0 h.1.1.0), tt) one
form_at-reads s p (forms.await place x n) one has h = at_each (Reads s (forms.await place x n)) (places.Program ∷ []) p (second _ _ _ (cpu_await s _) (await-reads s place x n h.1.0 h.1.1.0 h.1.1.1.0), tt) one

-- a line of a form that may stand is read by it
pub form-reads : (s : Told) (line : List ℕ) (form : Form) → MayStand s form → IsFormOf line form → form_at s s.place line ≡ Some (read_as s form)
form-reads s line form may is = ap (form_at s s.place) is.0 ∙ form_at-reads s s.place form may.0 may.1 is.1
