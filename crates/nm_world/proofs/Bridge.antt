-- That a step of a state is the step of its world.
use Rattle.std.proofs.Common.{◌≡◌, ℕ, ◌<◌, nat_lt, ◌&&◌, if◌then◌else◌, Bool, true, false, length, get_or, set, List, refl, sym, ap, subst, ◌∙◌, arith}
use Rattle.std.proofs.Math.Path.{fun_ext}
use Rattle.std.proofs.lemmas.Bool.{ltb-true, lt-ltb, and_parts}
use Rattle.std.proofs.lemmas.List.{get_or-set_same, get_or-set_other}
use Rattle.nm_base.specs.Geometry.{Geometry, page_count, frame_count}
use Rattle.nm_base.specs.FreeWords.{free_words}
use Rattle.nm_action.specs.declared.action.Action.{Action}
use Rattle.nm_view.specs.Views.{View}
use Rattle.nm_view.specs.Opening.{opening, IsActor}
use Rattle.nm_permit.specs.Permitted.{Allowed}
use Rattle.nm_words.specs.declared.names.Where.{Where}
use Rattle.nm_words.specs.declared.names.Where.TheVariants.{Req, Pte, Stamp, Home, Shadow, Lock, Mark, Ack, Turn, Free, Mem}
use Rattle.nm_words.specs.Names.{IsPlace}
use Rattle.nm_words.specs.Words.{Words, HasSizes, word_at, with_word}
use Rattle.nm_words.specs.Exchanges.{changed}
use Rattle.nm_words.proofs.Groups.{ap2, word_at-same, word_at-other, exchanged-with_word}
use Rattle.nm_event.specs.After.{after_of}
use Rattle.nm_step.specs.Table.{reply_of}
use Rattle.nm_core.specs.Kept.{IsKept}
use Rattle.nm_core.specs.State.{State, view_of, place_found, word_found, change_made, reply_to, step}
use Rattle.nm_core.proofs.Steps.{place_there}
use Rattle.nm_world.specs.Worlds.{World, written, viewing, moved}
use Rattle.nm_world.specs.Seen.{has_word, seen_word, world_of}
use Rattle.nm_world.proofs.Choose.{decide, choose, choose_name}

-- a machine has the words that it is found to have
place-has_word : (g : Geometry) (c : Where) → has_word g c ≡ true → IsPlace g c
place-has_word g Req e = tt
place-has_word g (Pte v) e = ltb-true v (length g.vpages) e
place-has_word g (Stamp v) e = ltb-true v (length g.vpages) e
place-has_word g (Home b) e = ltb-true b (page_count g) e
place-has_word g (Shadow m) e = ltb-true m (frame_count g) e
place-has_word g (Lock b) e = ltb-true b (page_count g) e
place-has_word g (Mark b) e = ltb-true b (page_count g) e
place-has_word g (Ack p) e = ltb-true p g.cpus e
place-has_word g (Turn t) e = ltb-true t (length g.tiers) e
place-has_word g (Free t k) e = let both = and_parts (nat_lt t (length g.tiers)) (nat_lt k (free_words g t)) e in (ltb-true t (length g.tiers) both.0, ltb-true k (free_words g t) both.1)
place-has_word g (Mem f i) e = let both = and_parts (nat_lt f (frame_count g)) (nat_lt i g.words) e in (ltb-true f (frame_count g) both.0, ltb-true i g.words both.1)

-- and is found to have those that it has
has_word-place : (g : Geometry) (c : Where) → IsPlace g c → has_word g c ≡ true
has_word-place g Req p = refl
has_word-place g (Pte v) p = lt-ltb v (length g.vpages) p
has_word-place g (Stamp v) p = lt-ltb v (length g.vpages) p
has_word-place g (Home b) p = lt-ltb b (page_count g) p
has_word-place g (Shadow m) p = lt-ltb m (frame_count g) p
has_word-place g (Lock b) p = lt-ltb b (page_count g) p
has_word-place g (Mark b) p = lt-ltb b (page_count g) p
has_word-place g (Ack c) p = lt-ltb c g.cpus p
has_word-place g (Turn t) p = lt-ltb t (length g.tiers) p
has_word-place g (Free t k) p = ap2 (λ s t. s && t) (lt-ltb t (length g.tiers) p.0) (lt-ltb k (free_words g t) p.1)
has_word-place g (Mem f i) p = ap2 (λ s t. s && t) (lt-ltb f (frame_count g) p.0) (lt-ltb i g.words p.1)

taken : (t : Bool) (n : ℕ) → t ≡ true → (if t then n else 0) ≡ n
taken t n e = rw e refl

-- a word that the machine has is seen
pub seen_word-place : (g : Geometry) (w : Words) (c : Where) → IsPlace g c → seen_word g w c ≡ word_at g w c
seen_word-place g w c p = taken (has_word g c) (word_at g w c) (has_word-place g c p)

-- what holds of each word that a machine has, and of 0, holds of each word that is seen
pub seen_of : (P : ℕ → Type 0) (g : Geometry) (w : Words) (c : Where) → P 0 → (IsPlace g c → P (word_at g w c)) → P (seen_word g w c)
seen_of P g w c none there = decide P (has_word g c) (word_at g w c) 0 (λ e. there (place-has_word g c e)) (λ e. none)

same_choice : (t : Bool) (x y : ℕ) → (t ≡ true → x ≡ y) → (if t then x else 0) ≡ (if t then y else 0)
same_choice true x y e = e refl
same_choice false x y e = refl

-- a write is seen at its word alone
seen_word-written : (g : Geometry) (w : Words) (c : Where) (x : ℕ) (d : Where) → HasSizes g w → IsPlace g c → seen_word g (with_word g w c x) d ≡ written c x (seen_word g w) d
seen_word-written g w c x d sizes place =
    choose_name (λ n. seen_word g (with_word g w c x) d ≡ n) c d x (seen_word g w d)
    (λ same.
    let There : Where → Type 0 = λ e. seen_word g (with_word g w c x) e ≡ x in
    subst There same (seen_word-place g (with_word g w c x) c place ∙ word_at-same g w c x sizes place))
    (λ other. same_choice (has_word g d) (word_at g (with_word g w c x) d) (word_at g w d)
    (λ has. word_at-other g w c x d place (place-has_word g d has) (λ s. other (sym s))))

-- the views after one was set
views_set : (g : Geometry) (views : List View) (a : ℕ) (new : View) (d : ℕ) → a < length views → get_or (set views a new) d (opening g d) ≡ viewing a new (λ i. get_or views i (opening g i)) d
views_set g views a new d there =
    choose (λ v. get_or (set views a new) d (opening g d) ≡ v) d a new (get_or views d (opening g d))
    (λ same.
    let Here : ℕ → Type 0 = λ i. get_or (set views a new) i (opening g i) ≡ new in
    subst Here (sym same) (get_or-set_same views a new (opening g a) there))
    (λ other. get_or-set_other views a d new (opening g d) other)

abbrev world : (Where → ℕ) → (ℕ → View) → World
world w v = record { word = w; view = v }

-- the world after a permitted step is the step of the world
pub world_step : (s : State) (a : ℕ) (action : Action) → IsKept s → a < length s.views → Allowed s.geometry (view_of s a) action → world_of (step s a action) ≡ moved s.geometry (world_of s) a action
world_step s a action k there may =
    let g : Geometry = s.geometry in
    let c : Where = place_found s a action in
    let place : IsPlace g c = place_there s a action k there may in
    let found : word_found s a action ≡ seen_word g s.words c = sym (seen_word-place g s.words c place) in
    let Left : ℕ → (Where → ℕ) = λ n. written c (changed (change_made s a action) n) (seen_word g s.words) in
    let New : ℕ → (ℕ → View) = λ n. viewing a (after_of g (view_of s a) action (reply_of (change_made s a action) n)) (view_of s) in
    let words : seen_word g (step s a action).words ≡ Left (word_found s a action) =
    ap (seen_word g) (exchanged-with_word g s.words c (change_made s a action))
    ∙ fun_ext (λ d. seen_word-written g s.words c (changed (change_made s a action) (word_found s a action)) d k.sizes place) in
    let views : view_of (step s a action) ≡ New (word_found s a action) =
    fun_ext (λ d. views_set g s.views a (after_of g (view_of s a) action (reply_to s a action)) d there) in
    ap2 world (words ∙ ap Left found) (views ∙ ap New found)

-- the same, of an actor of the machine
pub world_of-step : (s : State) (a : ℕ) (action : Action) → IsKept s → IsActor s.geometry a → Allowed s.geometry (view_of s a) action → world_of (step s a action) ≡ moved s.geometry (world_of s) a action
world_of-step s a action k there may = let within : a < length s.views = omega (arith, there, k.actors) in world_step s a action k within may
