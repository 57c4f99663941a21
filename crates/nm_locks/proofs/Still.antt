-- The lock law in pieces: each is kept where what it reads is as before.
use Rattle.std.proofs.Common.{◌≡◌, ◌↔◌, ℕ, ◌+◌, Option, Some, None, IsSome, refl, sym, ap, subst, ◌∙◌}
use Rattle.std.specs.Prelude.{option_map}
use Rattle.nm_base.specs.Geometry.{Geometry}
use Rattle.nm_view.specs.Lists.{find, first}
use Rattle.nm_view.specs.Views.{Op, View}
use Rattle.nm_view.specs.Operations.{op_on}
use Rattle.nm_event.specs.Fitting.{Agrees}
use Rattle.nm_words.specs.declared.names.Where.{Where}
use Rattle.nm_words.specs.declared.names.Where.TheVariants.{Req, Pte, Stamp, Home, Shadow, Lock, Mark, Ack, Turn, Mem}
use Rattle.nm_world.specs.Worlds.{World, written, viewing, pte_at, home_at, shadow_at, lock_at, turn_at, op_at}
use Rattle.nm_world.specs.Parts.{Lore, lore_of, lore_at}
use Rattle.nm_world.specs.Sights.{free_in}
use Rattle.nm_world.specs.LockLaw.{IsTrueOp, IsFreeIn, LockLaw}
use Rattle.nm_world.proofs.Choose.{choose, choose_name}
use Rattle.nm_world.proofs.Options.{if_more}

-- an item is found where a part of it is found as before
pub some_from : {A B : Type 0} (part : A → B) (was is : Option A) → option_map part is ≡ option_map part was → IsSome was → IsSome is
some_from part None is same h = absurd (let none : ⊥ = cc in none)
some_from part (Some x) None same h = absurd cc
some_from part (Some x) (Some y) same h = cc

-- the words that the lock law reads are as before
pub record KeepsWords (g : Geometry) (word after : Where → ℕ) : Type 0 where
  pub pte : (v : ℕ) → after (Pte v) ≡ word (Pte v)
  pub home : (b : ℕ) → after (Home b) ≡ word (Home b)
  pub shadow : (k : ℕ) → after (Shadow k) ≡ word (Shadow k)
  pub lock : (b : ℕ) → after (Lock b) ≡ word (Lock b)
  pub turn : (t : ℕ) → after (Turn t) ≡ word (Turn t)
  pub free : (f : ℕ) → free_in g after f ≡ free_in g word f

-- the lock law reads no word of this name
abbrev pub IsUnread : Where → Type 0
IsUnread Req = Unit {0}
IsUnread (Stamp v) = Unit {0}
IsUnread (Mark b) = Unit {0}
IsUnread (Ack p) = Unit {0}
IsUnread (Mem f i) = Unit {0}
IsUnread _ = ⊥

pub unread_keeps : (g : Geometry) (c : Where) (x : ℕ) (word : Where → ℕ) → IsUnread c → KeepsWords g word (written c x word)
unread_keeps g Req x word h = record { pte = λ v. refl; home = λ b. refl; shadow = λ k. refl; lock = λ b. refl; turn = λ t. refl; free = λ f. refl }
unread_keeps g (Stamp v) x word h = record { pte = λ v. refl; home = λ b. refl; shadow = λ k. refl; lock = λ b. refl; turn = λ t. refl; free = λ f. refl }
unread_keeps g (Mark b) x word h = record { pte = λ v. refl; home = λ b. refl; shadow = λ k. refl; lock = λ b. refl; turn = λ t. refl; free = λ f. refl }
unread_keeps g (Ack p) x word h = record { pte = λ v. refl; home = λ b. refl; shadow = λ k. refl; lock = λ b. refl; turn = λ t. refl; free = λ f. refl }
unread_keeps g (Mem f i) x word h = record { pte = λ v. refl; home = λ b. refl; shadow = λ k. refl; lock = λ b. refl; turn = λ t. refl; free = λ f. refl }
unread_keeps g c x word h = absurd h

-- a word that is written again leaves every word
pub rewritten : (c : Where) (word : Where → ℕ) (d : Where) → written c (word c) word d ≡ word d
rewritten c word d = choose_name (λ n. n ≡ word d) c d (word c) (word d) (λ same. ap word same) (λ other. refl)

pub read_keeps : (g : Geometry) (c : Where) (word : Where → ℕ) → KeepsWords g word (written c (word c) word)
read_keeps g c word = record {
  pte = λ v. rewritten c word (Pte v);
  home = λ b. rewritten c word (Home b);
  shadow = λ k. rewritten c word (Shadow k);
  lock = λ b. rewritten c word (Lock b);
  turn = λ t. rewritten c word (Turn t);
  free = λ f. rw (rewritten c word _) refl;
}

-- The pieces.

-- what an operation knows stays so
pub true_still : (m m' : World) (b : ℕ) (o : Lore) → ((v : ℕ) → pte_at m' v ≡ pte_at m v) → ((c : ℕ) → home_at m' c ≡ home_at m c) → ((k : ℕ) → shadow_at m' k ≡ shadow_at m k) → IsTrueOp m b o → IsTrueOp m' b o
true_still m m' b o pte home shadow h = record {
  home = if_more o.home _ _ (λ x _ is. is ∙ sym (home b)) h.home;
  shadow = if_more o.shadow _ _ (λ x _ known f at. known f (sym (home b) ∙ at) ∙ sym (shadow f)) h.shadow;
  taken = λ v there. pte v ∙ h.taken v there;
  looked = λ v there. if_more (find first v o.looked) _ _ (λ p _ agrees. subst (Agrees p.1) (sym (pte v)) agrees) (h.looked v there);
}

-- locks go on agreeing with operations
pub locks_still : {A : Type 0} (part : Op → A) (g : Geometry) (m m' : World) → ((b : ℕ) → lock_at m' b ≡ lock_at m b) → ((c b : ℕ) → option_map part (op_at m' c b) ≡ option_map part (op_at m c b)) → LockLaw g m → (a b : ℕ) → (lock_at m' b ≡ a + 1) ↔ IsSome (op_at m' a b)
locks_still part g m m' lock same h a b = (
  λ is. some_from part (op_at m a b) (op_at m' a b) (same a b) ((h.locks a b).0 (sym (lock b) ∙ is)),
  λ some. lock b ∙ (h.locks a b).1 (some_from part (op_at m' a b) (op_at m a b) (sym (same a b)) some),
)

-- what the turns rest on is as before
pub record KeepsTurns (g : Geometry) (m m' : World) : Type 0 where
  pub word : (t : ℕ) → turn_at m' t ≡ turn_at m t
  pub turn : (a : ℕ) → (m'.view a).turn ≡ (m.view a).turn
  pub least : (a : ℕ) → (m'.view a).scan.least ≡ (m.view a).scan.least
  pub free : (f : ℕ) → free_in g m'.word f ≡ free_in g m.word f

pub turns_still : (g : Geometry) (m m' : World) → KeepsTurns g m m' → LockLaw g m → (a t : ℕ) → (turn_at m' t ≡ a + 1) ↔ ((m'.view a).turn ≡ Some t)
turns_still g m m' keeps h a t = (
  λ is. keeps.turn a ∙ (h.turns a t).0 (sym (keeps.word t) ∙ is),
  λ is. keeps.word t ∙ (h.turns a t).1 (sym (keeps.turn a) ∙ is),
)

pub least_still : (g : Geometry) (m m' : World) → KeepsTurns g m m' → LockLaw g m → (a t f : ℕ) → (m'.view a).turn ≡ Some t → (m'.view a).scan.least ≡ Some f → IsFreeIn g m' t f
least_still g m m' keeps h a t f is found =
    let was = h.least a t f (sym (keeps.turn a) ∙ is) (sym (keeps.least a) ∙ found) in
    record { tier = was.tier; free = keeps.free f ∙ was.free }

-- where words, operations as this law reads them, turns and scans are as before, so is the law
pub lock_still : (g : Geometry) (m m' : World) → KeepsWords g m.word m'.word → KeepsTurns g m m' → ((c b : ℕ) → lore_at m' c b ≡ lore_at m c b) → LockLaw g m → LockLaw g m'
lock_still g m m' words turns lore h = record {
  locks = locks_still lore_of g m m' words.lock lore h;
  turns = turns_still g m m' turns h;
  known = λ a b o is. true_still m m' b o words.pte words.home words.shadow (h.known a b o (sym (lore a b) ∙ is));
  least = least_still g m m' turns h;
  staged = λ a b o is. h.staged a b o (sym (lore a b) ∙ is);
}

-- The same at a step: the new view of the actor has the same turn, the same scan, and the same operations as this law reads
-- them.
pub record KeepsView (view new : View) : Type 0 where
  pub turn : new.turn ≡ view.turn
  pub least : new.scan.least ≡ view.scan.least
  pub lore : (b : ℕ) → option_map lore_of (op_on new b) ≡ option_map lore_of (op_on view b)

pub same_view : (view : View) → KeepsView view view
same_view view = record { turn = refl; least = refl; lore = λ b. refl }

-- a part of each view that the new one of the actor keeps
pub view_part : {A : Type 0} (part : View → A) (a : ℕ) (new : View) (views : ℕ → View) → part new ≡ part (views a) → (c : ℕ) → part (viewing a new views c) ≡ part (views c)
view_part part a new views same c = choose (λ v. part v ≡ part (views c)) c a new (views c) (λ s. same ∙ ap (λ i. part (views i)) (sym s)) (λ other. refl)

pub turns_kept : (g : Geometry) (m : World) (word : Where → ℕ) (a : ℕ) (new : View) → KeepsWords g m.word word → new.turn ≡ (m.view a).turn → new.scan.least ≡ (m.view a).scan.least → KeepsTurns g m (record { word = word; view = viewing a new m.view })
turns_kept g m word a new words turn least = record {
  word = words.turn;
  turn = view_part (λ v. v.turn) a new m.view turn;
  least = view_part (λ v. v.scan.least) a new m.view least;
  free = words.free;
}

pub lock_quiet : (g : Geometry) (m : World) (word : Where → ℕ) (a : ℕ) (new : View) → KeepsWords g m.word word → KeepsView (m.view a) new → LockLaw g m → LockLaw g (record { word = word; view = viewing a new m.view })
lock_quiet g m word a new words view h =
    lock_still g m (record { word = word; view = viewing a new m.view }) words
    (turns_kept g m word a new words view.turn view.least)
    (λ c b. view_part (λ v. option_map lore_of (op_on v b)) a new m.view (view.lore b) c) h
