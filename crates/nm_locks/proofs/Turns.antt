-- The kinds that touch turns, scans and free frames.
use Rattle.std.proofs.Common.{◌≡◌, ◌≢◌, ◌↔◌, ℕ, ◌+◌, ◌^◌, ◌==◌, bit_and, bit_or, if◌then◌else◌, Bool, true, false, Option, Some, None, IsSomeAnd, refl, sym, ap, subst, ◌∙◌, inl, inr, arith}
use Rattle.std.specs.Prelude.{option_map}
use Rattle.std.proofs.lemmas.Bool.{cases_eq, eqb-true}
use Rattle.nm_base.specs.Geometry.{Geometry, tier_of}
use Rattle.nm_base.specs.PageWord.{all_but}
use Rattle.nm_base.specs.FreeWords.{free_bit}
use Rattle.nm_base.proofs.Tiers.{tier_of-IsInTier}
use Rattle.nm_action.specs.declared.action.Reply.TheVariants.{Done, Word, Busy}
use Rattle.nm_action.specs.declared.action.Action.TheVariants.{TakeTurn, ReleaseTurn, GiveFrame, PutFrame}
use Rattle.nm_view.specs.Lists.{find}
use Rattle.nm_view.specs.Operations.{page_of, op_on}
use Rattle.nm_view.specs.Views.{View}
use Rattle.nm_view.proofs.Items.{not_none, some_same}
use Rattle.nm_words.specs.declared.names.Where.{Where}
use Rattle.nm_words.specs.declared.names.Where.TheVariants as words
use Rattle.nm_step.specs.Table.{free_word_of}
use Rattle.nm_event.specs.After.{after_of}
use Rattle.nm_world.specs.Worlds.{World, moved, viewing, written, turn_at}
use Rattle.nm_world.specs.Parts.{lore_of, lore_at}
use Rattle.nm_world.specs.Sights.{free_in}
use Rattle.nm_world.specs.LockLaw.{LockLaw, IsFreeIn}
use Rattle.nm_world.specs.Laws.{IsReady}
use Rattle.nm_world.proofs.Choose.{choose}
use Rattle.nm_world.proofs.FreeBits.{give_bit, put_bit}
use Rattle.nm_locks.proofs.Still.{true_still, locks_still, lock_quiet, view_part, read_keeps, same_view}

-- what a step at turns and free frames leaves, and what it has to show: that turns agree with the views, and the least frames
pub lock_turns : (g : Geometry) (m : World) (word : Where → ℕ) (a : ℕ) (new : View) → ((v : ℕ) → word (words.Pte v) ≡ m.word (words.Pte v)) → ((b : ℕ) → word (words.Home b) ≡ m.word (words.Home b)) → ((k : ℕ) → word (words.Shadow k) ≡ m.word (words.Shadow k)) → ((b : ℕ) → word (words.Lock b) ≡ m.word (words.Lock b)) → new.ops ≡ (m.view a).ops → ((c t : ℕ) → (word (words.Turn t) ≡ c + 1) ↔ ((viewing a new m.view c).turn ≡ Some t)) → ((c t f : ℕ) → (viewing a new m.view c).turn ≡ Some t → (viewing a new m.view c).scan.least ≡ Some f → IsFreeIn g (record { word = word; view = viewing a new m.view }) t f) → LockLaw g m → LockLaw g (record { word = word; view = viewing a new m.view })
lock_turns g m word a new pte home shadow lock ops turns least h =
    let m' : World = record { word = word; view = viewing a new m.view } in
    let lore : (c b : ℕ) → lore_at m' c b ≡ lore_at m c b = λ c b. view_part (λ v. option_map lore_of (op_on v b)) a new m.view (ap (λ os. option_map lore_of (find page_of b os)) ops) c in
    record {
      locks = locks_still lore_of g m m' lock lore h;
      turns = turns;
      known = λ c b o is. true_still m m' b o pte home shadow (h.known c b o (sym (lore c b) ∙ is));
      least = least;
      staged = λ c b o is. h.staged c b o (sym (lore c b) ∙ is);
    }

-- by cases on a test
pub cases_on : (P : Bool → Type 0) (t : Bool) → (t ≡ true → P true) → (t ≡ false → P false) → P t
cases_on P true p q = p refl
cases_on P false p q = q refl

pub not_both : (n a c : ℕ) → n ≡ a + 1 → n ≡ c + 1 → c ≢ a → ⊥
not_both n a c mine theirs other = other (omega (arith, mine, theirs))

-- where a turn was found free, it and the view of the actor agree after it was taken
turn_taken : (g : Geometry) (m : World) (a t k : ℕ) (new : View) → k ≡ a + 1 → new.turn ≡ Some t → turn_at m t ≡ 0 → (m.view a).turn ≡ None → LockLaw g m → (c u : ℕ) → (written (words.Turn t) k m.word (words.Turn u) ≡ c + 1) ↔ ((viewing a new m.view c).turn ≡ Some u)
turn_taken g m a t k new number is zero none h c u =
    choose (λ n. (n ≡ c + 1) ↔ ((viewing a new m.view c).turn ≡ Some u)) u t k (turn_at m u)
    (λ ut. choose (λ v. (k ≡ c + 1) ↔ (v.turn ≡ Some u)) c a new (m.view c)
    (λ ca. (λ _. is ∙ ap Some (sym ut), λ _. omega (arith, number, ca)))
    (λ ca. (
      λ mine. absurd (not_both k a c number mine ca),
      λ theirs. absurd (let word : turn_at m t ≡ c + 1 = subst (λ (n : ℕ). turn_at m n ≡ c + 1) ut ((h.turns c u).1 theirs) in omega (arith, zero, word)),
    )))
    (λ ut. choose (λ v. (turn_at m u ≡ c + 1) ↔ (v.turn ≡ Some u)) c a new (m.view c)
    (λ ca. (
      λ mine. absurd (not_none u (sym none ∙ (h.turns a u).0 (subst (λ (n : ℕ). turn_at m u ≡ n + 1) ca mine))),
      λ theirs. absurd (ut (some_same u t (sym theirs ∙ is))),
    ))
    (λ ca. h.turns c u))

-- the same after it was given back
turn_left : (g : Geometry) (m : World) (a t : ℕ) (new : View) → new.turn ≡ None → (m.view a).turn ≡ Some t → LockLaw g m → (c u : ℕ) → (written (words.Turn t) 0 m.word (words.Turn u) ≡ c + 1) ↔ ((viewing a new m.view c).turn ≡ Some u)
turn_left g m a t new none is h c u =
    choose (λ n. (n ≡ c + 1) ↔ ((viewing a new m.view c).turn ≡ Some u)) u t 0 (turn_at m u)
    (λ ut. (
      λ mine. absurd (omega (arith, mine)),
      choose (λ v. v.turn ≡ Some u → 0 ≡ c + 1) c a new (m.view c)
          (λ ca theirs. absurd (not_none u (sym none ∙ theirs)))
          (λ ca theirs.
          let word : turn_at m t ≡ c + 1 = subst (λ (n : ℕ). turn_at m n ≡ c + 1) ut ((h.turns c u).1 theirs) in
          absurd (not_both (turn_at m t) a c ((h.turns a t).1 is) word ca)),
    ))
    (λ ut. choose (λ v. (turn_at m u ≡ c + 1) ↔ (v.turn ≡ Some u)) c a new (m.view c)
    (λ ca. (
      λ mine. absurd (ut (some_same u t (sym ((h.turns a u).0 (subst (λ (n : ℕ). turn_at m u ≡ n + 1) ca mine)) ∙ is))),
      λ theirs. absurd (not_none u (sym none ∙ theirs)),
    ))
    (λ ca. h.turns c u))

-- the least frames of others, and of the actor where nothing is scanned
least_left : (g : Geometry) (m : World) (word : Where → ℕ) (a : ℕ) (new : View) → new.scan.least ≡ None → ((c t f : ℕ) → c ≢ a → IsFreeIn g m t f → (m.view c).turn ≡ Some t → free_in g word f ≡ true) → LockLaw g m → (c t f : ℕ) → (viewing a new m.view c).turn ≡ Some t → (viewing a new m.view c).scan.least ≡ Some f → IsFreeIn g (record { word = word; view = viewing a new m.view }) t f
least_left g m word a new none free h c t f =
    choose (λ v. v.turn ≡ Some t → v.scan.least ≡ Some f → IsFreeIn g (record { word = word; view = viewing a new m.view }) t f) c a new (m.view c)
    (λ ca is found. absurd (not_none f (sym none ∙ found)))
    (λ ca is found. let was = h.least c t f is found in record { tier = was.tier; free = free c t f ca was is })

-- turns stay with the views that the step leaves them in
pub view_turn : (g : Geometry) (m : World) (a : ℕ) (new : View) → new.turn ≡ (m.view a).turn → LockLaw g m → (c t : ℕ) → (turn_at m t ≡ c + 1) ↔ ((viewing a new m.view c).turn ≡ Some t)
view_turn g m a new same h c t =
    let turn = view_part (λ v. v.turn) a new m.view same c in
    (λ is. turn ∙ (h.turns c t).0 is, λ is. (h.turns c t).1 (sym turn ∙ is))

pub lock_take_turn : (g : Geometry) (m : World) (a t : ℕ) → IsReady g m a (TakeTurn t) → LockLaw g m → LockLaw g (moved g m a (TakeTurn t))
lock_take_turn g m a t r h =
    let n : ℕ = turn_at m t in
    let view : View = m.view a in
    let Left : Bool → Type 0 = λ b. LockLaw g (record { word = written (words.Turn t) (if b then view.number + 1 else n) m.word; view = viewing a (after_of g view (TakeTurn t) (if b then Done else Busy n)) m.view }) in
    cases_on Left (n == 0)
    (λ zero.
    let new : View = after_of g view (TakeTurn t) Done in
    let k : ℕ = view.number + 1 in
    lock_turns g m (written (words.Turn t) k m.word) a new (λ v. refl) (λ b. refl) (λ s. refl) (λ b. refl) refl
    (turn_taken g m a t k new (omega (arith, r.shaped.number a)) refl (eqb-true n 0 zero) r.allowed.permitted h)
    (least_left g m (written (words.Turn t) k m.word) a new refl (λ c u f other was is. was.free) h) h)
    (λ held. lock_quiet g m (written (words.Turn t) n m.word) a view (read_keeps g (words.Turn t) m.word) (same_view view) h)

pub lock_release_turn : (g : Geometry) (m : World) (a t : ℕ) → IsReady g m a (ReleaseTurn t) → LockLaw g m → LockLaw g (moved g m a (ReleaseTurn t))
lock_release_turn g m a t r h =
    let new : View = after_of g (m.view a) (ReleaseTurn t) Done in
    lock_turns g m (written (words.Turn t) 0 m.word) a new (λ v. refl) (λ b. refl) (λ s. refl) (λ b. refl) refl
    (turn_left g m a t new refl r.allowed.permitted h)
    (least_left g m (written (words.Turn t) 0 m.word) a new refl (λ c u f other was is. was.free) h) h

there_is : (o : Option ℕ) (P : ℕ → Type 0) → IsSomeAnd o P → (t : ℕ) × (o ≡ Some t)
there_is None P h = absurd h
there_is (Some t) P h = (t, refl)

-- a frame is given: it is the least of nobody else's scan, as it lies in the tier of the actor's turn
pub lock_give : (g : Geometry) (m : World) (a f : ℕ) → IsReady g m a (GiveFrame f) → LockLaw g m → LockLaw g (moved g m a (GiveFrame f))
lock_give g m a f r h =
    let x : ℕ = bit_and (m.word (free_word_of g f)) (all_but (2 ^ free_bit g f)) in
    let new : View = after_of g (m.view a) (GiveFrame f) (Word (m.word (free_word_of g f))) in
    let word : Where → ℕ = written (free_word_of g f) x m.word in
    let bits = give_bit g m.word f r.allowed.range in
    let turn = there_is (m.view a).turn _ r.allowed.permitted.whole in
    let mine : turn_at m turn.0 ≡ a + 1 = (h.turns a turn.0).1 turn.1 in
    let lies = (h.least a turn.0 f turn.1 r.allowed.permitted.least).tier in
    lock_turns g m word a new (λ v. refl) (λ b. refl) (λ s. refl) (λ b. refl) refl
    (λ c t. view_turn g m a new refl h c t)
    (least_left g m word a new refl (λ c t k other was is.
    bits.rest k (λ same.
    let tier : t ≡ turn.0 = tier_of-IsInTier g k t was.tier ∙ ap (tier_of g) same ∙ sym (tier_of-IsInTier g f turn.0 lies) in
    let theirs : turn_at m turn.0 ≡ c + 1 = subst (λ (n : ℕ). turn_at m n ≡ c + 1) tier ((h.turns c t).1 is) in
    not_both (turn_at m turn.0) a c mine theirs other)
    ∙ was.free) h) h

-- a frame is put back: the least frames stay free
pub lock_put : (g : Geometry) (m : World) (a f : ℕ) → IsReady g m a (PutFrame f) → LockLaw g m → LockLaw g (moved g m a (PutFrame f))
lock_put g m a f r h =
    let x : ℕ = bit_or (m.word (free_word_of g f)) (2 ^ free_bit g f) in
    let new : View = after_of g (m.view a) (PutFrame f) (Word (m.word (free_word_of g f))) in
    let word : Where → ℕ = written (free_word_of g f) x m.word in
    let bits = put_bit g m.word f r.allowed.range in
    let free : (k : ℕ) → free_in g m.word k ≡ true → free_in g word k ≡ true = λ k was. elim (cases_eq k f) [ inl same ↦ ap (free_in g word) same ∙ bits.here | inr other ↦ bits.rest k other ∙ was ] in
    lock_turns g m word a new (λ v. refl) (λ b. refl) (λ s. refl) (λ b. refl) refl
    (λ c t. view_turn g m a new refl h c t)
    (λ c t k is found.
    let turn : (m.view c).turn ≡ Some t = sym (view_part (λ v. v.turn) a new m.view refl c) ∙ is in
    let was = h.least c t k turn (sym (view_part (λ v. v.scan.least) a new m.view refl c) ∙ found) in
    record { tier = was.tier; free = free k was.free }) h
