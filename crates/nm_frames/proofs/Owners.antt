-- The kinds at which an operation comes or goes, or a frame.
use Rattle.std.proofs.Common.{◌≡◌, ◌≢◌, ℕ, ◌+◌, ◌^◌, ◌==◌, if◌then◌else◌, bit_and, bit_or, Bool, true, false, Option, Some, None, IsSome, All, refl, sym, ap, subst, ◌∙◌, ◌⊎◌, inl, inr}
use Rattle.std.specs.Prelude.{option_map}
use Rattle.std.proofs.lemmas.Bool.{cases_eq}
use Rattle.nm_base.specs.Geometry.{Geometry}
use Rattle.nm_base.specs.PageWord.{all_but}
use Rattle.nm_base.specs.FreeWords.{free_bit, free_words}
use Rattle.nm_base.specs.Ranges.{IsFrame}
use Rattle.nm_action.specs.declared.action.Reply.TheVariants.{Done, Word, Busy}
use Rattle.nm_action.specs.declared.action.Action.TheVariants.{Lock, Unlock, GiveFrame, PutFrame}
use Rattle.nm_view.specs.declared.view.Fill.{Fill}
use Rattle.nm_view.specs.declared.view.Fill.TheVariants.{Raw}
use Rattle.nm_view.specs.declared.view.Owned.{Owned}
use Rattle.nm_view.specs.Lists.{find}
use Rattle.nm_view.specs.Views.{Op, View}
use Rattle.nm_view.specs.Opening.{opened}
use Rattle.nm_view.specs.Operations.{owned_frame, op_on}
use Rattle.nm_view.proofs.Items.{none_left}
use Rattle.nm_words.specs.declared.names.Where.{Where}
use Rattle.nm_words.specs.declared.names.Where.TheVariants as words
use Rattle.nm_step.specs.Table.{free_word_of}
use Rattle.nm_event.specs.After.{after_of, spoiled_frame}
use Rattle.nm_world.specs.Worlds.{World, moved, viewing, written, home_at, shadow_at, op_at}
use Rattle.nm_world.specs.Sights.{Sight, WritesOne, Sets, sight_of, sight_at}
use Rattle.nm_world.specs.LockLaw.{LockLaw}
use Rattle.nm_world.specs.FrameLaw.{Claim, Bit, AtHome, AtShadow, By, Claims, Names, names_of, NamesAsShadow, AreRoles, IsWordOf, FrameLaw}
use Rattle.nm_world.specs.Laws.{IsReady}
use Rattle.nm_world.proofs.Options.{some_and}
use Rattle.nm_world.proofs.FreeBits.{give_bit, put_bit}
use Rattle.nm_world.proofs.Moves.{edited, gone}
use Rattle.nm_world.proofs.Roles.{one_moves}
use Rattle.nm_world.proofs.Writing.{open_sets, close_sets, fill_put, fill_gone}
use Rattle.nm_frames.proofs.Still.{cases_on, not_both, same_view, same_fills, map_fills, roles_kept, words_still, taken_still, takings_of, unread_keeps, view_part, frames_quiet}

-- Operations.

pub frames_lock : (g : Geometry) (m : World) (a b : ℕ) → IsReady g m a (Lock b) → FrameLaw g (sight_of g m) → FrameLaw g (sight_of g (moved g m a (Lock b)))
frames_lock g m a b r law =
    let n : ℕ = m.word (words.Lock b) in
    let view : View = m.view a in
    let word : Bool → (Where → ℕ) = λ t. written (words.Lock b) (if t then view.number + 1 else n) m.word in
    let Left : Bool → Type 0 = λ t. FrameLaw g (sight_of g (record { word = written (words.Lock b) (if t then view.number + 1 else n) m.word; view = viewing a (after_of g view (Lock b) (if t then Done else Busy n)) m.view })) in
    cases_on Left (n == 0)
    (λ free.
    let new : View = after_of g view (Lock b) Done in
    let o : Op = opened b view.room.aliases in
    let P : ℕ → ℕ → Op → Type 0 = λ c d p. p.moved ≡ false → All (λ q. IsWordOf g (home_at m) (shadow_at m) d q.0 q.1) p.taken in
    record {
      roles = roles_kept g m (word true) a new (λ f. refl) (λ d. refl) (λ k. refl) (λ f. same_fills) law;
      words = words_still g (sight_of g m) (sight_at g (word true) (viewing a new m.view)) (λ v. refl) (λ d. refl) (λ k. refl) law;
      taken = edited P (op_at m) (λ c d. op_on (viewing a new m.view c) d) a b o (open_sets a o new m.view refl r.allowed.permitted.fresh)
          (λ _. none_left (λ q. IsWordOf g (home_at m) (shadow_at m) b q.0 q.1)) (λ c d p apart there. law.taken c d p there);
    })
    (λ held. frames_quiet g m (word false) a view (unread_keeps g (words.Lock b) n m.word tt) (same_view view) law)

pub frames_unlock : (g : Geometry) (m : World) (a b : ℕ) → IsReady g m a (Unlock b) → FrameLaw g (sight_of g m) → FrameLaw g (sight_of g (moved g m a (Unlock b)))
frames_unlock g m a b r law =
    let view : View = m.view a in
    let new : View = after_of g view (Unlock b) Done in
    let word : Where → ℕ = written (words.Lock b) 0 m.word in
    let sets = close_sets a b new m.view refl (r.shaped.shape a r.actor).keyed.ops_once in
    record {
      roles = roles_kept g m word a new (λ f. refl) (λ d. refl) (λ k. refl) (λ f. map_fills (spoiled_frame b) f view.owned (λ w. refl)) law;
      words = words_still g (sight_of g m) (sight_at g word (viewing a new m.view)) (λ v. refl) (λ d. refl) (λ k. refl) law;
      taken = λ c d p is. law.taken c d p (gone (op_at m) (λ i j. op_on (viewing a new m.view i) j) a b sets c d p is).1;
    }

-- Frames.

-- the roles after frame f was given to an actor, or put back by it
record Hands (n after : Names) (a f : ℕ) (free : Bool) (fill : Option Fill) : Type 0 where
  bits : WritesOne n.free after.free f free
  fills : Sets n.fill after.fill a f fill
  home : (b : ℕ) → after.home b ≡ n.home b
  shadow : (k : ℕ) → after.shadow k ≡ n.shadow k

pub some_same_fill : (x y : Option Fill) → x ≡ y → IsSome x → IsSome y
some_same_fill x y e h = subst (λ (z : Option Fill). IsSome z) e h

-- owners of frames that the step doesn't name
pub by_forth : (fill after : ℕ → ℕ → Option Fill) (a f : ℕ) (x : Option Fill) → Sets fill after a f x → (d h : ℕ) → h ≢ f → IsSome (fill d h) → IsSome (after d h)
by_forth fill after a f x sets d h other owned = elim (cases_eq d a) [
  | inl same ↦
      let here : IsSome (fill a h) = some_same_fill (fill d h) (fill a h) (ap (λ i. fill i h) same) owned in
      let there : IsSome (after a h) = some_same_fill (fill a h) (after a h) (sym (sets.rest h other)) here in
      some_same_fill (after a h) (after d h) (ap (λ i. after i h) (sym same)) there
  | inr apart ↦ some_same_fill (fill d h) (after d h) (sym (sets.others d h apart)) owned
]

-- an owner after the step was one before it, or is the actor with the frame
pub by_back : (fill after : ℕ → ℕ → Option Fill) (a f : ℕ) (x : Option Fill) → Sets fill after a f x → (d h : ℕ) → IsSome (after d h) → ((By d ≡ By a) × (h ≡ f)) ⊎ IsSome (fill d h)
by_back fill after a f x sets d h owned = elim (cases_eq d a) [
  | inl same ↦ elim (cases_eq h f) [
    | inl at ↦ inl (ap By same, at)
    | inr other ↦
        let here : IsSome (after a h) = some_same_fill (after d h) (after a h) (ap (λ i. after i h) same) owned in
        let there : IsSome (fill a h) = some_same_fill (after a h) (fill a h) (sets.rest h other) here in
        inr (some_same_fill (fill a h) (fill d h) (ap (λ i. fill i h) (sym same)) there)
  ]
  | inr apart ↦ inr (some_same_fill (after d h) (fill d h) (sets.others d h apart) owned)
]

-- a claim on a frame that the step doesn't name
other_forth : (n after : Names) (a f : ℕ) (bit : Bool) (fill : Option Fill) → Hands n after a f bit fill → (c : Claim) (h : ℕ) → h ≢ f → Claims n c h → Claims after c h
other_forth n after a f bit fill hands Bit h other claims = hands.bits.rest h other ∙ claims
other_forth n after a f bit fill hands (AtHome b) h other claims = hands.home b ∙ claims
other_forth n after a f bit fill hands (AtShadow k) h other claims = subst (λ (w : ℕ). NamesAsShadow w h) (sym (hands.shadow k)) claims
other_forth n after a f bit fill hands (By d) h other claims = by_forth n.fill after.fill a f fill hands.fills d h other claims

-- a claim after the step stood before it, but that of the actor on the frame, and that of its bit
other_back : (n after : Names) (a f : ℕ) (bit : Bool) (fill : Option Fill) → Hands n after a f bit fill → (c : Claim) (h : ℕ) → Claims after c h → (((c ≡ By a) ⊎ (c ≡ Bit)) × (h ≡ f)) ⊎ Claims n c h
other_back n after a f bit fill hands Bit h claims = elim (cases_eq h f) [
  | inl same ↦ inl (inr refl, same)
  | inr other ↦ inr (sym (hands.bits.rest h other) ∙ claims)
]
other_back n after a f bit fill hands (AtHome b) h claims = inr (sym (hands.home b) ∙ claims)
other_back n after a f bit fill hands (AtShadow k) h claims = inr (subst (λ (w : ℕ). NamesAsShadow w h) (hands.shadow k) claims)
other_back n after a f bit fill hands (By d) h claims = elim (by_back n.fill after.fill a f fill hands.fills d h claims) [
  | inl new ↦ inl (inl new.0, new.1)
  | inr old ↦ inr old
]

pub none_some : (x : Option Fill) → x ≡ None → IsSome x → ⊥
none_some None e h = cc
none_some (Some f) e h = cc

-- a free frame goes to an actor
gives : (g : Geometry) (n after : Names) (a f : ℕ) (fill : Fill) → Hands n after a f false (Some fill) → n.free f ≡ true → IsFrame g f → AreRoles g n → AreRoles g after
gives g n after a f fill hands was frame roles = one_moves g n after f Bit (By a) (record {
  was = was;
  is = some_same_fill (Some fill) (after.fill a f) (sym hands.fills.here) cc;
  gone = λ set. absurd (not_both (after.free f) set hands.bits.here);
  back = λ c h claims. elim (other_back n after a f false (Some fill) hands c h claims) [
    | inl new ↦ elim new.0 [
      | inl by ↦ inl (by, new.1)
      | inr bit ↦
          let set : Claims after Bit h = subst (λ (d : Claim). Claims after d h) bit claims in
          absurd (not_both (after.free f) (ap after.free (sym new.1) ∙ set) hands.bits.here)
    ]
    | inr old ↦ inr old
  ];
  forth = other_forth n after a f false (Some fill) hands;
}) frame roles

-- an owned frame is put back
puts : (g : Geometry) (n after : Names) (a f : ℕ) → Hands n after a f true None → IsSome (n.fill a f) → IsFrame g f → AreRoles g n → AreRoles g after
puts g n after a f hands was frame roles = one_moves g n after f (By a) Bit (record {
  was = was;
  is = hands.bits.here;
  gone = λ own. absurd (none_some (after.fill a f) hands.fills.here own);
  back = λ c h claims. elim (other_back n after a f true None hands c h claims) [
    | inl new ↦ elim new.0 [
      | inl by ↦
          let own : Claims after (By a) h = subst (λ (d : Claim). Claims after d h) by claims in
          absurd (none_some (after.fill a f) hands.fills.here (some_same_fill (after.fill a h) (after.fill a f) (ap (after.fill a) new.1) own))
      | inr bit ↦ inl (bit, new.1)
    ]
    | inr old ↦ inr old
  ];
  forth = other_forth n after a f true None hands;
}) frame roles

pub frames_give : (g : Geometry) (m : World) (a f : ℕ) → LockLaw g m → IsReady g m a (GiveFrame f) → FrameLaw g (sight_of g m) → FrameLaw g (sight_of g (moved g m a (GiveFrame f)))
frames_give g m a f locks r law =
    let x : ℕ = bit_and (m.word (free_word_of g f)) (all_but (2 ^ free_bit g f)) in
    let view : View = m.view a in
    let new : View = after_of g view (GiveFrame f) (Word (m.word (free_word_of g f))) in
    let word : Where → ℕ = written (free_word_of g f) x m.word in
    let after : Sight = sight_at g word (viewing a new m.view) in
    let turn = some_and view.turn (λ t. view.scan.words ≡ free_words g t) r.allowed.permitted.whole in
    let own : Owned = record { frame = f; fill = Raw } in
    record {
      roles = gives g (names_of (sight_of g m)) (names_of after) a f Raw
          (record { bits = give_bit g m.word f r.allowed.range; fills = fill_put a own new m.view refl; home = λ b. refl; shadow = λ k. refl })
          (locks.least a turn.0 f turn.1.0 r.allowed.permitted.least).free r.allowed.range law.roles;
      words = words_still g (sight_of g m) after (λ v. refl) (λ d. refl) (λ k. refl) law;
      taken = taken_still g (sight_of g m) after (λ b. refl) (λ k. refl) (λ c b. view_part (λ v. option_map takings_of (op_on v b)) a new m.view refl c) law;
    }

some_part : (found : Option Owned) → IsSome found → IsSome (option_map (λ (w : Owned). w.fill) found)
some_part None h = h
some_part (Some w) h = cc

pub frames_put : (g : Geometry) (m : World) (a f : ℕ) → IsReady g m a (PutFrame f) → FrameLaw g (sight_of g m) → FrameLaw g (sight_of g (moved g m a (PutFrame f)))
frames_put g m a f r law =
    let x : ℕ = bit_or (m.word (free_word_of g f)) (2 ^ free_bit g f) in
    let view : View = m.view a in
    let new : View = after_of g view (PutFrame f) (Word (m.word (free_word_of g f))) in
    let word : Where → ℕ = written (free_word_of g f) x m.word in
    let after : Sight = sight_at g word (viewing a new m.view) in
    record {
      roles = puts g (names_of (sight_of g m)) (names_of after) a f
          (record { bits = put_bit g m.word f r.allowed.range; fills = fill_gone a f new m.view refl (r.shaped.shape a r.actor).keyed.owned_once; home = λ b. refl; shadow = λ k. refl })
          (some_part (find owned_frame f view.owned) r.allowed.permitted.owned) r.allowed.range law.roles;
      words = words_still g (sight_of g m) after (λ v. refl) (λ d. refl) (λ k. refl) law;
      taken = taken_still g (sight_of g m) after (λ b. refl) (λ k. refl) (λ c b. view_part (λ v. option_map takings_of (op_on v b)) a new m.view refl c) law;
    }
