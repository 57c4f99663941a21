-- A transaction that is open: what the state and the events since its ClearDirty tell of each other, before and after Unmap.
use Rattle.std.proofs.Common.{◌≡◌, ℕ, Bool, true, false, List, [], ◌∷◌, ◌++◌, Some, All, sym, subst, ◌⊎◌, inl, inr}
use Rattle.std.specs.Prelude.{Any}
use Rattle.std.specs.Int.{bit_at}
use Rattle.nm_base.specs.Geometry.{Geometry}
use Rattle.nm_base.specs.PageWord.{is_dirty}
use Rattle.nm_action.specs.declared.action.Action.TheVariants.{Unmap}
use Rattle.nm_action.specs.declared.action.Reply.TheVariants.{Word}
use Rattle.nm_action.specs.declared.action.Event.{Event}
use Rattle.nm_view.specs.declared.view.Phase.TheVariants.{Cleared, Taken}
use Rattle.nm_view.specs.Views.{Op}
use Rattle.nm_world.specs.Worlds.{World, op_at, pte_at}
use Rattle.nm_transactions.specs.TransactionLaw.{replied, StoresTo, HasFlushEnded}
use Rattle.nm_transactions.proofs.Lists.{any_nil, any_before, cut}
use Rattle.nm_transactions.proofs.Flushes.{IsNotBy, ShowsFlush, ended_longer}
use Rattle.nm_transactions.proofs.Tables.{TellsWalks}

-- a Store or an Add to b after the flush ended finds the word dirty
abbrev pub StoresAreDirty : Geometry → ℕ → ℕ → List Event → Bool → Type 0
StoresAreDirty g a b events dirty = (flush rest : List Event) → events ≡ flush ++ rest → HasFlushEnded g a flush → Any (λ e. StoresTo g b e.action) rest → dirty ≡ true

-- before Unmap: the operation in phase Cleared has taken nothing, v maps a frame, and its word is dirty exactly where a dirty
-- Walk of v was made
pub record IsCleared (g : Geometry) (m : World) (a v b : ℕ) (events : List Event) : Type 0 where
  pub op : Op
  pub here : op_at m a b ≡ Some op
  pub phase : op.phase ≡ Cleared
  pub cleared : op.cleared ≡ true
  pub taken : op.taken ≡ []
  pub present : bit_at (pte_at m v) 0 ≡ 1
  pub none : All (IsNotBy a (Unmap v)) events
  pub flush : ShowsFlush a events op.due op.flush op.seen
  pub walks : TellsWalks v events (is_dirty (pte_at m v))
  pub stores : StoresAreDirty g a b events (is_dirty (pte_at m v))

-- after Unmap: the operation has taken the word of v alone, which is dirty exactly where a dirty Walk of v was made before
pub record IsTakenOut (g : Geometry) (m : World) (a v b : ℕ) (events : List Event) : Type 0 where
  pub op : Op
  pub here : op_at m a b ≡ Some op
  pub phase : op.phase ≡ Taken
  pub cleared : op.cleared ≡ true
  pub unmoved : op.moved ≡ false
  pub before : List Event
  pub word : ℕ
  pub after : List Event
  pub taken : op.taken ≡ (v, word) ∷ []
  pub list : events ≡ before ++ replied a (Unmap v) (Word word) ∷ after
  pub none_before : All (IsNotBy a (Unmap v)) before
  pub none_after : All (IsNotBy a (Unmap v)) after
  pub flushed : HasFlushEnded g a before
  pub walks : TellsWalks v before (is_dirty word)
  pub stores : StoresAreDirty g a b events (is_dirty word)

abbrev pub IsOpen : Geometry → World → ℕ → ℕ → ℕ → List Event → Type 0
IsOpen g m a v b events = IsCleared g m a v b events ⊎ IsTakenOut g m a v b events

pub stores_begun : (g : Geometry) (a b : ℕ) (dirty : Bool) → StoresAreDirty g a b [] dirty
stores_begun g a b dirty [] [] list ended some = absurd (any_nil (λ (e : Event). StoresTo g b e.action) some)
stores_begun g a b dirty [] (e ∷ rest) list ended some = absurd cc
stores_begun g a b dirty (e ∷ flush) rest list ended some = absurd cc

pub stores_more : (g : Geometry) (a b : ℕ) (events : List Event) (e : Event) (dirty more : Bool) → (dirty ≡ true → more ≡ true) → (HasFlushEnded g a events → StoresTo g b e.action → more ≡ true) → StoresAreDirty g a b events dirty → StoresAreDirty g a b (events ++ e ∷ []) more
stores_more g a b events e dirty more stays last h flush rest list ended some =
    let Stores : Event → Type 0 = λ f. StoresTo g b f.action in
    elim (cut events e flush rest list) [
      | inl none ↦ absurd (any_nil Stores (subst (Any Stores) none some))
      | inr both ↦
          let tail : List Event = both.0 in
          elim (any_before Stores tail e (subst (Any Stores) both.1 some)) [
            | inl old ↦ stays (h flush tail both.2 ended old)
            | inr now ↦ last (subst (HasFlushEnded g a) (sym both.2) (ended_longer g a flush tail ended)) now
          ]
    ]
