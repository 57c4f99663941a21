-- The first SetHome or Map ends an open transaction, as the law says.
use Rattle.std.proofs.Common.{◌≡◌, ◌≢◌, ℕ, true, false, List, [], ◌∷◌, Some, IsSomeAnd, All, refl, sym, ap, subst, ◌∙◌, inl, inr}
use Rattle.nm_base.specs.Geometry.{Geometry, IsGeometry, backing_page}
use Rattle.nm_base.specs.PageWord.{is_dirty}
use Rattle.nm_action.specs.declared.action.Action.{Action}
use Rattle.nm_action.specs.declared.action.Action.TheVariants.{Map, SetHome}
use Rattle.nm_action.specs.declared.action.Event.{Event}
use Rattle.nm_view.specs.declared.view.Fill.{Fill}
use Rattle.nm_view.specs.declared.view.Phase.{Phase}
use Rattle.nm_view.specs.declared.view.Phase.TheVariants.{Cleared, Taken}
use Rattle.nm_view.specs.Lists.{find, first}
use Rattle.nm_view.specs.Views.{Op}
use Rattle.nm_view.specs.Operations.{fill_of}
use Rattle.nm_view.proofs.Finds.{find_number}
use Rattle.nm_view.proofs.Items.{all_find, all_head, more, none_left}
use Rattle.nm_permit.specs.Permitted.{Permitted, MayMap, MaySetHome, HasNewHome}
use Rattle.nm_world.specs.Worlds.{World, op_at, pte_at, home_at}
use Rattle.nm_world.specs.Sights.{sight_of}
use Rattle.nm_world.specs.Laws.{AreAll, IsReady}
use Rattle.nm_world.proofs.Options.{some_and}
use Rattle.nm_copies.specs.Facts.{CopyFacts}
use Rattle.nm_copies.proofs.Closing.{facts_hold}
use Rattle.nm_transactions.specs.TransactionLaw.{SetsOrMaps, StoresTo, IsSetOrMap, IsDecided}
use Rattle.nm_transactions.proofs.Lists.{all_from_none}
use Rattle.nm_transactions.proofs.Open.{IsCleared, IsTakenOut, IsOpen}
use Rattle.nm_transactions.proofs.Own.{on_own, under_own}
use Rattle.nm_transactions.proofs.Steps.{event_in, some_word}

-- an operation whose page has a home finds no demand
no_demand : (g : Geometry) (m : World) (a b : ℕ) (o : Op) → IsGeometry g → AreAll g m → op_at m a b ≡ Some o → home_at m b ≢ 0 → o.home ≡ Some 0 → ⊥
no_demand g m a b o is all here home none =
    let facts : CopyFacts g (sight_of g m) = facts_hold g m is all in
    home (sym ((facts.informed.informed a b o here).home 0 none))

-- No SetHome and no Map before Unmap.

both_phases : (phase : Phase) → phase ≡ Cleared → phase ≡ Taken → ⊥
both_phases phase is also = let same : Cleared ≡ Taken = sym is ∙ also in cc

no_home : (g : Geometry) (o : Op) (fill : Fill) → o.phase ≡ Cleared → (o.home ≡ Some 0 → ⊥) → HasNewHome g fill o → ⊥
no_home g o fill phase demand (inl h) = demand h.home
no_home g o fill phase demand (inr (inl h)) = both_phases o.phase phase h.phase
no_home g o fill phase demand (inr (inr h)) = both_phases o.phase phase h.unmapped.phase.taken

none_before_unmap : (g : Geometry) (m : World) (a v b : ℕ) (events : List Event) (action : Action) → IsGeometry g → AreAll g m → backing_page g v ≡ Some b → IsCleared g m a v b events → Permitted g (m.view a) action → SetsOrMaps g b action → ⊥
none_before_unmap g m a v b events (SetHome c f) is all of h may acts =
    let facts : CopyFacts g (sight_of g m) = facts_hold g m is all in
    let home : home_at m b ≢ 0 = facts.mapped.words v b of (some_word (pte_at m v) h.present) in
    let new : MaySetHome g (fill_of (m.view a) f) h.op = on_own (m.view a) c b h.op (MaySetHome g (fill_of (m.view a) f)) h.here may acts in
    let fill = some_and (fill_of (m.view a) f) (λ x. HasNewHome g x h.op) new in
    no_home g h.op fill.0 h.phase (no_demand g m a b h.op is all h.here home) fill.1.1
none_before_unmap g m a v b events (Map u word) is all of h may acts = (under_own g (m.view a) u b h.op (MayMap g u word) h.here may acts).phase h.phase
none_before_unmap g m a v b events action is all of h may acts = absurd acts

-- A SetHome after Unmap: the taken word is clean.

some_taken : (taken : List (ℕ × ℕ)) (p : ℕ × ℕ) → taken ≡ p ∷ [] → taken ≢ []
some_taken taken p is none = let both : p ∷ [] ≡ [] = sym is ∙ none in cc

clean_word : (g : Geometry) (o : Op) (fill : Fill) (v word : ℕ) → o.cleared ≡ true → o.taken ≡ (v, word) ∷ [] → (o.home ≡ Some 0 → ⊥) → HasNewHome g fill o → is_dirty word ≡ false
clean_word g o fill v word cleared taken demand (inl h) = absurd (demand h.home)
clean_word g o fill v word cleared taken demand (inr (inl h)) =
    all_head (λ p. is_dirty p.1 ≡ false) (v, word) [] (subst (All (λ p. is_dirty p.1 ≡ false)) taken h.clean.clean)
clean_word g o fill v word cleared taken demand (inr (inr h)) = absurd (let off : o.cleared ≡ false = h.unmapped.phase.uncleared in cc)

homed : (g : Geometry) (m : World) (a v b c f : ℕ) (events : List Event) → IsGeometry g → AreAll g m → IsReady g m a (SetHome c f) → IsTakenOut g m a v b events → c ≡ b → IsDecided g a v b events (event_in g m a (SetHome c f))
homed g m a v b c f events is all r h same =
    let facts : CopyFacts g (sight_of g m) = facts_hold g m is all in
    let home : home_at m b ≢ 0 = facts.mapped.taken a b h.op h.here h.unmoved (some_taken h.op.taken (v, h.word) h.taken) in
    let new : MaySetHome g (fill_of (m.view a) f) h.op = on_own (m.view a) c b h.op (MaySetHome g (fill_of (m.view a) f)) h.here r.allowed.permitted same in
    let fill = some_and (fill_of (m.view a) f) (λ x. HasNewHome g x h.op) new in
    let clean : is_dirty h.word ≡ false = clean_word g h.op fill.0 v h.word h.cleared h.taken (no_demand g m a b h.op is all h.here home) fill.1.1 in
    let Never : Type 0 = is_dirty h.word ≡ true → ⊥ in
    let never : Never = λ dirty. cc in
    record {
      before = h.before;
      word = h.word;
      after = h.after;
      unmaps = h.list;
      none_before = h.none_before;
      none_after = h.none_after;
      flushed = h.flushed;
      commits = (λ _ some. never (h.walks.set some), λ _. same);
      returns = λ some. absurd (never (h.walks.set some));
      still = λ _ flush rest list ended. all_from_none (λ (e : Event). StoresTo g b e.action) rest (λ some. never (h.stores flush rest list ended some));
    }

-- A Map after Unmap: it puts the taken word back, which is dirty.

one_word : (v word : ℕ) (taken : List (ℕ × ℕ)) (u w : ℕ) → taken ≡ (v, word) ∷ [] → IsSomeAnd (find first u taken) (λ p. p.1 ≡ w) → (u ≡ v) × (w ≡ word)
one_word v word taken u w is h =
    let p = some_and (find first u taken) (λ p. p.1 ≡ w) h in
    let One : ℕ × ℕ → Type 0 = λ q. (q.0 ≡ v) × (q.1 ≡ word) in
    let all : All One taken = subst (All One) (sym is) (more One (v, word) [] (refl, refl) (none_left One)) in
    let one : One p.0 = all_find first u One taken p.0 all p.1.0 in
    (sym (find_number first u taken p.0 p.1.0) ∙ one.0, sym p.1.1 ∙ one.1)

mapped_back : (g : Geometry) (m : World) (a v b u w : ℕ) (events : List Event) → IsReady g m a (Map u w) → IsTakenOut g m a v b events → backing_page g u ≡ Some b → IsDecided g a v b events (event_in g m a (Map u w))
mapped_back g m a v b u w events r h of =
    let may : MayMap g u w h.op = under_own g (m.view a) u b h.op (MayMap g u w) h.here r.allowed.permitted of in
    let one = one_word v h.word h.op.taken u w h.taken (may.back h.cleared h.unmoved).taken in
    let dirty : is_dirty h.word ≡ true = ap is_dirty (sym one.1) ∙ may.dirty h.cleared h.unmoved in
    let back : Map u w ≡ Map v h.word = ap (λ k. Map k w) one.0 ∙ ap (Map v) one.1 in
    record {
      before = h.before;
      word = h.word;
      after = h.after;
      unmaps = h.list;
      none_before = h.none_before;
      none_after = h.none_after;
      flushed = h.flushed;
      commits = (λ sets. absurd sets, λ none. absurd (none (h.walks.by dirty)));
      returns = λ _. back;
      still = λ sets. absurd sets;
    }

ended_after : (g : Geometry) (m : World) (a v b : ℕ) (events : List Event) (action : Action) → IsGeometry g → AreAll g m → IsReady g m a action → IsTakenOut g m a v b events → SetsOrMaps g b action → IsDecided g a v b events (event_in g m a action)
ended_after g m a v b events (SetHome c f) is all r h acts = homed g m a v b c f events is all r h acts
ended_after g m a v b events (Map u w) is all r h acts = mapped_back g m a v b u w events r h acts
ended_after g m a v b events action is all r h acts = absurd acts

-- the end of an open transaction
pub open_ended : (g : Geometry) (m : World) (a v b c : ℕ) (events : List Event) (action : Action) → IsGeometry g → AreAll g m → IsReady g m c action → backing_page g v ≡ Some b → IsSetOrMap g a b (event_in g m c action) → IsOpen g m a v b events → IsDecided g a v b events (event_in g m c action)
open_ended g m a v b c events action is all r of last begun =
    let Ends : ℕ → Type 0 = λ k. IsReady g m k action → IsDecided g a v b events (event_in g m k action) in
    let own : Ends a = λ q. elim begun [
      | inl h ↦ absurd (none_before_unmap g m a v b events action is all of h q.allowed.permitted last.acts)
      | inr h ↦ ended_after g m a v b events action is all q h last.acts
    ] in
    subst Ends (sym last.actor) own r
