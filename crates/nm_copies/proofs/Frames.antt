-- The kinds that only give, take away or give on frames: GiveFrame, PutFrame, SetShadow to a shadow.
use Rattle.std.proofs.Common.{◌≡◌, ℕ, ◌⊎◌, Option, Some, None, refl, sym, inl, inr}
use Rattle.std.specs.Prelude.{option_map}
use Rattle.nm_base.specs.Geometry.{Geometry}
use Rattle.nm_action.specs.declared.action.Reply.TheVariants.{Done, Word}
use Rattle.nm_action.specs.declared.action.Action.TheVariants.{GiveFrame, PutFrame, SetShadow}
use Rattle.nm_words.specs.declared.names.Where.{Where}
use Rattle.nm_words.specs.declared.names.Where.TheVariants as words
use Rattle.nm_step.specs.Table.{free_word_of}
use Rattle.nm_view.specs.declared.view.Fill.{Fill}
use Rattle.nm_view.specs.declared.view.Fill.TheVariants.{Raw}
use Rattle.nm_view.specs.Views.{View}
use Rattle.nm_view.specs.Operations.{op_on}
use Rattle.nm_event.specs.After.{after_of, shaded}
use Rattle.nm_world.specs.Worlds.{World, moved, viewing, left_in}
use Rattle.nm_world.specs.Parts.{copier_of}
use Rattle.nm_world.specs.Sights.{Sets, sight_of, sight_at}
use Rattle.nm_world.specs.CopyLaw.{CopyLaw}
use Rattle.nm_world.specs.Laws.{IsReady}
use Rattle.nm_world.proofs.Writing.{fill_put, fill_gone}
use Rattle.nm_world.proofs.Moves.{edited, gone}
use Rattle.nm_world.proofs.Parts.{part_edit}
use Rattle.nm_copies.proofs.Quiet.{KeepsWords, unread_keeps, view_part, entries_before}
use Rattle.nm_copies.proofs.Fills.{FillsFrom, law_fills}

-- a step on a word that the law does not read, at which fills come from before
frames_moved : (g : Geometry) (m : World) (word : Where → ℕ) (a : ℕ) (new : View) → KeepsWords m.word word → new.cache ≡ (m.view a).cache → ((b : ℕ) → option_map (copier_of g) (op_on new b) ≡ option_map (copier_of g) (op_on (m.view a) b)) → FillsFrom (sight_of g m).fill (sight_at g word (viewing a new m.view)).fill → CopyLaw g (sight_of g m) → CopyLaw g (sight_at g word (viewing a new m.view))
frames_moved g m word a new keeps cache copier from h =
    law_fills g (sight_of g m) (sight_at g word (viewing a new m.view))
    (record { pte = keeps.pte; home = keeps.home; mem = keeps.mem; entry = entries_before a new m.view (λ v e is. rw (sym cache) is) })
    from
    (λ c b. view_part (λ v. option_map (copier_of g) (op_on v b)) a new m.view (copier b) c) h

pub copies-give : (g : Geometry) (m : World) (a f : ℕ) → CopyLaw g (sight_of g m) → CopyLaw g (sight_of g (moved g m a (GiveFrame f)))
copies-give g m a f h =
    let new : View = after_of g (m.view a) (GiveFrame f) (Word (m.word (free_word_of g f))) in
    let word : Where → ℕ = (moved g m a (GiveFrame f)).word in
    let fill = (sight_of g m).fill in
    let after = (sight_at g word (viewing a new m.view)).fill in
    let sets : Sets fill after a f (Some Raw) = fill_put a (record { frame = f; fill = Raw }) new m.view refl in
    frames_moved g m word a new (unread_keeps (free_word_of g f) (left_in g m a (GiveFrame f)) m.word tt) refl (λ b. refl)
    (λ c j x is. edited (λ c j x. (x ≡ Raw) ⊎ (fill c j ≡ Some x)) fill after a f Raw sets (inl refl) (λ c j x apart was. inr was) c j x is) h

-- where a frame goes, the fills that are left were there before
left_from : (fill after : ℕ → ℕ → Option Fill) (a f : ℕ) → Sets fill after a f None → FillsFrom fill after
left_from fill after a f sets c j x is = inr (gone fill after a f sets c j x is).1

pub copies-put : (g : Geometry) (m : World) (a f : ℕ) → IsReady g m a (PutFrame f) → CopyLaw g (sight_of g m) → CopyLaw g (sight_of g (moved g m a (PutFrame f)))
copies-put g m a f r h =
    let new : View = after_of g (m.view a) (PutFrame f) (Word (m.word (free_word_of g f))) in
    let word : Where → ℕ = (moved g m a (PutFrame f)).word in
    let after = (sight_at g word (viewing a new m.view)).fill in
    frames_moved g m word a new (unread_keeps (free_word_of g f) (left_in g m a (PutFrame f)) m.word tt) refl (λ b. refl)
    (left_from (sight_of g m).fill after a f (fill_gone a f new m.view refl (r.shaped.shape a r.actor).keyed.owned_once)) h

pub copies-shade : (g : Geometry) (m : World) (a b k s : ℕ) → IsReady g m a (SetShadow b k (Some s)) → CopyLaw g (sight_of g m) → CopyLaw g (sight_of g (moved g m a (SetShadow b k (Some s))))
copies-shade g m a b k s r h =
    let new : View = after_of g (m.view a) (SetShadow b k (Some s)) Done in
    let word : Where → ℕ = (moved g m a (SetShadow b k (Some s))).word in
    let after = (sight_at g word (viewing a new m.view)).fill in
    frames_moved g m word a new (unread_keeps (words.Shadow k) (left_in g m a (SetShadow b k (Some s))) m.word tt) refl
    (λ j. part_edit (copier_of g) b (shaded b (Some s)) j (m.view a).ops (λ o. refl) (λ o. refl))
    (left_from (sight_of g m).fill after a s (fill_gone a s new m.view refl (r.shaped.shape a r.actor).keyed.owned_once)) h
