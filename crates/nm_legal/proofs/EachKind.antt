-- The link is kept by each kind of action, and each access tells what the flat memory has.
use Rattle.std.proofs.Common.{◌≡◌, ℕ, ◌+◌, ◌%◌, ◌^◌, IsTrue, Option, Some, None, IsSome, IsSomeAnd, refl, sym, ap, ◌∙◌}
use Rattle.std.specs.Prelude.{unwrap_or}
use Rattle.nm_base.specs.Geometry.{Geometry, backing_page}
use Rattle.nm_base.specs.HomeWord.{home_word}
use Rattle.nm_base.specs.Ranges.{IsIndex}
use Rattle.nm_flat.specs.Memory.{Memory, mapped_page, with_stored}
use Rattle.nm_action.specs.declared.action.Action.{Action}
use Rattle.nm_action.specs.declared.action.Cell.TheVariants as cells
use Rattle.nm_action.specs.declared.action.Action.TheVariants.{Load, Store, Add, Look, Walk, Peek, Poll, Ack, Lock, Unlock, Bump, SeeAck, Raise, Soften, Arm, ClearDirty, Unmap, Map, Grant, CopyLoad, CopyStore, SetHome, SetShadow, TakeTurn, Scan, GiveFrame, PutFrame, ReleaseTurn, Mark, Read}
use Rattle.nm_view.specs.declared.view.CacheEntry.{CacheEntry}
use Rattle.nm_view.specs.declared.view.Fill.{Fill}
use Rattle.nm_view.specs.Lists.{find}
use Rattle.nm_view.specs.Views.{View}
use Rattle.nm_view.specs.Operations.{cached_page, fill_of, op_on}
use Rattle.nm_words.specs.declared.names.Where.{Where}
use Rattle.nm_words.specs.declared.names.Where.TheVariants as words
use Rattle.nm_permit.specs.Permitted.{MayCopyStore, MaySetHome, HasNewHome, IsZeroedTo, IsCopiedTo}
use Rattle.nm_step.specs.Table.{cached_frame, entry_frame, home_frame}
use Rattle.nm_core.specs.Runs.{access_by}
use Rattle.nm_world.specs.Worlds.{World, moved, written, reply_in, home_at, mem_at}
use Rattle.nm_world.specs.Notions.{page_value}
use Rattle.nm_world.specs.Sights.{Sets, sight_of}
use Rattle.nm_world.specs.CopyLaw.{CopyLaw}
use Rattle.nm_world.specs.Laws.{IsReady}
use Rattle.nm_world.proofs.Options.{some_and}
use Rattle.nm_world.proofs.Writing.{mem_sets, word_writes}
use Rattle.nm_copies.specs.Facts.{CopyFacts}
use Rattle.nm_copies.proofs.Quiet.{rewritten}
use Rattle.nm_copies.proofs.Homing.{ready_home}
use Rattle.nm_copies.proofs.Homes.{IsReadyHome}
use Rattle.nm_copies.proofs.Memory.{value_apart}
use Rattle.nm_legal.specs.Linked.{IsLinked, FollowsMemory}
use Rattle.nm_legal.proofs.Pages.{value_at, value_left, value_stored, value_homed}

-- a cached translation leads to the home of its page
record Leads (g : Geometry) (m : World) (a v : ℕ) : Type 0 where
  page : ℕ
  mapped : IsSome (backing_page g v)
  of : mapped_page g v ≡ page
  home : home_at m page ≡ home_word (cached_frame (m.view a) v)

found_entry : (found : Option CacheEntry) → IsSome found → (e : CacheEntry) × (found ≡ Some e)
found_entry None some = absurd cc
found_entry (Some e) some = (e, refl)

dirty_found : (found : Option CacheEntry) → IsSomeAnd found (λ e. IsTrue e.dirty) → IsSome found
dirty_found None h = absurd h
dirty_found (Some e) h = cc

some_page : (found : Option ℕ) (b : ℕ) → found ≡ Some b → IsSome found
some_page found b is = rw is cc

leads : (g : Geometry) (m : World) (a v : ℕ) → CopyFacts g (sight_of g m) → IsSome (find cached_page v (m.view a).cache) → Leads g m a v
leads g m a v facts some =
    let e = found_entry (find cached_page v (m.view a).cache) some in
    let page = facts.homes.mapped a v e.0 e.1 in
    record {
      page = page.0;
      mapped = some_page (backing_page g v) page.0 page.1;
      of = ap (λ p. unwrap_or p 0) page.1;
      home = facts.homes.homes a v page.0 e.0 e.1 page.1 ∙ ap home_word (sym (ap entry_frame e.1));
    }

-- the word that a translation leads to is that of the memory
told : (g : Geometry) (m : World) (a v i : ℕ) (memory : Memory) → Leads g m a v → IsIndex g i → IsLinked g m memory → mem_at m (cached_frame (m.view a) v) i ≡ memory (mapped_page g v) i
told g m a v i memory l index h =
    sym (value_at (home_at m) (mem_at m) l.page (cached_frame (m.view a) v) i l.home) ∙ h l.page i index ∙ ap (λ b. memory b i) (sym l.of)

-- words that are read are left
read_linked : (g : Geometry) (m : World) (c : Where) (memory : Memory) → IsLinked g m memory → (b i : ℕ) → IsIndex g i → page_value (λ d. written c (m.word c) m.word (words.Home d)) (λ f j. written c (m.word c) m.word (words.Mem f j)) b i ≡ memory b i
read_linked g m c memory h b i index =
    value_left (home_at m) (λ d. written c (m.word c) m.word (words.Home d)) (mem_at m) (λ f j. written c (m.word c) m.word (words.Mem f j)) b i
    (rewritten c m.word (words.Home b)) (λ f j. rewritten c m.word (words.Mem f j)) ∙ h b i index

-- a word that is stored through a translation is stored in the memory
stored_linked : (g : Geometry) (m : World) (a v i x : ℕ) (memory : Memory) → CopyFacts g (sight_of g m) → Leads g m a v → IsLinked g m memory → (c j : ℕ) → IsIndex g j → page_value (home_at m) (λ f k. written (words.Mem (cached_frame (m.view a) v) i) x m.word (words.Mem f k)) c j ≡ with_stored memory (mapped_page g v) i x c j
stored_linked g m a v i x memory facts l h c j index =
    let f : ℕ = cached_frame (m.view a) v in
    value_stored (home_at m) (mem_at m) (λ k n. written (words.Mem f i) x m.word (words.Mem k n)) memory l.page f i x c j l.home
    (λ d is. facts.roles.one_page d l.page f is l.home) (mem_sets (mem_at m) f i x) (h c j index)
    ∙ ap (λ b. with_stored memory b i x c j) (sym l.of)

-- an owned frame
owned_zero : (found : Option Fill) (P : Fill → Type 0) → IsSomeAnd found P → (x : Fill) × (found ≡ Some x)
owned_zero found P h = let x = some_and found P h in (x.0, x.1.0)

owned_copy : (view : View) (b : Option ℕ) (f i x : ℕ) → MayCopyStore view b f i x → (y : Fill) × (fill_of view f ≡ Some y)
owned_copy view None f i x may = owned_zero (fill_of view f) (IsZeroedTo i) may.fill
owned_copy view (Some page) f i x may = owned_zero (fill_of view f) (IsCopiedTo page i) may.fill

copied_linked : (g : Geometry) (m : World) (a f i x : ℕ) (y : Fill) (memory : Memory) → CopyFacts g (sight_of g m) → fill_of (m.view a) f ≡ Some y → IsLinked g m memory → (c j : ℕ) → IsIndex g j → page_value (home_at m) (λ k n. written (words.Mem f i) x m.word (words.Mem k n)) c j ≡ memory c j
copied_linked g m a f i x y memory facts owned h c j index =
    let sets : Sets (mem_at m) (λ k n. written (words.Mem f i) x m.word (words.Mem k n)) f i x = mem_sets (mem_at m) f i x in
    value_apart (home_at m) (mem_at m) (λ k n. written (words.Mem f i) x m.word (words.Mem k n)) c f j
    (facts.roles.owned a c f y owned) (λ k n other. sets.others k n other) ∙ h c j index

-- a new home has the words of its page
homed_linked : (g : Geometry) (m : World) (a b f : ℕ) (memory : Memory) → CopyFacts g (sight_of g m) → CopyLaw g (sight_of g m) → IsReady g m a (SetHome b f) → IsLinked g m memory → (c j : ℕ) → IsIndex g j → page_value (λ d. written (words.Home b) (home_word f) m.word (words.Home d)) (mem_at m) c j ≡ memory c j
homed_linked g m a b f memory facts copies r h c j index =
    let on = some_and (op_on (m.view a) b) (MaySetHome g (fill_of (m.view a) f)) r.allowed.permitted in
    let fill = some_and (fill_of (m.view a) f) (λ x. HasNewHome g x on.0) on.1.1 in
    let ready : IsReadyHome g (sight_of g m) b f on.0 = ready_home g m a b f on.0 fill.0 facts r on.1.0 fill.1.0 fill.1.1 copies in
    value_homed g (home_at m) (λ d. written (words.Home b) (home_word f) m.word (words.Home d)) (mem_at m) b f c j
    (word_writes (home_at m) b (home_word f)) ready.same index ∙ h c j index

-- each kind
pub each_follows : (g : Geometry) (m : World) (a : ℕ) (action : Action) (memory : Memory) → CopyFacts g (sight_of g m) → CopyLaw g (sight_of g m) → IsReady g m a action → IsLinked g m memory → FollowsMemory g (moved g m a action) memory (access_by a action (reply_in g m a action))
each_follows g m a (Load v i) memory facts copies r h =
    let l = leads g m a v facts r.allowed.permitted.cached in
    record {
      placed = record { mapped = l.mapped; within = r.allowed.range.index };
      tells = told g m a v i memory l r.allowed.range.index h;
      linked = read_linked g m (words.Mem (cached_frame (m.view a) v) i) memory h;
    }
each_follows g m a (Store v i x) memory facts copies r h =
    let l = leads g m a v facts (dirty_found (find cached_page v (m.view a).cache) r.allowed.permitted.cached) in
    record {
      placed = record { mapped = l.mapped; within = r.allowed.range.index };
      tells = tt;
      linked = stored_linked g m a v i x memory facts l h;
    }
each_follows g m a (Add v i x) memory facts copies r h =
    let l = leads g m a v facts (dirty_found (find cached_page v (m.view a).cache) r.allowed.permitted.cached) in
    let n : ℕ = mem_at m (cached_frame (m.view a) v) i in
    let is : n ≡ memory (mapped_page g v) i = told g m a v i memory l r.allowed.range.index h in
    record {
      placed = record { mapped = l.mapped; within = r.allowed.range.index };
      tells = is;
      linked = λ c j index. stored_linked g m a v i ((n + x) % 2 ^ 64) memory facts l h c j index ∙ ap (λ k. with_stored memory (mapped_page g v) i ((k + x) % 2 ^ 64) c j) is;
    }
each_follows g m a (CopyLoad b i) memory facts copies r h = read_linked g m (words.Mem (home_frame (m.view a) b) i) memory h
each_follows g m a (CopyStore b f i x) memory facts copies r h =
    let y = owned_copy (m.view a) b f i x r.allowed.permitted in
    copied_linked g m a f i x y.0 memory facts y.1 h
each_follows g m a (SetHome b f) memory facts copies r h = homed_linked g m a b f memory facts copies r h
each_follows g m a (Read b (cells.Home page)) memory facts copies r h = read_linked g m (words.Home page) memory h
each_follows g m a (Read b (cells.Shadow k)) memory facts copies r h = h
each_follows g m a (Look v) memory facts copies r h = h
each_follows g m a (Walk v e write) memory facts copies r h = h
each_follows g m a (Peek v) memory facts copies r h = h
each_follows g m a Poll memory facts copies r h = h
each_follows g m a (Ack to) memory facts copies r h = h
each_follows g m a (Lock b) memory facts copies r h = h
each_follows g m a (Unlock b) memory facts copies r h = h
each_follows g m a Bump memory facts copies r h = h
each_follows g m a (SeeAck p) memory facts copies r h = h
each_follows g m a (Raise v) memory facts copies r h = h
each_follows g m a (Soften v bit) memory facts copies r h = h
each_follows g m a (Arm v) memory facts copies r h = h
each_follows g m a (ClearDirty v) memory facts copies r h = h
each_follows g m a (Unmap v) memory facts copies r h = h
each_follows g m a (Map v word) memory facts copies r h = h
each_follows g m a (Grant v) memory facts copies r h = h
each_follows g m a (SetShadow b k s) memory facts copies r h = h
each_follows g m a (TakeTurn t) memory facts copies r h = h
each_follows g m a (Scan t k) memory facts copies r h = h
each_follows g m a (GiveFrame f) memory facts copies r h = h
each_follows g m a (PutFrame f) memory facts copies r h = h
each_follows g m a (ReleaseTurn t) memory facts copies r h = h
each_follows g m a (Mark b old new) memory facts copies r h = h
