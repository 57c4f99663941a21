-- What the other groups take from the cache law: an entry leads to the home of its page, and stands once a flush ended.
use Rattle.std.proofs.Common.{◌≡◌, ℕ, Some, sym, ap, subst, ◌∙◌, inl, inr}
use Rattle.nm_base.specs.Geometry.{Geometry, backing_page}
use Rattle.nm_base.specs.HomeWord.{home_word}
use Rattle.nm_view.specs.declared.view.CacheEntry.{CacheEntry}
use Rattle.nm_view.specs.Lists.{find}
use Rattle.nm_view.specs.Views.{Op}
use Rattle.nm_view.specs.Operations.{cached_page, IsFlushEnded}
use Rattle.nm_view.proofs.Items.{all_find, some_same, not_none}
use Rattle.nm_view.proofs.Finds.{find_number}
use Rattle.nm_world.specs.Worlds.{World, pte_at, home_at, op_at}
use Rattle.nm_world.specs.Notions.{IsStanding}
use Rattle.nm_world.specs.ShapeLaw.{ShapeLaw}
use Rattle.nm_world.specs.LockLaw.{LockLaw}
use Rattle.nm_world.specs.CacheLaw.{IsEntrySound, CacheLaw}
use Rattle.nm_caches.proofs.Shapes.{some_parts, caches_or_runs}
use Rattle.nm_caches.proofs.Holds.{page_not_owed}

-- an entry that is cached is sound, and of the virtual page under which it is found
found_sound : (g : Geometry) (m : World) (p v : ℕ) (e : CacheEntry) → CacheLaw g m → find cached_page v (m.view p).cache ≡ Some e → IsEntrySound g m p e
found_sound g m p v e h is = all_find cached_page v (IsEntrySound g m p) (m.view p).cache e (h.desks p).entries is

found_page : (m : World) (p v : ℕ) (e : CacheEntry) → find cached_page v (m.view p).cache ≡ Some e → e.vpage ≡ v
found_page m p v e is = find_number cached_page v (m.view p).cache e is

-- a virtual page that is cached is mapped
pub entry_mapped : (g : Geometry) (m : World) (p v : ℕ) (e : CacheEntry) → CacheLaw g m → find cached_page v (m.view p).cache ≡ Some e → (b : ℕ) × (backing_page g v ≡ Some b)
entry_mapped g m p v e h is =
    let at = some_parts (backing_page g e.vpage) (λ j. home_at m j ≡ home_word e.frame) (found_sound g m p v e h is).home in
    (at.0, ap (backing_page g) (sym (found_page m p v e is)) ∙ at.1.0)

-- an entry leads to the home of its page
pub entry_home : (g : Geometry) (m : World) (p v b : ℕ) (e : CacheEntry) → CacheLaw g m → find cached_page v (m.view p).cache ≡ Some e → backing_page g v ≡ Some b → home_at m b ≡ home_word e.frame
entry_home g m p v b e h is of =
    let at = some_parts (backing_page g e.vpage) (λ j. home_at m j ≡ home_word e.frame) (found_sound g m p v e h is).home in
    let same : at.0 ≡ b = some_same at.0 b (sym at.1.0 ∙ ap (backing_page g) (found_page m p v e is) ∙ of) in
    ap (home_at m) (sym same) ∙ at.1.1

-- where the flush of an operation ended, each entry of its page stands on its table word
pub entry_stands : (g : Geometry) (m : World) (a b : ℕ) (o : Op) → ShapeLaw g m → LockLaw g m → CacheLaw g m → op_at m a b ≡ Some o → IsFlushEnded g o → (p v : ℕ) (e : CacheEntry) → backing_page g v ≡ Some b → find cached_page v (m.view p).cache ≡ Some e → IsStanding (pte_at m v) e
entry_stands g m a b o shape locks h here ended p v e of is =
    let sound = found_sound g m p v e h is in
    let page : e.vpage ≡ v = found_page m p v e is in
    let Stood : ℕ → Type 0 = λ u. IsStanding (pte_at m u) e in
    elim (caches_or_runs g m p shape h) [
      | inl none ↦ absurd (not_none e (sym (ap (find cached_page v) none) ∙ is))
      | inr runs ↦ elim sound.stands [
        | inl stands ↦ subst Stood page stands
        | inr owed ↦ absurd (page_not_owed g m a b o here ended locks p runs e (ap (backing_page g) page ∙ of) owed)
      ]
    ]
