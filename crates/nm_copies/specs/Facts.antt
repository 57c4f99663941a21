-- What the copy law takes from the other groups, and from the geometry.
use Rattle.std.specs.Prelude.{◌≡◌, ◌≢◌, ℕ, ◌<◌, [], Option, Some, None, IfSome, true, false}
use Rattle.nm_base.specs.Geometry.{Geometry, backing_page}
use Rattle.nm_base.specs.HomeWord.{home_word}
use Rattle.nm_base.specs.ShadowWord.{shadow_frame}
use Rattle.nm_base.specs.Ranges.{IsIndex}
use Rattle.nm_view.specs.declared.view.CacheEntry.{CacheEntry}
use Rattle.nm_view.specs.declared.view.Fill.{Fill}
use Rattle.nm_view.specs.declared.view.Phase.TheVariants.{Held, Cleared}
use Rattle.nm_view.specs.Lists.{find, first}
use Rattle.nm_view.specs.Views.{Op}
use Rattle.nm_view.specs.Operations.{IsTaken, IsFlushEnded, IsLookedOver, names_one}
use Rattle.nm_event.specs.Fitting.{Agrees}
use Rattle.nm_world.specs.Sights.{Sight}
use Rattle.nm_world.specs.Notions.{IsStanding, HasOne, IsReadOnly, IsClean}

-- of locks: only one actor has an operation on a page
pub record HasHolders (op : ℕ → ℕ → Option Op) : Type 0 where
  pub sole : (a c b : ℕ) (o p : Op) → op a b ≡ Some o → op c b ≡ Some p → c ≡ a

-- what an operation on b knows is so: the home, and the shadow word of this home; a word of b that was taken is 0; one that was looked at and not taken agrees
pub record IsInformed (g : Geometry) (m : Sight) (b : ℕ) (o : Op) : Type 0 where
  pub page : o.page ≡ b
  pub home : (h : ℕ) → o.home ≡ Some h → h ≡ m.home b
  pub shadow : (word k : ℕ) → o.shadow ≡ Some word → m.home b ≡ home_word k → word ≡ m.shadow k
  pub taken : (v : ℕ) → backing_page g v ≡ Some b → IsTaken o.taken v → m.pte v ≡ 0
  pub looked : (v : ℕ) → backing_page g v ≡ Some b → find first v o.taken ≡ None → IfSome (find first v o.looked) (λ p. Agrees p.1 (m.pte v))

-- of locks: each operation is informed
pub record HasInformed (g : Geometry) (m : Sight) : Type 0 where
  pub informed : (a b : ℕ) (o : Op) → m.op a b ≡ Some o → IsInformed g m b o

-- of locks: an operation in phase Held has cleared nothing, one in phase Cleared has
pub record HasStages (op : ℕ → ℕ → Option Op) : Type 0 where
  pub held : (a b : ℕ) (o : Op) → op a b ≡ Some o → o.phase ≡ Held → o.cleared ≡ false
  pub cleared : (a b : ℕ) (o : Op) → op a b ≡ Some o → o.phase ≡ Cleared → o.cleared ≡ true

-- of locks: an operation that names a virtual page has looked at all of its page, and one alone is looked at as not 0 or taken
pub record HasNamed (g : Geometry) (op : ℕ → ℕ → Option Op) : Type 0 where
  pub over : (a b : ℕ) (o : Op) → op a b ≡ Some o → names_one o.phase o.cleared o.moved ≡ true → IsLookedOver g o.page o.looked
  pub alone : (a b : ℕ) (o : Op) → op a b ≡ Some o → names_one o.phase o.cleared o.moved ≡ true → HasOne o.looked o.taken

-- of frames: a page with a table word that is not 0, or, before a SetHome, with a taken word, has a home
pub record HasMapped (g : Geometry) (m : Sight) : Type 0 where
  pub words : (v b : ℕ) → backing_page g v ≡ Some b → m.pte v ≢ 0 → m.home b ≢ 0
  pub taken : (a b : ℕ) (o : Op) → m.op a b ≡ Some o → o.moved ≡ false → o.taken ≢ [] → m.home b ≢ 0

-- of caches: an entry of a page leads to the home of the page
pub record HasHomes (g : Geometry) (m : Sight) : Type 0 where
  pub homes : (a v b : ℕ) (e : CacheEntry) → m.entry a v ≡ Some e → backing_page g v ≡ Some b → m.home b ≡ home_word e.frame
  pub mapped : (a v : ℕ) (e : CacheEntry) → m.entry a v ≡ Some e → (b : ℕ) × (backing_page g v ≡ Some b)

-- of caches and locks: where the flush of an operation ended, each entry of its page stands on its table word
pub record HasStanding (g : Geometry) (m : Sight) : Type 0 where
  pub stands : (a b : ℕ) (o : Op) → m.op a b ≡ Some o → IsFlushEnded g o → (c v : ℕ) (e : CacheEntry) → backing_page g v ≡ Some b → m.entry c v ≡ Some e → IsStanding (m.pte v) e

-- of frames: a frame is the home of one page alone; an owned frame is no home, and is owned by one actor alone
pub record HasRoles (m : Sight) : Type 0 where
  pub one_page : (b c f : ℕ) → m.home b ≡ home_word f → m.home c ≡ home_word f → b ≡ c
  pub owned : (a b f : ℕ) (x : Fill) → m.fill a f ≡ Some x → m.home b ≢ home_word f
  pub owner : (a c f : ℕ) (x y : Fill) → m.fill a f ≡ Some x → m.fill c f ≡ Some y → c ≡ a

-- of shadows and frames: page b, whose home is k, equals frame f, is not writable, and no cache has a dirty entry of it
pub record IsShadowed (g : Geometry) (m : Sight) (b k f : ℕ) : Type 0 where
  pub equal : (i : ℕ) → IsIndex g i → m.mem k i ≡ m.mem f i
  pub unwritable : IsReadOnly g m.pte b
  pub clean : IsClean g m.entry b

-- of shadows and frames: a page whose home has a shadow is shadowed by the frame that the shadow word names
pub record HasShadowed (g : Geometry) (m : Sight) : Type 0 where
  pub shadowed : (b k : ℕ) → m.home b ≡ home_word k → m.shadow k ≢ 0 → IsShadowed g m b k (shadow_frame (m.shadow k))

-- what the copy law takes from the others, of the world before a step
pub record CopyFacts (g : Geometry) (m : Sight) : Type 0 where
  pub processors : 0 < g.cpus
  pub holders : HasHolders m.op
  pub informed : HasInformed g m
  pub stages : HasStages m.op
  pub named : HasNamed g m.op
  pub mapped : HasMapped g m
  pub homes : HasHomes g m
  pub standing : HasStanding g m
  pub roles : HasRoles m
  pub shadowed : HasShadowed g m
