-- Each frame has one role, and each word of the table, or taken out of it, names the home of its page.
use Rattle.std.specs.Prelude.{◌≡◌, ◌≢◌, ℕ, Bool, Option, Some, IsSome, IsTrue, true, false, All}
use Rattle.nm_base.specs.Geometry.{Geometry, IsWritable, backing_page}
use Rattle.nm_base.specs.HomeWord.{home_word}
use Rattle.nm_base.specs.PageWord.{IsPresentWord, is_writable, is_saved, frame_of}
use Rattle.nm_base.specs.Ranges.{IsFrame}
use Rattle.nm_base.specs.ShadowWord.{shadow_frame}
use Rattle.nm_view.specs.declared.view.Fill.{Fill}
use Rattle.nm_view.specs.Views.{Op}
use Rattle.nm_world.specs.Sights.{Sight}

-- what can name a frame: its bit, the home word of a page, the shadow word of a master, the view of an actor that owns it
pub data Claim : Type 0 where
  Bit : Claim
  AtHome : (page : ℕ) → Claim
  AtShadow : (master : ℕ) → Claim
  By : (actor : ℕ) → Claim

-- the words and views that name frames
pub record Names : Type 0 where
  pub free : ℕ → Bool
  pub home : ℕ → ℕ
  pub shadow : ℕ → ℕ
  pub fill : ℕ → ℕ → Option Fill

abbrev pub names_of : Sight → Names
names_of m = record { free = m.free; home = m.home; shadow = m.shadow; fill = m.fill }

-- a shadow word names a frame as shadow
pub record NamesAsShadow (word f : ℕ) : Type 0 where
  pub some : word ≢ 0
  pub is : shadow_frame word ≡ f

-- a frame is named so
abbrev pub Claims : Names → Claim → ℕ → Type 0
Claims n Bit f = n.free f ≡ true
Claims n (AtHome b) f = n.home b ≡ home_word f
Claims n (AtShadow k) f = NamesAsShadow (n.shadow k) f
Claims n (By a) f = IsSome (n.fill a f)

-- a frame is named so, and in no other way
pub record HasRole (n : Names) (f : ℕ) (c : Claim) : Type 0 where
  pub is : Claims n c f
  pub only : (d : Claim) → Claims n d f → d ≡ c

-- each frame is named in exactly one way
abbrev pub AreRoles : Geometry → Names → Type 0
AreRoles g n = (f : ℕ) → IsFrame g f → (c : Claim) × HasRole n f c

-- a word maps v to the home of page b: it is a page word that is not 0, names the home, is writable or saved only where v is
-- writable, and is not writable where the home has a shadow
pub record IsWordOf (g : Geometry) (homes shades : ℕ → ℕ) (b v word : ℕ) : Type 0 where
  pub layout : IsPresentWord word
  pub home : homes b ≡ home_word (frame_of word)
  pub writable : IsTrue (is_writable word) → IsWritable g v
  pub saved : IsTrue (is_saved word) → IsWritable g v
  pub unshaded : shades (frame_of word) ≢ 0 → is_writable word ≡ false

-- a word maps v to the home of its page
pub record MapsToHome (g : Geometry) (homes shades : ℕ → ℕ) (v word : ℕ) : Type 0 where
  pub page : ℕ
  pub of : backing_page g v ≡ Some page
  pub is : IsWordOf g homes shades page v word

-- the roles are a partition; each table word that is not 0 maps its virtual page to the home of the page; so did each taken
-- word, and does until a SetHome
pub record FrameLaw (g : Geometry) (m : Sight) : Type 0 where
  pub roles : AreRoles g (names_of m)
  pub words : (v : ℕ) → m.pte v ≢ 0 → MapsToHome g m.home m.shadow v (m.pte v)
  pub taken : (a b : ℕ) (o : Op) → m.op a b ≡ Some o → o.moved ≡ false → All (λ p. IsWordOf g m.home m.shadow b p.0 p.1) o.taken
