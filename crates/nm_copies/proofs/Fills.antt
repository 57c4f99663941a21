-- The copy law where fills change: each fill after the step that tells something was there before.
use Rattle.std.proofs.Common.{◌≡◌, ◌≢◌, ℕ, ◌⊎◌, ◌==◌, if◌then◌else◌, true, false, Option, Some, None, IsSome, refl, sym, ap, subst, ◌∙◌, inl, inr}
use Rattle.std.specs.Prelude.{option_map}
use Rattle.nm_base.specs.Geometry.{Geometry}
use Rattle.nm_view.specs.declared.view.CacheEntry.{CacheEntry}
use Rattle.nm_view.specs.declared.view.Fill.{Fill}
use Rattle.nm_view.specs.declared.view.Fill.TheVariants.{Raw, Zeroed, Copied, Equal}
use Rattle.nm_view.specs.declared.view.Owned.{Owned}
use Rattle.nm_view.specs.Lists.{find}
use Rattle.nm_view.specs.Views.{View}
use Rattle.nm_view.specs.Operations.{owned_frame, fill_of}
use Rattle.nm_view.proofs.Finds.{find_map}
use Rattle.nm_view.proofs.Items.{not_none, some_same}
use Rattle.nm_event.specs.After.{spoiled, spoiled_fill, spoiled_frame}
use Rattle.nm_world.specs.Worlds.{viewing}
use Rattle.nm_world.specs.Parts.{Copier}
use Rattle.nm_world.specs.Sights.{Sight}
use Rattle.nm_world.specs.Notions.{IsClean, fill_page}
use Rattle.nm_world.specs.CopyLaw.{CopySight, copy_sight, HasCopies, IsUnspoilt, OpCopies, CopyLaw}
use Rattle.nm_world.proofs.Choose.{choose}
use Rattle.nm_copies.proofs.Still.{Leaves, SameCopiers, ops_left, some_from, value_same, clean_stays}

-- a fill after a step is Raw, or was there before
abbrev pub FillsFrom : (ℕ → ℕ → Option Fill) → (ℕ → ℕ → Option Fill) → Type 0
FillsFrom fill after = (a f : ℕ) (x : Fill) → after a f ≡ Some x → (x ≡ Raw) ⊎ (fill a f ≡ Some x)

raw_page : (x : Fill) (b : ℕ) → x ≡ Raw → fill_page x ≡ Some b → ⊥
raw_page x b raw of = not_none b (sym (ap fill_page raw) ∙ of)

-- one that tells of a page was there before
pub told_before : (fill after : ℕ → ℕ → Option Fill) (a f b : ℕ) (x : Fill) → FillsFrom fill after → after a f ≡ Some x → fill_page x ≡ Some b → fill a f ≡ Some x
told_before fill after a f b x from is of = elim (from a f x is) [ inl raw ↦ absurd (raw_page x b raw of) | inr was ↦ was ]

zeroed_raw : (x : Fill) (n : ℕ) → x ≡ Zeroed n → x ≡ Raw → ⊥
zeroed_raw x n is raw = let same : Zeroed n ≡ Raw = sym is ∙ raw in cc

-- one that is Zeroed so far was there before
pub zeroed_before : (fill after : ℕ → ℕ → Option Fill) (a f n : ℕ) → FillsFrom fill after → after a f ≡ Some (Zeroed n) → fill a f ≡ Some (Zeroed n)
zeroed_before fill after a f n from is = elim (from a f (Zeroed n) is) [ inl raw ↦ absurd (zeroed_raw (Zeroed n) n refl raw) | inr was ↦ was ]

-- a step that leaves table words, homes and the words of frames, and caches nothing
pub record KeepsRest (k after : CopySight) : Type 0 where
  pub pte : (v : ℕ) → after.pte v ≡ k.pte v
  pub home : (b : ℕ) → after.home b ≡ k.home b
  pub mem : (f i : ℕ) → after.mem f i ≡ k.mem f i
  pub entry : (a v : ℕ) (e : CacheEntry) → after.entry a v ≡ Some e → k.entry a v ≡ Some e

pub leaves_fills : (g : Geometry) (k after : CopySight) (a b : ℕ) → KeepsRest k after → FillsFrom k.fill after.fill → Leaves g k after a b
leaves_fills g k after a b s from = record {
  fill = λ f x is of. told_before k.fill after.fill a f b x from is of;
  words = λ f i x is of. s.mem f i;
  value = λ i. value_same k after b i (s.home b) s.mem;
  undirtied = λ h v of. rw (sym (s.pte v)) (h v of);
  cached = λ u. clean_stays g k after b s.entry;
  out = λ h v of. s.pte v ∙ h v of;
  out_clean = λ u. clean_stays g k after b s.entry;
  twin = λ h v of. rw (s.pte v) (h v of);
  twin_clean = λ u. clean_stays g k after b s.entry;
}

pub law_fills : (g : Geometry) (m after : Sight) → KeepsRest (copy_sight m) (copy_sight after) → FillsFrom m.fill after.fill → SameCopiers g m.op after.op → CopyLaw g m → CopyLaw g after
law_fills g m after s from same h = record {
  zeroed = λ a f n is i lt. s.mem f i ∙ h.zeroed a f n (zeroed_before m.fill after.fill a f n from is) i lt;
  has_op = λ a f b x is of. some_from g (m.op a b) (after.op a b) (same a b) (h.has_op a f b x (told_before m.fill after.fill a f b x from is of) of);
  ops = ops_left g m after same (λ a b. leaves_fills g (copy_sight m) (copy_sight after) a b s from) h;
}

-- the fills of every view come from before where those of the new view do
pub fills_from : (a : ℕ) (new : View) (views : ℕ → View) → ((f : ℕ) (x : Fill) → fill_of new f ≡ Some x → (x ≡ Raw) ⊎ (fill_of (views a) f ≡ Some x)) → FillsFrom (λ c f. fill_of (views c) f) (λ c f. fill_of (viewing a new views c) f)
fills_from a new views own c f x =
    choose (λ view. fill_of view f ≡ Some x → (x ≡ Raw) ⊎ (fill_of (views c) f ≡ Some x)) c a new (views c)
    (λ same is. let Q : ℕ → Type 0 = λ n. (x ≡ Raw) ⊎ (fill_of (views n) f ≡ Some x) in subst Q (sym same) (own f x is)) (λ other is. inr is)

pub there : (found : Option ℕ) (x : ℕ) → found ≡ Some x → IsSome found
there found x is = rw is cc

-- an operation without copies
pub no_copies : (g : Geometry) (k : CopySight) (a b : ℕ) (o : Copier) → ¬ HasCopies k.fill a b o.last → ((f : ℕ) → k.fill a f ≢ Some (Equal b)) → (o.naming ≡ true → o.early ≡ false → IsUnspoilt g k.pte b o.naming o.taken → IsClean g k.entry b) → OpCopies g k a b o
no_copies g k a b o none unequal dirty = record {
  early = λ is. none;
  last = λ x is index u. absurd (none (inl (there o.last x is)));
  copied = λ f n is u i index lt. absurd (none (inr (record { frame = f; count = n; is = is })));
  dirty = dirty;
  out = λ naming has. absurd (none has);
  out_clean = λ naming has. absurd (none has);
  equal = λ f is. absurd (unequal f is);
}

-- Spoilt fills.

abbrev pub SpoiltFrom : ℕ → Fill → Fill → Type 0
SpoiltFrom b was x = ((x ≡ Raw) ⊎ (was ≡ x)) × (fill_page x ≢ Some b)

if_spoilt : (b c : ℕ) (was : Fill) → fill_page was ≡ Some c → SpoiltFrom b was (if c == b then Raw else was)
if_spoilt b c was of = choose (SpoiltFrom b was) c b Raw was (λ same. (inl refl, not_none b)) (λ other. (inr refl, λ is. other (some_same c b (sym of ∙ is))))

spoilt_fill : (b : ℕ) (was : Fill) → SpoiltFrom b was (spoiled_fill b was)
spoilt_fill b Raw = (inl refl, not_none b)
spoilt_fill b (Zeroed n) = (inr refl, not_none b)
spoilt_fill b (Copied c n) = if_spoilt b c (Copied c n) refl
spoilt_fill b (Equal c) = if_spoilt b c (Equal c) refl

-- the fill of a frame after what tells of page b was spoilt: it tells nothing of b, and is Raw or as before
pub record IsSpoiltFrom (b : ℕ) (was : Option Fill) (x : Fill) : Type 0 where
  pub from : (x ≡ Raw) ⊎ (was ≡ Some x)
  pub apart : fill_page x ≢ Some b

some_spoilt : (b : ℕ) (y : Owned) (x : Fill) → spoiled_fill b y.fill ≡ x → IsSpoiltFrom b (Some y.fill) x
some_spoilt b y x is =
    let both : SpoiltFrom b y.fill x = subst (SpoiltFrom b y.fill) is (spoilt_fill b y.fill) in
    record { from = elim both.0 [ inl raw ↦ inl raw | inr same ↦ inr (ap Some same) ]; apart = both.1 }

spoilt_found : (b : ℕ) (found : Option Owned) (x : Fill) → option_map (λ (w : Owned). w.fill) (option_map (spoiled_frame b) found) ≡ Some x → IsSpoiltFrom b (option_map (λ (w : Owned). w.fill) found) x
spoilt_found b None x is = absurd (not_none x is)
spoilt_found b (Some y) x is = some_spoilt b y x (some_same (spoiled_fill b y.fill) x is)

pub spoilt_from : (b f : ℕ) (x : Fill) (view new : View) → new.owned ≡ spoiled b view.owned → fill_of new f ≡ Some x → IsSpoiltFrom b (fill_of view f) x
spoilt_from b f x view new owned is =
    spoilt_found b (find owned_frame f view.owned) x
    (sym (ap (λ ws. option_map (λ (w : Owned). w.fill) (find owned_frame f ws)) owned ∙ ap (option_map (λ (w : Owned). w.fill)) (find_map owned_frame (spoiled_frame b) f view.owned (λ w. refl))) ∙ is)
