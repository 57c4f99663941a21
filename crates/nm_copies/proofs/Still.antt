-- The copy law in pieces: each is kept where what it reads is as before, or tamer.
use Rattle.std.proofs.Common.{◌≡◌, ℕ, ◌-◌, Option, Some, None, IsSome, refl, sym, ap, subst, ◌∙◌, inl, inr}
use Rattle.std.specs.Prelude.{option_map}
use Rattle.nm_base.specs.Geometry.{Geometry}
use Rattle.nm_view.specs.declared.view.CacheEntry.{CacheEntry}
use Rattle.nm_view.specs.declared.view.Fill.{Fill}
use Rattle.nm_view.specs.declared.view.Fill.TheVariants.{Copied, Equal}
use Rattle.nm_view.specs.Views.{Op}
use Rattle.nm_view.proofs.Items.{not_none, some_same}
use Rattle.nm_world.specs.Parts.{Copier, copier_of}
use Rattle.nm_world.specs.Sights.{Sight}
use Rattle.nm_world.specs.Notions.{IsOut, IsReadOnly, IsUndirtied, IsClean, page_value, fill_page}
use Rattle.nm_world.specs.CopyLaw.{CopySight, copy_sight, HasCopies, IsUnspoilt, IsTwin, OpCopies, CopyLaw}

-- what actor a's copies of page b rest on stands after a step: each fill that tells of b was there before, with these words,
-- and the page has its words; and what else is said of the table and the caches comes of what was said before
pub record Leaves (g : Geometry) (k after : CopySight) (a b : ℕ) : Type 0 where
  pub fill : (f : ℕ) (x : Fill) → after.fill a f ≡ Some x → fill_page x ≡ Some b → k.fill a f ≡ Some x
  pub words : (f i : ℕ) (x : Fill) → after.fill a f ≡ Some x → fill_page x ≡ Some b → after.mem f i ≡ k.mem f i
  pub value : (i : ℕ) → page_value after.home after.mem b i ≡ page_value k.home k.mem b i
  pub undirtied : IsUndirtied g after.pte b → IsUndirtied g k.pte b
  pub cached : IsUndirtied g after.pte b → IsClean g k.entry b → IsClean g after.entry b
  pub out : IsOut g k.pte b → IsOut g after.pte b
  pub out_clean : IsOut g k.pte b → IsClean g k.entry b → IsClean g after.entry b
  pub twin : IsReadOnly g k.pte b → IsReadOnly g after.pte b
  pub twin_clean : IsReadOnly g k.pte b → IsClean g k.entry b → IsClean g after.entry b

-- an operation has copies after the step where it had them before
pub copies_before : (g : Geometry) (k after : CopySight) (a b : ℕ) (last : Option ℕ) → Leaves g k after a b → HasCopies after.fill a b last → HasCopies k.fill a b last
copies_before g k after a b last left (inl some) = inl some
copies_before g k after a b last left (inr owns) = inr (record { frame = owns.frame; count = owns.count; is = left.fill owns.frame (Copied b owns.count) owns.is refl })

pub unspoilt_before : (g : Geometry) (k after : CopySight) (a b : ℕ) (o : Copier) → Leaves g k after a b → IsUnspoilt g after.pte b o.naming o.taken → IsUnspoilt g k.pte b o.naming o.taken
unspoilt_before g k after a b o left u = record { table = λ n. left.undirtied (u.table n); taken = u.taken }

pub twin_left : (g : Geometry) (k after : CopySight) (a b f : ℕ) → Leaves g k after a b → after.fill a f ≡ Some (Equal b) → IsTwin g k b f → IsTwin g after b f
twin_left g k after a b f left is h = record {
  equal = λ i index. left.words f i (Equal b) is refl ∙ h.equal i index ∙ sym (left.value i);
  unwritable = left.twin h.unwritable;
  clean = left.twin_clean h.unwritable h.clean;
}

-- the copies of an operation stay true
pub copies_left : (g : Geometry) (k after : CopySight) (a b : ℕ) (o : Copier) → Leaves g k after a b → OpCopies g k a b o → OpCopies g after a b o
copies_left g k after a b o left h = record {
  early = λ is has. h.early is (copies_before g k after a b o.last left has);
  last = λ x is index u. h.last x is index (unspoilt_before g k after a b o left u) ∙ sym (left.value o.copied);
  copied = λ f n is u i index lt. left.words f i (Copied b n) is refl ∙ h.copied f n (left.fill f (Copied b n) is refl) (unspoilt_before g k after a b o left u) i index lt ∙ sym (left.value i);
  dirty = λ naming late u. left.cached (u.table naming) (h.dirty naming late (unspoilt_before g k after a b o left u));
  out = λ naming has. left.out (h.out naming (copies_before g k after a b o.last left has));
  out_clean = λ naming has. let before = copies_before g k after a b o.last left has in left.out_clean (h.out naming before) (h.out_clean naming before);
  equal = λ f is. twin_left g k after a b f left is (h.equal f (left.fill f (Equal b) is refl));
}

-- a step at which the homes, the words of frames and the fills stay, and every page is left so
pub record Tames (g : Geometry) (k after : CopySight) : Type 0 where
  pub home : (b : ℕ) → after.home b ≡ k.home b
  pub mem : (f i : ℕ) → after.mem f i ≡ k.mem f i
  pub fill : (a f : ℕ) → after.fill a f ≡ k.fill a f
  pub undirtied : (b : ℕ) → IsUndirtied g after.pte b → IsUndirtied g k.pte b
  pub cached : (b : ℕ) → IsUndirtied g after.pte b → IsClean g k.entry b → IsClean g after.entry b
  pub out : (b : ℕ) → IsOut g k.pte b → IsOut g after.pte b
  pub out_clean : (b : ℕ) → IsOut g k.pte b → IsClean g k.entry b → IsClean g after.entry b
  pub twin : (b : ℕ) → IsReadOnly g k.pte b → IsReadOnly g after.pte b
  pub twin_clean : (b : ℕ) → IsReadOnly g k.pte b → IsClean g k.entry b → IsClean g after.entry b

-- a page has its words where its home and the words of frames stay
pub value_same : (k after : CopySight) (b i : ℕ) → after.home b ≡ k.home b → ((f i : ℕ) → after.mem f i ≡ k.mem f i) → page_value after.home after.mem b i ≡ page_value k.home k.mem b i
value_same k after b i home mem = rw (home, mem (k.home b - 1) i) refl

pub tame_leaves : (g : Geometry) (k after : CopySight) → Tames g k after → (a b : ℕ) → Leaves g k after a b
tame_leaves g k after t a b = record {
  fill = λ f x is of. sym (t.fill a f) ∙ is;
  words = λ f i x is of. t.mem f i;
  value = λ i. value_same k after b i (t.home b) t.mem;
  undirtied = t.undirtied b;
  cached = t.cached b;
  out = t.out b;
  out_clean = t.out_clean b;
  twin = t.twin b;
  twin_clean = t.twin_clean b;
}

-- what holds of each part of an operation holds of the operation
mapped_some : (g : Geometry) (found : Option Op) (c : Copier) → option_map (copier_of g) found ≡ Some c → (o : Op) × ((found ≡ Some o) × (copier_of g o ≡ c))
mapped_some g None c is = absurd (not_none c is)
mapped_some g (Some o) c is = (o, (refl, some_same (copier_of g o) c is))

pub some_from : (g : Geometry) (was is : Option Op) → option_map (copier_of g) is ≡ option_map (copier_of g) was → IsSome was → IsSome is
some_from g None is same h = absurd (let none : ⊥ = cc in none)
some_from g (Some x) None same h = absurd cc
some_from g (Some x) (Some y) same h = cc

-- the operations are, as their copies read them, as before
abbrev pub SameCopiers : Geometry → (ℕ → ℕ → Option Op) → (ℕ → ℕ → Option Op) → Type 0
SameCopiers g op after = (a b : ℕ) → option_map (copier_of g) (after a b) ≡ option_map (copier_of g) (op a b)

-- the copies of each operation stay true where operations are as before
pub ops_left : (g : Geometry) (m after : Sight) → SameCopiers g m.op after.op → ((a b : ℕ) → Leaves g (copy_sight m) (copy_sight after) a b) → CopyLaw g m → (a b : ℕ) (o : Op) → after.op a b ≡ Some o → OpCopies g (copy_sight after) a b (copier_of g o)
ops_left g m after same left h a b o is =
    let was = mapped_some g (m.op a b) (copier_of g o) (sym (same a b) ∙ ap (option_map (copier_of g)) is) in
    subst (OpCopies g (copy_sight after) a b) was.1.1 (copies_left g (copy_sight m) (copy_sight after) a b (copier_of g was.0) (left a b) (h.ops a b was.0 was.1.0))

pub law_tame : (g : Geometry) (m after : Sight) → Tames g (copy_sight m) (copy_sight after) → SameCopiers g m.op after.op → CopyLaw g m → CopyLaw g after
law_tame g m after t same h = record {
  zeroed = λ a f n is i lt. t.mem f i ∙ h.zeroed a f n (sym (t.fill a f) ∙ is) i lt;
  has_op = λ a f b x is of. some_from g (m.op a b) (after.op a b) (same a b) (h.has_op a f b x (sym (t.fill a f) ∙ is) of);
  ops = ops_left g m after same (tame_leaves g (copy_sight m) (copy_sight after) t) h;
}

-- the same where table words stay, and each cached entry was cached before
pub record Stays (g : Geometry) (k after : CopySight) : Type 0 where
  pub pte : (v : ℕ) → after.pte v ≡ k.pte v
  pub home : (b : ℕ) → after.home b ≡ k.home b
  pub mem : (f i : ℕ) → after.mem f i ≡ k.mem f i
  pub fill : (a f : ℕ) → after.fill a f ≡ k.fill a f
  pub entry : (a v : ℕ) (e : CacheEntry) → after.entry a v ≡ Some e → k.entry a v ≡ Some e

pub clean_stays : (g : Geometry) (k after : CopySight) (b : ℕ) → ((a v : ℕ) (e : CacheEntry) → after.entry a v ≡ Some e → k.entry a v ≡ Some e) → IsClean g k.entry b → IsClean g after.entry b
clean_stays g k after b entry h a v e of is = h a v e of (entry a v e is)

pub stays_tame : (g : Geometry) (k after : CopySight) → Stays g k after → Tames g k after
stays_tame g k after s = record {
  home = s.home;
  mem = s.mem;
  fill = s.fill;
  undirtied = λ b h v of. rw (sym (s.pte v)) (h v of);
  cached = λ b u. clean_stays g k after b s.entry;
  out = λ b h v of. s.pte v ∙ h v of;
  out_clean = λ b u. clean_stays g k after b s.entry;
  twin = λ b h v of. rw (s.pte v) (h v of);
  twin_clean = λ b u. clean_stays g k after b s.entry;
}
