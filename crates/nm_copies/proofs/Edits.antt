-- The copy law where one operation is edited.
use Rattle.std.proofs.Common.{◌≡◌, ◌≢◌, ℕ, ◌<◌, List, [], ◌∷◌, ◌++◌, All, Some, IsSome, sym, ap, ◌∙◌}
use Rattle.nm_base.specs.Geometry.{Geometry, backing_page}
use Rattle.nm_view.specs.declared.view.CacheEntry.{CacheEntry}
use Rattle.nm_view.specs.declared.view.Fill.{Fill}
use Rattle.nm_view.specs.declared.view.Fill.TheVariants.{Zeroed}
use Rattle.nm_view.specs.Views.{Op}
use Rattle.nm_view.proofs.Items.{some_same, all_head, all_tail, more, none_left}
use Rattle.nm_world.specs.Parts.{copier_of}
use Rattle.nm_world.specs.Sights.{Sight, Sets, WritesOne}
use Rattle.nm_world.specs.Notions.{fill_page}
use Rattle.nm_world.specs.CopyLaw.{CopySight, copy_sight, OpCopies, CopyLaw}
use Rattle.nm_world.proofs.Moves.{each_op}
use Rattle.nm_copies.specs.Facts.{HasHolders}
use Rattle.nm_copies.proofs.Still.{Leaves, copies_left, value_same, clean_stays}
use Rattle.nm_copies.proofs.Fills.{FillsFrom, told_before, zeroed_before}
use Rattle.nm_copies.proofs.Holders.{still_there}

-- homes and the words of frames stay, and nothing is cached
pub record KeepsFrames (k after : CopySight) : Type 0 where
  pub home : (b : ℕ) → after.home b ≡ k.home b
  pub mem : (f i : ℕ) → after.mem f i ≡ k.mem f i
  pub entry : (a v : ℕ) (e : CacheEntry) → after.entry a v ≡ Some e → k.entry a v ≡ Some e

-- a page whose table words stay too is left
pub leaves_page : (g : Geometry) (k after : CopySight) (a b : ℕ) → KeepsFrames k after → ((v : ℕ) → backing_page g v ≡ Some b → after.pte v ≡ k.pte v) → FillsFrom k.fill after.fill → Leaves g k after a b
leaves_page g k after a b s pte from = record {
  fill = λ f x is of. told_before k.fill after.fill a f b x from is of;
  words = λ f i x is of. s.mem f i;
  value = λ i. value_same k after b i (s.home b) s.mem;
  undirtied = λ h v of. rw (sym (pte v of)) (h v of);
  cached = λ u. clean_stays g k after b s.entry;
  out = λ h v of. pte v of ∙ h v of;
  out_clean = λ u. clean_stays g k after b s.entry;
  twin = λ h v of. rw (pte v of) (h v of);
  twin_clean = λ u. clean_stays g k after b s.entry;
}

-- the table word of one page is written: those of another stay
pub other_page : (g : Geometry) (pte after : ℕ → ℕ) (v x b j : ℕ) → WritesOne pte after v x → backing_page g v ≡ Some b → j ≢ b → (u : ℕ) → backing_page g u ≡ Some j → after u ≡ pte u
other_page g pte after v x b j writes of other u own = writes.rest u (λ same. other (some_same j b (sym own ∙ ap (backing_page g) same ∙ of)))

-- one operation is edited: its copies are true, and those of operations on other pages are left
pub law_edited : (g : Geometry) (m after : Sight) (a b : ℕ) (o x : Op) → HasHolders m.op → Sets m.op after.op a b (Some x) → m.op a b ≡ Some o → ((c f n : ℕ) → after.fill c f ≡ Some (Zeroed n) → (i : ℕ) → i < n → after.mem f i ≡ 0) → ((c f j : ℕ) (y : Fill) → after.fill c f ≡ Some y → fill_page y ≡ Some j → IsSome (m.op c j)) → OpCopies g (copy_sight after) a b (copier_of g x) → ((c j : ℕ) → j ≢ b → Leaves g (copy_sight m) (copy_sight after) c j) → CopyLaw g m → CopyLaw g after
law_edited g m after a b o x holders sets here zeroed told own others h =
    let k = copy_sight m in
    let new = copy_sight after in
    record {
      zeroed = zeroed;
      has_op = λ c f j y is of. still_there m.op after.op a b x sets c j (told c f j y is of);
      ops = each_op (λ c j p. OpCopies g new c j (copier_of g p)) m.op after.op a b x sets
          (λ c p is. holders.sole a c b o p here is) own
          (λ c j p other is. copies_left g k new c j (copier_of g p) (others c j other) (h.ops c j p is));
    }

-- the same where fills come from before, and homes and the words of frames stay
pub law_table : (g : Geometry) (m after : Sight) (a b : ℕ) (o x : Op) → HasHolders m.op → Sets m.op after.op a b (Some x) → m.op a b ≡ Some o → KeepsFrames (copy_sight m) (copy_sight after) → FillsFrom m.fill after.fill → ((j v : ℕ) → j ≢ b → backing_page g v ≡ Some j → after.pte v ≡ m.pte v) → OpCopies g (copy_sight after) a b (copier_of g x) → CopyLaw g m → CopyLaw g after
law_table g m after a b o x holders sets here s from pte own h =
    law_edited g m after a b o x holders sets here
    (λ c f n is i lt. s.mem f i ∙ h.zeroed c f n (zeroed_before m.fill after.fill c f n from is) i lt)
    (λ c f j y is of. h.has_op c f j y (told_before m.fill after.fill c f j y from is of) of)
    own
    (λ c j other. leaves_page g (copy_sight m) (copy_sight after) c j s (λ v. pte j v other) from) h

-- what holds of each item of a list with one more holds of each before it
pub all_front : {A : Type 0} (P : A → Type 0) (xs : List A) (y : A) → All P (xs ++ y ∷ []) → All P xs
all_front P [] y h = none_left P
all_front P (x ∷ xs) y h = more P x xs (all_head P x (xs ++ y ∷ []) h) (all_front P xs y (all_tail P x (xs ++ y ∷ []) h))
