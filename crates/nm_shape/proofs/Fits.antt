-- A reply that fits is in range.
use Rattle.std.proofs.Common.{◌≡◌, ◌≢◌, ℕ, inl, inr, Option, Some, None, refl, sym, subst, arith}
use Rattle.std.specs.Option.{IfSome, IsSomeAnd}
use Rattle.nm_base.specs.Geometry.{Geometry, IsGeometry}
use Rattle.nm_action.specs.declared.action.Cell.{Cell}
use Rattle.nm_action.specs.declared.action.Cell.TheVariants.{Home, Shadow}
use Rattle.nm_action.specs.declared.action.Reply.{Reply}
use Rattle.nm_action.specs.declared.action.Reply.TheVariants.{Done, Word, Busy, Lost}
use Rattle.nm_action.specs.declared.action.Action.{Action}
use Rattle.nm_action.specs.declared.action.Action.TheVariants.{Look, Walk, Peek, Poll, Bump, Raise, Soften, Arm, ClearDirty, Unmap, Grant, Scan, Read}
use Rattle.nm_view.specs.Views.{Op, View}
use Rattle.nm_view.specs.Operations.{op_on}
use Rattle.nm_base.specs.PageWord.{IsPageWord}
use Rattle.nm_base.specs.HomeWord.{IsHomeWord}
use Rattle.nm_base.specs.ShadowWord.{IsShadowWord}
use Rattle.nm_base.specs.TableWord.{IsTableInRange}
use Rattle.nm_base.proofs.TableWords.{HasLayout-zero}
use Rattle.nm_permit.specs.Permitted.{Allowed, MayRead}
use Rattle.nm_event.specs.Fitting.{Fits, FitsWord, FitsDone, FitsLost, IsTableWord, IsTableReply, IsReadOf, IsNewsOfHome, IsNewsOfShadow}
use Rattle.nm_shape.specs.Keyed.{IsOpKeyed, IsKeyed}
use Rattle.nm_event.specs.Ranged.{IsCellWord, IsInRangeWord, IsInRangeDone, IsInRangeLost, IsInRangeReply}
use Rattle.nm_shape.proofs.Done.{op_found}

-- a table word is in range
table_in_range : (g : Geometry) (v word : ℕ) → IsGeometry g → IsTableWord g v word → IsPageWord word → IsTableInRange g word
table_in_range g v word is t (inl e) =
    let P : ℕ → Type 0 = λ w. IsTableInRange g w in
    subst P (sym e) (record { frame = omega (arith, is.room); layout = HasLayout-zero })
table_in_range g v word is t (inr p) =
    let some : word ≢ 0 = λ e. absurd (omega (arith, p.present, e)) in
    record { frame = t.frame some; layout = p.layout }

carried : (g : Geometry) (view : View) (v word : ℕ) → IsGeometry g → IsTableReply g view v word → IsTableInRange g word
carried g view v word is r = table_in_range g v word is r.table r.table.layout

home_in_range : (g : Geometry) (o : Op) (word : ℕ) (home : Option ℕ) → IfSome home (IsHomeWord g) → IfSome home (λ h. word ≡ h) → (home ≡ None → IsNewsOfHome g o word) → IsHomeWord g word
home_in_range g o word None r known news = (news refl).range
home_in_range g o word (Some h) r known news = rw known r

news_named : (g : Geometry) (page master word : ℕ) → IsNewsOfShadow g page master word → IsShadowWord g word
news_named g page master word (inl e) = inl e
news_named g page master word (inr (frame, h)) = inr (page, frame, h.names)

shadow_in_range : (g : Geometry) (o : Op) (master word : ℕ) (shadow : Option ℕ) → IfSome shadow (IsShadowWord g) → IfSome shadow (λ s. word ≡ s) → (shadow ≡ None → IsNewsOfShadow g o.page master word) → IsShadowWord g word
shadow_in_range g o master word None r known news = news_named g o.page master word (news refl)
shadow_in_range g o master word (Some s) r known news = let P : ℕ → Type 0 = λ w. IsShadowWord g w in subst P (sym known) r

read_of : (g : Geometry) (view : View) (cell : Cell) (word : ℕ) (o : Op) → IsOpKeyed g o → IsReadOf g view cell word o → IsCellWord g cell word
read_of g view (Home n) word o k h = home_in_range g o word o.home k.home h.known h.news
read_of g view (Shadow m) word o k h = shadow_in_range g o m word o.shadow k.shadow h.known h.news

read_in_range : (g : Geometry) (view : View) (cell : Cell) (word : ℕ) (op : Option Op) → IfSome op (IsOpKeyed g) → IsSomeAnd op (MayRead cell) → IfSome op (IsReadOf g view cell word) → IsCellWord g cell word
read_in_range g view cell word None k may h = absurd may
read_in_range g view cell word (Some o) k may h = read_of g view cell word o k h

word_in_range : (g : Geometry) (view : View) (action : Action) (word : ℕ) → IsGeometry g → IsKeyed g view → Allowed g view action → FitsWord g view action word → IsInRangeWord g action word
word_in_range g view (Look v) n is k a fits = carried g view v n is fits
word_in_range g view (Soften v bit) n is k a fits = carried g view v n is fits
word_in_range g view (Arm v) n is k a fits = carried g view v n is fits.carried
word_in_range g view (ClearDirty v) n is k a fits = carried g view v n is fits.carried
word_in_range g view (Unmap v) n is k a fits = carried g view v n is fits.carried
word_in_range g view (Grant v) n is k a fits = carried g view v n is fits.carried
word_in_range g view Poll n is k a fits = fits
word_in_range g view Bump n is k a fits = fits
word_in_range g view (Peek v) n is k a fits = fits
word_in_range g view (Raise v) n is k a fits = fits
word_in_range g view (Scan t i) n is k a fits = λ bit set. (fits bit set).within
word_in_range g view (Read b cell) n is k a fits = read_in_range g view cell n (op_on view b) (op_found g view b (op_on view b) refl k) a.permitted fits
word_in_range g view action n is k a fits = tt

done_in_range : (g : Geometry) (view : View) (action : Action) → IsGeometry g → FitsDone g view action → IsInRangeDone g action
done_in_range g view (Walk v e write) is fits = carried g view v e is fits
done_in_range g view action is fits = tt

lost_in_range : (g : Geometry) (view : View) (action : Action) (word : ℕ) → IsGeometry g → FitsLost g view action word → IsInRangeLost g action word
lost_in_range g view (Walk v e write) n is fits = carried g view v n is fits.carried
lost_in_range g view action n is fits = tt

pub in_range : (g : Geometry) (view : View) (action : Action) (reply : Reply) → IsGeometry g → IsKeyed g view → Allowed g view action → Fits g view action reply → IsInRangeReply g action reply
in_range g view action Done is k a f = done_in_range g view action is f.told
in_range g view action (Word n) is k a f = record { bits = f.told.bits; said = word_in_range g view action n is k a f.told.said }
in_range g view action (Busy n) is k a f = f.told.bits
in_range g view action (Lost n) is k a f = record { bits = f.told.bits; said = lost_in_range g view action n is f.told.said }
