-- The desk of an actor beside its view, by kinds of action.
use Rattle.std.proofs.Common.{ℕ, Option, Some, None, IsSomeAnd, IfSome, inl, inr, refl}
use Rattle.nm_base.specs.Geometry.{Geometry}
use Rattle.nm_action.specs.declared.action.Action.{Action}
use Rattle.nm_action.specs.declared.action.Action.TheVariants.{Load, Store, Add, Look, Walk, Peek, Poll, Ack, Lock, Bump, Raise, Soften, Arm, ClearDirty, Unmap, Grant, CopyStore, SetShadow, Scan, GiveFrame, PutFrame, Mark, Read}
use Rattle.nm_action.specs.declared.action.Reply.{Reply}
use Rattle.nm_action.specs.declared.action.Reply.TheVariants.{Done, Word, Busy, Lost}
use Rattle.nm_action.specs.declared.action.Cell.{Cell}
use Rattle.nm_action.specs.declared.action.Cell.TheVariants.{Home, Shadow}
use Rattle.nm_view.specs.Views.{Op, View}
use Rattle.nm_view.specs.Operations.{op_on}
use Rattle.nm_permit.specs.Permitted.{Permitted, MayShade}
use Rattle.nm_event.specs.Fitting.{FitsWord, FitsTold, IsTableReply, IsMappedReply, IsReadOf, MayBeFree}
use Rattle.nm_part.specs.Parts.{IsQuiet}
use Rattle.nm_desk.specs.Desk.{desk, DeskAllows, DeskFits, DeskStays, DeskFollows, QuietKeeps}

pub desk-stays : DeskStays
desk-stays g view (Walk v e write) Done loud = refl
desk-stays g view (Walk v e write) reply loud = refl
desk-stays g view (Peek v) (Word n) loud = refl
desk-stays g view (Peek v) reply loud = refl
desk-stays g view Poll (Word n) loud = refl
desk-stays g view Poll reply loud = refl
desk-stays g view (Ack to) Done loud = refl
desk-stays g view (Ack to) reply loud = refl
desk-stays g view (Load v i) reply loud = refl
desk-stays g view (Store v i x) reply loud = refl
desk-stays g view (Add v i x) reply loud = refl
desk-stays g view action reply loud = absurd (loud tt)

pub desk-follows : DeskFollows
desk-follows g view (Load v i) reply quiet = absurd quiet
desk-follows g view (Store v i x) reply quiet = absurd quiet
desk-follows g view (Add v i x) reply quiet = absurd quiet
desk-follows g view (Walk v e write) reply quiet = absurd quiet
desk-follows g view (Peek v) reply quiet = absurd quiet
desk-follows g view Poll reply quiet = absurd quiet
desk-follows g view (Ack to) reply quiet = absurd quiet
desk-follows g view (Look v) (Word n) quiet = refl
desk-follows g view action Done quiet = refl
desk-follows g view action (Word n) quiet = refl
desk-follows g view action reply quiet = refl

-- What the desk permits.

shades-map : (g : Geometry) (view : View) (m s : ℕ) (o : Option Op) → IsSomeAnd o (MayShade g (desk g view) m s) → IsSomeAnd o (MayShade g view m s)
shades-map g view m s None may = may
shades-map g view m s (Some o) may = record { home = may.home; moved = may.moved; cleared = may.cleared; none = may.none; slower = may.slower; fill = may.fill }

allows : (g : Geometry) (view : View) (action : Action) → IsQuiet action → Permitted g (desk g view) action → Permitted g view action
allows g view (Load v i) quiet may = absurd quiet
allows g view (Store v i x) quiet may = absurd quiet
allows g view (Add v i x) quiet may = absurd quiet
allows g view (Walk v e write) quiet may = absurd quiet
allows g view (Peek v) quiet may = absurd quiet
allows g view Poll quiet may = absurd quiet
allows g view (Ack to) quiet may = absurd quiet
allows g view (Lock b) quiet may = record { fresh = may.fresh; few = may.few }
allows g view Bump quiet may = record { few = may.few; dry = may.dry }
allows g view (Raise v) quiet may = record { wet = may.wet; few = may.few }
allows g view (CopyStore None f i x) quiet may = record { fill = may.fill; zero_is = may.zero_is }
allows g view (CopyStore (Some page) f i x) quiet may = record { fill = may.fill; loaded = may.loaded }
allows g view (SetShadow b m None) quiet may = may
allows g view (SetShadow b m (Some s)) quiet may = shades-map g view m s (op_on view b) may
allows g view (Scan t k) quiet may = record { turn = may.turn; next = may.next }
allows g view (GiveFrame f) quiet may = record { whole = may.whole; least = may.least }
allows g view (PutFrame f) quiet may = record { turn = may.turn; owned = may.owned }
allows g view (Mark b old new) quiet (inl step) = inl step
allows g view (Mark b old new) quiet (inr done) = inr (record { pending = done.pending; none = done.none; op = done.op })
allows g view action quiet may = may

pub desk-allows : DeskAllows
desk-allows g view action quiet h = record { range = h.range; permitted = allows g view action quiet h.permitted }

-- Replies that fit at the desk.

carried : (g : Geometry) (view : View) (v word : ℕ) → IsTableReply g view v word → IsTableReply g (desk g view) v word
carried g view v word h = record { table = h.table; known = h.known }

mapped : (g : Geometry) (view : View) (v word : ℕ) → IsMappedReply g view v word → IsMappedReply g (desk g view) v word
mapped g view v word h = record { carried = carried g view v word h.carried; mapped = h.mapped }

read : (g : Geometry) (view : View) (cell : Cell) (word : ℕ) (o : Option Op) → IfSome o (IsReadOf g view cell word) → IfSome o (IsReadOf g (desk g view) cell word)
read g view cell word None h = h
read g view (Home b) word (Some o) h = record { known = h.known; news = h.news; free = h.free }
read g view (Shadow m) word (Some o) h = record { known = h.known; news = h.news; free = h.free }

fits-word : (g : Geometry) (view : View) (action : Action) (word : ℕ) → IsQuiet action → FitsWord g view action word → FitsWord g (desk g view) action word
fits-word g view (Load v i) word quiet h = absurd quiet
fits-word g view (Store v i x) word quiet h = absurd quiet
fits-word g view (Add v i x) word quiet h = absurd quiet
fits-word g view (Walk v e write) word quiet h = absurd quiet
fits-word g view (Peek v) word quiet h = absurd quiet
fits-word g view Poll word quiet h = absurd quiet
fits-word g view (Ack to) word quiet h = absurd quiet
fits-word g view (Look v) word quiet h = carried g view v word h
fits-word g view (Soften v bit) word quiet h = carried g view v word h
fits-word g view (Arm v) word quiet h = mapped g view v word h
fits-word g view (ClearDirty v) word quiet h = mapped g view v word h
fits-word g view (Unmap v) word quiet h = mapped g view v word h
fits-word g view (Grant v) word quiet h = mapped g view v word h
fits-word g view (Read b cell) word quiet h = read g view cell word (op_on view b) h
fits-word g view (Scan t k) word quiet h = λ bit set. let free : MayBeFree g view t k bit = h bit set in record { within = free.within; owned = free.owned; home = free.home }
fits-word g view action word quiet h = h

fits-told : (g : Geometry) (view : View) (action : Action) (reply : Reply) → IsQuiet action → FitsTold g view action reply → FitsTold g (desk g view) action reply
fits-told g view (Walk v e write) reply quiet h = absurd quiet
fits-told g view action (Word word) quiet h = record { bits = h.bits; said = fits-word g view action word quiet h.said }
fits-told g view action Done quiet h = h
fits-told g view action (Busy word) quiet h = h
fits-told g view action (Lost word) quiet h = h

pub desk-fits : DeskFits
desk-fits g view (Load v i) reply quiet h = absurd quiet
desk-fits g view (Ack to) reply quiet h = absurd quiet
desk-fits g view action reply quiet h = record { kind = h.kind; told = fits-told g view action reply quiet h.told }

-- Translations are left as they are.

pub quiet-keeps : QuietKeeps
quiet-keeps g view (Load v i) reply quiet = absurd quiet
quiet-keeps g view (Store v i x) reply quiet = absurd quiet
quiet-keeps g view (Add v i x) reply quiet = absurd quiet
quiet-keeps g view (Walk v e write) reply quiet = absurd quiet
quiet-keeps g view (Peek v) reply quiet = absurd quiet
quiet-keeps g view Poll reply quiet = absurd quiet
quiet-keeps g view (Ack to) reply quiet = absurd quiet
quiet-keeps g view (Look v) (Word n) quiet = refl
quiet-keeps g view action Done quiet = refl
quiet-keeps g view action (Word n) quiet = refl
quiet-keeps g view action reply quiet = refl
