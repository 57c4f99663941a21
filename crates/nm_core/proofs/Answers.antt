-- What the words leave of the reply to a permitted action.
use Rattle.std.proofs.Common.{◌≡◌, ℕ, ◌≤◌, ◌==◌, if◌then◌else◌, Bool, true, false, refl, subst, arith}
use Rattle.std.proofs.lemmas.Bool.{eqb-true}
use Rattle.nm_base.specs.Geometry.{Geometry}
use Rattle.nm_action.specs.declared.action.Cell.TheVariants as cells
use Rattle.nm_action.specs.declared.action.Reply.{Reply}
use Rattle.nm_action.specs.declared.action.Reply.TheVariants.{Done, Busy, Lost}
use Rattle.nm_action.specs.declared.action.Action.{Action}
use Rattle.nm_action.specs.declared.action.Action.TheVariants.{Load, Store, Add, Look, Walk, Peek, Poll, Ack, Lock, Unlock, Bump, SeeAck, Raise, Soften, Arm, ClearDirty, Unmap, Map, Grant, CopyLoad, CopyStore, SetHome, SetShadow, TakeTurn, Scan, GiveFrame, PutFrame, ReleaseTurn, Mark, Read}
use Rattle.nm_base.specs.Ranges.{IsWord}
use Rattle.nm_view.specs.Views.{View, most_bumps, most_raises}
use Rattle.nm_event.specs.Ranged.{IsInRangeReply}
use Rattle.nm_base.specs.TableWord.{IsTableInRange}
use Rattle.nm_words.specs.Ranged.{IsRanged}
use Rattle.nm_step.specs.Table.{where_of, change_of, reply_of}

-- what holds of both replies holds of the one that is given
either : (P : Reply → Type 0) (x y : Reply) (b : Bool) → (b ≡ true → P x) → P y → P (if b then x else y)
either P x y true p q = p refl
either P x y false p q = q

-- its word is in range
pub IsInRangeReply-reply_of : (g : Geometry) (view : View) (a : Action) (bumps raises n : ℕ) → bumps ≤ most_bumps → raises ≤ most_raises → IsWord n → IsRanged g bumps raises (where_of g view a) n → IsInRangeReply g a (reply_of (change_of g view a) n)
IsInRangeReply-reply_of g view (Load v i) bumps raises n few fewer word h = record { bits = word; said = tt }
IsInRangeReply-reply_of g view (Store v i x) bumps raises n few fewer word h = record { bits = word; said = tt }
IsInRangeReply-reply_of g view (Add v i x) bumps raises n few fewer word h = record { bits = word; said = tt }
IsInRangeReply-reply_of g view (Look v) bumps raises n few fewer word h = record { bits = word; said = h }
IsInRangeReply-reply_of g view (Walk v e write) bumps raises n few fewer word h = either (IsInRangeReply g (Walk v e write)) Done (Lost n) (n == e) (λ same. subst (IsTableInRange g) (eqb-true n e same) h) (record { bits = word; said = h })
IsInRangeReply-reply_of g view (Peek v) bumps raises n few fewer word h = record { bits = word; said = omega (arith, h, fewer) }
IsInRangeReply-reply_of g view Poll bumps raises n few fewer word h = record { bits = word; said = omega (arith, h, few) }
IsInRangeReply-reply_of g view (Ack to) bumps raises n few fewer word h = tt
IsInRangeReply-reply_of g view (Lock b) bumps raises n few fewer word h = either (IsInRangeReply g (Lock b)) Done (Busy n) (n == 0) (λ same. tt) word
IsInRangeReply-reply_of g view (Unlock b) bumps raises n few fewer word h = tt
IsInRangeReply-reply_of g view Bump bumps raises n few fewer word h = record { bits = word; said = omega (arith, h, few) }
IsInRangeReply-reply_of g view (SeeAck p) bumps raises n few fewer word h = record { bits = word; said = tt }
IsInRangeReply-reply_of g view (Raise v) bumps raises n few fewer word h = record { bits = word; said = omega (arith, h, fewer) }
IsInRangeReply-reply_of g view (Soften v bit) bumps raises n few fewer word h = record { bits = word; said = h }
IsInRangeReply-reply_of g view (Arm v) bumps raises n few fewer word h = record { bits = word; said = h }
IsInRangeReply-reply_of g view (ClearDirty v) bumps raises n few fewer word h = record { bits = word; said = h }
IsInRangeReply-reply_of g view (Unmap v) bumps raises n few fewer word h = record { bits = word; said = h }
IsInRangeReply-reply_of g view (Map v new) bumps raises n few fewer word h = tt
IsInRangeReply-reply_of g view (Grant v) bumps raises n few fewer word h = record { bits = word; said = h }
IsInRangeReply-reply_of g view (CopyLoad b i) bumps raises n few fewer word h = record { bits = word; said = tt }
IsInRangeReply-reply_of g view (CopyStore b f i x) bumps raises n few fewer word h = tt
IsInRangeReply-reply_of g view (SetHome b f) bumps raises n few fewer word h = tt
IsInRangeReply-reply_of g view (SetShadow b m s) bumps raises n few fewer word h = tt
IsInRangeReply-reply_of g view (TakeTurn t) bumps raises n few fewer word h = either (IsInRangeReply g (TakeTurn t)) Done (Busy n) (n == 0) (λ same. tt) word
IsInRangeReply-reply_of g view (Scan t k) bumps raises n few fewer word h = record { bits = word; said = h }
IsInRangeReply-reply_of g view (GiveFrame f) bumps raises n few fewer word h = record { bits = word; said = tt }
IsInRangeReply-reply_of g view (PutFrame f) bumps raises n few fewer word h = record { bits = word; said = tt }
IsInRangeReply-reply_of g view (ReleaseTurn t) bumps raises n few fewer word h = tt
IsInRangeReply-reply_of g view (Mark b old new) bumps raises n few fewer word h = either (IsInRangeReply g (Mark b old new)) Done (Lost n) (n == old) (λ same. tt) (record { bits = word; said = tt })
IsInRangeReply-reply_of g view (Read b (cells.Home page)) bumps raises n few fewer word h = record { bits = word; said = h }
IsInRangeReply-reply_of g view (Read b (cells.Shadow frame)) bumps raises n few fewer word h = record { bits = word; said = h }
