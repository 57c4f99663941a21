-- That the reply of an exchange is of its kind.
use Rattle.std.proofs.Common.{ℕ, ◌==◌, if◌then◌else◌, Bool, true, false}
use Rattle.nm_action.specs.declared.action.Reply.{Reply}
use Rattle.nm_action.specs.declared.action.Reply.TheVariants.{Done, Busy, Lost}
use Rattle.nm_words.specs.declared.exchanges.Change.{Change}
use Rattle.nm_words.specs.declared.exchanges.Change.TheVariants.{Take, IfIs}
use Rattle.nm_step.specs.Table.{reply_of, IsDoneOrBusy, IsDoneOrLost, IsReplyTo}

-- what holds of both replies holds of the one that is given
either : (P : Reply → Type 0) (x y : Reply) (b : Bool) → P x → P y → P (if b then x else y)
either P x y true p q = p
either P x y false p q = q

pub IsReplyTo-reply_of : (c : Change) (n : ℕ) → IsReplyTo c (reply_of c n)
IsReplyTo-reply_of (Take x) n = either IsDoneOrBusy Done (Busy n) (n == 0) tt tt
IsReplyTo-reply_of (IfIs old new) n = either IsDoneOrLost Done (Lost n) (n == old) tt tt
IsReplyTo-reply_of c n = tt
