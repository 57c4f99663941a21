-- A page is peeked, or the number is acknowledged.
use Rattle.std.proofs.Common.{refl}
use Rattle.nm_catchup.proofs.Catching.{goes-peek, goes-ack}
use Rattle.nm_catchup.proofs.cache.TranslationCache.peek_from.Goals as goal

pub returns-in-Some : goal.returns-in-Some
returns-in-Some c = λ g was view own h. goes-peek _ c.args.from c.args.number c.in-Some.vpage was g view own refl c.in-Some.ensures h

pub returns-in-None : goal.returns-in-None
returns-in-None c = λ g was view own h. goes-ack _ c.args.from c.args.number was g view own refl c.in-None.ensures h
