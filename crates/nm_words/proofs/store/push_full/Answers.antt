-- One word more, with a bit for each frame that it stands for.
use Rattle.std.proofs.Common.{arith}
use Rattle.nm_words.proofs.Places.{full_words-push}
use Rattle.nm_words.proofs.store.push_full.Goals as goal

pub loop-k-preserved : goal.loop-k-preserved
loop-k-preserved c =
    full_words-push c.args.words.now.items c.loop-k.words.items c.push.new.self.items c.args.frames c.loop-k.k c.min-few.result c.loop-k.invariant (omega (arith, c.min-few.ensures)) (omega (arith, c.min-few.ensures)) c.in_ok-push.ensures.items
