-- Each action of a catch up was answered.
use Rattle.std.proofs.Common.{sym}
use Rattle.nm_catchup.proofs.Catching.{after-news, after-old, after-peek, after-ack}
use Rattle.nm_catchup.proofs.cache.TranslationCache.after.Goals as goal

pub returns-then-is_news : goal.returns-then-is_news
returns-then-is_news c = λ was g view own action h fits.
    after-news c.args.self.now c.peek_from.new.self c.in-Word.number c.args.reply c.peek_from.result was g view own action c.in-Polling.is c.in-Word.is (sym c.if-is_news.ensures) h fits c.peek_from.ensures

pub returns-else-is_news : goal.returns-else-is_news
returns-else-is_news c = λ was g view own action h fits.
    after-old c.args.self.now c.in-Word.number c.args.reply was g view own action c.in-Polling.is c.in-Word.is (sym c.if-is_news.ensures) h fits

pub returns-in-Word-reply : goal.returns-in-Word-reply
returns-in-Word-reply c = λ was g view own action h fits.
    after-peek c.args.self.now c.check.new.self c.peek_from-in-Peeking.new.self c.in-Peeking.number c.in-Peeking.vpage c.in-Word-reply.stamp c.args.reply c.peek_from-in-Peeking.result was g view own action c.in-Peeking.is c.in-Word-reply.is c.check.ensures h fits c.peek_from-in-Peeking.ensures

pub returns-in-Acknowledging : goal.returns-in-Acknowledging
returns-in-Acknowledging c = λ was g view own action h fits.
    after-ack c.args.self.now c.in-Acknowledging.number c.args.reply was g view own action c.in-Acknowledging.is h fits
