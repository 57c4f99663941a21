-- A write in a group is the exchange.
use Rattle.std.proofs.Common.{sym, ◌∙◌}
use Rattle.nm_words.proofs.Groups.{exchanged-with_word}
use Rattle.nm_words.proofs.store.Words.exchange.Goals as goal

pub returns-clause-words : goal.returns-clause-words
returns-clause-words c =
    c.exchange_in_group.ensures.words ∙ sym (exchanged-with_word c.args.g.now c.args.self.now c.args.place c.args.change)
