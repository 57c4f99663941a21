use Rattle.nm_base.specs.PageWord.{is_present, is_accessed}
use Rattle.nm_looks.proofs.Shown.{both-test}
use Rattle.nm_looks.proofs.seen.is_hot_word.Goals as goal

pub returns : goal.returns
returns c = both-test c.hot.result (is_present c.args.word) (is_accessed c.args.word) c.hot.ensures
