-- A word that fails the tests was not written.
use Rattle.std.proofs.Common.{sym, ◌∙◌, subst}
use Rattle.std.proofs.lemmas.Bool.{iff_false}
use Rattle.nm_base.specs.PageWord.{IsPresentWord}
use Rattle.nm_base.proofs.Words.{no_word-written}
use Rattle.nm_base.proofs.page_word.PageWord.of_word.Goals as goal

pub returns-then-not-is_mapping-clause-again : goal.returns-then-not-is_mapping-clause-again
returns-then-not-is_mapping-clause-again c = λ p narrow e. absurd (no_word-written p narrow
    (λ zero. c.if-word-eq0.false (e ∙ zero))
    (λ maps. iff_false c.is_mapping.ensures c.if-not-is_mapping.true (subst IsPresentWord (sym e) maps)))
