-- The three tests of the code say together that the word maps a frame.
use Rattle.std.proofs.Common.{sym, ◌∙◌}
use Rattle.std.proofs.lemmas.Bool.{eqb-true, eq-eqb}
use Rattle.nm_base.proofs.Words.{IsPresentWord-from_tests, gap_of-IsPresentWord, high_of-IsPresentWord}
use Rattle.nm_base.proofs.page_word.is_mapping.Goals as goal

pub returns-then-word-ne0 : goal.returns-then-word-ne0
returns-then-word-ne0 c = (λ e. absurd (cc), λ h. absurd (c.if-word-ne0.true (gap_of-IsPresentWord _ h)))

pub returns : goal.returns
returns c = (
  λ e. IsPresentWord-from_tests c.args.word (eqb-true _ _ (sym c.is_present.ensures ∙ c.if-not-is_present.false)) c.if-word-ne0.false (eqb-true _ _ e),
  λ h. eq-eqb _ _ (high_of-IsPresentWord _ h),
)
