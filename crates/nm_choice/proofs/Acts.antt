-- One action leaves no choice: its reply is its outcome.
use Rattle.std.proofs.Common.{◌≡◌, ◌≢◌, ◌⊎◌, inl, inr, [], ◌∷◌, refl, sym, ap, ◌∙◌}
use Rattle.nm_base.specs.Geometry.{Geometry}
use Rattle.nm_action.specs.declared.action.Action.{Action}
use Rattle.nm_action.specs.declared.action.Reply.{Reply}
use Rattle.nm_action.specs.Own.{Own}
use Rattle.nm_part.specs.Patterns.{Follows}
use Rattle.nm_compose.specs.Acts.{IsAct}
use Rattle.nm_choice.specs.Deterministic.{Diverge, Coincide, AreRepliesApart, AgreeUpToAnswers, IsDeterministicPart}
use Rattle.nm_choice.proofs.Diverging.{part-here, part-as, both-same}
use Rattle.nm_choice.proofs.Answers.{same-reply}
use Rattle.nm_choice.proofs.Patterns.{one-follows, agree-follows}

-- one action with two replies
pub part-replies : (action : Action) (one two : Reply) (rest more : Own) → one ≢ two → Diverge AreRepliesApart ((action, one) ∷ rest) ((action, two) ∷ more)
part-replies action one two rest more differ = part-here AreRepliesApart (action, one) (action, two) rest more (record { same = refl; differ = differ })

by_replies : (action : Action) (one two : Reply) (own other : Own) → own ≡ (action, one) ∷ [] → other ≡ (action, two) ∷ []
    → (one ≡ two) ⊎ (one ≢ two) → Diverge AreRepliesApart own other ⊎ Coincide own one other two
by_replies action one two own other is other_is (inl same) =
    inr (both-same own other one two (is ∙ ap (λ (r : Reply). (action, r) ∷ []) same ∙ sym other_is) same)
by_replies action one two own other is other_is (inr differ) =
    inl (part-as AreRepliesApart own other ((action, one) ∷ []) ((action, two) ∷ []) is other_is (part-replies action one two [] [] differ))

pub one-act : (action : Action) (g : Geometry) → IsDeterministicPart (IsAct action g)
one-act action g own other one two h k = by_replies action one two own other h.is k.is (same-reply one two)

-- one action, and what follows by its reply
pub one-then : {O : Type 0} (action : Action) (g : Geometry) (after : Reply → Own → O → Type 0) → ((reply : Reply) → IsDeterministicPart (after reply)) → IsDeterministicPart (Follows (IsAct action g) after)
one-then action g after then = one-follows AreRepliesApart (IsAct action g) after (one-act action g) then

pub agree-then : {O : Type 0} (action : Action) (g : Geometry) (after afters : Reply → Own → O → Type 0) → ((reply : Reply) → AgreeUpToAnswers AreRepliesApart (after reply) (afters reply)) → AgreeUpToAnswers AreRepliesApart (Follows (IsAct action g) after) (Follows (IsAct action g) afters)
agree-then action g after afters then = agree-follows AreRepliesApart (IsAct action g) (IsAct action g) after afters (one-act action g) then
