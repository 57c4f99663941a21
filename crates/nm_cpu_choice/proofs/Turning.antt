-- Patterns of answered turns leave no choice where those that they are joined of leave none.
use Rattle.std.proofs.Common.{◌≡◌, ◌≢◌, ◌⊎◌, inl, inr, ⊎_elim, [], ◌∷◌, ◌++◌, refl, sym, ap, ◌∙◌}
use Rattle.nm_base.specs.Geometry.{Geometry}
use Rattle.nm_action.specs.declared.action.Action.{Action}
use Rattle.nm_action.specs.declared.action.Reply.{Reply}
use Rattle.nm_action.specs.declared.turn.Turn.{Turn}
use Rattle.nm_action.specs.declared.turn.Turn.TheVariants.{Do}
use Rattle.nm_action.specs.declared.turn.Heard.{Heard}
use Rattle.nm_action.specs.declared.turn.Heard.TheVariants.{Answer}
use Rattle.nm_action.specs.Own.{Own}
use Rattle.nm_part.specs.Patterns.{Follows}
use Rattle.nm_actor.specs.Turns.{Turns}
use Rattle.nm_access.specs.Turning.{Hears, action_turns, Acts}
use Rattle.nm_choice.specs.Deterministic.{Diverge, Coincide, AreRepliesApart, AreAnswersApart, AgreeUpToAnswers, IsDeterministicPart, IsDeterministicActor}
use Rattle.nm_choice.proofs.Diverging.{part-here, part-behind, part-as, both-same}
use Rattle.nm_choice.proofs.Answers.{same-heard, answers-apart}
use Rattle.nm_choice.proofs.Patterns.{agree-follows}

-- one turn
hears_by : (given : Turn) (one two : Heard) (turns others : Turns) → turns ≡ (given, one) ∷ [] → others ≡ (given, two) ∷ [] → (one ≡ two) ⊎ (one ≢ two) → Diverge AreAnswersApart turns others ⊎ Coincide turns one others two
hears_by given one two turns others is other_is (inl same) = inr (both-same turns others one two (is ∙ ap (λ (h : Heard). (given, h) ∷ []) same ∙ sym other_is) same)
hears_by given one two turns others is other_is (inr differ) =
    inl (part-as AreAnswersApart turns others ((given, one) ∷ []) ((given, two) ∷ []) is other_is (part-here AreAnswersApart (given, one) (given, two) [] [] (record { same = refl; differ = differ })))

pub hears-one : (g : Geometry) (given : Turn) → IsDeterministicActor (Hears g given)
hears-one g given turns others one two h k = hears_by given one two turns others h.is k.is (same-heard one two)

-- one turn, and what follows by what is heard
pub hears-then : {O : Type 0} (g : Geometry) (given : Turn) (after then : Heard → Turns → O → Type 0) → ((heard : Heard) → AgreeUpToAnswers AreAnswersApart (after heard) (then heard))
    → AgreeUpToAnswers AreAnswersApart (Follows (Hears g given) after) (Follows (Hears g given) then)
hears-then g given after then rest = agree-follows AreAnswersApart (Hears g given) (Hears g given) after then (hears-one g given) rest

-- ---- turns that are actions

turns_of : (front : Own) (e : Action × Reply) (rest : Own) → action_turns (front ++ e ∷ rest) ≡ action_turns front ++ (Do e.0, Answer e.1) ∷ action_turns rest
turns_of [] e rest = refl
turns_of (f ∷ front) e rest = ap (λ (l : Turns). (Do f.0, Answer f.1) ∷ l) (turns_of front e rest)

turns_apart : (own other : Own) → Diverge AreRepliesApart own other → Diverge AreAnswersApart (action_turns own) (action_turns other)
turns_apart own other d =
    part-as AreAnswersApart (action_turns own) (action_turns other) (action_turns d.front ++ (Do d.here.0, Answer d.here.1) ∷ action_turns d.rest) (action_turns d.front ++ (Do d.there.0, Answer d.there.1) ∷ action_turns d.more)
    (ap action_turns d.is ∙ turns_of d.front d.here d.rest) (ap action_turns d.other_is ∙ turns_of d.front d.there d.more)
    (part-behind AreAnswersApart (action_turns d.front) ((Do d.here.0, Answer d.here.1) ∷ action_turns d.rest) ((Do d.there.0, Answer d.there.1) ∷ action_turns d.more)
    (part-here AreAnswersApart (Do d.here.0, Answer d.here.1) (Do d.there.0, Answer d.there.1) (action_turns d.rest) (action_turns d.more)
    (record { same = ap Do d.parts.same; differ = answers-apart d.here.1 d.there.1 d.parts.differ })))

pub acts-one : {O : Type 0} (pattern : Own → O → Type 0) → IsDeterministicPart pattern → IsDeterministicActor (Acts pattern)
acts-one pattern so turns others one two h k =
    ⊎_elim
    (λ d. inl (part-as AreAnswersApart turns others (action_turns h.own) (action_turns k.own) h.is k.is (turns_apart h.own k.own d)))
    (λ s. inr (both-same turns others one two (h.is ∙ ap action_turns s.list ∙ sym k.is) s.ends))
    (so h.own k.own one two h.shown k.shown)
