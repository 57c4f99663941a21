-- A part into which catch ups are woven leaves no choice.
use Rattle.std.proofs.Common.{◌≡◌, ◌⊎◌, inl, inr, ⊎_elim, Bool, true, false, [], ◌∷◌, ◌++◌, refl, sym, ap, ap₂, subst, ◌∙◌}
use Rattle.nm_action.specs.declared.action.Action.{Action}
use Rattle.nm_action.specs.declared.action.Reply.{Reply}
use Rattle.nm_action.specs.Own.{Own}
use Rattle.nm_part.specs.Patterns.{Follows}
use Rattle.nm_desk.specs.Woven.{CatchesWhere, IsEvent, Weaves, WeavesPart}
use Rattle.nm_choice.specs.Deterministic.{Diverge, Coincide, AreRepliesApart, AgreeUpToAnswers, IsDeterministicPart}
use Rattle.nm_choice.proofs.Diverging.{part-here, part-as, both-same}
use Rattle.nm_choice.proofs.Patterns.{AlwaysDiverge, one-ends, one-follows, apart-follows}

-- each catch up leaves no choice
abbrev CatchesOne : {S : Type 0} → (S → Own → S → Type 0) → Type 0
CatchesOne {S} catch = (kept : S) → IsDeterministicPart (catch kept)

where_one : {S : Type 0} (catch : S → Own → S → Type 0) → CatchesOne catch → (waits : Bool) (kept : S) → IsDeterministicPart (CatchesWhere catch waits kept)
where_one catch each true kept = each kept
where_one catch each false kept = one-ends AreRepliesApart kept

event_one : (event : Action × Reply) → IsDeterministicPart (IsEvent event)
event_one event own other one two h k = inr (both-same own other one two (h.is ∙ sym k.is) (h.told ∙ sym k.told))

-- one own list is woven in one way
weaves_one : {S : Type 0} (catch : S → Own → S → Type 0) → CatchesOne catch → (waits : Own → Action → Bool) (before inner : Own) (kept : S) → IsDeterministicPart (Weaves catch waits before inner kept)
weaves_one catch each waits before [] kept = one-ends AreRepliesApart kept
weaves_one catch each waits before (event ∷ inner) kept =
    one-follows AreRepliesApart (CatchesWhere catch (waits before event.0) kept) (λ now. Follows (IsEvent event) (λ reply. Weaves catch waits (before ++ event ∷ []) inner now)) (where_one catch each (waits before event.0) kept) (λ now.
    one-follows AreRepliesApart (IsEvent event) (λ reply. Weaves catch waits (before ++ event ∷ []) inner now) (event_one event) (λ reply. weaves_one catch each waits (before ++ event ∷ []) inner now))

-- two events that are apart
events_apart : {O : Type 0} (here there : Action × Reply) (after then : Reply → Own → O → Type 0) → AreRepliesApart here there → AlwaysDiverge AreRepliesApart (Follows (IsEvent here) after) (Follows (IsEvent there) then)
events_apart here there after then apart own other outcome end h k =
    part-as AreRepliesApart own other (here ∷ h.back) (there ∷ k.back) (h.is ∙ ap (λ (l : Own). l ++ h.back) h.shown.is) (k.is ∙ ap (λ (l : Own). l ++ k.back) k.shown.is)
    (part-here AreRepliesApart here there h.back k.back apart)

-- own lists that diverge do so when they are woven
weaves_apart : {S : Type 0} (catch : S → Own → S → Type 0) → CatchesOne catch → (waits : Own → Action → Bool) (here there : Action × Reply) (rest more : Own) → AreRepliesApart here there → (front before : Own) (kept : S)
    → AlwaysDiverge AreRepliesApart (Weaves catch waits before (front ++ here ∷ rest) kept) (Weaves catch waits before (front ++ there ∷ more) kept)
weaves_apart {S} catch each waits here there rest more apart [] before kept =
    let A : Action → Type 0 = λ action. AgreeUpToAnswers AreRepliesApart (CatchesWhere catch (waits before here.0) kept) (CatchesWhere catch (waits before action) kept) in
    apart-follows AreRepliesApart (CatchesWhere catch (waits before here.0) kept) (CatchesWhere catch (waits before there.0) kept)
    (λ now. Follows (IsEvent here) (λ reply. Weaves catch waits (before ++ here ∷ []) rest now)) (λ now. Follows (IsEvent there) (λ reply. Weaves catch waits (before ++ there ∷ []) more now))
    (subst A apart.same (where_one catch each (waits before here.0) kept)) (λ now.
    events_apart here there (λ reply. Weaves catch waits (before ++ here ∷ []) rest now) (λ reply. Weaves catch waits (before ++ there ∷ []) more now) apart)
weaves_apart catch each waits here there rest more apart (event ∷ front) before kept =
    apart-follows AreRepliesApart (CatchesWhere catch (waits before event.0) kept) (CatchesWhere catch (waits before event.0) kept)
    (λ now. Follows (IsEvent event) (λ reply. Weaves catch waits (before ++ event ∷ []) (front ++ here ∷ rest) now)) (λ now. Follows (IsEvent event) (λ reply. Weaves catch waits (before ++ event ∷ []) (front ++ there ∷ more) now))
    (where_one catch each (waits before event.0) kept) (λ now.
    apart-follows AreRepliesApart (IsEvent event) (IsEvent event) (λ reply. Weaves catch waits (before ++ event ∷ []) (front ++ here ∷ rest) now) (λ reply. Weaves catch waits (before ++ event ∷ []) (front ++ there ∷ more) now) (event_one event) (λ reply.
    weaves_apart catch each waits here there rest more apart front (before ++ event ∷ []) now))

pub woven-one : {S X : Type 0} (catch : S → Own → S → Type 0) → ((kept : S) → IsDeterministicPart (catch kept)) → (waits : Own → Action → Bool) (shape : Own → X → Type 0) → IsDeterministicPart shape → (kept : S) → IsDeterministicPart (WeavesPart catch waits shape kept)
woven-one {S} {X} catch each waits shape so kept own other end last h k =
    ⊎_elim
    (λ d. let first : Weaves catch waits [] (d.front ++ d.here ∷ d.rest) kept own end.1 = subst (λ (l : Own). Weaves catch waits [] l kept own end.1) d.is h.woven in
    let second : Weaves catch waits [] (d.front ++ d.there ∷ d.more) kept other last.1 = subst (λ (l : Own). Weaves catch waits [] l kept other last.1) d.other_is k.woven in
    inl (weaves_apart catch each waits d.here d.there d.rest d.more d.parts d.front [] kept own other end.1 last.1 first second))
    (λ s. let second : Weaves catch waits [] h.inner kept other last.1 = subst (λ (l : Own). Weaves catch waits [] l kept other last.1) (sym s.list) k.woven in
    ⊎_elim
    (λ d. inl d)
    (λ t. inr (both-same own other end last t.list (ap₂ (λ (x : X) (y : S). (x, y)) s.ends t.ends)))
    (weaves_one catch each waits [] h.inner kept own other end.1 last.1 h.woven second))
    (so h.inner k.inner end.0 last.0 h.shown k.shown)
