-- Lists of parts with catch ups, carried on.
use Rattle.std.proofs.Common.{List, [], ◌∷◌, ◌++◌, Bool, true, false, refl, sym, ap, ◌∙◌, subst, append_assoc}
use Rattle.std.proofs.lemmas.List.{append-nil}
use Rattle.nm_action.specs.declared.action.Action.{Action}
use Rattle.nm_action.specs.declared.action.Reply.{Reply}
use Rattle.nm_action.specs.Own.{Own}
use Rattle.nm_part.specs.Parts.{IsBegun}
use Rattle.nm_part.specs.Patterns.{Follows, CanEnd}
use Rattle.nm_part.proofs.Patterns.{ends-now, can-ends, can-follow}
use Rattle.nm_desk.specs.Woven.{CatchesWhere, Weaves, WeavesPart}

-- a list goes on with what follows it
follows-on : {E X O P : Type 0} (first : List E → X → Type 0) (after : X → List E → O → Type 0) (later : X → List E → P → Type 0) (own more : List E) (o : O) (p : P)
    → Follows first after own o → ((x : X) (rest : List E) → after x rest o → later x (rest ++ more) p) → Follows first later (own ++ more) p
follows-on first after later own more o p h carry = record {
  end = h.end;
  front = h.front;
  back = h.back ++ more;
  shown = h.shown;
  rest = carry h.end h.back h.rest;
  is = ap (λ l. l ++ more) h.is ∙ append_assoc h.front h.back more;
}

-- a list with a further one
pub weaves-append : {S : Type 0} (catch : S → Own → S → Type 0) (waits : Own → Action → Bool) (before inner more : Own) (kept now later : S) (own rest : Own)
    → Weaves catch waits before inner kept own now → Weaves catch waits (before ++ inner) more now rest later → Weaves catch waits before (inner ++ more) kept (own ++ rest) later
weaves-append catch waits before [] more kept now later own rest h r =
    let there : Weaves catch waits before more now rest later = subst (λ (l : Own). Weaves catch waits l more now rest later) (append-nil before) r in
    let here : Weaves catch waits before more kept rest later = subst (λ s. Weaves catch waits before more s rest later) h.is there in
    subst (λ (l : Own). Weaves catch waits before more kept (l ++ rest) later) (sym h.none) here
weaves-append catch waits before (event ∷ inner) more kept now later own rest h r =
    let after : Weaves catch waits ((before ++ event ∷ []) ++ inner) more now rest later = subst (λ (l : Own). Weaves catch waits l more now rest later) (sym (append_assoc before (event ∷ []) inner)) r in
    follows-on _ _ _ own rest now later h
    (λ t made m. follows-on _ _ _ made rest now later m (λ reply made m. weaves-append catch waits (before ++ event ∷ []) inner more t now later made rest m after))

-- one event more, after a catch up where the part waits before it
pub weaves-next : {S : Type 0} (catch : S → Own → S → Type 0) (waits : Own → Action → Bool) (inner : Own) (kept now later : S) (own caught : Own) (action : Action) (reply : Reply)
    → Weaves catch waits [] inner kept own now → CatchesWhere catch (waits inner action) now caught later
    → Weaves catch waits [] (inner ++ (action, reply) ∷ []) kept (own ++ (caught ++ (action, reply) ∷ [])) later
weaves-next catch waits inner kept now later own caught action reply h c = weaves-append catch waits [] inner ((action, reply) ∷ []) kept now later own (caught ++ (action, reply) ∷ []) h (record {
  end = later;
  front = caught;
  back = (action, reply) ∷ [];
  shown = c;
  rest = record { end = reply; front = (action, reply) ∷ []; back = []; shown = record { is = refl; told = refl }; rest = ends-now later; is = refl };
  is = refl;
})

catches-can : {S : Type 0} (catch : S → Own → S → Type 0) (due : Bool) (kept : S) → ((now : S) → CanEnd (catch now)) → CanEnd (CatchesWhere catch due kept)
catches-can catch true kept can = can kept
catches-can catch false kept can = can-ends kept

-- where a catch up can end, so can the list of any part
pub weaves-can : {S : Type 0} (catch : S → Own → S → Type 0) (waits : Own → Action → Bool) (before inner : Own) (kept : S) → ((now : S) → CanEnd (catch now)) → CanEnd (Weaves catch waits before inner kept)
weaves-can catch waits before [] kept can = can-ends kept
weaves-can catch waits before (event ∷ inner) kept can =
    let some = catches-can catch (waits before event.0) kept can in
    can-follow _ _ some
    (can-follow _ _ (record { rest = event ∷ []; outcome = event.1; shown = record { is = refl; told = refl } }) (weaves-can catch waits (before ++ event ∷ []) inner some.outcome can))

-- a part whose list is the beginning of a finished one can be run to its end
pub part-can : {S X : Type 0} (catch : S → Own → S → Type 0) (waits : Own → Action → Bool) (shape : Own → X → Type 0) (inner : Own) (kept now : S) (own : Own)
    → Weaves catch waits [] inner kept own now → IsBegun shape inner → ((now : S) → CanEnd (catch now))
    → CanEnd (λ rest end. WeavesPart catch waits shape kept (own ++ rest) end)
part-can catch waits shape inner kept now own h begun can =
    let rest = weaves-can catch waits inner begun.rest now can in
    record {
      rest = rest.rest;
      outcome = (begun.outcome, rest.outcome);
      shown = record { inner = inner ++ begun.rest; shown = begun.whole; woven = weaves-append catch waits [] inner begun.rest kept now rest.outcome own rest.rest h rest.shown };
    }
