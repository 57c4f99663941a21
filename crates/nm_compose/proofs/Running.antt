-- The steps of a composite.
use Rattle.std.proofs.Common.{◌≡◌, [], ◌∷◌, ◌++◌, refl, sym, subst, append_assoc}
use Rattle.std.proofs.lemmas.List.{append-nil}
use Rattle.nm_base.specs.Geometry.{Geometry}
use Rattle.nm_action.specs.declared.action.Action.{Action}
use Rattle.nm_action.specs.declared.action.Reply.{Reply}
use Rattle.nm_action.specs.declared.turn.Step.{Step}
use Rattle.nm_action.specs.declared.turn.Step.TheVariants.{Do, Over}
use Rattle.nm_view.specs.Views.{View}
use Rattle.nm_event.specs.Fitting.{Fits}
use Rattle.nm_action.specs.Own.{Own}
use Rattle.nm_event.specs.After.{view_after}
use Rattle.nm_part.specs.Parts.{IsBegun, IsAsked, IsEnded, IsPartStep, IsHeard}
use Rattle.nm_part.specs.Patterns.{Follows, IsLeft, CanEnd}
use Rattle.nm_part.proofs.OwnLemmas.{view-append}
use Rattle.nm_part.proofs.Inside.{asked-inside, fits-inside}
use Rattle.nm_part.proofs.Patterns.{left-start, left-after, left-as}
use Rattle.nm_compose.specs.Plans.{IsPieceRun, HasEnded}
use Rattle.nm_compose.specs.Composites.{IsRunning}

-- a finished list of the piece begins a list of the whole
running-begun : {X O : Type 0} (shape : Own → X → Type 0) (left : X → Own → O → Type 0) (whole : Own → O → Type 0) (front done : Own) (end : X)
    → IsLeft whole front (Follows shape left) → CanEnd (left end) → shape done end → IsBegun whole (front ++ done)
running-begun shape left whole front done end due can shown = record {
  rest = can.rest;
  outcome = can.outcome;
  whole = (left-after whole front done shape left end due shown).carry can.rest can.outcome can.shown;
}

-- an action of the piece that runs is an action of the composite
pub running-asked : {M X O : Type 0} (shape : M → Geometry → Own → X → Type 0) (awaits : Geometry → View → Own → Action → Type 0) (knows : Geometry → View → View → M → Type 0) (left : Geometry → X → Own → O → Type 0) (whole : Geometry → Own → O → Type 0) (piece : M) (g : Geometry) (view : View) (front inner : Own) (action : Action)
    → knows g view (view_after g view front) piece
    → ((done : Own) (end : X) → shape piece g done end → CanEnd (left g end))
    → IsLeft (whole g) front (Follows (shape piece g) (left g))
    → IsAsked awaits (shape piece) g (view_after g view front) inner action
    → IsAsked (IsRunning shape awaits knows left whole piece) whole g view (front ++ inner) action
running-asked shape awaits knows left whole piece g view front inner action known can due h =
    asked-inside awaits (IsRunning shape awaits knows left whole piece) (shape piece) whole g view front inner action
    (λ a. record { front = front; inner = inner; is = refl; known = known; can = can; due = due; awaited = a })
    (λ done end shown. running-begun (shape piece g) (left g) (whole g) front done end due (can done end shown) shown)
    h

-- a new piece, and its first action
pub running-starts : {M X O : Type 0} (may_begin : M → Geometry → View → Type 0) (shape : M → Geometry → Own → X → Type 0) (awaits : Geometry → View → Own → Action → Type 0) (knows : Geometry → View → View → M → Type 0) (left : Geometry → X → Own → O → Type 0) (whole : Geometry → Own → O → Type 0) (was : Own → O → Type 0) (piece : M) (g : Geometry) (view : View) (own : Own) (action : Action)
    → IsLeft (whole g) own was
    → IsPieceRun may_begin shape knows left was piece g view (view_after g view own)
    → IsAsked awaits (shape piece) g (view_after g view own) [] action
    → IsAsked (IsRunning shape awaits knows left whole piece) whole g view own action
running-starts may_begin shape awaits knows left whole was piece g view own action due run h =
    let A : Own → Type 0 = λ l. IsAsked (IsRunning shape awaits knows left whole piece) whole g view l action in
    subst A (append-nil own) (running-asked shape awaits knows left whole piece g view own [] action run.known run.can
    (left-as (whole g) own was (Follows (shape piece g) (left g)) due run.fits) h)

-- a reply that fits the composite fits the piece
running-fits : (g : Geometry) (view : View) (own front inner : Own) (action : Action) (reply : Reply) → own ≡ front ++ inner → Fits g (view_after g view own) action reply
    → Fits g (view_after g (view_after g view front) inner) action reply
running-fits g view own front inner action reply is f =
    let F : Own → Type 0 = λ l. Fits g (view_after g view l) action reply in
    fits-inside g view front inner action reply (subst F is f)

-- the piece hears what the composite hears
pub running-heard : {M X O : Type 0} (shape : M → Geometry → Own → X → Type 0) (awaits : Geometry → View → Own → Action → Type 0) (knows : Geometry → View → View → M → Type 0) (left : Geometry → X → Own → O → Type 0) (whole : Geometry → Own → O → Type 0) (piece : M) (reply : Reply)
    → IsHeard (IsRunning shape awaits knows left whole piece) reply → IsHeard awaits reply
running-heard shape awaits knows left whole piece reply h = record {
  geometry = h.geometry;
  view = view_after h.geometry h.view h.awaited.front;
  own = h.awaited.inner;
  action = h.action;
  awaited = h.awaited.awaited;
  fits = running-fits h.geometry h.view h.own h.awaited.front h.awaited.inner h.action reply h.awaited.is h.fits;
}

-- one answer more: the list of the composite has the list of the piece at its end
running-list : (own front inner more : Own) → own ≡ front ++ inner → own ++ more ≡ front ++ (inner ++ more)
running-list own front inner more is = rw is (append_assoc front inner more)

-- the piece goes on: its next action is the composite's
pub running-more : {M X O : Type 0} (shape : M → Geometry → Own → X → Type 0) (leaves : M → Geometry → View → X → View → Type 0) (ended : Geometry → Own → X → Type 0) (awaits next : Geometry → View → Own → Action → Type 0) (knows : Geometry → View → View → M → Type 0) (left : Geometry → X → Own → O → Type 0) (whole : Geometry → Own → O → Type 0) (piece now : M) (g : Geometry) (view : View) (own : Own) (action given : Action) (reply : Reply) (result : Step X)
    → IsRunning shape awaits knows left whole piece g view own action → Fits g (view_after g view own) action reply
    → now ≡ piece → result ≡ Do given
    → ((g : Geometry) (v : View) (own : Own) (action : Action) → awaits g v own action → Fits g (view_after g v own) action reply → IsPartStep next (shape piece) (leaves piece) ended g v (own ++ (action, reply) ∷ []) result)
    → IsAsked (IsRunning shape next knows left whole now) whole g view (own ++ (action, reply) ∷ []) given
running-more {M} {X} {O} shape leaves ended awaits next knows left whole piece now g view own action given reply result a f same is after =
    let step = after g (view_after g view a.front) a.inner action a.awaited (running-fits g view own a.front a.inner action reply a.is f) in
    let asked : IsAsked next (shape piece) g (view_after g view a.front) (a.inner ++ (action, reply) ∷ []) given = rw is at step in
    let W : Own → Type 0 = λ l. IsAsked (IsRunning shape next knows left whole piece) whole g view l given in
    let N : M → Type 0 = λ m. IsAsked (IsRunning shape next knows left whole m) whole g view (own ++ (action, reply) ∷ []) given in
    subst N (sym same) (subst W (sym (running-list own a.front a.inner ((action, reply) ∷ []) a.is))
    (running-asked shape next knows left whole piece g view a.front (a.inner ++ (action, reply) ∷ []) given a.known a.can a.due asked))

-- the piece of a composite that has made this list has ended so
pub record IsPieceOver {M X O : Type 0} (shape : M → Geometry → Own → X → Type 0) (leaves : M → Geometry → View → X → View → Type 0) (ended : Geometry → Own → X → Type 0) (knows : Geometry → View → View → M → Type 0) (left : Geometry → X → Own → O → Type 0) (whole : Geometry → Own → O → Type 0) (piece : M) (g : Geometry) (view : View) (own : Own) (end : X) : Type 0 where
  pub now : View
  pub inner : Own
  pub known : knows g view now piece
  pub shown : shape piece g inner end
  pub leaving : leaves piece g now end (view_after g view own)
  pub over : ended g inner end
  pub due : IsLeft (whole g) own (left g end)

-- the piece is over with this answer
pub running-over : {M X O : Type 0} (shape : M → Geometry → Own → X → Type 0) (leaves : M → Geometry → View → X → View → Type 0) (ended : Geometry → Own → X → Type 0) (awaits next : Geometry → View → Own → Action → Type 0) (knows : Geometry → View → View → M → Type 0) (left : Geometry → X → Own → O → Type 0) (whole : Geometry → Own → O → Type 0) (piece now : M) (g : Geometry) (view : View) (own : Own) (action : Action) (reply : Reply) (end : X) (result : Step X)
    → IsRunning shape awaits knows left whole piece g view own action → Fits g (view_after g view own) action reply
    → now ≡ piece → result ≡ Over end
    → ((g : Geometry) (v : View) (own : Own) (action : Action) → awaits g v own action → Fits g (view_after g v own) action reply → IsPartStep next (shape piece) (leaves piece) ended g v (own ++ (action, reply) ∷ []) result)
    → IsPieceOver shape leaves ended knows left whole now g view (own ++ (action, reply) ∷ []) end
running-over {M} {X} {O} shape leaves ended awaits next knows left whole piece now g view own action reply end result a f same is after =
    let step = after g (view_after g view a.front) a.inner action a.awaited (running-fits g view own a.front a.inner action reply a.is f) in
    let more = a.inner ++ (action, reply) ∷ [] in
    let done : IsEnded (shape piece) (leaves piece) ended g (view_after g view a.front) more end = rw is at step in
    let N : M → Type 0 = λ m. IsPieceOver shape leaves ended knows left whole m g view (own ++ (action, reply) ∷ []) end in
    let P : Own → Type 0 = λ l. IsPieceOver shape leaves ended knows left whole piece g view l end in
    let V : View → Type 0 = λ v. leaves piece g (view_after g view a.front) end v in
    subst N (sym same) (subst P (sym (running-list own a.front a.inner ((action, reply) ∷ []) a.is)) (record {
      now = view_after g view a.front;
      inner = more;
      known = a.known;
      shown = done.shown;
      leaving = subst V (sym (view-append g view a.front more)) done.left;
      over = done.over;
      due = left-after (whole g) a.front more (shape piece g) (left g) end a.due done.shown;
    }))

-- what the plan needs to go on
pub running-ended : {M X O : Type 0} (shape : M → Geometry → Own → X → Type 0) (leaves : M → Geometry → View → X → View → Type 0) (ended : Geometry → Own → X → Type 0) (knows : Geometry → View → View → M → Type 0) (left : Geometry → X → Own → O → Type 0) (whole : Geometry → Own → O → Type 0) (piece : M) (g : Geometry) (view : View) (own : Own) (end : X)
    → IsPieceOver shape leaves ended knows left whole piece g view own end → HasEnded shape leaves ended knows piece end
running-ended shape leaves ended knows left whole piece g view own end h = record {
  geometry = g;
  first = view;
  now = h.now;
  later = view_after g view own;
  own = h.inner;
  known = h.known;
  shown = h.shown;
  left = h.leaving;
  over = h.over;
}

-- a new piece of this data has given its first action
pub running-new : {M X O : Type 0} (may_begin : M → Geometry → View → Type 0) (shape : M → Geometry → Own → X → Type 0) (awaits : Geometry → View → Own → Action → Type 0) (knows : Geometry → View → View → M → Type 0) (left : Geometry → X → Own → O → Type 0) (whole : Geometry → Own → O → Type 0) (was : Own → O → Type 0) (piece now : M) (g : Geometry) (view : View) (own : Own) (action : Action)
    → IsLeft (whole g) own was → now ≡ piece
    → IsPieceRun may_begin shape knows left was piece g view (view_after g view own)
    → IsAsked awaits (shape piece) g (view_after g view own) [] action
    → IsAsked (IsRunning shape awaits knows left whole now) whole g view own action
running-new {M} may_begin shape awaits knows left whole was piece now g view own action due same run h =
    let N : M → Type 0 = λ m. IsAsked (IsRunning shape awaits knows left whole m) whole g view own action in
    subst N (sym same) (running-starts may_begin shape awaits knows left whole was piece g view own action due run h)

-- the first piece has given its first action
pub running-first : {M X O : Type 0} (may_begin : M → Geometry → View → Type 0) (shape : M → Geometry → Own → X → Type 0) (awaits : Geometry → View → Own → Action → Type 0) (knows : Geometry → View → View → M → Type 0) (left : Geometry → X → Own → O → Type 0) (whole : Geometry → Own → O → Type 0) (piece now : M) (g : Geometry) (view : View) (action : Action)
    → now ≡ piece → IsPieceRun may_begin shape knows left (whole g) piece g view view → IsAsked awaits (shape piece) g view [] action
    → IsAsked (IsRunning shape awaits knows left whole now) whole g view [] action
running-first may_begin shape awaits knows left whole piece now g view action same run h = running-new may_begin shape awaits knows left whole (whole g) piece now g view [] action (left-start (whole g)) same run h

-- a step of the composite, said with the data that its plan has now
pub running-next : {M X Q O : Type 0} (shape : M → Geometry → Own → X → Type 0) (awaits : Geometry → View → Own → Action → Type 0) (knows : Geometry → View → View → M → Type 0) (left : Geometry → X → Own → O → Type 0) (whole : Q → Geometry → Own → O → Type 0) (leaves : Q → Geometry → View → O → View → Type 0) (ended : Geometry → Own → O → Type 0) (given now : Q) (piece : M) (g : Geometry) (view : View) (own : Own) (result : Step O)
    → now ≡ given
    → IsPartStep (IsRunning shape awaits knows left (whole given) piece) (whole given) (leaves given) ended g view own result
    → IsPartStep (IsRunning shape awaits knows left (whole now) piece) (whole given) (leaves given) ended g view own result
running-next {M} {X} {Q} {O} shape awaits knows left whole leaves ended given now piece g view own result same h =
    let N : Q → Type 0 = λ q. IsPartStep (IsRunning shape awaits knows left (whole q) piece) (whole given) (leaves given) ended g view own result in
    subst N (sym same) h
