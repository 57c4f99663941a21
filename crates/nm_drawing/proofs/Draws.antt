-- The steps of a piece of work that counts what it draws.
use Rattle.std.proofs.Common.{◌≡◌, [], ◌∷◌, ◌++◌, refl, sym, ap, subst, ◌∙◌, arith}
use Rattle.nm_base.specs.Geometry.{Geometry}
use Rattle.nm_action.specs.declared.action.Action.{Action}
use Rattle.nm_action.specs.declared.action.Action.TheVariants.{Bump, Raise}
use Rattle.nm_action.specs.declared.action.Reply.{Reply}
use Rattle.nm_action.specs.declared.spent.Spent.{Spent}
use Rattle.nm_action.specs.declared.turn.Step.{Step}
use Rattle.nm_action.specs.declared.turn.Step.TheVariants.{Do, Over}
use Rattle.nm_action.specs.Own.{Own}
use Rattle.nm_action.specs.Spent.{counted}
use Rattle.nm_view.specs.Views.{View}
use Rattle.nm_permit.specs.Permitted.{Allowed}
use Rattle.nm_event.specs.Fitting.{Fits}
use Rattle.nm_event.specs.After.{view_after}
use Rattle.nm_part.specs.Parts.{IsAsked, IsEnded, IsPartStep, IsHeard}
use Rattle.nm_part.proofs.OwnLemmas.{view-push}
use Rattle.nm_worker.specs.Routines.{IsDrawn}
use Rattle.nm_worker.proofs.Drawing.{drawn-after}
use Rattle.nm_drawing.specs.declared.drawing.Drawn.{Drawn}
use Rattle.nm_drawing.specs.Draws.{drawn_over, MayCount, MayDraw, IsNewDrawing, IsDrawingList, IsDrawnLeft, AwaitsDrawing}

drawn-push : (spent : Spent) (own : Own) (action : Action) (reply : Reply) → drawn_over spent (own ++ (action, reply) ∷ []) ≡ counted action (drawn_over spent own)
drawn-push spent [] action reply = refl
drawn-push spent (e ∷ own) action reply = drawn-push (counted e.0 spent) own action reply

-- what awaits, and which lists are finished, for a piece and what it keeps
abbrev pub DrawingAwaits : (Geometry → View → Own → Action → Type 0) → Action → Spent → Spent → Geometry → View → Own → Action → Type 0
DrawingAwaits awaits kept begun spent g view own action = AwaitsDrawing (awaits g view own action) kept begun spent g view own action

abbrev pub DrawingShape : {X : Type 0} → (Geometry → Own → X → Type 0) → Spent → Geometry → Own → Drawn X → Type 0
DrawingShape shape begun g own told = IsDrawingList (shape g own) begun own told

abbrev pub DrawingLeaves : {X : Type 0} → (Geometry → View → X → View → Type 0) → Geometry → View → Drawn X → View → Type 0
DrawingLeaves leaves g view told left = IsDrawnLeft (λ end. leaves g view end left) left told

-- an action of the piece
drawing-asked : {X : Type 0} (awaits : Geometry → View → Own → Action → Type 0) (shape : Geometry → Own → X → Type 0) (begun spent : Spent) (g : Geometry) (view : View) (own : Own) (action : Action)
    → spent ≡ drawn_over begun own → IsDrawn spent (view_after g view own) → IsAsked awaits shape g view own action
    → IsAsked (DrawingAwaits awaits action begun spent) (DrawingShape shape begun) g view own action
drawing-asked awaits shape begun spent g view own action so_far drawn h = record {
  quiet = h.quiet;
  permitted = h.permitted;
  awaited = record { awaited = h.awaited; same = refl; permitted = h.permitted; so_far = so_far; drawn = drawn };
  begun = record {
    reply = h.begun.reply;
    begun = record {
      rest = h.begun.begun.rest;
      outcome = record { end = h.begun.begun.outcome; spent = drawn_over begun ((own ++ (action, h.begun.reply) ∷ []) ++ h.begun.begun.rest) };
      whole = record { shown = h.begun.begun.whole; drawn = refl };
    };
  };
}

-- the first action
pub drawing-starts : {X : Type 0} (may : Geometry → View → Type 0) (awaits : Geometry → View → Own → Action → Type 0) (shape : Geometry → Own → X → Type 0) (new : Type 0) (begun spent : Spent) (action : Action)
    → IsNewDrawing new begun spent
    → ((g : Geometry) (view : View) → may g view → IsAsked awaits shape g view [] action)
    → (g : Geometry) (view : View) → MayDraw (may g view) begun view → IsAsked (DrawingAwaits awaits action begun spent) (DrawingShape shape begun) g view [] action
drawing-starts may awaits shape new begun spent action fresh starts g view h =
    let D : Spent → Type 0 = λ s. IsDrawn s view in
    drawing-asked awaits shape begun spent g view [] action fresh.same (subst D (sym fresh.same) h.drawn) (starts g view h.piece)

-- the piece hears the reply
pub drawing-heard : (awaits : Geometry → View → Own → Action → Type 0) (kept : Action) (begun spent : Spent) (reply : Reply) → IsHeard (DrawingAwaits awaits kept begun spent) reply → IsHeard awaits reply
drawing-heard awaits kept begun spent reply h = record { geometry = h.geometry; view = h.view; own = h.own; action = h.action; awaited = h.awaited.awaited; fits = h.fits }

count-by : (action : Action) (spent : Spent) (g : Geometry) (view : View) → Allowed g view action → IsDrawn spent view → MayCount action spent
count-by Bump spent g view may h = let below = may.permitted.few in omega (arith, h.bumps, below)
count-by (Raise vpage) spent g view may h = let below = may.permitted.few in omega (arith, h.raises, below)
count-by _ spent g view may h = tt

-- the action can be counted
pub drawing-counts : (awaits : Geometry → View → Own → Action → Type 0) (kept : Action) (begun spent : Spent) (reply : Reply) → IsHeard (DrawingAwaits awaits kept begun spent) reply → MayCount kept spent
drawing-counts awaits kept begun spent reply h =
    let C : Action → Type 0 = λ a. MayCount a spent in
    subst C (sym h.awaited.same) (count-by h.action spent h.geometry (view_after h.geometry h.view h.own) h.awaited.permitted h.awaited.drawn)

-- what is drawn with the action that was answered
record HasDrawn (begun later : Spent) (g : Geometry) (view : View) (own : Own) : Type 0 where
  pub so_far : later ≡ drawn_over begun own
  pub drawn : IsDrawn later (view_after g view own)

has-drawn : (piece : Type 0) (kept : Action) (begun spent later : Spent) (g : Geometry) (view : View) (own : Own) (action : Action) (reply : Reply)
    → later ≡ counted kept spent → AwaitsDrawing piece kept begun spent g view own action → Fits g (view_after g view own) action reply → HasDrawn begun later g view (own ++ (action, reply) ∷ [])
has-drawn piece kept begun spent later g view own action reply is a fits =
    let D : View → Type 0 = λ v. IsDrawn later v in
    record {
      so_far = is ∙ ap (λ (x : Action). counted x spent) a.same ∙ ap (λ (s : Spent). counted action s) a.so_far ∙ sym (drawn-push begun own action reply);
      drawn = subst D (sym (view-push g view own action reply)) (drawn-after spent later kept action reply g (view_after g view own) is (record { same = a.same; permitted = a.permitted }) a.drawn fits);
    }

-- the piece goes on
pub drawing-more : {X : Type 0} (awaits next : Geometry → View → Own → Action → Type 0) (shape : Geometry → Own → X → Type 0) (leaves : Geometry → View → X → View → Type 0) (ended : Geometry → Own → X → Type 0) (kept : Action) (begun spent later : Spent) (reply : Reply) (result : Step X) (given : Action)
    → later ≡ counted kept spent → result ≡ Do given
    → ((g : Geometry) (v : View) (own : Own) (action : Action) → awaits g v own action → Fits g (view_after g v own) action reply → IsPartStep next shape leaves ended g v (own ++ (action, reply) ∷ []) result)
    → (g : Geometry) (v : View) (own : Own) (action : Action) → DrawingAwaits awaits kept begun spent g v own action → Fits g (view_after g v own) action reply
    → IsAsked (DrawingAwaits next given begun later) (DrawingShape shape begun) g v (own ++ (action, reply) ∷ []) given
drawing-more {X} awaits next shape leaves ended kept begun spent later reply result given is does after g v own action a fits =
    let d = has-drawn (awaits g v own action) kept begun spent later g v own action reply is a fits in
    let S : Step X → Type 0 = λ s. IsPartStep next shape leaves ended g v (own ++ (action, reply) ∷ []) s in
    drawing-asked next shape begun later g v (own ++ (action, reply) ∷ []) given d.so_far d.drawn (subst S does (after g v own action a.awaited fits))

-- the piece is over
pub drawing-over : {X : Type 0} (awaits next : Geometry → View → Own → Action → Type 0) (shape : Geometry → Own → X → Type 0) (leaves : Geometry → View → X → View → Type 0) (ended : Geometry → Own → X → Type 0) (kept : Action) (begun spent later : Spent) (reply : Reply) (result : Step X) (end : X)
    → later ≡ counted kept spent → result ≡ Over end
    → ((g : Geometry) (v : View) (own : Own) (action : Action) → awaits g v own action → Fits g (view_after g v own) action reply → IsPartStep next shape leaves ended g v (own ++ (action, reply) ∷ []) result)
    → (g : Geometry) (v : View) (own : Own) (action : Action) → DrawingAwaits awaits kept begun spent g v own action → Fits g (view_after g v own) action reply
    → IsEnded (DrawingShape shape begun) (DrawingLeaves leaves) (λ g own told. ended g own told.end) g v (own ++ (action, reply) ∷ []) (record { end = end; spent = later })
drawing-over {X} awaits next shape leaves ended kept begun spent later reply result end is does after g v own action a fits =
    let d = has-drawn (awaits g v own action) kept begun spent later g v own action reply is a fits in
    let S : Step X → Type 0 = λ s. IsPartStep next shape leaves ended g v (own ++ (action, reply) ∷ []) s in
    let e : IsEnded shape leaves ended g v (own ++ (action, reply) ∷ []) end = subst S does (after g v own action a.awaited fits) in
    record {
      shown = record { shown = e.shown; drawn = d.so_far };
      left = record { left = e.left; drawn = d.drawn };
      over = e.over;
    }
