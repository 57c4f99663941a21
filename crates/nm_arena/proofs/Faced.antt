-- Seats, as they are seen, split off and joined back.
use Rattle.std.proofs.Common.{◌≡◌, true, false, ℕ, ◌<◌, List, [], ◌++◌, length, map, take, drop, get_or, set, Option, Some, None, All, refl, sym, ap, subst, ◌∙◌, inl, inr, arith}
use Rattle.std.proofs.lemmas.Bool.{cases_lt, cases_eq}
use Rattle.std.proofs.lemmas.List.{length-set, length-map, append-nil, take_all, drop_all, get_or_past, get_or_default, get_or-set_same, get_or-set_other, map-set}
use Rattle.std.specs.List.{range_with_len}
use Rattle.std.proofs.lemmas.List.FromFn.{length-map-range_with_len}
use Rattle.std.proofs.lemmas.Simd.{map-map}
use Rattle.std.proofs.Math.ListN as seq
use Rattle.nm_base.specs.Geometry.{Geometry, IsGeometry}
use Rattle.atomic_table.specs.Seated.{TableId}
use Rattle.atomic_table.specs.Table.{Me}
use Rattle.nm_action.specs.Own.{Own}
use Rattle.nm_action.specs.declared.action.Action.{Action}
use Rattle.nm_action.specs.declared.action.Event.{Event}
use Rattle.nm_action.specs.declared.action.Reply.{Reply}
use Rattle.nm_view.specs.Views.{View}
use Rattle.nm_view.specs.Opening.{opening, IsActor}
use Rattle.nm_permit.specs.Permitted.{Allowed}
use Rattle.nm_words.specs.declared.exchanges.Change.{Change}
use Rattle.nm_words.specs.Flat.{at}
use Rattle.nm_step.specs.Table.{where_of, change_of, reply_of}
use Rattle.nm_event.specs.After.{after_of}
use Rattle.nm_shape.specs.Shape.{HasShape}
use Rattle.nm_core.specs.State.{actor_count}
use Rattle.nm_core.proofs.Starts.{view_of-start}
use Rattle.nm_runs.proofs.EachRun.{all_in_run}
use Rattle.nm_rule.specs.declared.known.Progress.{Progress}
use Rattle.nm_rule.specs.declared.known.ActorSeat.{ActorSeat}
use Rattle.nm_rule.specs.declared.known.ActorSeat.TheVariants.{Unsplit, Out, Back}
use Rattle.nm_rule.specs.declared.known.Knowledge.{Knowledge}
use Rattle.nm_rule.specs.Knows.{no_geometry, unstarted, unsplit_seats, first_knowledge, seat_of, progress_by, without, handed, with_back}
use Rattle.nm_rule.specs.Steps.{Grows, Tells, IsExchange}
use Rattle.nm_rule.proofs.Shared.{first_seat, no_seat}
use Rattle.nm_arena.specs.declared.seat.Held.{Held}
use Rattle.nm_arena.specs.declared.seat.Held.TheVariants.{Actor, First}
use Rattle.nm_arena.specs.Faces.{ArenaFace, SeatFace}
use Rattle.nm_arena.specs.Mirrors.{own_by, view_in, seat_face, IsActorView, AreViews, Mirrors}
use Rattle.nm_arena.specs.Seats.{IsActorSeat, IsFirstSeat, IsUnsplit, IsSplitOut}
use Rattle.nm_arena.specs.Views.{IsThere}

-- A seat is that of an actor, or the first.

pub actor_face : (held : Held) (v : View) (table : TableId) (k : Knowledge) (s : SeatFace) → held ≡ Actor v → seat_face held table k ≡ s → seat_face (Actor v) table k ≡ s
actor_face held v table k s is face = subst (λ h. seat_face h table k ≡ s) is face

pub first_face : (held : Held) (views : _) (table : TableId) (k : Knowledge) (s : SeatFace) → held ≡ First views → seat_face held table k ≡ s → seat_face (First views) table k ≡ s
first_face held views table k s is face = subst (λ h. seat_face h table k ≡ s) is face

pub actor_mirrors : (held : Held) (v : View) (k : Knowledge) → held ≡ Actor v → Mirrors held k → IsActorView v k
actor_mirrors held v k is h = subst (λ x. Mirrors x k) is h

pub first_mirrors : (held : Held) (views : _) (k : Knowledge) → held ≡ First views → Mirrors held k → AreViews views.items k
first_mirrors held views k is h = subst (λ x. Mirrors x k) is h

-- what a step rests on, of the arena's own geometry and table and of the view at hand
pub record IsSeated (g : Geometry) (table other : TableId) (v : View) (a : Action) : Type 0 where
  pub table_is : other ≡ table
  pub shape : HasShape g v
  pub allowed : Allowed g v a

pub seated : (g : Geometry) (table other : TableId) (held : Held) (v : View) (k : Knowledge) (arena : ArenaFace) (s : SeatFace) (a : Action) → record { geometry = g; table = table } ≡ arena → held ≡ Actor v → seat_face held other k ≡ s → IsActorSeat arena s → Allowed arena.geometry s.view a → IsSeated g table other v a
seated g table other held v k arena s a shows is face seat may =
    let own : seat_face (Actor v) other k ≡ s = actor_face held v other k s is face in
    let Of : ArenaFace → SeatFace → Type 0 = λ x y. (y.table ≡ x.table) × HasShape x.geometry y.view × Allowed x.geometry y.view a in
    let here : Of (record { geometry = g; table = table }) (seat_face (Actor v) other k) = subst (λ x. Of x (seat_face (Actor v) other k)) (sym shows) (subst (λ y. Of arena y) (sym own) (seat.table, seat.shape, may)) in
    record { table_is = here.0; shape = here.1; allowed = here.2 }

-- what is done with the first seat rests on
pub record IsFirstHere (g : Geometry) (table other : TableId) (seats : List ActorSeat) : Type 0 where
  pub table_is : other ≡ table
  pub count : length seats ≡ actor_count g
  pub unsplit : (actor : ℕ) (p : Progress) → seat_of seats actor ≡ Unsplit p → p ≡ unstarted g actor

pub first_here : (g : Geometry) (table other : TableId) (held : Held) (views : _) (k : Knowledge) (arena : ArenaFace) (s : SeatFace) → record { geometry = g; table = table } ≡ arena → held ≡ First views → seat_face held other k ≡ s → IsFirstSeat arena s → IsFirstHere g table other k.seats
first_here g table other held views k arena s shows is face first =
    let own : seat_face (First views) other k ≡ s = first_face held views other k s is face in
    let Of : ArenaFace → SeatFace → Type 0 = λ x y. (y.table ≡ x.table) × (length y.seats ≡ actor_count x.geometry) × ((actor : ℕ) (p : Progress) → seat_of y.seats actor ≡ Unsplit p → p ≡ unstarted x.geometry actor) in
    let here : Of (record { geometry = g; table = table }) (seat_face (First views) other k) = subst (λ x. Of x (seat_face (First views) other k)) (sym shows) (subst (λ y. Of arena y) (sym own) (first.table, first.count, first.unsplit)) in
    record { table_is = here.0; count = here.1; unsplit = here.2 }

-- a list that was lent whole and written back
pub rebuilt : {A : Type 0} (n : ℕ) (xs ys : List A) → length xs ≡ length ys → length ys ≡ n → take n (xs ++ drop (length xs) ys) ≡ xs
rebuilt n xs ys same size =
    let none : drop (length xs) ys ≡ [] = drop_all (length xs) ys (omega (arith, same)) in
    ap (λ zs. take n (xs ++ zs)) none ∙ ap (take n) (append-nil xs) ∙ take_all n xs (omega (arith, same, size))

-- the opening view of an actor has the shape
pub shape_opening : (g : Geometry) (actor : ℕ) → IsGeometry g → IsActor g actor → HasShape g (opening g actor)
shape_opening g actor is there = subst (HasShape g) (view_of-start g actor there) ((all_in_run g [] is tt).shape.shape actor there)

-- the seat of an actor that was not split off
pub unsplit_has : (seat : ActorSeat) → IsUnsplit seat → (p : Progress) × (seat ≡ Unsplit p)
unsplit_has (Unsplit p) is = (p, refl)
unsplit_has Out is = absurd is
unsplit_has (Back p) is = absurd is

-- an actor that is named has a number below the number of seats
pub named_lt : (seats : List ActorSeat) (actor : ℕ) → IsUnsplit (seat_of seats actor) → actor < length seats
named_lt seats actor is = elim (cases_lt actor (length seats)) [
  | inl there ↦ there
  | inr past ↦ absurd (subst IsUnsplit (get_or_past seats actor Out past) is)
]

-- the view of an actor in the list of views
pub view_there : (seats : List ActorSeat) (views : List (Option View)) (actor : ℕ) → views ≡ map view_in seats → get_or views actor None ≡ view_in (seat_of seats actor)
view_there seats views actor is = ap (λ vs. get_or vs actor None) is ∙ seq.get_or-map view_in seats actor Out

-- the seats with one more that is out, and with one more that is back
out_unsplit : (p : Progress) → Out ≡ Unsplit p → ⊥
out_unsplit p e = cc

back_unsplit : (q p : Progress) → Back q ≡ Unsplit p → ⊥
back_unsplit q p e = cc

-- a seat that was written is no unsplit one
pub unsplit-set : (g : Geometry) (seats : List ActorSeat) (actor : ℕ) (new : ActorSeat) → ((p : Progress) → new ≡ Unsplit p → ⊥) → ((q : ℕ) (p : Progress) → seat_of seats q ≡ Unsplit p → p ≡ unstarted g q) → (q : ℕ) (p : Progress) → seat_of (set seats actor new) q ≡ Unsplit p → p ≡ unstarted g q
unsplit-set g seats actor new other all q p is = elim (cases_eq q actor) [
  | inl same ↦ elim (cases_lt q (length seats)) [
    | inl there ↦
        let lt : actor < length seats = omega (arith, there, same) in
        let here : seat_of (set seats actor new) q ≡ new = ap (seat_of (set seats actor new)) same ∙ get_or-set_same seats actor new Out lt in
        absurd (other p (sym here ∙ is))
    | inr past ↦ absurd (out_unsplit p (sym (get_or_past (set seats actor new) q Out (omega (arith, past, length-set seats actor new))) ∙ is))
  ]
  | inr away ↦ all q p (sym (get_or-set_other seats actor q new Out away) ∙ is)
]

pub unsplit-out : (g : Geometry) (seats : List ActorSeat) (actor : ℕ) → ((q : ℕ) (p : Progress) → seat_of seats q ≡ Unsplit p → p ≡ unstarted g q) → (q : ℕ) (p : Progress) → seat_of (set seats actor Out) q ≡ Unsplit p → p ≡ unstarted g q
unsplit-out g seats actor all = unsplit-set g seats actor Out out_unsplit all

pub unsplit-back : (g : Geometry) (seats : List ActorSeat) (actor : ℕ) (own : Progress) → ((q : ℕ) (p : Progress) → seat_of seats q ≡ Unsplit p → p ≡ unstarted g q) → (q : ℕ) (p : Progress) → seat_of (set seats actor (Back own)) q ≡ Unsplit p → p ≡ unstarted g q
unsplit-back g seats actor own all = unsplit-set g seats actor (Back own) (back_unsplit own) all

-- the views without that of an actor, and with it again
pub views-without : (k : Knowledge) (views : List (Option View)) (actor : ℕ) → AreViews views k → AreViews (set views actor None) (without actor k)
views-without k views actor h = record {
  mine = h.mine;
  views = ap (λ vs. set vs actor None) h.views ∙ sym (map-set view_in k.seats actor Out);
}

pub views-with : (k theirs : Knowledge) (views : List (Option View)) (v : View) → AreViews views k → IsActorView v theirs → AreViews (set views v.number (Some v)) (with_back k theirs)
views-with k theirs views v h own =
    let p : Progress = record { view = v; own = own_by theirs.mine } in
    let Joined : Option Progress → Type 0 = λ m. AreViews (set views v.number (Some v)) (with_back k (record theirs { mine = m })) in
    subst Joined (sym own.mine) (record {
      mine = h.mine;
      views = ap (λ vs. set vs v.number (Some v)) h.views ∙ sym (map-set view_in k.seats v.number (Back p));
    })

-- the view of an actor whose seat was just split off
pub view-handed : (k : Knowledge) (views : List (Option View)) (actor : ℕ) (v : View) (p : Progress) → views ≡ map view_in k.seats → seat_of k.seats actor ≡ Unsplit p → get_or views actor None ≡ Some v → v ≡ p.view
view-handed k views actor v p are unsplit found =
    let there : Some v ≡ Some p.view = sym found ∙ view_there k.seats views actor are ∙ ap view_in unsplit in cc

pub actor-handed : (k : Knowledge) (actor : ℕ) (v : View) (p : Progress) → seat_of k.seats actor ≡ Unsplit p → v ≡ p.view → IsActorView v (handed actor k)
actor-handed k actor v p unsplit same =
    let mine : progress_by (seat_of k.seats actor) ≡ Some p = ap progress_by unsplit in
    record {
      mine = mine ∙ ap (λ w. Some (record { view = w; own = p.own })) (sym same) ∙ ap (λ m. Some (record { view = v; own = own_by m })) (sym mine);
      seats = refl;
    }

-- A step of the seat of an actor.

-- an exchange that its table says is its action
pub exchange_is : (g : Geometry) (a : Action) (k : Knowledge) (v : View) (place : ℕ) (change : Change) → IsActorView v k → Allowed g v a → place ≡ at g (where_of g v a) → change ≡ change_of g v a → IsExchange g a k place change
exchange_is g a k v place change h may there sort = record {
  actor = record { view = v; own = own_by k.mine };
  mine = h.mine;
  seats = h.seats;
  allowed = may;
  place = there;
  change = sort;
}

some_actor : (m : Option Progress) (p q : Progress) → m ≡ Some p → m ≡ Some q → p ≡ q
some_actor m p q e h = cc

-- what it tells is said of the seat's own actor
pub told_grows : (g : Geometry) (a : Action) (word : ℕ) (before after : Me (Unit {0}) Knowledge) (v : View) → IsActorView v before.0 → Tells g a word before after → Grows g a (reply_of (change_of g v a) word) (record { view = v; own = own_by before.0.mine }) before.0 after.0
told_grows g a word before after v h t =
    let p : Progress = record { view = v; own = own_by before.0.mine } in
    subst (λ (x : Progress). Grows g a (reply_of (change_of g x.view a) word) x before.0 after.0) (some_actor before.0.mine t.actor p t.mine h.mine) t.grows

-- the view after it is that of the seat's actor
pub grown_view : (g : Geometry) (a : Action) (r : Reply) (k new : Knowledge) (v : View) → IsActorView v k → Grows g a r (record { view = v; own = own_by k.mine }) k new → IsActorView (after_of g v a r) new
grown_view g a r k new v h t = record {
  mine = t.mine ∙ ap (λ m. Some (record { view = after_of g v a r; own = own_by m })) (sym t.mine);
  seats = t.seats ∙ h.seats;
}

-- Whether all seats are back.

out_none : (seat : ActorSeat) → IsSplitOut seat → view_in seat ≡ None
out_none (Unsplit p) out = absurd out
out_none Out out = refl
out_none (Back p) out = absurd out

back_some : (seat : ActorSeat) → ¬ IsSplitOut seat → IsThere (view_in seat)
back_some (Unsplit p) back = tt
back_some Out back = absurd (back tt)
back_some (Back p) back = tt

pub all_back : (seats : List ActorSeat) (views : List (Option View)) → views ≡ map view_in seats → All IsThere views → (actor : ℕ) → actor < length seats → ¬ IsSplitOut (seat_of seats actor)
all_back seats views are all actor lt out =
    let within : actor < length views = omega (arith, lt, ap length are, length-map seats view_in) in
    let none : get_or views actor None ≡ None = view_there seats views actor are ∙ out_none (seat_of seats actor) out in
    subst IsThere none (all actor None within)

pub all_there : (seats : List ActorSeat) (views : List (Option View)) → views ≡ map view_in seats → ((actor : ℕ) → actor < length seats → ¬ IsSplitOut (seat_of seats actor)) → All IsThere views
all_there seats views are back i d lt =
    let within : i < length seats = omega (arith, lt, ap length are, length-map seats view_in) in
    let same : view_in (seat_of seats i) ≡ get_or views i d = sym (view_there seats views i are) ∙ get_or_default views i None d lt in
    subst IsThere same (back_some (seat_of seats i) (back i within))

-- The first seat at first.

pub first_views : (g : Geometry) (views : List (Option View)) → views ≡ map (λ actor. Some (opening g actor)) (range_with_len 0 (actor_count g)) → AreViews views (first_knowledge g)
first_views g views is = record {
  mine = refl;
  views = is ∙ sym (map-map view_in (λ actor. Unsplit (unstarted g actor)) (range_with_len 0 (actor_count g)));
}

same_unsplit : (p q : Progress) → Unsplit p ≡ Unsplit q → q ≡ p
same_unsplit p q e = cc

unsplit_start : (g : Geometry) (q : ℕ) (p : Progress) → seat_of (unsplit_seats g) q ≡ Unsplit p → p ≡ unstarted g q
unsplit_start g q p is = elim (cases_lt q (actor_count g)) [
  | inl there ↦ same_unsplit (unstarted g q) p (sym (first_seat g q there) ∙ is)
  | inr past ↦ absurd (out_unsplit p (sym (no_seat g q past) ∙ is))
]

pub first_of : (copy g : Geometry) (table other : TableId) (seats : List ActorSeat) (seen : List Event) → copy ≡ g → other ≡ table → seats ≡ unsplit_seats g → IsFirstSeat (record { geometry = copy; table = table }) (record { table = other; first = true; view = opening no_geometry 0; own = []; seats = seats; seen = seen })
first_of copy g table other seats seen same tables is = record {
  table = tables;
  first = refl;
  count = ap length is ∙ length-map-range_with_len (λ actor. Unsplit (unstarted g actor)) 0 (actor_count g) ∙ ap actor_count (sym same);
  unsplit = λ q p told_of. unsplit_start g q p (sym (ap (λ ks. seat_of ks q) is) ∙ told_of) ∙ ap (λ m. unstarted m q) (sym same);
}

-- two seats of actors that agree are one
pub seat_same : (table other : TableId) (v w : View) (own their : Own) (seen also : List Event) → table ≡ other → v ≡ w → own ≡ their → seen ≡ also
    → ◌≡◌ {A = SeatFace} (record { table = table; first = false; view = v; own = own; seats = []; seen = seen }) (record { table = other; first = false; view = w; own = their; seats = []; seen = also })
seat_same table other v w own their seen also t e o s = λ i. record { table = t i; first = false; view = e i; own = o i; seats = []; seen = s i }
