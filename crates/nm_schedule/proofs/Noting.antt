-- What a picker picks is what the schedule picks, and it stands so after each turn.
use Rattle.std.proofs.Common.{◌≡◌, ◌<◌, ◌≤◌, ◌+◌, ◌^◌, ◌↔◌, ◌⊎◌, ◌==◌, ◌&&◌, ◌||◌, not, filter, get_or, set, replicate, Option, None, ℕ, zero, suc, inl, inr, Bool, true, false, if◌then◌else◌, IsTrue, List, [], ◌∷◌, ◌++◌, length, drop, refl, sym, ap, subst, ◌∙◌, arith}
use Rattle.std.proofs.lemmas.List.{drop-append-le, length-drop, length-set, length-replicate, get_or_default, get_or-set_same, get_or-set_other, get_or-replicate}
use Rattle.std.proofs.lemmas.List.Elements.{All-nil, All-from_recursion}
use Rattle.std.proofs.lemmas.Bool.{eq-eqb, cases_lt, cases_eq}
use Rattle.std.proofs.Math.Seq.{drop-cons}
use Rattle.std.specs.List.{list_any, range_with_len, AllByRecursion}
use Rattle.nm_script.specs.declared.schedule.PlanItem.{PlanItem}
use Rattle.nm_script.specs.declared.schedule.Schedule.{Schedule}
use Rattle.nm_script.specs.declared.schedule.Schedule.TheVariants.{Serial, Shuffle, Plan}
use Rattle.nm_script.specs.Script.{IsPlanItem, IsSchedule}
use Rattle.nm_actor.specs.Turns.{Turns}
use Rattle.nm_gen.specs.Generated.{drawn, next_draw}
use Rattle.nm_schedule.specs.declared.limits.TheConstants.{MOST_ITEM_TURNS}
use Rattle.nm_schedule.specs.declared.picker.Way.{Way}
use Rattle.nm_schedule.specs.declared.picker.Way.TheVariants.{Stay, Next, Draw, Item}
use Rattle.nm_schedule.specs.declared.turn.Played.{Played}
use Rattle.nm_schedule.specs.Played.{has_ended, active_actors, turns_by}
use Rattle.nm_schedule.specs.Stalls.{Stalls, Yields}
use Rattle.nm_schedule.specs.Picks.{CountIs, IsCounted, IsItemOver, IsCooperative, Picks, first_from, drawn_from}
use Rattle.nm_schedule.specs.Standing.{Carries, IsStaying, IsSeeking, IsAtItem, IsDrawing, IsOnWay, ArePlanned, IsPick, IsSpent, HasPicked, StandsAfter, Standing, IsBumped, PicksItem, HasItem, MayGoOn, bumped_by, stalls_by, standing, plan_of, item_actor, way_picks, picked_by}
use Rattle.nm_schedule.proofs.Snoc.{length-snoc, cons-same}
use Rattle.nm_schedule.proofs.Actives.{IsActive, all-active, first-of, drawn-of, ended-same, ended-push, is-among, among-active, actives-same, actives-without}
use Rattle.nm_schedule.proofs.Counting.{count-more, count-same, count-most}
use Rattle.nm_schedule.proofs.Items.{carry-now, carry-push, carry-over, unended-now, unended-push, unended-before, is-unended, unended-first, unended-none}
use Rattle.nm_schedule.proofs.Turns.{turns-own, turns-other}
use Rattle.nm_schedule.proofs.Flushes.{bumped-step, stalls-so, no-flush}
use Rattle.nm_schedule.proofs.Cooperating.{keeps-on, goes-round, begins-here}

-- ---- picking

picks-same : (schedule : Schedule) (actors : ℕ) (before : List Played) (a b : ℕ) → a ≡ b → Picks schedule actors before a → Picks schedule actors before b
picks-same schedule actors before a b e h = let P : ℕ → Type 0 = λ x. Picks schedule actors before x in subst P e h

coop-same : (actors began : ℕ) (before : List Played) (a b : ℕ) → a ≡ b → IsCooperative actors began before a → IsCooperative actors began before b
coop-same actors began before a b e h = let P : ℕ → Type 0 = λ x. IsCooperative actors began before x in subst P e h

picks-stay : (schedule : Schedule) (actors actor : ℕ) (before : List Played) → IsStaying schedule actors actor before → IsPick schedule actors before actor
picks-stay schedule actors actor before w = record {
  exists = w.exists;
  active = w.active;
  picked = carry-now schedule actors [] w.began before actor w.carry (coop-same actors w.began before w.last.actor actor w.same (keeps-on actors w.began before w.front w.last w.list w.since w.keeps));
}

seeks : (schedule : Schedule) (actors from : ℕ) (before : List Played) → (w : IsSeeking schedule actors from before) → IsCooperative actors w.began before (first_from from (active_actors actors before))
seeks schedule actors from before w =
    let F : ℕ → ℕ = λ n. first_from n (active_actors actors before) in
    elim w.place [
      | inl b ↦ coop-same actors w.began before (F 0) (F from) (ap F (sym b.1)) (begins-here actors w.began before b.0)
      | inr y ↦ coop-same actors w.began before (F (y.last.actor + 1)) (F from) (ap F (sym y.next)) (goes-round actors w.began before y.front y.last y.list y.since y.yields)
    ]

picks-next : (schedule : Schedule) (actors from : ℕ) (before : List Played) → 0 < length (active_actors actors before) → IsSeeking schedule actors from before → IsPick schedule actors before (first_from from (active_actors actors before))
picks-next schedule actors from before some w =
    let m : IsActive actors before (first_from from (active_actors actors before)) = first-of (IsActive actors before) from (active_actors actors before) (all-active actors before) some in
    record { exists = m.exists; active = m.active; picked = carry-now schedule actors [] w.began before _ w.carry (seeks schedule actors from before w) }

picks-draw : (schedule : Schedule) (actors x : ℕ) (before : List Played) → 0 < length (active_actors actors before) → IsDrawing schedule x before → IsPick schedule actors before (drawn_from x (active_actors actors before))
picks-draw (Serial t) actors x before some w = absurd w
picks-draw (Shuffle n t) actors x before some w =
    let m : IsActive actors before (drawn_from x (active_actors actors before)) = drawn-of (IsActive actors before) x (active_actors actors before) (all-active actors before) some in
    record { exists = m.exists; active = m.active; picked = ap (λ y. drawn_from y (active_actors actors before)) w }
picks-draw (Plan t items) actors x before some w = absurd w

true-so : (b : Bool) → (b ≡ false → ⊥) → b ≡ true
true-so true f = refl
true-so false f = absurd (f refl)

false-so : (b : Bool) → (b ≡ true → ⊥) → b ≡ false
false-so true f = absurd (f refl)
false-so false f = refl

item-began : (schedule : Schedule) (actors : ℕ) (items : List PlanItem) (place made counted : ℕ) (before : List Played) → (w : IsAtItem schedule actors items place made counted before) → w.began ≤ length before
item-began schedule actors items place made counted before w = omega (arith, w.many)

picks-item : (schedule : Schedule) (actors : ℕ) (items : List PlanItem) (place made counted : ℕ) (before : List Played) → IsAtItem schedule actors items place made counted before → IsPick schedule actors before (item_actor (drop place items))
picks-item schedule actors items place made counted before w =
    let P : ℕ → Type 0 = λ a. IsPick schedule actors before a in
    let now = unended-now w.item w.began before (item-began schedule actors items place made counted before w) w.unfinished in
    subst P (sym (ap item_actor w.left)) (record {
      exists = w.exists;
      active = false-so (has_ended before w.item.actor) (λ e. now (inr (inl e)));
      picked = carry-now schedule actors (w.item ∷ w.rest) w.began before w.item.actor w.carry (inl (w.unfinished, refl));
    })

way-picks : (schedule : Schedule) (actors : ℕ) (items : List PlanItem) (way : Way) (before : List Played) → 0 < length (active_actors actors before) → IsOnWay schedule actors items way before
    → IsPick schedule actors before (way_picks (active_actors actors before) items way)
way-picks schedule actors items (Stay actor) before some w = picks-stay schedule actors actor before w
way-picks schedule actors items (Next from) before some w = picks-next schedule actors from before some w
way-picks schedule actors items (Draw x) before some w = picks-draw schedule actors x before some w
way-picks schedule actors items (Item place made counted) before some w = picks-item schedule actors items place made counted before w

-- what a picker picks, the schedule picks
pub stands-picks : (schedule : Schedule) (actors : ℕ) (s : Standing) (before : List Played) → 0 < length s.active → StandsAfter schedule actors s before → IsPick schedule actors before (picked_by s)
stands-picks schedule actors s before some h =
    let P : List ℕ → Type 0 = λ l. IsPick schedule actors before (way_picks l s.items s.way) in
    let L : List ℕ → Type 0 = λ l. 0 < length l in
    subst P (sym h.active) (way-picks schedule actors s.items s.way before (subst L h.active some) h.way)

-- ---- a turn more, under the cooperative rule

-- after a turn under the cooperative rule, by whether it yielded
coop-after : (schedule : Schedule) (actors : ℕ) (items : List PlanItem) (before : List Played) (p : Played) (began : ℕ) (yields : Bool)
    → Carries schedule actors [] began before → began ≤ length before → IsPick schedule actors before p.actor → IsTrue yields ↔ Yields before p
    → IsOnWay schedule actors items (if yields then Next (p.actor + 1) else Stay p.actor) (before ++ p ∷ [])
coop-after schedule actors items before p began true carry le pick y = record {
  began = began;
  carry = carry-push schedule actors [] began before p carry;
  place = inr (record { front = before; last = p; list = refl; since = le; yields = y.0 refl; next = refl });
}
coop-after schedule actors items before p began false carry le pick y =
    let keeps : ¬ Yields before p = λ h. let e = y.1 h in cc e in
    record {
      began = began;
      carry = carry-push schedule actors [] began before p carry;
      front = before;
      last = p;
      list = refl;
      since = le;
      keeps = keeps;
      same = refl;
      exists = pick.exists;
      active = ended-same before p p.actor (false-so p.ended (λ e. keeps (inl e))) ∙ pick.active;
    }

pub stay-after : (schedule : Schedule) (actors actor : ℕ) (items : List PlanItem) (before : List Played) (p : Played) (yields : Bool)
    → IsStaying schedule actors actor before → IsPick schedule actors before p.actor → IsTrue yields ↔ Yields before p
    → IsOnWay schedule actors items (if yields then Next (p.actor + 1) else Stay p.actor) (before ++ p ∷ [])
stay-after schedule actors actor items before p yields w pick y =
    let l = ap length w.list in
    coop-after schedule actors items before p w.began yields w.carry (omega (arith, l, length-snoc w.front w.last, w.since)) pick y

seeking-began : (schedule : Schedule) (actors from : ℕ) (before : List Played) → (w : IsSeeking schedule actors from before) → w.began ≤ length before
seeking-began schedule actors from before w = elim w.place [
  | inl b ↦ omega (arith, b.0)
  | inr y ↦ (let l = ap length y.list in omega (arith, l, length-snoc y.front y.last, y.since))
]

pub next-after : (schedule : Schedule) (actors from : ℕ) (items : List PlanItem) (before : List Played) (p : Played) (yields : Bool)
    → IsSeeking schedule actors from before → IsPick schedule actors before p.actor → IsTrue yields ↔ Yields before p
    → IsOnWay schedule actors items (if yields then Next (p.actor + 1) else Stay p.actor) (before ++ p ∷ [])
next-after schedule actors from items before p yields w pick y =
    coop-after schedule actors items before p w.began yields w.carry (seeking-began schedule actors from before w) pick y

-- ---- a turn more, by random numbers

drawn-more : (n i j : ℕ) → j ≡ i + 1 → next_draw (drawn n i) ≡ drawn n j
unfolding drawn
drawn-more n i zero e = absurd (omega (arith, e))
drawn-more n i (suc j) e = let f : i ≡ j = omega (arith, e) in ap (λ k. next_draw (drawn n k)) f

pub draw-after : (schedule : Schedule) (x : ℕ) (before : List Played) (p : Played) → IsDrawing schedule x before → IsDrawing schedule (next_draw x) (before ++ p ∷ [])
draw-after (Serial t) x before p w = absurd w
draw-after (Shuffle n t) x before p w = ap next_draw w ∙ drawn-more n (length before + 1) (length (before ++ p ∷ []) + 1) (omega (arith, length-snoc before p))
draw-after (Plan t items) x before p w = absurd w

-- ---- a turn more of an item

below-so : {a b : ℕ} → (b ≤ a → ⊥) → a < b
below-so {a} {b} f = elim (cases_lt a b) [ inl lt ↦ lt | inr ge ↦ absurd (f ge) ]

drop-whole : {A : Type 0} (l : List A) → drop (length l) l ≡ []
drop-whole [] = refl
drop-whole (x ∷ l) = drop-whole l

eqb-same : (a : ℕ) → (a == a) ≡ true
eqb-same a = eq-eqb a a refl

or-true : (b : Bool) → (b || true) ≡ true
or-true true = refl
or-true false = refl

ended-so : (before : List Played) (p : Played) (actor : ℕ) → p.ended ≡ true → p.actor ≡ actor → has_ended (before ++ p ∷ []) actor ≡ true
ended-so before p actor ended same =
    ended-push before p actor
    ∙ ap (λ b. has_ended before actor || (b && p.ended)) (eq-eqb p.actor actor same)
    ∙ ap (λ b. has_ended before actor || b) ended
    ∙ or-true (has_ended before actor)

-- how many count after a turn more, by whether it counts
pub counts-after : (item : PlanItem) (began counted : ℕ) (before : List Played) (p : Played) (counts : Bool) → began ≤ length before → IsTrue counts ↔ IsCounted item.kind p.turn p.heard
    → CountIs item.kind (drop began before) counted → CountIs item.kind (drop began (before ++ p ∷ [])) (counted + (if counts then 1 else 0))
counts-after item began counted before p true le c h =
    let P : List Played → Type 0 = λ l. CountIs item.kind l (counted + 1) in
    subst P (sym (drop-append-le began before (p ∷ []) le)) (count-more item.kind (drop began before) p counted (c.0 refl) h)
counts-after item began counted before p false le c h =
    let P : ℕ → Type 0 = λ n. CountIs item.kind (drop began (before ++ p ∷ [])) n in
    let Q : List Played → Type 0 = λ l. CountIs item.kind l counted in
    let e : counted ≡ counted + 0 = omega arith in
    subst P e (subst Q (sym (drop-append-le began before (p ∷ []) le)) (count-same item.kind (drop began before) p counted (λ y. let f = c.1 y in cc f) h))

-- the item at a place
item-at : (items : List PlanItem) (place : ℕ) (item x : PlanItem) (rest : List PlanItem) → drop place items ≡ item ∷ rest → place < length items → x ≡ get_or items place x → (item ≡ x) × (rest ≡ drop (place + 1) items)
item-at items place item x rest e lt at =
    let f : item ∷ rest ≡ get_or items place x ∷ drop (suc place) items = sym e ∙ drop-cons items place x lt in
    let s = cons-same item (get_or items place x) rest (drop (suc place) items) f in
    let g : suc place ≡ place + 1 = omega arith in
    (s.0 ∙ sym at, s.1 ∙ ap (λ k. drop k items) g)

item-is-over : (item : PlanItem) (began made counted : ℕ) (before : List Played) (p : Played) (counts : Bool) → length before ≡ began + made → IsTrue counts ↔ IsCounted item.kind p.turn p.heard
    → CountIs item.kind (drop began before) counted → p.actor ≡ item.actor → IsSpent item (made + 1) (counted + (if counts then 1 else 0)) p.ended
    → IsItemOver item began (before ++ p ∷ [])
item-is-over item began made counted before p counts many c h same over = elim over [
  | inl enough ↦ inl (counted + (if counts then 1 else 0), (counts-after item began counted before p counts (omega (arith, many)) c h, enough))
  | inr r ↦ elim r [
    | inl ended ↦ inr (inl (ended-so before p item.actor ended same))
    | inr most ↦ inr (inr (omega (arith, length-snoc before p, many, most)))
  ]
]

-- where an item is over after a turn, the items after it carry on
pub over-after : (schedule : Schedule) (actors : ℕ) (items : List PlanItem) (place made counted : ℕ) (before : List Played) (p : Played) (x : PlanItem) (counts : Bool)
    → IsAtItem schedule actors items place made counted before → p.actor ≡ item_actor (drop place items) → place < length items → x ≡ get_or items place x
    → IsTrue counts ↔ IsCounted x.kind p.turn p.heard → IsSpent x (made + 1) (counted + (if counts then 1 else 0)) p.ended
    → Carries schedule actors (drop (place + 1) items) (length (before ++ p ∷ [])) (before ++ p ∷ [])
over-after schedule actors items place made counted before p x counts w same lt at c over =
    let i = item-at items place w.item x w.rest w.left lt at in
    let C : PlanItem → Type 0 = λ y. IsTrue counts ↔ IsCounted y.kind p.turn p.heard in
    let S : PlanItem → Type 0 = λ y. IsSpent y (made + 1) (counted + (if counts then 1 else 0)) p.ended in
    let R : List PlanItem → Type 0 = λ l. Carries schedule actors l (length (before ++ p ∷ [])) (before ++ p ∷ []) in
    let le : w.began ≤ length (before ++ p ∷ []) = omega (arith, w.many, length-snoc before p) in
    let gone : IsItemOver w.item w.began (before ++ p ∷ []) =
    item-is-over w.item w.began made counted before p counts w.many (subst C (sym i.0) c) w.count (same ∙ ap item_actor w.left) (subst S (sym i.0) over) in
    subst R i.1 (carry-over schedule actors w.item w.rest w.began (before ++ p ∷ []) (carry-push schedule actors (w.item ∷ w.rest) w.began before p w.carry) le (unended-before w.item w.began before p w.unfinished) gone)

-- where it is not over, it goes on
pub item-after : (schedule : Schedule) (actors : ℕ) (items : List PlanItem) (place made counted : ℕ) (before : List Played) (p : Played) (x : PlanItem) (counts : Bool)
    → IsAtItem schedule actors items place made counted before → p.actor ≡ item_actor (drop place items) → place < length items → x ≡ get_or items place x
    → IsTrue counts ↔ IsCounted x.kind p.turn p.heard
    → (¬ IsSpent x (made + 1) (counted + (if counts then 1 else 0)) p.ended) → has_ended before p.actor ≡ false
    → IsAtItem schedule actors items place (made + 1) (counted + (if counts then 1 else 0)) (before ++ p ∷ [])
item-after schedule actors items place made counted before p x counts w same lt at c left active =
    let i = item-at items place w.item x w.rest w.left lt at in
    let C : PlanItem → Type 0 = λ y. IsTrue counts ↔ IsCounted y.kind p.turn p.heard in
    let F : PlanItem → Type 0 = λ y. counted + (if counts then 1 else 0) < y.count in
    let few : counted + (if counts then 1 else 0) < x.count = below-so (λ le. left (inl le)) in
    let ended : p.ended ≡ false = false-so p.ended (λ e. left (inr (inl e))) in
    let short : made + 1 < MOST_ITEM_TURNS = below-so (λ le. left (inr (inr le))) in
    let A : ℕ → Type 0 = λ a. has_ended (before ++ p ∷ []) a ≡ false in
    let actor : p.actor ≡ w.item.actor = same ∙ ap item_actor w.left in
    let count : CountIs w.item.kind (drop w.began (before ++ p ∷ [])) (counted + (if counts then 1 else 0)) =
    counts-after w.item w.began counted before p counts (omega (arith, w.many)) (subst C (sym i.0) c) w.count in
    let unended : ¬ IsItemOver w.item w.began (before ++ p ∷ []) =
    is-unended w.item w.began (counted + (if counts then 1 else 0)) (before ++ p ∷ []) count (subst F (sym i.0) few)
    (subst A actor (ended-same before p p.actor ended ∙ active)) (omega (arith, length-snoc before p, w.many, short)) in
    record {
      began = w.began;
      item = w.item;
      rest = w.rest;
      left = w.left;
      carry = carry-push schedule actors (w.item ∷ w.rest) w.began before p w.carry;
      many = omega (arith, length-snoc before p, w.many);
      count = count;
      unfinished = unended-push w.item w.began before p w.unfinished unended;
      exists = w.exists;
    }

-- ---- an item at its beginning

-- an item that is not over at once
pub item-first : (schedule : Schedule) (actors : ℕ) (items : List PlanItem) (place : ℕ) (before : List Played) (x : PlanItem)
    → Carries schedule actors (drop place items) (length before) before → place < length items → x ≡ get_or items place x
    → 0 < x.count → IsActive actors before x.actor
    → IsAtItem schedule actors items place 0 0 before
item-first schedule actors items place before x carry lt at some active =
    let g : suc place ≡ place + 1 = omega arith in
    let e : drop place items ≡ x ∷ drop (suc place) items = drop-cons items place x lt ∙ ap (λ (y : PlanItem). y ∷ drop (suc place) items) (sym at) in
    let P : List PlanItem → Type 0 = λ l. Carries schedule actors l (length before) before in
    let N : List Played → Type 0 = λ l. CountIs x.kind l 0 in
    let count : CountIs x.kind (drop (length before) before) 0 = subst N (sym (drop-whole before)) refl in
    record {
      began = length before;
      item = x;
      rest = drop (suc place) items;
      left = e;
      carry = subst P e carry;
      many = omega arith;
      count = count;
      unfinished = unended-first x before (is-unended x (length before) 0 before count some active.active (omega arith));
      exists = active.exists;
    }

-- an item that is over at once is passed over
pub item-passed : (schedule : Schedule) (actors : ℕ) (items : List PlanItem) (place : ℕ) (before : List Played) (x : PlanItem)
    → Carries schedule actors (drop place items) (length before) before → place < length items → x ≡ get_or items place x
    → (x.count ≤ 0) ⊎ (has_ended before x.actor ≡ true)
    → Carries schedule actors (drop (place + 1) items) (length before) before
item-passed schedule actors items place before x carry lt at over =
    let g : suc place ≡ place + 1 = omega arith in
    let e : drop place items ≡ x ∷ drop (suc place) items = drop-cons items place x lt ∙ ap (λ (y : PlanItem). y ∷ drop (suc place) items) (sym at) in
    let P : List PlanItem → Type 0 = λ l. Carries schedule actors l (length before) before in
    let N : List Played → Type 0 = λ l. CountIs x.kind l 0 in
    let gone : IsItemOver x (length before) before = elim over [
      | inl none ↦ inl (0, (subst N (sym (drop-whole before)) refl, none))
      | inr ended ↦ inr (inl ended)
    ] in
    let h = carry-over schedule actors x (drop (suc place) items) (length before) before (subst P e carry) (omega arith) (unended-none x before) gone in
    subst P (ap (λ k. drop k items) g) h

-- behind the items the cooperative rule begins
pub seeks-first : (schedule : Schedule) (actors : ℕ) (items : List PlanItem) (before : List Played)
    → Carries schedule actors items (length before) before → items ≡ [] → IsSeeking schedule actors 0 before
seeks-first schedule actors items before carry none =
    let P : List PlanItem → Type 0 = λ l. Carries schedule actors l (length before) before in
    record { began = length before; carry = subst P none carry; place = inl (refl, refl) }

-- an item that may begin
pub begins-so : (schedule : Schedule) (actors : ℕ) (items : List PlanItem) (place : ℕ) (before : List Played) (active : List ℕ) (d : PlanItem)
    → active ≡ active_actors actors before → Carries schedule actors (drop place items) (length before) before → place < length items
    → (0 < (get_or items place d).count) × IsTrue (list_any (λ a. a == (get_or items place d).actor) active)
    → IsAtItem schedule actors items place 0 0 before
begins-so schedule actors items place before active d same carry lt may =
    let x = get_or items place d in
    let P : List ℕ → Type 0 = λ l. list_any (λ a. a == x.actor) l ≡ true in
    item-first schedule actors items place before x carry lt (get_or_default items place d x lt) may.0 (among-active actors before x.actor (subst P same may.1))

-- one that may not
pub passed-so : (schedule : Schedule) (actors : ℕ) (items : List PlanItem) (place : ℕ) (before : List Played) (active : List ℕ) (d : PlanItem)
    → active ≡ active_actors actors before → ArePlanned actors items → Carries schedule actors (drop place items) (length before) before → place < length items
    → ¬ ((0 < (get_or items place d).count) × IsTrue (list_any (λ a. a == (get_or items place d).actor) active))
    → Carries schedule actors (drop (place + 1) items) (length before) before
passed-so schedule actors items place before active d same plan carry lt not-so =
    let x = get_or items place d in
    let P : List ℕ → Type 0 = λ l. list_any (λ a. a == x.actor) l ≡ true in
    let there : x.actor < actors = plan place d lt in
    item-passed schedule actors items place before x carry lt (get_or_default items place d x lt)
    (elim (cases_lt 0 x.count) [
      | inl some ↦ inr (true-so (has_ended before x.actor) (λ e. not-so (some, subst P (sym same) (is-among actors before x.actor there e))))
      | inr none ↦ inl none
    ])

-- ---- the parts of a picker after a turn

pub active-after : (actors : ℕ) (before : List Played) (p : Played) (active after : List ℕ) (ended : Bool) → p.ended ≡ ended → active ≡ active_actors actors before
    → after ≡ (if ended then filter (λ a. not (p.actor == a)) active else active) → after ≡ active_actors actors (before ++ p ∷ [])
active-after actors before p active after true e same is = is ∙ ap (λ l. filter (λ a. not (p.actor == a)) l) same ∙ sym (actives-without actors before p e)
active-after actors before p active after false e same is = is ∙ same ∙ sym (actives-same actors before p e)

or-so : (a b : Bool) (A B : Type 0) → (a ≡ true → A) → (A → a ≡ true) → IsTrue b ↔ B → IsTrue (a || b) ↔ (A ⊎ B)
or-so true b A B f g h = ((λ t. inl (f refl)), (λ t. refl))
or-so false b A B f g h = ((λ t. inr (h.0 t)), (λ t. elim t [ inl x ↦ (let e = g x in cc e) | inr y ↦ h.1 y ]))

pub yields-so : (bumped : Option ℕ) (before : List Played) (p : Played) → IsBumped bumped (turns_by p.actor before) → IsTrue (p.ended || stalls_by bumped p.turn p.heard) ↔ Yields before p
yields-so bumped before p h = or-so p.ended (stalls_by bumped p.turn p.heard) (IsTrue p.ended) (Stalls (turns_by p.actor before) p.turn p.heard) (λ e. e) (λ e. e) (stalls-so bumped (turns_by p.actor before) p.turn p.heard h)

pub bumped-after-turn : (actors : ℕ) (before : List Played) (p : Played) (bumped : List (Option ℕ)) → length bumped ≡ actors → p.actor < actors
    → ((actor : ℕ) → actor < actors → IsBumped (get_or bumped actor None) (turns_by actor before))
    → (actor : ℕ) → actor < actors → IsBumped (get_or (set bumped p.actor (bumped_by (get_or bumped p.actor None) p.turn p.heard)) actor None) (turns_by actor (before ++ p ∷ []))
bumped-after-turn actors before p bumped size there h actor lt =
    let word = bumped_by (get_or bumped p.actor None) p.turn p.heard in
    let B : Option ℕ → Type 0 = λ b. IsBumped b (turns_by actor (before ++ p ∷ [])) in
    elim (cases_eq actor p.actor) [
      | inl e ↦ (
          let Q : ℕ → Type 0 = λ a. IsBumped (get_or (set bumped p.actor word) a None) (turns_by a (before ++ p ∷ [])) in
          let T : Turns → Type 0 = λ t. IsBumped word t in
          let W : Option ℕ → Type 0 = λ b. IsBumped b (turns_by p.actor (before ++ p ∷ [])) in
          subst Q (sym e) (subst W (sym (get_or-set_same bumped p.actor word None (omega (arith, size, there))))
          (subst T (sym (turns-own before p)) (bumped-step (get_or bumped p.actor None) (turns_by p.actor before) p.turn p.heard (h p.actor there)))))
      | inr n ↦ (
          let T : Turns → Type 0 = λ t. IsBumped (get_or bumped actor None) t in
          subst B (sym (get_or-set_other bumped p.actor actor word None n)) (subst T (sym (turns-other before p actor n)) (h actor lt)))
    ]

-- the parts after a turn
pub stands-more : (schedule : Schedule) (actors : ℕ) (before : List Played) (p : Played) (active after : List ℕ) (bumped bumped' : List (Option ℕ)) (items : List PlanItem) (way way' : Way)
    → StandsAfter schedule actors (standing active bumped items way) before → p.actor < actors
    → after ≡ (if p.ended then filter (λ a. not (p.actor == a)) active else active)
    → bumped' ≡ set bumped p.actor (bumped_by (get_or bumped p.actor None) p.turn p.heard)
    → IsOnWay schedule actors items way' (before ++ p ∷ [])
    → StandsAfter schedule actors (standing after bumped' items way') (before ++ p ∷ [])
stands-more schedule actors before p active after bumped bumped' items way way' s there is bump on =
    let N : List (Option ℕ) → Type 0 = λ l. length l ≡ actors in
    let B : List (Option ℕ) → Type 0 = λ l. (actor : ℕ) → actor < actors → IsBumped (get_or l actor None) (turns_by actor (before ++ p ∷ [])) in
    record {
      few = s.few;
      active = active-after actors before p active after p.ended refl s.active is;
      plan = s.plan;
      size = subst N (sym bump) (length-set bumped p.actor (bumped_by (get_or bumped p.actor None) p.turn p.heard) ∙ s.size);
      bumped = subst B (sym bump) (bumped-after-turn actors before p bumped s.size there s.bumped);
      way = on;
    }

-- what is asked of a way before its turn
pub picks-item-so : (active : List ℕ) (items : List PlanItem) (way : Way) (actor : ℕ) → actor ≡ way_picks active items way → PicksItem items way actor
picks-item-so active items (Stay a) actor e = tt
picks-item-so active items (Next from) actor e = tt
picks-item-so active items (Draw x) actor e = tt
picks-item-so active items (Item place made counted) actor e = e

item-there : (items rest : List PlanItem) (place : ℕ) (item : PlanItem) → drop place items ≡ item ∷ rest → place < length items
item-there items rest place item e = let l = ap length e in let d = length-drop place items in omega (arith, l, d)

pub has-item : (schedule : Schedule) (actors : ℕ) (items : List PlanItem) (way : Way) (before : List Played) → IsOnWay schedule actors items way before → HasItem items way
has-item schedule actors items (Stay a) before w = tt
has-item schedule actors items (Next from) before w = tt
has-item schedule actors items (Draw x) before w = tt
has-item schedule actors items (Item place made counted) before w = item-there items w.rest place w.item w.left

may-item : (schedule : Schedule) (actors actor : ℕ) (items : List PlanItem) (place made counted : ℕ) (before : List Played) → actors < 2 ^ 32 → actor < actors → IsAtItem schedule actors items place made counted before → MayGoOn items (Item place made counted) actor
may-item schedule actors actor items place made counted before few lt w =
    let le = item-began schedule actors items place made counted before w in
    let now = unended-now w.item w.began before le w.unfinished in
    let c = count-most w.item.kind (drop w.began before) counted w.count in
    let d = length-drop w.began before in
    (omega (arith, few, lt), item-there items w.rest place w.item w.left, below-so (λ m. now (inr (inr (omega (arith, m, w.many))))), omega (arith, c, d, w.many))

pub may-go-on : (schedule : Schedule) (actors actor : ℕ) (items : List PlanItem) (way : Way) (before : List Played) → actors < 2 ^ 32 → actor < actors → IsOnWay schedule actors items way before → MayGoOn items way actor
may-go-on schedule actors actor items (Stay a) before few lt w = omega (arith, few, lt)
may-go-on schedule actors actor items (Next from) before few lt w = omega (arith, few, lt)
may-go-on schedule actors actor items (Draw x) before few lt w = omega (arith, few, lt)
may-go-on schedule actors actor items (Item place made counted) before few lt w = may-item schedule actors actor items place made counted before few lt w

-- ---- the first turn

actives-first : (actors : ℕ) (xs : List ℕ) → filter (λ a. not (has_ended [] a)) xs ≡ xs
actives-first actors [] = refl
actives-first actors (x ∷ xs) = ap (λ l. x ∷ l) (actives-first actors xs)

planned-all : (cpus : ℕ) (items : List PlanItem) → AllByRecursion (IsPlanItem cpus) items → AllByRecursion (λ (i : PlanItem). i.actor < cpus + 2) items
planned-all cpus [] h = tt
planned-all cpus (i ∷ items) h = (omega (arith, h.0.0), planned-all cpus items h.1)

pub planned : (cpus : ℕ) (schedule : Schedule) → IsSchedule cpus schedule → ArePlanned (cpus + 2) (plan_of schedule)
planned cpus (Serial t) h = All-nil (λ (i : PlanItem). i.actor < cpus + 2)
planned cpus (Shuffle n t) h = All-nil (λ (i : PlanItem). i.actor < cpus + 2)
planned cpus (Plan t items) h = All-from_recursion (λ (i : PlanItem). i.actor < cpus + 2) items (planned-all cpus items h.1)

pub serial-first : (schedule : Schedule) (actors turns : ℕ) → schedule ≡ Serial turns → IsSeeking schedule actors 0 []
serial-first schedule actors turns e =
    let P : Schedule → Type 0 = λ s. IsSeeking s actors 0 [] in
    subst P (sym e) (record { began = 0; carry = λ more actor h. h; place = inl (refl, refl) })

pub drawn-first : (n : ℕ) → next_draw n ≡ drawn n 1
unfolding drawn
drawn-first n = refl

pub draw-first : (schedule : Schedule) (n x turns : ℕ) → schedule ≡ Shuffle n turns → x ≡ next_draw n → IsDrawing schedule x []
draw-first schedule n x turns e h =
    let P : Schedule → Type 0 = λ s. IsDrawing s x [] in
    subst P (sym e) (h ∙ drawn-first n)

pub plan-first : (schedule : Schedule) (actors turns : ℕ) (items all : List PlanItem) → schedule ≡ Plan turns all → items ≡ plan_of schedule → Carries schedule actors items 0 []
plan-first schedule actors turns items all e h =
    let P : Schedule → Type 0 = λ s. Carries s actors (plan_of s) 0 [] in
    let Q : List PlanItem → Type 0 = λ l. Carries schedule actors l 0 [] in
    subst Q (sym h) (subst P (sym e) (λ more actor k. k))

pub way-same : (schedule : Schedule) (actors : ℕ) (items other : List PlanItem) (way : Way) → items ≡ other → IsOnWay schedule actors items way [] → IsOnWay schedule actors other way []
way-same schedule actors items other way e h = let P : List PlanItem → Type 0 = λ l. IsOnWay schedule actors l way [] in subst P e h

pub plan-same : (actors : ℕ) (items other : List PlanItem) → items ≡ other → ArePlanned actors other → ArePlanned actors items
plan-same actors items other e h = let P : List PlanItem → Type 0 = λ l. ArePlanned actors l in subst P (sym e) h

pub all-first : (actors : ℕ) (active : List ℕ) → active ≡ range_with_len 0 actors → active ≡ active_actors actors []
all-first actors active is = is ∙ sym (actives-first actors (range_with_len 0 actors))

pub stands-first : (schedule : Schedule) (cpus : ℕ) (active : List ℕ) (bumped : List (Option ℕ)) (items : List PlanItem) (way : Way) → cpus ≤ 16 → IsSchedule cpus schedule
    → active ≡ range_with_len 0 (cpus + 2) → bumped ≡ replicate (cpus + 2) None → items ≡ plan_of schedule → IsOnWay schedule (cpus + 2) (plan_of schedule) way []
    → StandsAfter schedule (cpus + 2) (standing active bumped items way) []
stands-first schedule cpus active bumped items way few plan is none all on =
    let N : List (Option ℕ) → Type 0 = λ l. length l ≡ cpus + 2 in
    let B : List (Option ℕ) → Type 0 = λ l. (actor : ℕ) → actor < cpus + 2 → IsBumped (get_or l actor None) [] in
    let O : Option ℕ → Type 0 = λ b. IsBumped b [] in
    record {
      few = omega (arith, few);
      active = all-first (cpus + 2) active is;
      plan = plan-same (cpus + 2) items (plan_of schedule) all (planned cpus schedule plan);
      size = subst N (sym none) (length-replicate (cpus + 2) None);
      bumped = subst B (sym none) (λ actor lt. subst O (sym (get_or-replicate (cpus + 2) actor None None lt)) (λ n f. no-flush n f));
      way = way-same schedule (cpus + 2) (plan_of schedule) items way (sym all) on;
    }

-- ---- a picker that has picked

pub picked-is : (s : Standing) (actor : ℕ) (schedule : Schedule) (actors : ℕ) (before : List Played) → HasPicked s actor → StandsAfter schedule actors s before → IsPick schedule actors before actor
picked-is s actor schedule actors before h stands =
    let P : ℕ → Type 0 = λ a. IsPick schedule actors before a in
    subst P (sym h.same) (stands-picks schedule actors s before h.some stands)

pub picked-there : (s : Standing) (actor : ℕ) → HasPicked s actor → actor < length s.bumped
picked-there s actor h =
    let k = h.stood in
    let pick = picked-is s actor k.schedule k.actors k.before h k.stands in
    omega (arith, pick.exists, k.stands.size)

pub picked-may : (s : Standing) (actor : ℕ) → HasPicked s actor → MayGoOn s.items s.way actor
picked-may s actor h =
    let k = h.stood in
    let pick = picked-is s actor k.schedule k.actors k.before h k.stands in
    may-go-on k.schedule k.actors actor s.items s.way k.before k.stands.few pick.exists k.stands.way
