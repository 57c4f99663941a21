-- That the rule holds at first, and is kept where a seat is split off or joined back; what it leaves at the end.
use Rattle.std.proofs.Common.{◌≡◌, ◌≢◌, ◌⊎◌, ℕ, zero, suc, ◌<◌, ◌≤◌, ◌==◌, if◌then◌else◌, Bool, true, false, List, [], ◌∷◌, ◌++◌, length, Some, None, set, refl, sym, ap, subst, ◌∙◌, inl, inr, arith}
use Rattle.std.proofs.lemmas.Bool.{cases_lt, cases_eq, eq-eqb, ne_eqb}
use Rattle.std.proofs.lemmas.List.{length-set, get_or_past, get_or-set_same, get_or-set_other}
use Rattle.std.proofs.lemmas.List.FromFn.{length-map-range_with_len, get_or-map-range_with_len}
use mathlib.Core.Option.{some, some-injective, some-ne-none}
use mathlib.Core.List.{IsPrefix}
use lib.ListN.{get_elem?}
use Rattle.atomic_table.specs.Table.{State, Splits, Joins, Final, Seen, opening}
use Rattle.atomic_table.proofs.Lists.{at_set}
use Rattle.nm_base.specs.Geometry.{Geometry, IsGeometry}
use Rattle.nm_action.specs.declared.action.Event.{Event}
use Rattle.nm_view.specs.Opening.{IsActor}
use Rattle.nm_words.specs.Flat.{flat}
use Rattle.nm_words.specs.Words.{opening_words}
use Rattle.nm_core.specs.State.{actor_count}
use Rattle.nm_core.proofs.Starts.{view_of-start}
use Rattle.nm_rule.specs.declared.known.Progress.{Progress}
use Rattle.nm_rule.specs.declared.known.ActorSeat.{ActorSeat}
use Rattle.nm_rule.specs.declared.known.ActorSeat.TheVariants.{Unsplit, Out, Back}
use Rattle.nm_rule.specs.declared.known.Knowledge.{Knowledge}
use Rattle.nm_rule.specs.Knows.{unstarted, seat_of, unsplit_seats, progress_by, first_knowledge, without, handed, seats_with, with_back, nobody}
use Rattle.nm_rule.specs.Shows.{IsProgress, IsKnown, IsKnowing, Shows}
use Rattle.nm_rule.specs.Stands.{SeatsStand, IsEnd}
use Rattle.nm_rule.proofs.Fronts.{prefix-nil, prefix-longer, prefix-part}
use Rattle.nm_rule.proofs.Moved.{nothing, none_out}

-- At first.

-- every actor is named by the first seat as one whose seat was not split off
pub first_seat : (g : Geometry) (actor : ℕ) → IsActor g actor → seat_of (unsplit_seats g) actor ≡ Unsplit (unstarted g actor)
first_seat g actor there = get_or-map-range_with_len (λ q. Unsplit (unstarted g q)) 0 (actor_count g) actor actor Out there (omega arith)

-- and no other number
pub no_seat : (g : Geometry) (actor : ℕ) → actor_count g ≤ actor → seat_of (unsplit_seats g) actor ≡ Out
no_seat g actor past = get_or_past (unsplit_seats g) actor Out (omega (arith, past, length-map-range_with_len (λ q. Unsplit (unstarted g q)) 0 (actor_count g)))

unsplit_progress : (g : Geometry) (actor : ℕ) → IsActor g actor → IsProgress g [] actor (unstarted g actor)
unsplit_progress g actor there = record { exists = there; number = refl; view = view_of-start g actor there; own = refl }

some_is : (p q : Progress) → Some p ≡ Some q → p ≡ q
some_is p q e = cc

-- what is known of an actor whose seat was not split off
unsplit_is : (seat : ActorSeat) (q p : Progress) → seat ≡ Unsplit q → progress_by seat ≡ Some p → q ≡ p
unsplit_is seat q p is told_of = some_is q p (subst (λ z. progress_by z ≡ Some p) is told_of)

-- and of one whose seat is out
out_is : (seat : ActorSeat) (p : Progress) → seat ≡ Out → progress_by seat ≡ Some p → ⊥
out_is seat p is told_of = nothing p (subst (λ z. progress_by z ≡ Some p) is told_of)

back_is : (seat : ActorSeat) (q p : Progress) → seat ≡ Back q → progress_by seat ≡ Some p → q ≡ p
back_is seat q p is told_of = some_is q p (subst (λ z. progress_by z ≡ Some p) is told_of)

first_known : (g : Geometry) (actor : ℕ) (p : Progress) → progress_by (seat_of (unsplit_seats g) actor) ≡ Some p → IsKnown g [] (λ _. 0) 0 actor p
first_known g actor p told_of = elim (cases_lt actor (actor_count g)) [
  | inl there ↦
      subst (λ x. IsKnown g [] (λ _. 0) 0 actor x) (unsplit_is (seat_of (unsplit_seats g) actor) (unstarted g actor) p (first_seat g actor there) told_of)
      (record { progress = unsplit_progress g actor there; known_by = refl })
  | inr past ↦ absurd (out_is (seat_of (unsplit_seats g) actor) p (no_seat g actor past) told_of)
]

first_knows : (g : Geometry) → IsKnowing g [] (λ _. 0) 0 (first_knowledge g)
first_knows g = record {
  mine = λ p is. absurd (nothing p is);
  seats = first_known g;
  seen = prefix-nil [];
}

one_seat : (g : Geometry) (seat : ℕ) (k : Knowledge) → get_elem? (first_knowledge g ∷ []) seat ≡ some k → IsKnowing g [] (λ _. 0) seat k
one_seat g zero k e = subst (IsKnowing g [] (λ _. 0) 0) (some-injective (first_knowledge g) k e) (first_knows g)
one_seat g (suc seat) k e = absurd (some-ne-none k (sym e))

pub begins : (g : Geometry) → IsGeometry g → Shows g (opening (flat (opening_words g)) [] (first_knowledge g))
begins g is = record {
  geometry = is;
  run = [];
  knower = λ _. 0;
  is_run = tt;
  words = refl;
  known = one_seat g;
}

-- Another seat knows an actor.

abbrev renamed : (ℕ → ℕ) → ℕ → ℕ → ℕ → ℕ
renamed knower actor seat q = if q == actor then seat else knower q

pick_true : (b : Bool) (x y : ℕ) → b ≡ true → (if b then x else y) ≡ x
pick_true true x y e = refl
pick_true false x y e = absurd (cc)

pick_false : (b : Bool) (x y : ℕ) → b ≡ false → (if b then x else y) ≡ y
pick_false true x y e = absurd (cc)
pick_false false x y e = refl

renamed-same : (knower : ℕ → ℕ) (actor seat q : ℕ) → q ≡ actor → renamed knower actor seat q ≡ seat
renamed-same knower actor seat q same = pick_true (q == actor) seat (knower q) (eq-eqb q actor same)

renamed-other : (knower : ℕ → ℕ) (actor seat q : ℕ) → q ≢ actor → renamed knower actor seat q ≡ knower q
renamed-other knower actor seat q away = pick_false (q == actor) seat (knower q) (ne_eqb q actor away)

known_renamed : (g : Geometry) (run : List Event) (knower other : ℕ → ℕ) (seat actor : ℕ) (p : Progress) → ((q : ℕ) → knower q ≡ seat → other q ≡ seat) → IsKnown g run knower seat actor p → IsKnown g run other seat actor p
known_renamed g run knower other seat actor p keeps h = record { progress = h.progress; known_by = keeps actor h.known_by }

-- a seat that knows the same actors as before knows them by the new names
knows_renamed : (g : Geometry) (run : List Event) (knower other : ℕ → ℕ) (seat : ℕ) (k : Knowledge) → ((q : ℕ) → knower q ≡ seat → other q ≡ seat) → IsKnowing g run knower seat k → IsKnowing g run other seat k
knows_renamed g run knower other seat k keeps h = record {
  mine = λ p is. known_renamed g run knower other seat p.view.number p keeps (h.mine p is);
  seats = λ actor p told_of. known_renamed g run knower other seat actor p keeps (h.seats actor p told_of);
  seen = h.seen;
}

-- an actor that another seat knew is none that this one knew
apart_seats : (knower : ℕ → ℕ) (actor mover given : ℕ) (seat : ℕ) → knower actor ≡ mover → seat ≢ mover → (q : ℕ) → knower q ≡ seat → renamed knower actor given q ≡ seat
apart_seats knower actor mover given seat was apart q knows =
    renamed-other knower actor given q (λ same. apart (sym knows ∙ ap knower same ∙ was)) ∙ knows

-- A seat is split off.

at_end : {A : Type 0} (l : List A) (a b : A) (j : ℕ) → get_elem? (l ++ a ∷ []) j ≡ some b → ((j < length l) × (get_elem? l j ≡ some b)) ⊎ ((j ≡ length l) × (a ≡ b))
at_end [] a b zero e = inr (refl, some-injective a b e)
at_end [] a b (suc j) e = absurd (some-ne-none b (sym e))
at_end (x ∷ xs) a b zero e = inl (omega arith, e)
at_end (x ∷ xs) a b (suc j) e = elim (at_end xs a b j e) [
  | inl h ↦ inl (let lt = h.0 in omega (arith, lt), h.1)
  | inr h ↦ inr (ap suc h.0, h.1)
]

in_list : {A : Type 0} (l : List A) (j : ℕ) (a : A) → get_elem? l j ≡ some a → j < length l
in_list [] j a e = absurd (some-ne-none a (sym e))
in_list (x ∷ xs) zero a e = omega arith
in_list (x ∷ xs) (suc j) a e = let lt = in_list xs j a e in omega (arith, lt)

set_out : (seats : List ActorSeat) (actor : ℕ) → seat_of (set seats actor Out) actor ≡ Out
set_out seats actor = elim (cases_lt actor (length seats)) [
  | inl there ↦ get_or-set_same seats actor Out Out there
  | inr past ↦ get_or_past (set seats actor Out) actor Out (omega (arith, past, length-set seats actor Out))
]

-- what the first seat keeps when it splits one off
left_known : (g : Geometry) (run : List Event) (knower : ℕ → ℕ) (seat new actor : ℕ) (k : Knowledge) (q : ℕ) (p : Progress) → IsKnowing g run knower seat k → progress_by (seat_of (set k.seats actor Out) q) ≡ Some p → IsKnown g run (renamed knower actor new) seat q p
left_known g run knower seat new actor k q p h told_of = elim (cases_eq q actor) [
  | inl same ↦ absurd (out_is (seat_of (set k.seats actor Out) q) p (subst (λ n. seat_of (set k.seats actor Out) n ≡ Out) (sym same) (set_out k.seats actor)) told_of)
  | inr away ↦
      let was = h.seats q p (subst (λ z. progress_by z ≡ Some p) (get_or-set_other k.seats actor q Out Out away) told_of) in
      record { progress = was.progress; known_by = renamed-other knower actor new q away ∙ was.known_by }
]

left_knows : (g : Geometry) (run : List Event) (knower : ℕ → ℕ) (seat new actor : ℕ) (k : Knowledge) → k.mine ≡ None → IsKnowing g run knower seat k → IsKnowing g run (renamed knower actor new) seat (without actor k)
left_knows g run knower seat new actor k first h = record {
  mine = λ p is. absurd (nothing p (sym first ∙ is));
  seats = λ q p told_of. left_known g run knower seat new actor k q p h told_of;
  seen = h.seen;
}

-- what the new seat knows
right_knows : (g : Geometry) (run : List Event) (knower : ℕ → ℕ) (new actor : ℕ) (k : Knowledge) (own : Progress) → IsPrefix k.seen run → progress_by (seat_of k.seats actor) ≡ Some own → IsProgress g run actor own → IsKnowing g run (renamed knower actor new) new (handed actor k)
right_knows g run knower new actor k own seen is h =
    let there : IsProgress g run own.view.number own = subst (λ n. IsProgress g run n own) (sym h.number) h in
    let known : IsKnown g run (renamed knower actor new) new own.view.number own = record { progress = there; known_by = renamed-same knower actor new own.view.number h.number } in
    record {
      mine = λ p told_of. subst (λ x. IsKnown g run (renamed knower actor new) new x.view.number x) (some_is own p (sym is ∙ told_of)) known;
      seats = λ q p told_of. absurd (none_out q [] p refl told_of);
      seen = seen;
    }

pub cuts : (g : Geometry) (seat : ℕ) (k : Knowledge) (actor : ℕ) (own : Progress) → k.mine ≡ None → seat_of k.seats actor ≡ Unsplit own → Splits (Shows g) seat k (without actor k) (handed actor k)
cuts g seat k actor own first unsplit t h here =
    let mine : IsKnowing g h.run h.knower seat k = h.known seat k here in
    let new : ℕ = length t.views in
    let size : length (set t.views seat (without actor k)) ≡ length t.views = length-set t.views seat (without actor k) in
    let is : progress_by (seat_of k.seats actor) ≡ Some own = ap progress_by unsplit in
    let known : IsKnown g h.run h.knower seat actor own = mine.seats actor own is in
    let names : ℕ → ℕ = renamed h.knower actor new in
    record {
      geometry = h.geometry;
      run = h.run;
      knower = names;
      is_run = h.is_run;
      words = h.words;
      known = λ j n at. elim (at_end (set t.views seat (without actor k)) (handed actor k) n j at) [
        | inl before ↦ elim (at_set t.views seat j (without actor k) n before.1) [
          | inl same ↦
              subst (λ x. IsKnowing g h.run names j x) same.1
              (subst (λ x. IsKnowing g h.run names x (without actor k)) (sym same.0) (left_knows g h.run h.knower seat new actor k first mine))
          | inr away ↦ knows_renamed g h.run h.knower names j n (apart_seats h.knower actor seat new j known.known_by away.0) (h.known j n away.1)
        ]
        | inr last ↦
            subst (λ x. IsKnowing g h.run names j x) last.1
            (subst (λ x. IsKnowing g h.run names x (handed actor k)) (sym (last.0 ∙ size)) (right_knows g h.run h.knower new actor k own mine.seen is known.progress))
      ];
    }

-- A seat is joined back.

set_back : (seats : List ActorSeat) (q : Progress) (actor : ℕ) (p : Progress) → actor ≡ q.view.number → progress_by (seat_of (set seats q.view.number (Back q)) actor) ≡ Some p → q ≡ p
set_back seats q actor p same told_of =
    let there : progress_by (seat_of (set seats q.view.number (Back q)) q.view.number) ≡ Some p = subst (λ n. progress_by (seat_of (set seats q.view.number (Back q)) n) ≡ Some p) same told_of in
    elim (cases_lt q.view.number (length seats)) [
      | inl within ↦ back_is (seat_of (set seats q.view.number (Back q)) q.view.number) q p (get_or-set_same seats q.view.number (Back q) Out within) there
      | inr past ↦ absurd (out_is (seat_of (set seats q.view.number (Back q)) q.view.number) p (get_or_past (set seats q.view.number (Back q)) q.view.number Out (omega (arith, past, length-set seats q.view.number (Back q)))) there)
    ]

both_known : (g : Geometry) (run : List Event) (knower : ℕ → ℕ) (seat : ℕ) (k : Knowledge) (q : Progress) (actor : ℕ) (p : Progress) → IsKnowing g run knower seat k → IsProgress g run q.view.number q → progress_by (seat_of (set k.seats q.view.number (Back q)) actor) ≡ Some p → IsKnown g run (renamed knower q.view.number seat) seat actor p
both_known g run knower seat k q actor p h theirs told_of = elim (cases_eq actor q.view.number) [
  | inl same ↦
      let here : IsProgress g run actor q = subst (λ n. IsProgress g run n q) (sym same) theirs in
      record { progress = subst (IsProgress g run actor) (set_back k.seats q actor p same told_of) here; known_by = renamed-same knower q.view.number seat actor same }
  | inr away ↦
      let was = h.seats actor p (subst (λ z. progress_by z ≡ Some p) (get_or-set_other k.seats q.view.number actor (Back q) Out away) told_of) in
      record { progress = was.progress; known_by = renamed-other knower q.view.number seat actor away ∙ was.known_by }
]

both_knows : (g : Geometry) (run : List Event) (knower : ℕ → ℕ) (seat : ℕ) (k theirs : Knowledge) (q : Progress) → k.mine ≡ None → theirs.mine ≡ Some q → IsKnowing g run knower seat k → IsProgress g run q.view.number q → IsPrefix theirs.seen run → IsKnowing g run (renamed knower q.view.number seat) seat (with_back k theirs)
both_knows g run knower seat k theirs q first is h own seen = record {
  mine = λ p told_of. absurd (nothing p (sym first ∙ told_of));
  seats = λ actor p told_of. both_known g run knower seat k q actor p h own (subst (λ m. progress_by (seat_of (seats_with m k.seats) actor) ≡ Some p) is told_of);
  seen = prefix-longer k.seen theirs.seen run h.seen seen;
}

nobody_knows : (g : Geometry) (run : List Event) (knower : ℕ → ℕ) (seat : ℕ) → IsKnowing g run knower seat nobody
nobody_knows g run knower seat = record {
  mine = λ p is. absurd (nothing p is);
  seats = λ actor p told_of. absurd (none_out actor [] p refl told_of);
  seen = prefix-nil run;
}

pub takes_back : (g : Geometry) (seat : ℕ) (k : Knowledge) (other : ℕ) (theirs : Knowledge) (p : Progress) → k.mine ≡ None → theirs.mine ≡ Some p → Joins (Shows g) seat k other theirs (with_back k theirs) nobody
takes_back g seat k other theirs p first is t h here apart there =
    let mine : IsKnowing g h.run h.knower seat k = h.known seat k here in
    let there_before : get_elem? t.views other ≡ some theirs = elim (at_set t.views seat other (with_back k theirs) theirs there) [ inl same ↦ absurd (apart same.0) | inr away ↦ away.1 ] in
    let known : IsKnowing g h.run h.knower other theirs = h.known other theirs there_before in
    let own : IsKnown g h.run h.knower other p.view.number p = known.mine p is in
    let names : ℕ → ℕ = renamed h.knower p.view.number seat in
    record {
      geometry = h.geometry;
      run = h.run;
      knower = names;
      is_run = h.is_run;
      words = h.words;
      known = λ j n at. elim (at_set (set t.views seat (with_back k theirs)) other j nobody n at) [
        | inl spent ↦ subst (IsKnowing g h.run names j) spent.1 (nobody_knows g h.run names j)
        | inr kept ↦ elim (at_set t.views seat j (with_back k theirs) n kept.1) [
          | inl same ↦
              subst (λ x. IsKnowing g h.run names j x) same.1
              (subst (λ x. IsKnowing g h.run names x (with_back k theirs)) (sym same.0) (both_knows g h.run h.knower seat k theirs p first is mine own.progress known.seen))
          | inr away ↦ knows_renamed g h.run h.knower names j n (apart_seats h.knower p.view.number other seat j own.known_by kept.0) (h.known j n away.1)
        ]
      ];
    }

-- What stands at every moment, and at the end.

pub stands : (g : Geometry) (t : State (Unit {0}) Knowledge) → Shows g t → SeatsStand g t
stands g t h = record {
  run = h.run;
  is_run = h.is_run;
  words = h.words;
  seats = λ seat k at.
      let known : IsKnowing g h.run h.knower seat k = h.known seat k at in
      record {
        seen = known.seen;
        parts = λ actor. prefix-part actor k.seen h.run known.seen;
        mine = λ p is. (known.mine p is).progress;
        seats = λ actor p told_of. (known.seats actor p told_of).progress;
      };
}

pub ends : (g : Geometry) (seat : ℕ) (k : Knowledge) (words : List ℕ) (slots : List (Unit {0})) → Final (Seen (Shows g) seat k) words slots → IsEnd g k words
ends g seat k words slots last =
    let t : State (Unit {0}) Knowledge = last.0 in
    let h : Shows g t = last.1.0 in
    let known : IsKnowing g h.run h.knower seat k = h.known seat k last.1.1 in
    record {
      run = h.run;
      is_run = h.is_run;
      words = sym last.2 ∙ h.words;
      seen = known.seen;
      seats = λ actor p told_of. (known.seats actor p told_of).progress;
    }
