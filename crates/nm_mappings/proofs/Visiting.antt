-- The steps of visits.
use Rattle.std.proofs.Common.{◌≡◌, ℕ, ◌+◌, ◌<◌, List, [], ◌∷◌, ◌++◌, map, length, All, Option, Some, IsSome, IsSomeAnd, refl, sym, ap, ◌∙◌, subst, arith, append_assoc, length-append}
use Rattle.std.proofs.lemmas.List.{length-map, map-append}
use Rattle.std.proofs.lemmas.List.Elements.{All-nil}
use Rattle.nm_base.specs.Geometry.{Geometry, backing_page}
use Rattle.nm_action.specs.declared.action.Action.{Action}
use Rattle.nm_action.specs.declared.action.Reply.{Reply}
use Rattle.nm_action.specs.declared.action.Reply.TheVariants.{Word}
use Rattle.nm_action.specs.Own.{Own}
use Rattle.nm_view.specs.Lists.{edit, first}
use Rattle.nm_view.specs.Views.{Op, View}
use Rattle.nm_view.specs.Operations.{page_of, op_on, op_under, op_of, IsLookedMapped}
use Rattle.nm_view.proofs.Finds.{find_edit, once_join}
use Rattle.nm_permit.specs.Permitted.{IsWet}
use Rattle.nm_event.specs.After.{after_of, edit_under, looked_at, raised_to}
use Rattle.nm_part.specs.Patterns.{Ends, CanEnd}
use Rattle.nm_part.proofs.Patterns.{ends-now, can-ends, can-follow, each-can}
use Rattle.nm_compose.specs.Acts.{MayAct, IsAct, IsActed}
use Rattle.nm_compose.specs.Plans.{IsNewRun, IsOver}
use Rattle.nm_compose.specs.Stages.{IsPieceAt, RunsAt}
use Rattle.nm_compose.specs.declared.act.Act.{Act}
use Rattle.nm_compose.proofs.Acting.{some-act}
use Rattle.nm_compose.proofs.Staging.{by-stage, runs-new}
use Rattle.nm_mappings.specs.declared.visits.Visit.{Visit}
use Rattle.nm_mappings.specs.declared.visits.Visit.TheVariants as visits
use Rattle.nm_mappings.specs.declared.visits.VisitsMade.{VisitsMade}
use Rattle.nm_mappings.specs.declared.visits.VisitPlan.{VisitPlan}
use Rattle.nm_vpages.specs.VPages.{most_vpages, at_or_after, AreBelow}
use Rattle.nm_vpages.proofs.Numbers.{at-least-zero}
use Rattle.nm_mappings.specs.Visits.{visit_action, found_with, found_after, VisitAt, VisitsOf, IsVisits, visited, visited_view, MayVisitEach, MayVisit, IsVisited}
use Rattle.nm_mappings.specs.Visiting.{VisitPlace, visit_place, visit_left, IsVisiting, visit_stages}
use Rattle.nm_mappings.proofs.Lists.{first-least, split-has, below-push, vpage-there, below-absent, mapped-push, mapped-below}
use Rattle.nm_mappings.proofs.Operations.{edit-then, edit-same, edit-nothing, some-changed, visited-push, visited-page, visited-arm, raised-wet}

-- The view.

abbrev with_ops_raises : View → List Op → ℕ → View
with_ops_raises view ops raises = record view { ops = ops; raises = raises }

-- after one visit more
visited-step : (visit : Visit) (page : ℕ) (g : Geometry) (view : View) (told : List (ℕ × ℕ)) (v w : ℕ) → backing_page g v ≡ Some page
    → after_of g (visited_view visit page told view) (visit_action visit v) (Word w) ≡ visited_view visit page (told ++ (v, w) ∷ []) view
visited-step visits.Look page g view told v w of =
    ap (λ (ops : List Op). record view { ops = ops }) (ap (λ (p : Option ℕ). edit_under p (looked_at v w) (edit page_of page (visited visits.Look told) view.ops)) of
    ∙ edit-then page_of page (visited visits.Look told) (looked_at v w) (visited visits.Look (told ++ (v, w) ∷ [])) view.ops (visited-page visits.Look told) (λ o. sym (visited-push visits.Look told (v, w) o)))
visited-step visits.Arm page g view told v w of =
    ap (λ (ops : List Op). record view { ops = ops }) (edit-same page_of page (visited visits.Arm told) (visited visits.Arm (told ++ (v, w) ∷ [])) view.ops (λ o. sym (visited-push visits.Arm told (v, w) o)))
visited-step visits.Raise page g view told v w of =
    let more : view.raises + length told + 1 ≡ view.raises + length (told ++ (v, w) ∷ []) = omega (arith, length-append told ((v, w) ∷ [])) in
    let ops = ap (λ (p : Option ℕ). edit_under p (raised_to v (w + 1)) (edit page_of page (visited visits.Raise told) view.ops)) of
    ∙ edit-then page_of page (visited visits.Raise told) (raised_to v (w + 1)) (visited visits.Raise (told ++ (v, w) ∷ [])) view.ops (visited-page visits.Raise told) (λ o. sym (visited-push visits.Raise told (v, w) o)) in
    ap (λ (l : List Op). with_ops_raises view l (view.raises + length told + 1)) ops
    ∙ ap (λ (n : ℕ). with_ops_raises view (edit page_of page (visited visits.Raise (told ++ (v, w) ∷ [])) view.ops) n) more

-- the operation on the page
visited-op : (visit : Visit) (page : ℕ) (g : Geometry) (view : View) (told : List (ℕ × ℕ)) (v : ℕ) (P Q : Op → Type 0) → backing_page g v ≡ Some page
    → ((o : Op) → P o → Q (visited visit told o)) → IsSomeAnd (op_on view page) P → IsSomeAnd (op_of g (visited_view visit page told view) v) Q
visited-op visit page g view told v P Q of all h =
    let now = visited_view visit page told view in
    let found = find_edit page_of page (visited visit told) view.ops (visited-page visit told) in
    subst (λ (p : Option ℕ). IsSomeAnd (op_under now p) Q) (sym of) (subst (λ (o : Option Op). IsSomeAnd o Q) (sym found) (some-changed (visited visit told) P Q (op_on view page) all h))

-- the next visit is permitted
may-next : (visit : Visit) (page : ℕ) (pages : List ℕ) (g : Geometry) (view : View) (told : List (ℕ × ℕ)) (v : ℕ) → backing_page g v ≡ Some page
    → ((P : ℕ → Type 0) → All P pages → P v) → length told < length pages → AreBelow v (map first told) → MayVisitEach visit page pages view
    → MayAct g (visited_view visit page told view) (visit_action visit v)
may-next visits.Look page pages g view told v of each few below may = record { quiet = tt; allowed = record { range = vpage-there g v page of; permitted = tt } }
may-next visits.Arm page pages g view told v of each few below may = record {
  quiet = tt;
  allowed = record {
    range = vpage-there g v page of;
    permitted = visited-op visits.Arm page g view told v (λ o. All (λ u. IsLookedMapped o.looked o.taken u) pages) (λ o. IsLookedMapped o.looked o.taken v) of
        (λ o h. subst (λ (q : Op). IsLookedMapped q.looked q.taken v) (sym (visited-arm told o)) (each (λ u. IsLookedMapped o.looked o.taken u) h)) may;
  };
}
may-next visits.Raise page pages g view told v of each few below may = record {
  quiet = tt;
  allowed = record {
    range = vpage-there g v page of;
    permitted = record {
      wet = visited-op visits.Raise page g view told v (λ o. All (λ u. IsWet u o) pages) (IsWet v) of
          (λ o h. subst (λ (f : Option ℕ). IsSome f) (sym (raised-wet told v o below)) (each (λ u. IsWet u o) h)) may.wet;
      few = omega (arith, may.few);
    };
  };
}

-- What is left.

pub can-visits : (g : Geometry) (visit : Visit) (pages found : List ℕ) → CanEnd (VisitsOf g visit pages found)
can-visits g visit pages found = each-can (VisitAt g visit) pages found (λ all. Ends all)
    (λ v now later can. can-follow (IsAct (visit_action visit v) g) (λ reply. later (found_after v reply now)) (some-act (visit_action visit v) g) (can (found_after v (some-act (visit_action visit v) g).outcome now)))
    (λ all. can-ends all)

-- the pattern has a list
pub some-visits : (made : VisitsMade) (g : Geometry) → CanEnd (IsVisits made g)
some-visits made g = can-visits g made.visit made.pages []

-- The pieces.

abbrev pub RunsVisits : VisitsMade → VisitPlace → (Own → List ℕ → Type 0) → Geometry → View → View → Type 0
RunsVisits = RunsAt (λ action g view. MayAct g view action) IsAct visit_stages

abbrev at_place : ℕ → List ℕ → VisitPlace
at_place v found = record { at = Some v; found = found }

runs-at : (made : VisitsMade) (g : Geometry) (first now : View) (v : ℕ) (found : List ℕ) → IsVisiting made v found g first now
    → (rest : List ℕ) → rest ≡ v ∷ at_or_after (v + 1) made.pages → RunsVisits made (at_place v found) (VisitsOf g made.visit rest found) g first now
runs-at made g view now v found at rest next =
    let few : length at.told < length made.pages = omega (arith, ap length at.split, length-append (map first at.told) (v ∷ at_or_after (v + 1) made.pages), length-map at.told first) in
    let of : backing_page g v ≡ Some made.page = split-has (λ u. backing_page g u ≡ Some made.page) made.pages (map first at.told) (at_or_after (v + 1) made.pages) v at.split at.may.of in
    let begin = may-next made.visit made.page made.pages g view at.told v of (λ P all. split-has P made.pages (map first at.told) (at_or_after (v + 1) made.pages) v at.split all) few at.below at.may.each in
    record {
      begin = subst (λ (w : View). MayAct g w (visit_action made.visit v)) (sym at.is) begin;
      known = record { is = refl; known = at };
      can = λ own end shown. can-visits g made.visit (at_or_after (v + 1) made.pages) (found_after v end found);
      fits = λ own outcome f. rw next f;
    }

abbrev place : Option ℕ → List ℕ → VisitPlace
place at found = record { at = at; found = found }

visited-none : (visit : Visit) (page : ℕ) (view : View) → view ≡ visited_view visit page [] view
visited-none visits.Look page view = ap (λ (l : List Op). record view { ops = l }) (sym (edit-nothing page_of page (visited visits.Look []) view.ops (λ o. refl)))
visited-none visits.Arm page view = ap (λ (l : List Op). record view { ops = l }) (sym (edit-nothing page_of page (visited visits.Arm []) view.ops (λ o. refl)))
visited-none visits.Raise page view =
    let none : view.raises ≡ view.raises + 0 = omega arith in
    ap (λ (l : List Op). with_ops_raises view l view.raises) (sym (edit-nothing page_of page (visited visits.Raise []) view.ops (λ o. refl)))
    ∙ ap (λ (n : ℕ). with_ops_raises view (edit page_of page (visited visits.Raise []) view.ops) n) none

split-next : (pages told more rest others : List ℕ) (v u : ℕ) → pages ≡ told ++ v ∷ rest → rest ≡ u ∷ others → more ≡ told ++ v ∷ [] → pages ≡ more ++ u ∷ others
split-next pages told more rest others v u split next push = rw (split, next, push) (sym (append_assoc told (v ∷ []) (u ∷ others)))

-- the first virtual page
at-first : (made : VisitsMade) (g : Geometry) (view : View) (v : ℕ) → MayVisit made g view → v < most_vpages → at_or_after 0 made.pages ≡ v ∷ at_or_after (v + 1) made.pages → IsVisiting made v [] g view view
at-first made g view v may small next = record {
  may = may;
  told = [];
  split = sym (at-least-zero made.pages) ∙ next;
  small = small;
  below = All-nil _;
  once = tt;
  mapped = refl;
  is = visited-none made.visit made.page view;
}

-- the next one
at-next : (made : VisitsMade) (g : Geometry) (view now later : View) (v w u : ℕ) (found : List ℕ) → IsVisiting made v found g view now → IsActed g now (visit_action made.visit v) (Word w) later
    → u < most_vpages → at_or_after (v + 1) made.pages ≡ u ∷ at_or_after (u + 1) made.pages → IsVisiting made u (found_with v w found) g view later
at-next made g view now later v w u found at acted small next =
    let up = first-least (v + 1) u made.pages (at_or_after (u + 1) made.pages) next in
    let of : backing_page g v ≡ Some made.page = split-has (λ n. backing_page g n ≡ Some made.page) made.pages (map first at.told) (at_or_after (v + 1) made.pages) v at.split at.may.of in
    let pages : map first (at.told ++ (v, w) ∷ []) ≡ map first at.told ++ v ∷ [] = map-append first at.told ((v, w) ∷ []) in
    record {
      may = at.may;
      told = at.told ++ (v, w) ∷ [];
      split = split-next made.pages (map first at.told) (map first (at.told ++ (v, w) ∷ [])) (at_or_after (v + 1) made.pages) (at_or_after (u + 1) made.pages) v u at.split next pages;
      small = small;
      below = subst (AreBelow u) (sym pages) (below-push v u (map first at.told) (omega arith) at.below);
      once = once_join first (v, w) at.told at.once (below-absent v at.told at.below);
      mapped = mapped-push v w found at.told at.mapped;
      is = acted.is ∙ ap (λ (x : View). after_of g x (visit_action made.visit v) (Word w)) at.is ∙ visited-step made.visit made.page g view at.told v w of;
    }

-- after the last one
at-end : (made : VisitsMade) (g : Geometry) (view now later : View) (v w : ℕ) (found : List ℕ) → IsVisiting made v found g view now → IsActed g now (visit_action made.visit v) (Word w) later
    → at_or_after (v + 1) made.pages ≡ [] → IsVisited made view (found_with v w found) later
at-end made g view now later v w found at acted none =
    let of : backing_page g v ≡ Some made.page = split-has (λ n. backing_page g n ≡ Some made.page) made.pages (map first at.told) (at_or_after (v + 1) made.pages) v at.split at.may.of in
    record {
      told = at.told ++ (v, w) ∷ [];
      pages = map-append first at.told ((v, w) ∷ []) ∙ sym (at.split ∙ ap (λ (l : List ℕ). map first at.told ++ v ∷ l) none);
      once = once_join first (v, w) at.told at.once (below-absent v at.told at.below);
      mapped = mapped-push v w found at.told at.mapped;
      is = acted.is ∙ ap (λ (x : View). after_of g x (visit_action made.visit v) (Word w)) at.is ∙ visited-step made.visit made.page g view at.told v w of;
    }

-- The steps of the plan.

-- visits give this action, where this was left
abbrev pub Gives : VisitPlan → Act → (Own → List ℕ → Type 0) → Geometry → View → View → Type 0
Gives new act was g first now = IsNewRun (λ (a : Act). a.action) (λ a. Unit {0}) (λ action g view. MayAct g view action) IsAct (IsPieceAt visit_stages new.made (visit_place new)) (visit_left new.made (visit_place new)) was act g first now

gives-at : (given : VisitsMade) (new : VisitPlan) (act : Act) (was : Own → List ℕ → Type 0) (g : Geometry) (first now : View) (v : ℕ) (found : List ℕ)
    → new.made ≡ given → new.at ≡ Some v → new.found ≡ found → act.action ≡ visit_action given.visit v → RunsVisits given (at_place v found) was g first now → Gives new act was g first now
gives-at given new act was g first now v found made-is at-is found-is acts run =
    let place : visit_place new ≡ at_place v found = ap (λ (o : Option ℕ). place o new.found) at-is ∙ ap (λ (l : List ℕ). place (Some v) l) found-is in
    runs-new (λ (a : Act). a.action) (λ a. Unit {0}) (λ action g view. MayAct g view action) IsAct visit_stages was given new.made (at_place v found) (visit_place new) act g first now made-is place acts tt run

-- the first action
pub begins : (given : VisitsMade) (new : VisitPlan) (act : Act) (v : ℕ) (g : Geometry) (view : View)
    → new.made ≡ given → new.at ≡ Some v → new.found ≡ [] → act.action ≡ visit_action given.visit v → v < most_vpages → at_or_after 0 given.pages ≡ v ∷ at_or_after (v + 1) given.pages
    → MayVisit given g view → Gives new act (IsVisits given g) g view view
begins given new act v g view made-is at-is found-is acts small next may =
    let run = runs-at given g view view v [] (at-first given g view v may small next) given.pages (sym (at-least-zero given.pages) ∙ next) in
    gives-at given new act (IsVisits given g) g view view v [] made-is at-is found-is acts run

-- what is known where a reply was heard
abbrev Acted : Action → Geometry → View → Reply → View → Type 0
Acted action g view reply left = IsActed g view action reply left

place-is : (old : VisitPlan) (v : ℕ) → old.at ≡ Some v → visit_place old ≡ at_place v old.found
place-is old v e = ap (λ (o : Option ℕ). place o old.found) e

-- the next action
pub goes-on : (old new : VisitPlan) (act : Act) (v w u : ℕ) (end : Reply) (g : Geometry) (first now later : View) (action : Action)
    → old.at ≡ Some v → end ≡ Word w → IsPieceAt visit_stages old.made (visit_place old) g first now action → IsActed g now action end later
    → new.made ≡ old.made → new.at ≡ Some u → new.found ≡ found_with v w old.found → act.action ≡ visit_action old.made.visit u
    → u < most_vpages → at_or_after (v + 1) old.made.pages ≡ u ∷ at_or_after (u + 1) old.made.pages
    → Gives new act (visit_left old.made (visit_place old) g end) g first later
goes-on old new act v w u end g first now later action at-is ended known acted made-is new-at new-found acts small next =
    by-stage visit_stages Acted (λ place reply. Gives new act (visit_left old.made place g reply) g first later) old.made (visit_place old) (at_place v old.found) end (Word w) g first now later action (place-is old v at-is) ended known acted
    (λ k a.
    let run = runs-at old.made g first later u (found_with v w old.found) (at-next old.made g first now later v w u old.found k a small next) (at_or_after (v + 1) old.made.pages) next in
    gives-at old.made new act (VisitsOf g old.made.visit (at_or_after (v + 1) old.made.pages) (found_with v w old.found)) g first later u (found_with v w old.found) made-is new-at new-found acts run)

-- the end
pub goes-over : (old : VisitPlan) (v w : ℕ) (end : Reply) (g : Geometry) (first now later : View) (action : Action) (found : List ℕ)
    → old.at ≡ Some v → end ≡ Word w → IsPieceAt visit_stages old.made (visit_place old) g first now action → IsActed g now action end later
    → found ≡ found_with v w old.found → at_or_after (v + 1) old.made.pages ≡ []
    → IsOver (visit_left old.made (visit_place old) g end) (λ g view found left. IsVisited old.made view found left) (λ g found. Unit {0}) g first later found
goes-over old v w end g first now later action found at-is ended known acted found-is none =
    by-stage visit_stages Acted (λ place reply. IsOver (visit_left old.made place g reply) (λ g view found left. IsVisited old.made view found left) (λ g found. Unit {0}) g first later found) old.made (visit_place old) (at_place v old.found) end (Word w) g first now later action (place-is old v at-is) ended known acted
    (λ k a.
    let over : IsOver (VisitsOf g old.made.visit [] (found_with v w old.found)) (λ g view found left. IsVisited old.made view found left) (λ g found. Unit {0}) g first later (found_with v w old.found) = record {
      shown = ends-now (found_with v w old.found);
      left = at-end old.made g first now later v w old.found k a none;
      over = tt;
    } in
    subst (λ (l : List ℕ). IsOver (VisitsOf g old.made.visit l (found_with v w old.found)) (λ g view found left. IsVisited old.made view found left) (λ g found. Unit {0}) g first later found) (sym none)
    (subst (λ (l : List ℕ). IsOver (VisitsOf g old.made.visit [] (found_with v w old.found)) (λ g view found left. IsVisited old.made view found left) (λ g found. Unit {0}) g first later l) (sym found-is) over))

-- what a reply is heard with, for the note that is made of it
pub notes : (old : VisitPlan) (v : ℕ) (g : Geometry) (first now : View) (action : Action) → old.at ≡ Some v → IsPieceAt visit_stages old.made (visit_place old) g first now action → IsVisiting old.made v old.found g first now
notes old v g first now action at-is known = subst (λ (p : VisitPlace). visit_stages.known old.made p g first now) (place-is old v at-is) known.known

pub note-below : (old : VisitPlan) (v : ℕ) (g : Geometry) (first now : View) → IsVisiting old.made v old.found g first now → AreBelow v old.found
note-below old v g first now at = subst (AreBelow v) (sym at.mapped) (mapped-below v at.told at.below)
