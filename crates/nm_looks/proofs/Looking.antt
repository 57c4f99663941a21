-- The steps of Looks.
use Rattle.std.proofs.Common.{◌≡◌, ◌≢◌, ℕ, ◌+◌, ◌<◌, List, [], ◌∷◌, ◌++◌, map, Option, Some, refl, sym, ap, ◌∙◌, subst, arith, append_assoc}
use Rattle.std.proofs.lemmas.List.{map-append}
use Rattle.std.proofs.lemmas.List.Elements.{All-nil}
use Rattle.nm_base.specs.Geometry.{Geometry, backing_page}
use Rattle.nm_base.specs.PageWord.{frame_of}
use Rattle.nm_base.specs.Ranges.{IsFrame}
use Rattle.nm_action.specs.declared.action.Action.{Action}
use Rattle.nm_action.specs.declared.action.Reply.{Reply}
use Rattle.nm_action.specs.declared.action.Reply.TheVariants.{Word}
use Rattle.nm_action.specs.Own.{Own}
use Rattle.nm_view.specs.Lists.{edit, first, Once}
use Rattle.nm_view.specs.Views.{Op, View}
use Rattle.nm_view.specs.Operations.{page_of}
use Rattle.nm_view.proofs.Finds.{once_join}
use Rattle.nm_event.specs.After.{after_of, edit_under, looked_at}
use Rattle.nm_part.specs.Patterns.{Ends, CanEnd}
use Rattle.nm_part.proofs.Patterns.{ends-now, can-ends, can-follow, each-can}
use Rattle.nm_compose.specs.Acts.{MayAct, IsAct, IsActed}
use Rattle.nm_compose.specs.Plans.{IsNewRun, IsOver}
use Rattle.nm_compose.specs.Stages.{IsPieceAt, RunsAt}
use Rattle.nm_compose.specs.declared.act.Act.{Act}
use Rattle.nm_compose.proofs.Acting.{some-act}
use Rattle.nm_compose.proofs.Staging.{by-stage, runs-new}
use Rattle.nm_vpages.specs.VPages.{most_vpages, at_or_after, AreBelow}
use Rattle.nm_vpages.proofs.Numbers.{at-least-zero}
use Rattle.nm_mappings.specs.declared.visits.Visit.TheVariants as visits
use Rattle.nm_mappings.specs.Visits.{visited}
use Rattle.nm_mappings.proofs.Lists.{first-least, split-has, below-push, vpage-there, below-absent}
use Rattle.nm_mappings.proofs.Operations.{edit-then, edit-nothing, visited-push, visited-page}
use Rattle.nm_looks.specs.declared.looks.Looks.{Looks}
use Rattle.nm_looks.specs.declared.seen.Seen.{Seen}
use Rattle.nm_looks.specs.Seeing.{LooksData, look_at, is_mapped_word, is_outside, nothing_seen, seen_with_word, seen_after, seen_of, LookAt, LooksFrom, IsLooks, MayLooks, seen_view, HasLooked}
use Rattle.nm_looks.specs.Looking.{LooksPlace, looks_place, looks_data, looks_left, IsLookingAt, looks_stages}
use Rattle.nm_looks.proofs.Shown.{seen-push, where-below}

-- The view.

-- after one Look more
seen-step : (page : ℕ) (g : Geometry) (view : View) (told : List (ℕ × ℕ)) (v w : ℕ) → backing_page g v ≡ Some page
    → after_of g (seen_view page told view) (look_at v) (Word w) ≡ seen_view page (told ++ (v, w) ∷ []) view
seen-step page g view told v w of =
    ap (λ (ops : List Op). record view { ops = ops }) (ap (λ (p : Option ℕ). edit_under p (looked_at v w) (edit page_of page (visited visits.Look told) view.ops)) of
    ∙ edit-then page_of page (visited visits.Look told) (looked_at v w) (visited visits.Look (told ++ (v, w) ∷ [])) view.ops (visited-page visits.Look told) (λ o. sym (visited-push visits.Look told (v, w) o)))

seen-none : (page : ℕ) (view : View) → view ≡ seen_view page [] view
seen-none page view = ap (λ (l : List Op). record view { ops = l }) (sym (edit-nothing page_of page (visited visits.Look []) view.ops (λ o. refl)))

-- What is left.

pub can-looks : (made : LooksData) (g : Geometry) (pages : List ℕ) (seen : Seen) → CanEnd (LooksFrom made g pages seen)
can-looks made g pages seen = each-can (LookAt made g) pages seen (λ all. Ends all)
    (λ v now later can. can-follow (IsAct (look_at v) g) (λ reply. later (seen_after made.0 made.1.tier v reply now)) (some-act (look_at v) g) (can (seen_after made.0 made.1.tier v (some-act (look_at v) g).outcome now)))
    (λ all. can-ends all)

-- the pattern has a list
pub some-looks : (made : LooksData) (g : Geometry) → CanEnd (IsLooks made g)
some-looks made g = can-looks made g made.1.pages nothing_seen

-- The pieces.

abbrev pub RunsLooks : LooksData → LooksPlace → (Own → Seen → Type 0) → Geometry → View → View → Type 0
RunsLooks = RunsAt (λ action g view. MayAct g view action) IsAct looks_stages

abbrev at_place : ℕ → Seen → LooksPlace
at_place v seen = record { at = Some v; seen = seen }

-- the virtual page is of the page
of-page : (made : LooksData) (v : ℕ) (seen : Seen) (g : Geometry) (view now : View) → IsLookingAt made v seen g view now → backing_page g v ≡ Some made.1.page
of-page made v seen g view now at = split-has (λ u. backing_page g u ≡ Some made.1.page) made.1.pages (map first at.told) (at_or_after (v + 1) made.1.pages) v at.split at.may.of

runs-at : (made : LooksData) (g : Geometry) (first now : View) (v : ℕ) (seen : Seen) → IsLookingAt made v seen g first now
    → (rest : List ℕ) → rest ≡ v ∷ at_or_after (v + 1) made.1.pages → RunsLooks made (at_place v seen) (LooksFrom made g rest seen) g first now
runs-at made g view now v seen at rest next = record {
  begin = record { quiet = tt; allowed = record { range = vpage-there g v made.1.page (of-page made v seen g view now at); permitted = tt } };
  known = record { is = refl; known = at };
  can = λ own end shown. can-looks made g (at_or_after (v + 1) made.1.pages) (seen_after made.0 made.1.tier v end seen);
  fits = λ own outcome f. rw next f;
}

split-next : (pages told more rest others : List ℕ) (v u : ℕ) → pages ≡ told ++ v ∷ rest → rest ≡ u ∷ others → more ≡ told ++ v ∷ [] → pages ≡ more ++ u ∷ others
split-next pages told more rest others v u split next push = rw (split, next, push) (sym (append_assoc told (v ∷ []) (u ∷ others)))

-- the first virtual page
at-first : (made : LooksData) (g : Geometry) (view : View) (v : ℕ) → MayLooks made g view → v < most_vpages → at_or_after 0 made.1.pages ≡ v ∷ at_or_after (v + 1) made.1.pages → IsLookingAt made v nothing_seen g view view
at-first made g view v may small next = record {
  may = may;
  told = [];
  split = sym (at-least-zero made.1.pages) ∙ next;
  small = small;
  below = All-nil _;
  once = tt;
  shown = refl;
  is = seen-none made.1.page view;
}

-- what was told is of one virtual page more
record HasTold (made : LooksData) (seen : Seen) (more : List (ℕ × ℕ)) (v w : ℕ) (told : List (ℕ × ℕ)) (view later : View) : Type 0 where
  pages : map first more ≡ map first told ++ v ∷ []
  once : Once first more
  shown : seen_with_word made.0 made.1.tier v w seen ≡ seen_of made.0 made.1.tier more
  is : later ≡ seen_view made.1.page more view

told-more : (made : LooksData) (g : Geometry) (view now later : View) (v w : ℕ) (seen : Seen) → (at : IsLookingAt made v seen g view now) → IsActed g now (look_at v) (Word w) later
    → HasTold made seen (at.told ++ (v, w) ∷ []) v w at.told view later
told-more made g view now later v w seen at acted = record {
  pages = map-append first at.told ((v, w) ∷ []);
  once = once_join first (v, w) at.told at.once (below-absent v at.told at.below);
  shown = seen-push made.0 made.1.tier at.told v w seen at.shown;
  is = acted.is ∙ ap (λ (x : View). after_of g x (look_at v) (Word w)) at.is ∙ seen-step made.1.page g view at.told v w (of-page made v seen g view now at);
}

-- the next one
at-next : (made : LooksData) (g : Geometry) (view now later : View) (v w u : ℕ) (seen : Seen) → IsLookingAt made v seen g view now → IsActed g now (look_at v) (Word w) later
    → u < most_vpages → at_or_after (v + 1) made.1.pages ≡ u ∷ at_or_after (u + 1) made.1.pages → IsLookingAt made u (seen_with_word made.0 made.1.tier v w seen) g view later
at-next made g view now later v w u seen at acted small next =
    let more = told-more made g view now later v w seen at acted in
    let up = first-least (v + 1) u made.1.pages (at_or_after (u + 1) made.1.pages) next in
    record {
      may = at.may;
      told = at.told ++ (v, w) ∷ [];
      split = split-next made.1.pages (map first at.told) (map first (at.told ++ (v, w) ∷ [])) (at_or_after (v + 1) made.1.pages) (at_or_after (u + 1) made.1.pages) v u at.split next more.pages;
      small = small;
      below = subst (AreBelow u) (sym more.pages) (below-push v u (map first at.told) (omega arith) at.below);
      once = more.once;
      shown = more.shown;
      is = more.is;
    }

-- after the last one
at-end : (made : LooksData) (g : Geometry) (view now later : View) (v w : ℕ) (seen : Seen) → IsLookingAt made v seen g view now → IsActed g now (look_at v) (Word w) later
    → at_or_after (v + 1) made.1.pages ≡ [] → HasLooked made view (seen_with_word made.0 made.1.tier v w seen) later
at-end made g view now later v w seen at acted none =
    let more = told-more made g view now later v w seen at acted in
    record {
      told = at.told ++ (v, w) ∷ [];
      pages = more.pages ∙ sym (at.split ∙ ap (λ (l : List ℕ). map first at.told ++ v ∷ l) none);
      once = more.once;
      shown = more.shown;
      is = more.is;
    }

-- The steps of the plan.

-- Looks give this action, where this was left
abbrev pub GivesLook : Looks → Act → (Own → Seen → Type 0) → Geometry → View → View → Type 0
GivesLook new act was g first now = IsNewRun (λ (a : Act). a.action) (λ a. Unit {0}) (λ action g view. MayAct g view action) IsAct (IsPieceAt looks_stages (looks_data new) (looks_place new)) (looks_left (looks_data new) (looks_place new)) was act g first now

abbrev place : Option ℕ → Seen → LooksPlace
place at seen = record { at = at; seen = seen }

gives-at : (given : LooksData) (new : Looks) (act : Act) (was : Own → Seen → Type 0) (g : Geometry) (first now : View) (v : ℕ) (seen : Seen)
    → looks_data new ≡ given → new.at ≡ Some v → new.seen ≡ seen → act.action ≡ look_at v → RunsLooks given (at_place v seen) was g first now → GivesLook new act was g first now
gives-at given new act was g first now v seen made-is at-is seen-is acts run =
    let there : looks_place new ≡ at_place v seen = ap (λ (o : Option ℕ). place o new.seen) at-is ∙ ap (λ (s : Seen). place (Some v) s) seen-is in
    runs-new (λ (a : Act). a.action) (λ a. Unit {0}) (λ action g view. MayAct g view action) IsAct looks_stages was given (looks_data new) (at_place v seen) (looks_place new) act g first now made-is there acts tt run

-- the first action
pub begins-looks : (given : LooksData) (new : Looks) (act : Act) (v : ℕ) (g : Geometry) (view : View)
    → looks_data new ≡ given → new.at ≡ Some v → new.seen ≡ nothing_seen → act.action ≡ look_at v → v < most_vpages → at_or_after 0 given.1.pages ≡ v ∷ at_or_after (v + 1) given.1.pages
    → MayLooks given g view → GivesLook new act (IsLooks given g) g view view
begins-looks given new act v g view made-is at-is seen-is acts small next may =
    let run = runs-at given g view view v nothing_seen (at-first given g view v may small next) given.1.pages (sym (at-least-zero given.1.pages) ∙ next) in
    gives-at given new act (IsLooks given g) g view view v nothing_seen made-is at-is seen-is acts run

-- what is known where a reply was heard
abbrev Acted : Action → Geometry → View → Reply → View → Type 0
Acted action g view reply left = IsActed g view action reply left

place-is : (old : Looks) (v : ℕ) → old.at ≡ Some v → looks_place old ≡ at_place v old.seen
place-is old v e = ap (λ (o : Option ℕ). place o old.seen) e

-- the next action
pub looks-on : (old new : Looks) (act : Act) (v w u : ℕ) (end : Reply) (g : Geometry) (first now later : View) (action : Action)
    → old.at ≡ Some v → end ≡ Word w → IsPieceAt looks_stages (looks_data old) (looks_place old) g first now action → IsActed g now action end later
    → looks_data new ≡ looks_data old → new.at ≡ Some u → new.seen ≡ seen_with_word old.geometry.now old.made.tier v w old.seen → act.action ≡ look_at u
    → u < most_vpages → at_or_after (v + 1) old.made.pages ≡ u ∷ at_or_after (u + 1) old.made.pages
    → GivesLook new act (looks_left (looks_data old) (looks_place old) g end) g first later
looks-on old new act v w u end g first now later action at-is ended known acted made-is new-at new-seen acts small next =
    let made : LooksData = looks_data old in
    let seen : Seen = seen_with_word old.geometry.now old.made.tier v w old.seen in
    by-stage looks_stages Acted (λ place reply. GivesLook new act (looks_left made place g reply) g first later) made (looks_place old) (at_place v old.seen) end (Word w) g first now later action (place-is old v at-is) ended known acted
    (λ k a.
    let run = runs-at made g first later u seen (at-next made g first now later v w u old.seen k a small next) (at_or_after (v + 1) old.made.pages) next in
    gives-at made new act (LooksFrom made g (at_or_after (v + 1) old.made.pages) seen) g first later u seen made-is new-at new-seen acts run)

abbrev IsLooksOver : LooksData → (Own → Seen → Type 0) → Geometry → View → View → Seen → Type 0
IsLooksOver made was g first later seen = IsOver was (λ g view seen left. HasLooked made view seen left) (λ g seen. Unit {0}) g first later seen

-- the end
pub looks-over : (old : Looks) (v w : ℕ) (end : Reply) (g : Geometry) (first now later : View) (action : Action) (seen : Seen)
    → old.at ≡ Some v → end ≡ Word w → IsPieceAt looks_stages (looks_data old) (looks_place old) g first now action → IsActed g now action end later
    → seen ≡ seen_with_word old.geometry.now old.made.tier v w old.seen → at_or_after (v + 1) old.made.pages ≡ []
    → IsOver (looks_left (looks_data old) (looks_place old) g end) (λ g view seen left. HasLooked (looks_data old) view seen left) (λ g seen. Unit {0}) g first later seen
looks-over old v w end g first now later action seen at-is ended known acted seen-is none =
    let made : LooksData = looks_data old in
    let last : Seen = seen_with_word old.geometry.now old.made.tier v w old.seen in
    by-stage looks_stages Acted (λ place reply. IsLooksOver made (looks_left made place g reply) g first later seen) made (looks_place old) (at_place v old.seen) end (Word w) g first now later action (place-is old v at-is) ended known acted
    (λ k a.
    let over : IsLooksOver made (LooksFrom made g [] last) g first later last = record {
      shown = ends-now last;
      left = at-end made g first now later v w old.seen k a none;
      over = tt;
    } in
    subst (λ (l : List ℕ). IsLooksOver made (LooksFrom made g l last) g first later seen) (sym none)
    (subst (λ (s : Seen). IsLooksOver made (LooksFrom made g [] last) g first later s) (sym seen-is) over))

-- What the note of a word needs.

pub looks-at : (old : Looks) (v : ℕ) (g : Geometry) (first now : View) (action : Action) → old.at ≡ Some v → IsPieceAt looks_stages (looks_data old) (looks_place old) g first now action → IsLookingAt (looks_data old) v old.seen g first now
looks-at old v g first now action at-is known = subst (λ (p : LooksPlace). looks_stages.known (looks_data old) p g first now) (place-is old v at-is) known.known

pub mapped-below : (made : LooksData) (v : ℕ) (seen : Seen) (g : Geometry) (first now : View) → IsLookingAt made v seen g first now → AreBelow v seen.mapped
mapped-below made v seen g first now at = subst (λ (s : Seen). AreBelow v s.mapped) (sym at.shown) (where-below v (λ p. is_mapped_word p.1) at.told at.below)

pub outside-below : (made : LooksData) (v : ℕ) (seen : Seen) (g : Geometry) (first now : View) → IsLookingAt made v seen g first now → AreBelow v seen.outside
outside-below made v seen g first now at = subst (λ (s : Seen). AreBelow v s.outside) (sym at.shown) (where-below v (λ p. is_outside made.0 made.1.tier p.1) at.told at.below)

-- the word's frame is there
pub look-frame : (old : Looks) (v w : ℕ) (end : Reply) (g : Geometry) (first now later : View) (action : Action)
    → old.at ≡ Some v → end ≡ Word w → IsPieceAt looks_stages (looks_data old) (looks_place old) g first now action → IsActed g now action end later
    → w ≢ 0 → IsFrame old.geometry.now (frame_of w)
look-frame old v w end g first now later action at-is ended known acted some =
    by-stage looks_stages Acted (λ place reply. IsFrame old.geometry.now (frame_of w)) (looks_data old) (looks_place old) (at_place v old.seen) end (Word w) g first now later action (place-is old v at-is) ended known acted
    (λ k a. subst (λ (h : Geometry). IsFrame h (frame_of w)) (sym k.may.same) (a.fits.told.said.table.frame some))
