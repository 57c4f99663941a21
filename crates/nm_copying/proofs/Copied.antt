-- The steps of a copy.
use Rattle.std.proofs.Common.{◌≡◌, ℕ, zero, suc, ◌+◌, ◌-◌, ◌<◌, ◌≤◌, List, Option, Some, None, option_map, IsSomeAnd, refl, sym, ap, ◌∙◌, subst, arith}
use Rattle.std.specs.List.{range_with_len}
use Rattle.nm_base.specs.Geometry.{Geometry, IsGeometry}
use Rattle.nm_base.proofs.Pages.{page_size}
use Rattle.nm_action.specs.declared.action.Action.{Action}
use Rattle.nm_action.specs.declared.action.Action.TheVariants.{CopyLoad, CopyStore}
use Rattle.nm_action.specs.declared.action.Reply.{Reply}
use Rattle.nm_action.specs.declared.action.Reply.TheVariants.{Done, Word, Busy, Lost}
use Rattle.nm_action.specs.Own.{Own}
use Rattle.nm_view.specs.declared.view.Phase.{Phase}
use Rattle.nm_view.specs.declared.view.Phase.TheVariants.{Held, Cleared, Taken}
use Rattle.nm_view.specs.declared.view.Fill.{Fill}
use Rattle.nm_view.specs.declared.view.Fill.TheVariants.{Raw, Copied}
use Rattle.nm_view.specs.declared.view.Owned.{Owned}
use Rattle.nm_view.specs.Lists.{find, edit}
use Rattle.nm_view.specs.Views.{Op, View}
use Rattle.nm_view.specs.Operations.{page_of, owned_frame, op_on, fill_of}
use Rattle.nm_view.proofs.Finds.{find_edit}
use Rattle.nm_permit.specs.Permitted.{IsCopyingPhase, IsCopiedTo, IsLoaded, MayCopyLoad, Allowed}
use Rattle.nm_event.specs.After.{filled}
use Rattle.nm_part.specs.Patterns.{Ends, Follows, CanEnd}
use Rattle.nm_part.proofs.Patterns.{ends-now, can-ends, can-follow, each-can}
use Rattle.nm_compose.specs.Acts.{MayAct, IsAct, IsActed}
use Rattle.nm_compose.specs.Plans.{IsNewRun, IsOver}
use Rattle.nm_compose.specs.Stages.{IsPieceAt, RunsAt}
use Rattle.nm_compose.specs.declared.act.Act.{Act}
use Rattle.nm_compose.proofs.Acting.{some-act}
use Rattle.nm_compose.proofs.Staging.{by-stage, runs-new}
use Rattle.nm_copying.specs.declared.copies.Copies.{Copies}
use Rattle.nm_copying.specs.declared.copies.Stage.{Stage}
use Rattle.nm_copying.specs.declared.copies.Stage.TheVariants.{Loading, Storing}
use Rattle.nm_copying.specs.declared.copies.CopiesMade.{CopiesMade}
use Rattle.nm_copying.specs.Copying.{told, CopyOf, CopiesFrom, IsCopying, copied_to, copied_fill, copying, MayCopyPage, MayCopies, IsCopied, copies_action, copies_left, IsAtLoad, IsAtStore, copies_stages}
use Rattle.nm_copying.proofs.Edits.{edit-twice, edit-same, range-next, range-none}

-- The operation on the page, and the frame.

-- the operation, with so many words copied and this one loaded
on-page : (made : CopiesMade) (count : ℕ) (last : Option ℕ) (view : View) → op_on (copying made count last view) made.page ≡ option_map (copied_to count last) (op_on view made.page)
on-page made count last view = find_edit page_of made.page (copied_to count last) view.ops (λ o. refl)

filled-map : (fill : Fill) (o : Option Owned) (old : Fill) → option_map (λ (w : Owned). w.fill) o ≡ Some old → option_map (λ (w : Owned). w.fill) (option_map (filled fill) o) ≡ Some fill
filled-map fill None old e = cc
filled-map fill (Some w) old e = refl

-- the fill of an owned frame that was given a fill
pub fill-after : (frame : ℕ) (fill : Fill) (owned : List Owned) → option_map (λ (w : Owned). w.fill) (find owned_frame frame owned) ≡ Some Raw → option_map (λ (w : Owned). w.fill) (find owned_frame frame (edit owned_frame frame (filled fill) owned)) ≡ Some fill
fill-after frame fill owned raw =
    let F : Option Owned → Type 0 = λ o. option_map (λ (w : Owned). w.fill) o ≡ Some fill in
    subst F (sym (find_edit owned_frame frame (filled fill) owned (λ w. refl))) (filled-map fill (find owned_frame frame owned) Raw raw)

on-frame : (made : CopiesMade) (count : ℕ) (last : Option ℕ) (view : View) → fill_of view made.frame ≡ Some Raw → fill_of (copying made count last view) made.frame ≡ Some (copied_fill made.page count)
on-frame made count last view raw = fill-after made.frame (copied_fill made.page count) view.owned raw

copying-phase : (g : Geometry) (o : Op) (count : ℕ) (last : Option ℕ) (phase : Phase) → IsCopyingPhase g o phase → IsCopyingPhase g (copied_to count last o) phase
copying-phase g o count last Held h = h
copying-phase g o count last Cleared h = tt
copying-phase g o count last Taken h = record {
  unmapped = record { phase = h.unmapped.phase; taken = h.unmapped.taken; over = h.unmapped.over; flushed = record { made = h.unmapped.flushed.made; seen = h.unmapped.flushed.seen } };
  unmoved = h.unmoved;
}

may-load : (g : Geometry) (index : ℕ) (last : Option ℕ) (o : Option Op) → IsSomeAnd o (MayCopyPage g) → IsSomeAnd (option_map (copied_to index last) o) (MayCopyLoad g index)
may-load g index last None h = h
may-load g index last (Some o) h = record {
  home = h.home;
  next = refl;
  flushed = record { made = h.flushed.made; seen = h.flushed.seen };
  phase = copying-phase g o index last o.phase h.phase;
}

is-loaded : (g : Geometry) (index word : ℕ) (o : Option Op) → IsSomeAnd o (MayCopyPage g) → IsSomeAnd (option_map (copied_to index (Some word)) o) (IsLoaded index word)
is-loaded g index word None h = h
is-loaded g index word (Some o) h = record { next = refl; last = refl }

filled-to : (page count : ℕ) → IsCopiedTo page count (copied_fill page count)
filled-to page zero = refl
filled-to page (suc n) = record { page_is = refl; count_is = refl }

-- What is permitted.

load-allowed : (made : CopiesMade) (g : Geometry) (first now : View) (index : ℕ) → IsAtLoad made index g first now → Allowed g now (CopyLoad made.page index)
load-allowed made g first now index at =
    let M : Option Op → Type 0 = λ o. IsSomeAnd o (MayCopyLoad g index) in
    record {
      range = record { page = at.may.page; index = subst (λ (n : ℕ). index < n) at.may.words at.within };
      permitted = rw at.is (subst M (sym (on-page made index None first)) (may-load g index None (op_on first made.page) at.may.op));
    }

store-allowed : (made : CopiesMade) (g : Geometry) (first now : View) (index word : ℕ) → IsAtStore made index word g first now → Allowed g now (CopyStore (Some made.page) made.frame index word)
store-allowed made g first now index word at =
    let L : Option Op → Type 0 = λ o. IsSomeAnd o (IsLoaded index word) in
    let F : Option Fill → Type 0 = λ o. IsSomeAnd o (IsCopiedTo made.page index) in
    record {
      range = record { page = at.may.page; frame = at.may.frame; index = subst (λ (n : ℕ). index < n) at.may.words at.within; value = at.bits };
      permitted = rw at.is (record {
        fill = subst F (sym (on-frame made index (Some word) first at.may.fill)) (filled-to made.page index);
        loaded = subst L (sym (on-page made index (Some word) first)) (is-loaded g index word (op_on first made.page) at.may.op);
      });
    }

-- The views.

same-op : (g : Geometry) (o : Op) → MayCopyPage g o → copied_to 0 None o ≡ o
same-op g o h = rw (sym h.none, sym h.last) refl

same-ops : (g : Geometry) (page : ℕ) (ops : List Op) (o : Option Op) → find page_of page ops ≡ o → IsSomeAnd o (MayCopyPage g) → edit page_of page (copied_to 0 None) ops ≡ ops
same-ops g page ops None e h = absurd h
same-ops g page ops (Some o) e h = edit-same page_of page (copied_to 0 None) o ops e (same-op g o h)

pub same-owned : (frame : ℕ) (owned : List Owned) (w : Option Owned) → find owned_frame frame owned ≡ w → option_map (λ (w : Owned). w.fill) w ≡ Some Raw → edit owned_frame frame (filled Raw) owned ≡ owned
same-owned frame owned None e raw = cc
same-owned frame owned (Some w) e raw =
    let f : w.fill ≡ Raw = cc in
    let same : filled Raw w ≡ w = ap (λ (x : Fill). record w { fill = x }) (sym f) in
    edit-same owned_frame frame (filled Raw) w owned e same

-- no word is copied
at-first : (made : CopiesMade) (g : Geometry) (view : View) → MayCopies made g view → view ≡ copying made 0 None view
at-first made g view may =
    let ops = same-ops g made.page view.ops (op_on view made.page) refl may.op in
    let owned = same-owned made.frame view.owned (find owned_frame made.frame view.owned) refl may.fill in
    rw (ops, owned) refl

-- a word was loaded
after-loaded : (made : CopiesMade) (g : Geometry) (first now later : View) (index word : ℕ) → IsAtLoad made index g first now → IsActed g now (CopyLoad made.page index) (Word word) later → IsAtStore made index word g first later
after-loaded made g first now later index word at acted = record {
  may = at.may;
  within = at.within;
  bits = acted.fits.told.bits;
  is = acted.is ∙ rw (at.is, edit-twice page_of made.page (copied_to index None) (λ o. record o { last = Some word }) first.ops (λ o. refl)) refl;
}

-- it was stored
after-stored : (made : CopiesMade) (g : Geometry) (first now later : View) (index word : ℕ) → IsAtStore made index word g first now → IsActed g now (CopyStore (Some made.page) made.frame index word) Done later
    → later ≡ copying made (index + 1) None first
after-stored made g first now later index word at acted =
    let n : index + 1 ≡ suc index = omega arith in
    acted.is ∙ rw (at.is, edit-twice page_of made.page (copied_to index (Some word)) (λ o. record o { copied = o.copied + 1; last = None }) first.ops (λ o. refl), edit-twice owned_frame made.frame (filled (copied_fill made.page index)) (filled (Copied made.page (index + 1))) first.owned (λ w. refl), n) refl

-- What is left.

can-copy : (made : CopiesMade) (g : Geometry) (index : ℕ) (kept : Unit {0}) (later : Unit {0} → Own → Unit {0} → Type 0) → ((next : Unit {0}) → CanEnd (later next)) → CanEnd (CopyOf made g index kept later)
can-copy made g index kept later can =
    can-follow (IsAct (CopyLoad made.page index) g) (λ reply. Follows (IsAct (CopyStore (Some made.page) made.frame index (told reply)) g) (λ stored. later kept)) (some-act (CopyLoad made.page index) g)
    (can-follow (IsAct (CopyStore (Some made.page) made.frame index (told (some-act (CopyLoad made.page index) g).outcome)) g) (λ stored. later kept) (some-act (CopyStore (Some made.page) made.frame index (told (some-act (CopyLoad made.page index) g).outcome)) g) (can kept))

can-from : (made : CopiesMade) (g : Geometry) (index : ℕ) → CanEnd (CopiesFrom made g index)
can-from made g index = each-can (CopyOf made g) (range_with_len index (made.words - index)) tt (λ kept. Ends tt) (λ item now later can. can-copy made g item now later can) (λ end. can-ends end)

can-store : (made : CopiesMade) (g : Geometry) (index word : ℕ) → CanEnd (Follows (IsAct (CopyStore (Some made.page) made.frame index word) g) (λ stored. CopiesFrom made g (index + 1)))
can-store made g index word = can-follow (IsAct (CopyStore (Some made.page) made.frame index word) g) (λ stored. CopiesFrom made g (index + 1)) (some-act (CopyStore (Some made.page) made.frame index word) g) (can-from made g (index + 1))

-- the pattern has a list
pub some-copies : (made : CopiesMade) (g : Geometry) → CanEnd (IsCopying made g)
some-copies made g = can-from made g 0

-- The pieces.

abbrev pub RunsCopies : CopiesMade → Stage → (Own → Unit {0} → Type 0) → Geometry → View → View → Type 0
RunsCopies = RunsAt (λ action g view. MayAct g view action) IsAct copies_stages

runs-load : (made : CopiesMade) (g : Geometry) (first now : View) (index : ℕ) → IsAtLoad made index g first now → RunsCopies made (Loading index) (CopiesFrom made g index) g first now
runs-load made g first now index at = record {
  begin = record { quiet = tt; allowed = load-allowed made g first now index at };
  known = record { is = refl; known = at };
  can = λ own end shown. can-store made g index (told end);
  fits = λ own outcome f. rw (range-next index made.words at.within) f;
}

runs-store : (made : CopiesMade) (g : Geometry) (first now : View) (index word : ℕ) → IsAtStore made index word g first now
    → RunsCopies made (Storing index word) (Follows (IsAct (CopyStore (Some made.page) made.frame index word) g) (λ stored. CopiesFrom made g (index + 1))) g first now
runs-store made g first now index word at = record {
  begin = record { quiet = tt; allowed = store-allowed made g first now index word at };
  known = record { is = refl; known = at };
  can = λ own end shown. can-from made g (index + 1);
  fits = λ own outcome f. f;
}

-- a page has a word
pub some-words : (g : Geometry) → IsGeometry g → 0 < g.words
some-words g h = let s = page_size g.words h.ranges.0 in omega arith

-- the first Load
pub runs-first : (made : CopiesMade) (g : Geometry) (view : View) → MayCopies made g view → RunsCopies made (Loading 0) (IsCopying made g) g view view
runs-first made g view may = runs-load made g view view 0 (record { may = may; within = rw may.words (some-words g may.geometry); is = at-first made g view may })

-- the copy gives this action, where this was left
abbrev pub GivesCopy : Copies → Act → (Own → Unit {0} → Type 0) → Geometry → View → View → Type 0
GivesCopy new act was g first now = IsNewRun (λ (a : Act). a.action) (λ a. Unit {0}) (λ action g view. MayAct g view action) IsAct (IsPieceAt copies_stages new.made new.stage) (copies_left new.made new.stage) was act g first now

-- as it comes to a stage
pub copy-now : (old new : Copies) (stage : Stage) (act : Act) (was : Own → Unit {0} → Type 0) (g : Geometry) (first now : View)
    → new ≡ record old { stage = stage } → act.action ≡ copies_action old.made stage → RunsCopies old.made stage was g first now → GivesCopy new act was g first now
copy-now old new stage act was g first now is acts run =
    runs-new (λ (a : Act). a.action) (λ a. Unit {0}) (λ action g view. MayAct g view action) IsAct copies_stages was old.made new.made stage new.stage act g first now
    (ap (λ (s : Copies). s.made) is) (ap (λ (s : Copies). s.stage) is) acts tt run

-- The steps, each at its stage.

abbrev Acted : Action → Geometry → View → Reply → View → Type 0
Acted action g view reply left = IsActed g view action reply left

-- a word was loaded: it is stored
pub after-load : (old new : Copies) (act : Act) (index word : ℕ) (end : Reply) (g : Geometry) (first now later : View) (action : Action)
    → old.stage ≡ Loading index → end ≡ Word word → IsPieceAt copies_stages old.made old.stage g first now action → IsActed g now action end later
    → new ≡ record old { stage = Storing index word } → act.action ≡ copies_action old.made (Storing index word)
    → GivesCopy new act (copies_left old.made old.stage g end) g first later
after-load old new act index word end g first now later action at ended known acted is acts =
    by-stage copies_stages Acted (λ stage reply. GivesCopy new act (copies_left old.made stage g reply) g first later) old.made old.stage (Loading index) end (Word word) g first now later action at ended known acted
    (λ k a. copy-now old new (Storing index word) act (copies_left old.made (Loading index) g (Word word)) g first later is acts (runs-store old.made g first later index word (after-loaded old.made g first now later index word k a)))

store-done : (made : CopiesMade) (g : Geometry) (first now later : View) (index word : ℕ) (reply : Reply) → IsAtStore made index word g first now → IsActed g now (CopyStore (Some made.page) made.frame index word) reply later
    → later ≡ copying made (index + 1) None first
store-done made g first now later index word Done at acted = after-stored made g first now later index word at acted
store-done made g first now later index word (Word w) at acted = absurd acted.fits.kind
store-done made g first now later index word (Busy w) at acted = absurd acted.fits.kind
store-done made g first now later index word (Lost w) at acted = absurd acted.fits.kind

-- a word was stored, and there is another
pub after-store : (old new : Copies) (act : Act) (index word : ℕ) (end : Reply) (g : Geometry) (first now later : View) (action : Action)
    → old.stage ≡ Storing index word → index + 1 < old.made.words → IsPieceAt copies_stages old.made old.stage g first now action → IsActed g now action end later
    → new ≡ record old { stage = Loading (index + 1) } → act.action ≡ copies_action old.made (Loading (index + 1))
    → GivesCopy new act (copies_left old.made old.stage g end) g first later
after-store old new act index word end g first now later action at more known acted is acts =
    by-stage copies_stages Acted (λ stage reply. GivesCopy new act (copies_left old.made stage g reply) g first later) old.made old.stage (Storing index word) end end g first now later action at refl known acted
    (λ k a. copy-now old new (Loading (index + 1)) act (CopiesFrom old.made g (index + 1)) g first later is acts
    (runs-load old.made g first later (index + 1) (record { may = k.may; within = more; is = store-done old.made g first now later index word end k a })))

-- the last word was stored
pub after-last : (old : Copies) (index word : ℕ) (end : Reply) (g : Geometry) (first now later : View) (action : Action)
    → old.stage ≡ Storing index word → old.made.words ≤ index + 1 → IsPieceAt copies_stages old.made old.stage g first now action → IsActed g now action end later
    → IsOver (copies_left old.made old.stage g end) (λ g view end left. IsCopied old.made view left) (λ g end. Unit {0}) g first later tt
after-last old index word end g first now later action at none known acted =
    by-stage copies_stages Acted (λ stage reply. IsOver (copies_left old.made stage g reply) (λ g view end left. IsCopied old.made view left) (λ g end. Unit {0}) g first later tt) old.made old.stage (Storing index word) end end g first now later action at refl known acted
    (λ k a. let all : index + 1 ≡ old.made.words = omega (arith, k.within, none) in
    record { shown = rw (range-none (index + 1) old.made.words none) (ends-now tt); left = record { is = rw (sym all) (store-done old.made g first now later index word end k a) }; over = tt })
