-- A transaction commits.
use Rattle.std.proofs.Common.{◌≡◌, ℕ, ◌<◌, ◌≤◌, ◌^◌, Bool, true, false, List, [], ◌∷◌, All, Option, Some, None, option_map, IsSome, IsSomeAnd, IsTrue, inl, inr, refl, sym, ap, ◌∙◌, subst, arith}
use Rattle.std.specs.Option.{IfSome}
use Rattle.nm_base.specs.Geometry.{Geometry, IsGeometry, IsWritable, tier_of, frame_count}
use Rattle.nm_base.specs.Ranges.{IsFrame}
use Rattle.nm_base.specs.HomeWord.{home_word}
use Rattle.nm_base.specs.PageWord.{is_dirty, is_writable, is_saved}
use Rattle.nm_action.specs.declared.action.Action.TheVariants.{Unlock, Map, SetHome, SetShadow, Mark, Read}
use Rattle.nm_action.specs.declared.action.Cell.TheVariants as cells
use Rattle.nm_action.specs.declared.action.Reply.{Reply}
use Rattle.nm_action.specs.declared.action.Reply.TheVariants.{Done, Word, Busy, Lost}
use Rattle.nm_view.specs.declared.view.Fill.{Fill}
use Rattle.nm_view.specs.declared.view.Fill.TheVariants.{Copied, Equal}
use Rattle.nm_view.specs.declared.view.Owned.{Owned}
use Rattle.nm_view.specs.Lists.{edit, erase, first}
use Rattle.nm_view.specs.Views.{Op, View}
use Rattle.nm_view.specs.Operations.{page_of, owned_frame, op_on, fill_of, known_home, IsTaken}
use Rattle.nm_view.proofs.Finds.{find_put, absent_erase}
use Rattle.nm_view.proofs.Items.{more, none_left}
use Rattle.nm_permit.specs.Permitted.{IsHomeCommitted, HasNewHome, MaySetHome, MayRead, MayShade, MaySetShadow, IsWordNew, MayMap, MayUnlock}
use Rattle.nm_event.specs.After.{homed_at, shaded, mapped_at, read_cell, spoiled, owning, let_go}
use Rattle.nm_event.specs.Fitting.{IsReadOf}
use Rattle.nm_part.specs.Patterns.{Ends}
use Rattle.nm_part.proofs.Patterns.{can-ends}
use Rattle.nm_compose.specs.Acts.{IsActed}
use Rattle.nm_copying.proofs.Edits.{edit-twice}
use Rattle.nm_prepare.specs.Placing.{IsPlanPlaced}
use Rattle.nm_prepare.proofs.Lists.{owning-erased, some-and}
use Rattle.nm_prepare.proofs.Held.{some-of}
use Rattle.nm_mappings.proofs.Lists.{vpage-there}
use Rattle.nm_commit.specs.declared.decide.DecideMade.{DecideMade}
use Rattle.nm_commit.specs.declared.decide.Decided.TheVariants.{Committed}
use Rattle.nm_commit.specs.declared.decide.DecideStage.TheVariants.{SettingHome, Reading, Shading, Mapping, Marking, Unlocking}
use Rattle.nm_commit.specs.Deciding.{moved_word, Commits, ReadsShadowWord, Shades, Maps, Marks, UnlocksPage, IsSwapped, MayDecide, IsDecision}
use Rattle.nm_commit.specs.Stages.{decide_piece, DecideKnown, page_changed, homed, shadowed, remapped, frames_left, IsAt}
use Rattle.nm_commit.proofs.Moved.{moved-clean, or-cases}
use Rattle.nm_commit.proofs.Changed.{on-changed, some-changed, some-more, some-there, let-go-home}
use Rattle.nm_commit.proofs.Aborting.{found-one, taken-erased, mapped-view, closed-view}
use Rattle.nm_commit.proofs.Runs.{can-reads, can-shades, can-maps, can-marks, can-unlocks, decide-act, RunsDecide, done-acted}

-- The new home.

clean-taken : (v word : ℕ) → is_dirty word ≡ false → All (λ (p : ℕ × ℕ). is_dirty p.1 ≡ false) ((v, word) ∷ [])
clean-taken v word clean = let P : ℕ × ℕ → Type 0 = λ p. is_dirty p.1 ≡ false in more P (v, word) [] clean (none_left P)

home-committed : (g : Geometry) (page v word home : ℕ) (o : Op) → is_dirty word ≡ false → IsSwapped g page v word home o → IsHomeCommitted g o (Copied page g.words)
home-committed g page v word home o clean h =
    let A : List (ℕ × ℕ) → Type 0 = λ l. All (λ (p : ℕ × ℕ). is_dirty p.1 ≡ false) l in
    record {
      phase = h.phase;
      cleared = h.cleared;
      clean = record { some = λ none. let t = h.taken in cc; clean = subst A (sym h.taken) (clean-taken v word clean) };
      flushed = h.flushed;
      filled = ap (λ (p : ℕ). Copied p g.words) (sym h.page_is);
      shadow = h.shadow;
    }

may-set-home : (g : Geometry) (page v word home : ℕ) (fill : Option Fill) (o : Op) → fill ≡ Some (Copied page g.words) → is_dirty word ≡ false → IsSwapped g page v word home o → MaySetHome g fill o
may-set-home g page v word home fill o e clean h = some-and (λ known. HasNewHome g known o) fill (Copied page g.words) e (inr (inl (home-committed g page v word home o clean h)))

-- the new home is set
pub runs-setting-home : (made : DecideMade) (g : Geometry) (view : View) → MayDecide g made g view → is_dirty made.word ≡ false → RunsDecide made SettingHome (Commits g made) g view view
runs-setting-home made g view may clean =
    decide-act (IsPlanPlaced decide_piece DecideKnown g made SettingHome) (λ g. ReadsShadowWord g made) (SetHome made.page made.frame) g view view
    tt
    (record {
      range = record { page = may.page; frame = may.frame };
      permitted = some-more (IsSwapped g made.page made.vpage made.word made.home) (MaySetHome g (fill_of view made.frame)) (op_on view made.page) may.op (λ o h. may-set-home g made.page made.vpage made.word made.home (fill_of view made.frame) o may.fill clean h);
    })
    (record { geometry = refl; is = refl; holds = (record { may = may; same = refl }, clean) })
    (can-reads g made)

let-go-known : (g : Geometry) (page v word home : ℕ) (owned : List Owned) (o : Option Op) → IsSomeAnd o (IsSwapped g page v word home) → let_go page (known_home o) owned ≡ owning home (Equal page) owned
let-go-known g page v word home owned None h = absurd h
let-go-known g page v word home owned (Some o) h = ap (λ (k : Option ℕ). let_go page k owned) h.home_is ∙ let-go-home page home owned

homed-now : (made : DecideMade) (g : Geometry) (first now later : View) (reply : Reply) → IsAt made g first now first → IsActed g now (SetHome made.page made.frame) reply later → later ≡ page_changed made.page (homed made) (owning made.home (Equal made.page) (frames_left made first)) first
homed-now made g first now later reply h acted =
    let V : View → Type 0 = λ v. IsActed g v (SetHome made.page made.frame) Done later in
    let a = subst V h.same (done-acted (SetHome made.page made.frame) g now later reply acted.fits.kind acted) in
    a.is ∙ ap (λ (l : List Owned). record first { ops = edit page_of made.page (homed_at made.frame) first.ops; owned = l }) (let-go-known g made.page made.vpage made.word made.home (frames_left made first) (op_on first made.page) h.may.op)

-- after the SetHome: the shadow word of the new home is read
pub runs-reading : (made : DecideMade) (g : Geometry) (first now later : View) (reply : Reply) → IsAt made g first now first → IsActed g now (SetHome made.page made.frame) reply later → RunsDecide made Reading (ReadsShadowWord g made) g first later
runs-reading made g first now later reply h acted =
    let is = homed-now made g first now later reply h acted in
    decide-act (IsPlanPlaced decide_piece DecideKnown g made Reading) (λ g. Shades g made) (Read made.page (cells.Shadow made.frame)) g first later
    tt
    (record {
      range = record { page = h.may.page; cell = h.may.frame };
      permitted = some-changed made.page (homed made) (owning made.home (Equal made.page) (frames_left made first)) first later (IsSwapped g made.page made.vpage made.word made.home) (MayRead (cells.Shadow made.frame)) is (λ o. refl) h.may.op (λ o s. refl);
    })
    (record { geometry = refl; is = refl; holds = record { may = h.may; same = is } })
    (can-shades g made)

-- The shadow.

read-zero : (g : Geometry) (view : View) (frame word : ℕ) (o : Option Op) (made : DecideMade) → IfSome (option_map (homed made) o) (IsReadOf g view (cells.Shadow frame) word) → IsSome o → word ≡ 0
read-zero g view frame word None made h some = cc
read-zero g view frame word (Some o) made h some = h.known

read-now : (made : DecideMade) (g : Geometry) (first now later : View) (reply : Reply) → IsAt made g first now (page_changed made.page (homed made) (owning made.home (Equal made.page) (frames_left made first)) first) → IsActed g now (Read made.page (cells.Shadow made.frame)) reply later
    → later ≡ page_changed made.page (homed made) (owning made.home (Equal made.page) (frames_left made first)) first
read-now made g first now later Done h acted = absurd acted.fits.kind
read-now made g first now later (Word word) h acted =
    let owned = owning made.home (Equal made.page) (frames_left made first) in
    let S : Option Op → Type 0 = λ x. IfSome x (IsReadOf g now (cells.Shadow made.frame) word) in
    let read = subst S (on-changed made.page (homed made) owned first now h.same (λ o. refl)) acted.fits.told.said in
    let none : word ≡ 0 = read-zero g now made.frame word (op_on first made.page) made read (some-there (IsSwapped g made.page made.vpage made.word made.home) (op_on first made.page) h.may.op) in
    acted.is
    ∙ (ap (λ (v : View). record v { ops = edit page_of made.page (read_cell (cells.Shadow made.frame) word) v.ops }) h.same
    ∙ (ap (λ (l : List Op). record first { ops = l; owned = owned }) (edit-twice page_of made.page (homed made) (read_cell (cells.Shadow made.frame) word) first.ops (λ o. refl))
    ∙ ap (λ (n : ℕ). record first { ops = edit page_of made.page (λ o. read_cell (cells.Shadow made.frame) n (homed made o)) first.ops; owned = owned }) none))
read-now made g first now later (Busy word) h acted = absurd acted.fits.kind
read-now made g first now later (Lost word) h acted = absurd acted.fits.kind

home-fill : (made : DecideMade) (g : Geometry) (first now : View) → IsAt made g first now (page_changed made.page (homed made) (owning made.home (Equal made.page) (frames_left made first)) first) → fill_of now made.home ≡ Some (Equal made.page)
home-fill made g first now h =
    ap (λ (v : View). fill_of v made.home) h.same ∙ ap (option_map (λ (w : Owned). w.fill)) (find_put owned_frame (record { frame = made.home; fill = Equal made.page }) (frames_left made first))

may-shade : (made : DecideMade) (g : Geometry) (now : View) (o : Op) → fill_of now made.home ≡ Some (Equal made.page) → tier_of g made.frame < tier_of g made.home → IsSwapped g made.page made.vpage made.word made.home o → MayShade g now made.frame made.home (homed made o)
may-shade made g now o fill faster h = record {
  home = refl;
  moved = refl;
  cleared = h.cleared;
  none = refl;
  slower = faster;
  fill = fill ∙ ap (λ (p : ℕ). Some (Equal p)) (sym h.page_is);
}

-- after the Read: the old home becomes the shadow
pub runs-shading : (made : DecideMade) (g : Geometry) (first now later : View) (reply : Reply) → IsAt made g first now (page_changed made.page (homed made) (owning made.home (Equal made.page) (frames_left made first)) first) → IsActed g now (Read made.page (cells.Shadow made.frame)) reply later
    → RunsDecide made Shading (Shades g made) g first later
runs-shading made g first now later reply h acted =
    let is = read-now made g first now later reply h acted in
    let at : IsAt made g first later (page_changed made.page (homed made) (owning made.home (Equal made.page) (frames_left made first)) first) = record { may = h.may; same = is } in
    decide-act (IsPlanPlaced decide_piece DecideKnown g made Shading) (λ g. Maps g made) (SetShadow made.page made.frame (Some made.home)) g first later
    tt
    (record {
      range = record { page = h.may.page; master = h.may.frame; shadow = h.may.home };
      permitted = some-changed made.page (homed made) (owning made.home (Equal made.page) (frames_left made first)) first later (IsSwapped g made.page made.vpage made.word made.home) (MaySetShadow g later made.frame (Some made.home)) is (λ o. refl) h.may.op
          (λ o s. may-shade made g later o (home-fill made g first later at) h.may.faster s);
    })
    (record { geometry = refl; is = refl; holds = at })
    (can-maps g made)

shaded-now : (made : DecideMade) (g : Geometry) (first now later : View) (reply : Reply) → IsAt made g first now (page_changed made.page (homed made) (owning made.home (Equal made.page) (frames_left made first)) first) → IsActed g now (SetShadow made.page made.frame (Some made.home)) reply later
    → later ≡ page_changed made.page (shadowed made) (frames_left made first) first
shaded-now made g first now later reply h acted =
    let a = done-acted (SetShadow made.page made.frame (Some made.home)) g now later reply acted.fits.kind acted in
    let owned = owning made.home (Equal made.page) (frames_left made first) in
    a.is
    ∙ (ap (λ (v : View). record v { ops = edit page_of made.page (shaded made.page (Some made.home)) v.ops; owned = erase owned_frame made.home v.owned }) h.same
    ∙ (ap (λ (l : List Op). record first { ops = l; owned = erase owned_frame made.home owned }) (edit-twice page_of made.page (homed made) (shaded made.page (Some made.home)) first.ops (λ o. refl))
    ∙ ap (λ (l : List Owned). record first { ops = edit page_of made.page (shadowed made) first.ops; owned = l })
    (owning-erased made.home (Equal made.page) (frames_left made first) (absent_erase owned_frame made.frame made.home first.owned h.may.unowned))))

-- The table word.

narrow-frame : (g : Geometry) (frame : ℕ) → IsGeometry g → IsFrame g frame → frame < 2 ^ 32
narrow-frame g frame geometry range = let most : frame_count g ≤ 4096 = geometry.ranges.1.3 in let r : frame < frame_count g = range in omega arith

not-true : (P : Type 0) (b : Bool) → b ≡ false → IsTrue b → P
not-true P b e h = cc

taken-there : (v word : ℕ) (taken : List (ℕ × ℕ)) → taken ≡ (v, word) ∷ [] → IsTaken taken v
taken-there v word taken e = let S : List (ℕ × ℕ) → Type 0 = λ l. IsTaken l v in let O : Option (ℕ × ℕ) → Type 0 = λ o. IsSome o in subst S (sym e) (subst O (sym (found-one v word)) refl)

word-new : (made : DecideMade) (g : Geometry) (view : View) (o : Op) → MayDecide g made g view → IsSwapped g made.page made.vpage made.word made.home o → IsWordNew g made.vpage (moved_word g made.frame made.word) (shadowed made o)
word-new made g view o may h =
    let word = moved_word g made.frame made.word in
    let c = moved-clean g made.frame made.word (narrow-frame g made.frame may.geometry may.frame) in
    let T : Bool → Type 0 = λ b. IsTrue b in
    record {
      present = c.present;
      home = ap (λ (f : ℕ). Some (home_word f)) (sym c.frame_is);
      vacant = inl (record { taken = taken-there made.vpage made.word o.taken h.taken; moved = refl });
      writable = λ t. not-true (IsWritable g made.vpage) (is_writable word) c.unwritable t;
      unshadowed = λ t. not-true _ (is_writable word) c.unwritable t;
      saved = λ t. or-cases (IsWritable g made.vpage) (is_writable made.word) (is_saved made.word) (subst T c.saved_is t) may.writable may.saved;
      dirty = λ t. not-true (IsTaken o.taken made.vpage) (is_dirty word) c.clean t;
    }

true-false : {A : Type 0} → true ≡ false → A
true-false e = cc

may-map-new : (made : DecideMade) (g : Geometry) (view : View) (o : Op) → MayDecide g made g view → IsSwapped g made.page made.vpage made.word made.home o → MayMap g made.vpage (moved_word g made.frame made.word) (shadowed made o)
may-map-new made g view o may h = record {
  phase = λ e. let t = h.phase in cc;
  flushed = record { made = h.flushed.made; seen = h.flushed.seen };
  fits = inr (word-new made g view o may h);
  back = λ cleared unmoved. true-false unmoved;
  dirty = λ cleared unmoved. true-false unmoved;
}

-- after the SetShadow: v is mapped
pub runs-mapping : (made : DecideMade) (g : Geometry) (first now later : View) (reply : Reply) → IsAt made g first now (page_changed made.page (homed made) (owning made.home (Equal made.page) (frames_left made first)) first) → IsActed g now (SetShadow made.page made.frame (Some made.home)) reply later
    → RunsDecide made Mapping (Maps g made) g first later
runs-mapping made g first now later reply h acted =
    let is = shaded-now made g first now later reply h acted in
    let word = moved_word g made.frame made.word in
    decide-act (IsPlanPlaced decide_piece DecideKnown g made Mapping) (λ g. Marks g made) (Map made.vpage word) g first later
    tt
    (record {
      range = vpage-there g made.vpage made.page h.may.backing;
      permitted = some-of g made.page made.vpage later (MayMap g made.vpage word) h.may.backing
          (some-changed made.page (shadowed made) (frames_left made first) first later (IsSwapped g made.page made.vpage made.word made.home) (MayMap g made.vpage word) is (λ o. refl) h.may.op (λ o s. may-map-new made g first o h.may s));
    })
    (record { geometry = refl; is = refl; holds = record { may = h.may; same = is } })
    (can-marks g made)

mapped-now : (made : DecideMade) (g : Geometry) (first now later : View) (reply : Reply) → IsAt made g first now (page_changed made.page (shadowed made) (frames_left made first) first) → IsActed g now (Map made.vpage (moved_word g made.frame made.word)) reply later
    → later ≡ page_changed made.page (remapped g made) (spoiled made.page (frames_left made first)) first
mapped-now made g first now later reply h acted =
    let word = moved_word g made.frame made.word in
    let V : View → Type 0 = λ v. IsActed g v (Map made.vpage word) Done later in
    let a = subst V h.same (done-acted (Map made.vpage word) g now later reply acted.fits.kind acted) in
    a.is
    ∙ (mapped-view g made.page made.vpage word (page_changed made.page (shadowed made) (frames_left made first) first) h.may.backing
    ∙ ap (λ (l : List Op). record first { ops = l; owned = spoiled made.page (frames_left made first) }) (edit-twice page_of made.page (shadowed made) (mapped_at made.vpage word) first.ops (λ o. refl)))

-- after the Map: the page is pending no more
pub runs-marking : (made : DecideMade) (g : Geometry) (first now later : View) (reply : Reply) → IsAt made g first now (page_changed made.page (shadowed made) (frames_left made first) first) → IsActed g now (Map made.vpage (moved_word g made.frame made.word)) reply later
    → RunsDecide made Marking (Marks g made) g first later
runs-marking made g first now later reply h acted =
    let is = mapped-now made g first now later reply h acted in
    decide-act (IsPlanPlaced decide_piece DecideKnown g made Marking) (λ g. UnlocksPage g made) (Mark made.page 2 0) g first later
    tt
    (record {
      range = h.may.page;
      permitted = inr (record {
        pending = refl;
        none = refl;
        op = some-there (λ o. Unit {0}) (op_on later made.page)
            (some-changed made.page (remapped g made) (spoiled made.page (frames_left made first)) first later (IsSwapped g made.page made.vpage made.word made.home) (λ o. Unit {0}) is (λ o. refl) h.may.op (λ o s. tt));
      });
    })
    (record { geometry = refl; is = refl; holds = record { may = h.may; same = is } })
    (can-unlocks g made)

may-unlock-new : (made : DecideMade) (g : Geometry) (o : Op) → IsSwapped g made.page made.vpage made.word made.home o → MayUnlock g (remapped g made o)
may-unlock-new made g o h = record {
  back = taken-erased made.vpage made.word o.taken h.taken;
  flushed = record { made = h.flushed.made; seen = h.flushed.seen };
  phase = λ e. let t = h.phase in cc;
}

-- after the Mark: the page is unlocked
pub runs-unlocking : (made : DecideMade) (g : Geometry) (first now later : View) (reply : Reply) → IsAt made g first now (page_changed made.page (remapped g made) (spoiled made.page (frames_left made first)) first) → IsActed g now (Mark made.page 2 0) reply later
    → RunsDecide made Unlocking (UnlocksPage g made) g first later
runs-unlocking made g first now later reply h acted =
    let is : later ≡ page_changed made.page (remapped g made) (spoiled made.page (frames_left made first)) first = acted.is ∙ h.same in
    decide-act (IsPlanPlaced decide_piece DecideKnown g made Unlocking) (λ g. Ends Committed) (Unlock made.page) g first later
    tt
    (record {
      range = h.may.page;
      permitted = some-changed made.page (remapped g made) (spoiled made.page (frames_left made first)) first later (IsSwapped g made.page made.vpage made.word made.home) (MayUnlock g) is (λ o. refl) h.may.op (λ o s. may-unlock-new made g o s);
    })
    (record { geometry = refl; is = refl; holds = record { may = h.may; same = is } })
    (can-ends Committed)

-- after the Unlock
pub committed-left : (made : DecideMade) (g : Geometry) (first now later : View) (reply : Reply) → IsAt made g first now (page_changed made.page (remapped g made) (spoiled made.page (frames_left made first)) first) → IsActed g now (Unlock made.page) reply later → IsDecision made first later
committed-left made g first now later reply h acted =
    let a = done-acted (Unlock made.page) g now later reply acted.fits.kind acted in
    record { scan = first.scan; is = a.is ∙ closed-view made.page (remapped g made) (frames_left made first) first now h.same (λ o. refl) }
