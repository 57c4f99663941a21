-- The views along the visit of a page.
use Rattle.std.proofs.Common.{◌≡◌, ◌≢◌, ℕ, ◌≤◌, ◌==◌, ◌⊎◌, inl, inr, if◌then◌else◌, Bool, true, false, List, [], ◌∷◌, ◌++◌, map, Option, Some, None, IsSome, IsSomeAnd, IfSome, option_map, refl, sym, ap, ◌∙◌, subst, arith}
use Rattle.nm_base.specs.Geometry.{Geometry, frame_count}
use Rattle.nm_base.specs.Ranges.{IsFrame}
use Rattle.nm_base.specs.HomeWord.{home_word}
use Rattle.nm_base.specs.ShadowWord.{shadow_frame}
use Rattle.nm_base.proofs.ShadowWords.{shadow_frame-NamesShadow}
use Rattle.nm_action.specs.declared.action.Action.TheVariants.{Lock, Unlock, Read, SetShadow}
use Rattle.nm_action.specs.declared.action.Cell.TheVariants.{Home, Shadow}
use Rattle.nm_action.specs.declared.action.Reply.TheVariants.{Done, Word, Busy}
use Rattle.nm_view.specs.declared.view.Fill.{Fill}
use Rattle.nm_view.specs.declared.view.Fill.TheVariants.{Raw, Zeroed, Copied, Equal}
use Rattle.nm_view.specs.declared.view.Owned.{Owned}
use Rattle.nm_view.specs.Lists.{find, edit, erase}
use Rattle.nm_view.specs.Opening.{opened, unscanned}
use Rattle.nm_view.specs.Operations.{page_of, owned_frame, op_on}
use Rattle.nm_view.specs.Views.{Op, View}
use Rattle.nm_view.proofs.Finds.{find_join, find_map}
use Rattle.nm_permit.specs.Permitted.{MayUnlock}
use Rattle.nm_event.specs.After.{filled, spoiled, spoiled_fill, spoiled_frame, read_cell, shaded, shading, unshaded, unshading, owning, unshaded_fill, is_quiet}
use Rattle.nm_event.specs.Fitting.{IsNewsOfShadow, IsHomeRead, IsShadowRead}
use Rattle.nm_compose.specs.Acts.{IsActed}
use Rattle.nm_reclaim.specs.Reclaims.{is_skipped}
use Rattle.nm_reclaim.specs.Swept.{IsOfOther, IsForgotten, IsSwept}
use Rattle.nm_reclaim.specs.Sweeping.{SweptMade, IsAtPage, IsBetween, HasPageLocked, IsLocked, IsSweepReadingHome, IsReadingShadow, IsDiscarding, HasShadow, IsFreeing, IsSweepPuttingBack}
use Rattle.nm_reclaim.proofs.Lasts.{edit_last, erase_last, put_last}
use Rattle.nm_reclaim.proofs.Pages.{alone-fresh}

-- Frames.

same-map : (owned : List Owned) → owned ≡ map (λ w. filled w.fill w) owned
same-map [] = refl
same-map (w ∷ owned) = ap (λ (ws : List Owned). w ∷ ws) (same-map owned)

-- nothing is forgotten
pub forgets-none : (skip : Option ℕ) (owned : List Owned) → IsForgotten skip owned owned
forgets-none skip owned = record {
  change = λ fill. fill;
  may = record { each = λ fill. inl refl };
  is = same-map owned;
}

not-skipped : (skip : Option ℕ) (page : ℕ) → is_skipped skip page ≡ false → skip ≢ Some page
not-skipped None page other e = cc e
not-skipped (Some s) page other e = grind arith

spoils-at : (skip : Option ℕ) (page b : ℕ) (test : Bool) (fill : Fill) → is_skipped skip page ≡ false → (b == page) ≡ test → (skip ≢ Some b → IsOfOther skip fill)
    → (if test then Raw else fill) ≡ fill ⊎ (((if test then Raw else fill) ≡ Raw) × IsOfOther skip fill)
spoils-at skip page b true fill other is of =
    let same : b ≡ page = grind arith in
    inr (refl, of (rw same (not-skipped skip page other)))
spoils-at skip page b false fill other is of = inl refl

-- what is known by a page that is not skipped may be forgotten
spoils : (skip : Option ℕ) (page : ℕ) (fill : Fill) → is_skipped skip page ≡ false → (spoiled_fill page fill ≡ fill) ⊎ ((spoiled_fill page fill ≡ Raw) × IsOfOther skip fill)
spoils skip page Raw other = inl refl
spoils skip page (Zeroed n) other = inl refl
spoils skip page (Copied b n) other = spoils-at skip page b (b == page) (Copied b n) other refl (λ n. n)
spoils skip page (Equal b) other = spoils-at skip page b (b == page) (Equal b) other refl (λ n. n)

forgets-twice : (skip : Option ℕ) (page : ℕ) (change : Fill → Fill) (fill : Fill) → is_skipped skip page ≡ false
    → (change fill ≡ fill) ⊎ ((change fill ≡ Raw) × IsOfOther skip fill) → (spoiled_fill page (change fill) ≡ fill) ⊎ ((spoiled_fill page (change fill) ≡ Raw) × IsOfOther skip fill)
forgets-twice skip page change fill other (inl same) = rw same (spoils skip page fill other)
forgets-twice skip page change fill other (inr lost) = rw lost.0 (inr (refl, lost.1))

map-twice : (page : ℕ) (change : Fill → Fill) (owned : List Owned) → spoiled page (map (λ w. filled (change w.fill) w) owned) ≡ map (λ w. filled (spoiled_fill page (change w.fill)) w) owned
map-twice page change [] = refl
map-twice page change (w ∷ owned) = ap (λ (ws : List Owned). filled (spoiled_fill page (change w.fill)) w ∷ ws) (map-twice page change owned)

-- after the Unlock of a page that is not skipped
pub forgets-more : (skip : Option ℕ) (page : ℕ) (first now : List Owned) → is_skipped skip page ≡ false → IsForgotten skip first now → IsForgotten skip first (spoiled page now)
forgets-more skip page first now other h = record {
  change = λ fill. spoiled_fill page (h.change fill);
  may = record { each = λ fill. forgets-twice skip page h.change fill other (h.may.each fill) };
  is = ap (λ (ws : List Owned). spoiled page ws) h.is ∙ map-twice page h.change first;
}

spoiled-push : (page : ℕ) (owned : List Owned) (w : Owned) → spoiled page (owned ++ w ∷ []) ≡ spoiled page owned ++ spoiled_frame page w ∷ []
spoiled-push page [] w = refl
spoiled-push page (x ∷ owned) w = ap (λ (ws : List Owned). spoiled_frame page x ∷ ws) (spoiled-push page owned w)

mapped-none : (o : Option Owned) (page : ℕ) → o ≡ None → option_map (spoiled_frame page) o ≡ None
mapped-none None page e = refl
mapped-none (Some w) page e = cc e

spoiled-fresh : (page frame : ℕ) (owned : List Owned) → find owned_frame frame owned ≡ None → find owned_frame frame (spoiled page owned) ≡ None
spoiled-fresh page frame owned fresh = find_map owned_frame (spoiled_frame page) frame owned (λ w. refl) ∙ mapped-none (find owned_frame frame owned) page fresh

-- the shadow stays beside the frames
pub shadow-spoiled : (skip : Option ℕ) (page shadow : ℕ) (g : Geometry) (first now : List Owned) → is_skipped skip page ≡ false → HasShadow skip shadow g first now → HasShadow skip shadow g first (spoiled page now)
shadow-spoiled skip page shadow g first now other h = record {
  before = spoiled page h.before;
  fill = spoiled_fill page h.fill;
  owned = forgets-more skip page first h.before other h.owned;
  exists = h.exists;
  fresh = spoiled-fresh page shadow h.before h.fresh;
  is = ap (λ (ws : List Owned). spoiled page ws) h.is ∙ spoiled-push page h.before (record { frame = shadow; fill = h.fill });
}

-- The operation.

-- no operation was on the page
pub page-fresh : (made : SweptMade) (page freed : ℕ) (g : Geometry) (first : View) → IsAtPage made page freed g first → find page_of page first.ops ≡ None
page-fresh made page freed g first at = alone-fresh made.1.asked.skip page first.ops at.may.may.ops.named at.other

-- the operation on the page
pub op-there : (made : SweptMade) (page freed : ℕ) (g : Geometry) (first now : View) (o : Op) → HasPageLocked made page freed g first now o → op_on now page ≡ Some o
op-there made page freed g first now o h =
    let fresh : find page_of o.page first.ops ≡ None = rw h.of (page-fresh made page freed g first h.at) in
    let N : ℕ → Type 0 = λ n. find page_of n now.ops ≡ Some o in
    subst N h.of (ap (λ (ops : List Op). find page_of o.page ops) h.ops ∙ find_join page_of o first.ops fresh)

edited : (made : SweptMade) (page freed : ℕ) (g : Geometry) (first now : View) (o : Op) (f : Op → Op) → HasPageLocked made page freed g first now o → edit page_of page f now.ops ≡ first.ops ++ f o ∷ []
edited made page freed g first now o f h =
    let fresh : find page_of o.page first.ops ≡ None = rw h.of (page-fresh made page freed g first h.at) in
    let N : ℕ → Type 0 = λ n. edit page_of n f now.ops ≡ first.ops ++ f o ∷ [] in
    subst N h.of (ap (λ (ops : List Op). edit page_of o.page f ops) h.ops ∙ edit_last page_of f o first.ops fresh)

erased : (made : SweptMade) (page freed : ℕ) (g : Geometry) (first now : View) (o : Op) → HasPageLocked made page freed g first now o → erase page_of page now.ops ≡ first.ops
erased made page freed g first now o h =
    let fresh : find page_of o.page first.ops ≡ None = rw h.of (page-fresh made page freed g first h.at) in
    let N : ℕ → Type 0 = λ n. erase page_of n now.ops ≡ first.ops in
    subst N h.of (ap (λ (ops : List Op). erase page_of o.page ops) h.ops ∙ erase_last page_of o first.ops fresh)

-- the page may be unlocked
pub may-unlock : (made : SweptMade) (page freed : ℕ) (g : Geometry) (first now : View) (o : Op) → HasPageLocked made page freed g first now o → IsSomeAnd (op_on now page) (MayUnlock g)
may-unlock made page freed g first now o h =
    let flushed : IsSomeAnd (Some o) (MayUnlock g) = record { back = h.taken; flushed = record { made = h.due; seen = rw h.flush tt }; phase = rw h.held (λ e. cc e) } in
    let P : Option Op → Type 0 = λ x. IsSomeAnd x (MayUnlock g) in
    subst P (sym (op-there made page freed g first now o h)) flushed

-- something is known of the operation
pub known-there : (made : SweptMade) (page freed : ℕ) (g : Geometry) (first now : View) (o : Op) (Said : Op → Type 0) → HasPageLocked made page freed g first now o → Said o → IsSomeAnd (op_on now page) Said
known-there made page freed g first now o Said h said = let P : Option Op → Type 0 = λ x. IsSomeAnd x Said in subst P (sym (op-there made page freed g first now o h)) said

-- an operation is as it may be unlocked where another is
pub record KeepsHeld (old new : Op) : Type 0 where
  pub page : new.page ≡ old.page
  pub phase : new.phase ≡ old.phase
  pub taken : new.taken ≡ old.taken
  pub due : new.due ≡ old.due
  pub flush : new.flush ≡ old.flush

-- a Read or a SetShadow leaves the page locked
locked-edit : (made : SweptMade) (page freed : ℕ) (g : Geometry) (first now : View) (o : Op) (f : Op → Op) (owned : List Owned) → HasPageLocked made page freed g first now o → KeepsHeld o (f o)
    → HasPageLocked made page freed g first (record now { ops = edit page_of page f now.ops; owned = owned }) (f o)
locked-edit made page freed g first now o f owned h k = record {
  at = h.at;
  of = k.page ∙ h.of;
  held = k.phase ∙ h.held;
  taken = k.taken ∙ h.taken;
  due = k.due ∙ h.due;
  flush = k.flush ∙ h.flush;
  ops = edited made page freed g first now o f h;
  rest = ap (λ (v : View). record v { ops = edit page_of page f now.ops; owned = owned }) h.rest;
}

-- Steps.

-- the page was locked
pub locked-done : (made : SweptMade) (page freed : ℕ) (g : Geometry) (first now later : View) → IsBetween made page freed g first now → IsActed g now (Lock page) Done later → IsSweepReadingHome made page freed g first later
locked-done made page freed g first now later at acted =
    let P : View → Type 0 = λ v. IsSweepReadingHome made page freed g first v in
    let o : Op = opened page now.room.aliases in
    subst P (sym acted.is) (record {
      op = o;
      locked = record {
        at = at.at;
        of = refl;
        held = refl;
        taken = refl;
        due = refl;
        flush = refl;
        ops = ap (λ (v : View). v.ops ++ o ∷ []) at.swept.is;
        rest = ap (λ (v : View). record v { ops = now.ops ++ o ∷ [] }) at.swept.is;
      };
      owned = at.swept.owned;
      home = refl;
      shadow = refl;
    })

-- the page was busy
pub locked-busy : (made : SweptMade) (page freed word : ℕ) (g : Geometry) (first now later : View) → IsBetween made page freed g first now → IsActed g now (Lock page) (Busy word) later → IsSwept made.1.asked.skip first later
locked-busy made page freed word g first now later at acted = let P : View → Type 0 = λ v. IsSwept made.1.asked.skip first v in subst P (sym acted.is) at.swept

-- the home was read as none
pub home-none : (made : SweptMade) (page freed : ℕ) (g : Geometry) (first now later : View) (word : ℕ) → IsSweepReadingHome made page freed g first now → IsActed g now (Read page (Home page)) (Word word) later → IsLocked made page freed g first later
home-none made page freed g first now later word at acted =
    let P : View → Type 0 = λ v. IsLocked made page freed g first v in
    subst P (sym acted.is) (record {
      op = read_cell (Home page) word at.op;
      locked = locked-edit made page freed g first now at.op (read_cell (Home page) word) now.owned at.locked (record { page = refl; phase = refl; taken = refl; due = refl; flush = refl });
      owned = at.owned;
    })

-- a home word that was read names a frame, or none
pub home-range : (made : SweptMade) (page freed : ℕ) (g : Geometry) (first now later : View) (word : ℕ) → IsSweepReadingHome made page freed g first now → IsActed g now (Read page (Home page)) (Word word) later → word ≤ frame_count g
home-range made page freed g first now later word at acted =
    let told = acted.fits.told.said in
    let op : IfSome (Some at.op) (λ o. IsHomeRead g now word o) = subst (λ (o : Option Op). IfSome o (λ x. IsHomeRead g now word x)) (op-there made page freed g first now at.op at.locked) told in
    (op.news at.home).range

-- the home was read
pub home-read : (made : SweptMade) (page freed : ℕ) (g : Geometry) (first now later : View) (word master : ℕ) → IsSweepReadingHome made page freed g first now → IsActed g now (Read page (Home page)) (Word word) later
    → word ≡ home_word master → IsReadingShadow made page freed master g first later
home-read made page freed g first now later word master at acted is =
    let P : View → Type 0 = λ v. IsReadingShadow made page freed master g first v in
    let few = home-range made page freed g first now later word at acted in
    subst P (sym acted.is) (record {
      op = read_cell (Home page) word at.op;
      locked = locked-edit made page freed g first now at.op (read_cell (Home page) word) now.owned at.locked (record { page = refl; phase = refl; taken = refl; due = refl; flush = refl });
      owned = at.owned;
      frame = omega (arith, few, is);
      home = ap (λ n. Some n) is;
      shadow = at.shadow;
    })

-- the shadow word was read, and is kept
pub shadow-kept : (made : SweptMade) (page freed master : ℕ) (g : Geometry) (first now later : View) (word : ℕ) → IsReadingShadow made page freed master g first now → IsActed g now (Read page (Shadow master)) (Word word) later → IsLocked made page freed g first later
shadow-kept made page freed master g first now later word at acted =
    let P : View → Type 0 = λ v. IsLocked made page freed g first v in
    subst P (sym acted.is) (record {
      op = read_cell (Shadow master) word at.op;
      locked = locked-edit made page freed g first now at.op (read_cell (Shadow master) word) now.owned at.locked (record { page = refl; phase = refl; taken = refl; due = refl; flush = refl });
      owned = at.owned;
    })

-- what a shadow word that was read tells
pub shadow-told : (made : SweptMade) (page freed master : ℕ) (g : Geometry) (first now later : View) (word : ℕ) (at : IsReadingShadow made page freed master g first now) → IsActed g now (Read page (Shadow master)) (Word word) later
    → IsShadowRead g now master word at.op
shadow-told made page freed master g first now later word at acted =
    subst (λ (o : Option Op). IfSome o (λ x. IsShadowRead g now master word x)) (op-there made page freed g first now at.op at.locked) acted.fits.told.said

named-range : (g : Geometry) (page master word : ℕ) → frame_count g ≤ 4096 → word ≢ 0 → IsNewsOfShadow g page master word → IsFrame g (shadow_frame word)
named-range g page master word few some (inl none) = absurd (some none)
named-range g page master word few some (inr (frame, named)) = rw (shadow_frame-NamesShadow g word page frame few named.names) named.names.range

-- a shadow word that is not 0 names a frame that is there
pub shadow-range : (made : SweptMade) (page freed master : ℕ) (g : Geometry) (first now later : View) (word : ℕ) → IsReadingShadow made page freed master g first now → IsActed g now (Read page (Shadow master)) (Word word) later
    → word ≢ 0 → IsFrame g (shadow_frame word)
shadow-range made page freed master g first now later word at acted some =
    let told = shadow-told made page freed master g first now later word at acted in
    named-range g at.op.page master word at.locked.at.may.may.geometry.ranges.1.3 some (told.news at.shadow)

-- the shadow word was read, and its shadow is taken
pub shadow-read : (made : SweptMade) (page freed master : ℕ) (g : Geometry) (first now later : View) (word : ℕ) → IsReadingShadow made page freed master g first now → IsActed g now (Read page (Shadow master)) (Word word) later
    → word ≢ 0 → IsDiscarding made page freed master (shadow_frame word) g first later
shadow-read made page freed master g first now later word at acted some =
    let P : View → Type 0 = λ v. IsDiscarding made page freed master (shadow_frame word) g first v in
    let told = shadow-told made page freed master g first now later word at acted in
    subst P (sym acted.is) (record {
      op = read_cell (Shadow master) word at.op;
      locked = locked-edit made page freed g first now at.op (read_cell (Shadow master) word) now.owned at.locked (record { page = refl; phase = refl; taken = refl; due = refl; flush = refl });
      owned = at.owned;
      word = word;
      frame = at.frame;
      home = at.home;
      known = refl;
      some = some;
      is = refl;
      exists = shadow-range made page freed master g first now later word at acted some;
      fresh = told.free some;
    })

-- the shadow was taken away
pub discarded : (made : SweptMade) (page freed master shadow : ℕ) (g : Geometry) (first now later : View) → IsDiscarding made page freed master shadow g first now → IsActed g now (SetShadow page master None) Done later → IsFreeing made page freed shadow g first later
discarded made page freed master shadow g first now later at acted =
    let P : View → Type 0 = λ v. IsFreeing made page freed shadow g first v in
    let fill : Fill = unshaded_fill (is_quiet g at.op) page in
    subst P (sym acted.is) (record {
      op = shaded page None at.op;
      locked = locked-edit made page freed g first now at.op (shaded page None) (shading g page (op_on now page) None now.owned) at.locked (record { page = refl; phase = refl; taken = refl; due = refl; flush = refl });
      owned = record {
        before = now.owned;
        fill = fill;
        owned = at.owned;
        exists = at.exists;
        fresh = at.fresh;
        is = ap (λ (o : Option Op). unshaded g page o now.owned) (op-there made page freed g first now at.op at.locked)
            ∙ (ap (λ (w : Option ℕ). unshading fill w now.owned) at.known
            ∙ (ap (λ (f : ℕ). owning f fill now.owned) at.is ∙ put_last owned_frame (record { frame = shadow; fill = fill }) now.owned at.fresh));
      };
    })

-- all but the frames and the scan is as it was
unlocked-rest : (made : SweptMade) (page freed : ℕ) (g : Geometry) (first now : View) (o : Op) → HasPageLocked made page freed g first now o
    → record now { ops = erase page_of page now.ops; owned = spoiled page now.owned } ≡ record first { owned = spoiled page now.owned; scan = now.scan }
unlocked-rest made page freed g first now o h =
    ap (λ (v : View). record v { ops = erase page_of page now.ops; owned = spoiled page now.owned }) h.rest
    ∙ ap (λ (ops : List Op). record first { ops = ops; owned = spoiled page now.owned; scan = now.scan }) (erased made page freed g first now o h)

-- the page was unlocked, with the shadow owned
pub freeing-done : (made : SweptMade) (page freed shadow : ℕ) (g : Geometry) (first now later : View) → IsFreeing made page freed shadow g first now → IsActed g now (Unlock page) Done later → IsSweepPuttingBack made page freed shadow g first later
freeing-done made page freed shadow g first now later at acted =
    let P : View → Type 0 = λ v. IsSweepPuttingBack made page freed shadow g first v in
    subst P (sym acted.is) (record {
      at = at.locked.at;
      owned = shadow-spoiled made.1.asked.skip page shadow g first.owned now.owned at.locked.at.other at.owned;
      rest = unlocked-rest made page freed g first now at.op at.locked;
    })

-- the page was unlocked as it was
pub unlocked-done : (made : SweptMade) (page freed : ℕ) (g : Geometry) (first now later : View) → IsLocked made page freed g first now → IsActed g now (Unlock page) Done later → IsSwept made.1.asked.skip first later
unlocked-done made page freed g first now later at acted =
    let P : View → Type 0 = λ v. IsSwept made.1.asked.skip first v in
    subst P (sym acted.is) (record {
      is = unlocked-rest made page freed g first now at.op at.locked;
      owned = forgets-more made.1.asked.skip page first.owned now.owned at.locked.at.other at.owned;
    })

-- the frame was put back
pub put-back : (made : SweptMade) (page freed shadow : ℕ) (g : Geometry) (first now later : View) → IsSweepPuttingBack made page freed shadow g first now
    → later ≡ record now { turn = None; scan = unscanned; owned = erase owned_frame shadow now.owned } → IsSwept made.1.asked.skip first later
put-back made page freed shadow g first now later at is =
    let P : View → Type 0 = λ v. IsSwept made.1.asked.skip first v in
    let gone : erase owned_frame shadow now.owned ≡ at.owned.before = ap (λ (ws : List Owned). erase owned_frame shadow ws) at.owned.is ∙ erase_last owned_frame (record { frame = shadow; fill = at.owned.fill }) at.owned.before at.owned.fresh in
    subst P (sym is) (record {
      is = ap (λ (v : View). record v { turn = None; scan = unscanned; owned = erase owned_frame shadow now.owned }) at.rest
          ∙ ap (λ (t : Option ℕ). record first { turn = t; scan = unscanned; owned = erase owned_frame shadow now.owned }) (sym at.at.may.may.turn);
      owned = subst (λ (ws : List Owned). IsForgotten made.1.asked.skip first.owned ws) (sym gone) at.owned.owned;
    })

-- the frame is owned
pub owned-there : (skip : Option ℕ) (shadow : ℕ) (g : Geometry) (first now : List Owned) → HasShadow skip shadow g first now → IsSome (find owned_frame shadow now)
owned-there skip shadow g first now h =
    let found : find owned_frame shadow now ≡ Some (record { frame = shadow; fill = h.fill }) = ap (λ (ws : List Owned). find owned_frame shadow ws) h.is ∙ find_join owned_frame (record { frame = shadow; fill = h.fill }) h.before h.fresh in
    rw found refl
