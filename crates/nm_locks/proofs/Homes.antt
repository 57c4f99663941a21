-- The kinds that read and write homes and shadow words.
use Rattle.std.proofs.Common.{◌≡◌, ◌≢◌, ℕ, Bool, true, false, Option, Some, None, IfSome, refl, sym, ap, subst, ◌∙◌, arith}
use Rattle.nm_base.specs.Geometry.{Geometry}
use Rattle.nm_base.specs.HomeWord.{home_word}
use Rattle.nm_base.specs.ShadowWord.{shadow_word}
use Rattle.nm_action.specs.declared.action.Cell.{Cell}
use Rattle.nm_action.specs.declared.action.Cell.TheVariants as cells
use Rattle.nm_action.specs.declared.action.Reply.TheVariants.{Done, Word}
use Rattle.nm_action.specs.declared.action.Action.TheVariants.{Read, SetHome, SetShadow}
use Rattle.nm_view.specs.declared.view.Phase.{Phase}
use Rattle.nm_view.specs.declared.view.Phase.TheVariants.{Held, Cleared, Taken}
use Rattle.nm_view.specs.declared.view.Fill.{Fill}
use Rattle.nm_view.specs.Views.{Op, View}
use Rattle.nm_view.specs.Operations.{op_on, fill_of, names_one}
use Rattle.nm_view.proofs.Items.{not_none, some_same}
use Rattle.nm_permit.specs.Permitted.{MaySetHome, MaySetShadow}
use Rattle.nm_words.specs.declared.names.Where.{Where}
use Rattle.nm_words.specs.declared.names.Where.TheVariants as words
use Rattle.nm_event.specs.After.{after_of, read_cell, homed_at, shaded}
use Rattle.nm_world.specs.Worlds.{World, moved, viewing, written, home_at, shadow_at, op_at}
use Rattle.nm_world.specs.Parts.{lore_of}
use Rattle.nm_world.specs.Sights.{Sets}
use Rattle.nm_world.specs.LockLaw.{LockLaw, IsStaged}
use Rattle.nm_world.specs.Laws.{IsReady}
use Rattle.nm_world.proofs.Choose.{choose}
use Rattle.nm_world.proofs.Writing.{edit_sets}
use Rattle.nm_locks.specs.Facts.{LockFacts}
use Rattle.nm_locks.proofs.Still.{true_still, read_keeps, turns_kept, view_part}
use Rattle.nm_locks.proofs.Edits.{lock_edit, op_lore}
use Rattle.nm_world.proofs.Options.{if_more, some_and}

-- a known value is what is found
known_is : (o : Option ℕ) (x : ℕ) (P : ℕ → Type 0) → o ≡ Some x → IfSome o P → P x
known_is None x P is h = absurd (not_none x is)
known_is (Some y) x P is h = subst P (some_same y x is) h

-- how far an operation has come does not hang on the home and the shadow word that it knows
staged_knowing : (g : Geometry) (cell : Cell) (n : ℕ) (o : Op) → IsStaged g (lore_of o) → IsStaged g (lore_of (read_cell cell n o))
staged_knowing g (cells.Home page) n o s = record { held_taken = s.held_taken; held_cleared = s.held_cleared; cleared = s.cleared; over = s.over; alone = s.alone }
staged_knowing g (cells.Shadow frame) n o s = record { held_taken = s.held_taken; held_cleared = s.held_cleared; cleared = s.cleared; over = s.over; alone = s.alone }

pub lock_read_home : (g : Geometry) (m : World) (a b page : ℕ) → IsReady g m a (Read b (cells.Home page)) → LockLaw g m → LockLaw g (moved g m a (Read b (cells.Home page)))
lock_read_home g m a b page r h =
    let n : ℕ = home_at m page in
    let word : Where → ℕ = written (words.Home page) n m.word in
    let view : View = m.view a in
    let new : View = after_of g view (Read b (cells.Home page)) (Word n) in
    let m' : World = record { word = word; view = viewing a new m.view } in
    let own = some_and (op_on view b) _ r.allowed.permitted in
    let o : Op = own.0 in
    let kept = read_keeps g (words.Home page) m.word in
    let sets : Sets (op_at m) (op_at m') a b (Some (read_cell (cells.Home page) n o)) = edit_sets a b (read_cell (cells.Home page) n) o new m.view (λ x. refl) refl own.1.0 in
    let still = true_still m m' b (lore_of o) kept.pte kept.home kept.shadow (h.known a b (lore_of o) (op_lore m a b o own.1.0)) in
    lock_edit g m m' a b o (read_cell (cells.Home page) n o) sets own.1.0 kept.lock (turns_kept g m word a new kept refl refl)
    (λ c j p other is k. true_still m m' j (lore_of p) kept.pte kept.home kept.shadow k)
    (record { home = ap (home_at m) r.allowed.range.cell ∙ sym (kept.home b); shadow = still.shadow; taken = still.taken; looked = still.looked })
    (staged_knowing g (cells.Home page) n o (h.staged a b (lore_of o) (op_lore m a b o own.1.0))) h

pub lock_read_shadow : (g : Geometry) (m : World) (a b frame : ℕ) → IsReady g m a (Read b (cells.Shadow frame)) → LockLaw g m → LockLaw g (moved g m a (Read b (cells.Shadow frame)))
lock_read_shadow g m a b frame r h =
    let n : ℕ = shadow_at m frame in
    let word : Where → ℕ = written (words.Shadow frame) n m.word in
    let view : View = m.view a in
    let new : View = after_of g view (Read b (cells.Shadow frame)) (Word n) in
    let m' : World = record { word = word; view = viewing a new m.view } in
    let own = some_and (op_on view b) _ r.allowed.permitted in
    let o : Op = own.0 in
    let kept = read_keeps g (words.Shadow frame) m.word in
    let sets : Sets (op_at m) (op_at m') a b (Some (read_cell (cells.Shadow frame) n o)) = edit_sets a b (read_cell (cells.Shadow frame) n) o new m.view (λ x. refl) refl own.1.0 in
    let known = h.known a b (lore_of o) (op_lore m a b o own.1.0) in
    let home : home_word frame ≡ home_at m b = known_is o.home (home_word frame) (λ x. x ≡ home_at m b) own.1.1 known.home in
    let still = true_still m m' b (lore_of o) kept.pte kept.home kept.shadow known in
    lock_edit g m m' a b o (read_cell (cells.Shadow frame) n o) sets own.1.0 kept.lock (turns_kept g m word a new kept refl refl)
    (λ c j p other is k. true_still m m' j (lore_of p) kept.pte kept.home kept.shadow k)
    (record {
      home = still.home;
      shadow = λ f at.
          let same : frame ≡ f = omega (arith, home, sym (kept.home b) ∙ at) in
          ap (shadow_at m) same ∙ sym (kept.shadow f);
      taken = still.taken;
      looked = still.looked;
    })
    (staged_knowing g (cells.Shadow frame) n o (h.staged a b (lore_of o) (op_lore m a b o own.1.0))) h

-- an operation that has made SetHome names a virtual page only where it named one before
named_homed : (phase : Phase) (cleared moved : Bool) → names_one phase cleared true ≡ true → names_one phase cleared moved ≡ true
named_homed Held true moved is = absurd cc
named_homed Held false moved is = absurd cc
named_homed Cleared cleared moved is = refl
named_homed Taken true moved is = absurd cc
named_homed Taken false moved is = absurd cc

some_fill : (g : Geometry) (fill : Option Fill) (o : Op) → MaySetHome g fill o → (x : Fill) × (fill ≡ Some x)
some_fill g None o h = absurd h
some_fill g (Some x) o h = (x, refl)

pub lock_set_home : (g : Geometry) (m : World) (a b f : ℕ) → LockFacts g m → IsReady g m a (SetHome b f) → LockLaw g m → LockLaw g (moved g m a (SetHome b f))
lock_set_home g m a b f facts r h =
    let word : Where → ℕ = written (words.Home b) (home_word f) m.word in
    let view : View = m.view a in
    let new : View = after_of g view (SetHome b f) Done in
    let m' : World = record { word = word; view = viewing a new m.view } in
    let own = some_and (op_on view b) _ r.allowed.permitted in
    let o : Op = own.0 in
    let fill = some_fill g (fill_of view f) o own.1.1 in
    let bare : shadow_at m f ≡ 0 = facts.unshaded f (λ c. facts.owned a c f fill.0 fill.1) in
    let sets : Sets (op_at m) (op_at m') a b (Some (homed_at f o)) = edit_sets a b (homed_at f) o new m.view (λ x. refl) refl own.1.0 in
    let known = h.known a b (lore_of o) (op_lore m a b o own.1.0) in
    let stage = h.staged a b (lore_of o) (op_lore m a b o own.1.0) in
    let here : home_at m' b ≡ home_word f = choose (λ n. n ≡ home_word f) b b (home_word f) (home_at m b) (λ _. refl) (λ n. absurd (n refl)) in
    let rest : (j : ℕ) → j ≢ b → home_at m' j ≡ home_at m j = λ j other. choose (λ n. n ≡ home_at m j) j b (home_word f) (home_at m j) (λ s. absurd (other s)) (λ _. refl) in
    lock_edit g m m' a b o (homed_at f o) sets own.1.0 (λ c. refl)
    (record { word = λ t. refl; turn = view_part (λ v. v.turn) a new m.view refl; least = view_part (λ v. v.scan.least) a new m.view refl; free = λ k. refl })
    (λ c j p other is k. record {
      home = if_more p.home _ _ (λ x _ at. at ∙ sym (rest j other)) k.home;
      shadow = if_more p.shadow _ _ (λ x _ knows s at. knows s (sym (rest j other) ∙ at)) k.shadow;
      taken = k.taken;
      looked = k.looked;
    })
    (record {
      home = sym here;
      shadow = λ k at. (let same : f ≡ k = omega (arith, sym here ∙ at) in sym bare ∙ ap (shadow_at m) same);
      taken = known.taken;
      looked = known.looked;
    })
    (record {
      held_taken = stage.held_taken;
      held_cleared = stage.held_cleared;
      cleared = stage.cleared;
      over = λ named. stage.over (named_homed o.phase o.cleared o.moved named);
      alone = λ named. stage.alone (named_homed o.phase o.cleared o.moved named);
    }) h

known_master : (g : Geometry) (view : View) (k : ℕ) (s : Option ℕ) (o : Op) → MaySetShadow g view k s o → o.home ≡ Some (home_word k)
known_master g view k None o may = may.home
known_master g view k (Some s) o may = may.home

pub lock_set_shadow : (g : Geometry) (m : World) (a b k : ℕ) (s : Option ℕ) → LockFacts g m → IsReady g m a (SetShadow b k s) → LockLaw g m → LockLaw g (moved g m a (SetShadow b k s))
lock_set_shadow g m a b k s facts r h =
    let x : ℕ = shadow_word b s in
    let word : Where → ℕ = written (words.Shadow k) x m.word in
    let view : View = m.view a in
    let new : View = after_of g view (SetShadow b k s) Done in
    let m' : World = record { word = word; view = viewing a new m.view } in
    let own = some_and (op_on view b) _ r.allowed.permitted in
    let o : Op = own.0 in
    let sets : Sets (op_at m) (op_at m') a b (Some (shaded b s o)) = edit_sets a b (shaded b s) o new m.view (λ y. refl) refl own.1.0 in
    let known = h.known a b (lore_of o) (op_lore m a b o own.1.0) in
    let stage = h.staged a b (lore_of o) (op_lore m a b o own.1.0) in
    let home : home_word k ≡ home_at m b = known_is o.home (home_word k) (λ y. y ≡ home_at m b) (known_master g view k s o own.1.1) known.home in
    let here : shadow_at m' k ≡ x = choose (λ n. n ≡ x) k k x (shadow_at m k) (λ _. refl) (λ n. absurd (n refl)) in
    let rest : (f : ℕ) → f ≢ k → shadow_at m' f ≡ shadow_at m f = λ f other. choose (λ n. n ≡ shadow_at m f) f k x (shadow_at m f) (λ e. absurd (other e)) (λ _. refl) in
    lock_edit g m m' a b o (shaded b s o) sets own.1.0 (λ c. refl)
    (record { word = λ t. refl; turn = view_part (λ v. v.turn) a new m.view refl; least = view_part (λ v. v.scan.least) a new m.view refl; free = λ f. refl })
    (λ c j p other is knows. record {
      home = knows.home;
      shadow = if_more p.shadow _ _ (λ y _ word_of f at. word_of f at ∙ sym (rest f (λ same. other (facts.one_page j b k (at ∙ ap home_word same) (sym home))))) knows.shadow;
      taken = knows.taken;
      looked = knows.looked;
    })
    (record {
      home = known.home;
      shadow = λ f at. (let same : k ≡ f = omega (arith, home, at) in sym here ∙ ap (shadow_at m') same);
      taken = known.taken;
      looked = known.looked;
    })
    (record { held_taken = stage.held_taken; held_cleared = stage.held_cleared; cleared = stage.cleared; over = stage.over; alone = stage.alone }) h
