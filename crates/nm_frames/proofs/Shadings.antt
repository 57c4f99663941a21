-- SetShadow: a shadow is given to a home, or taken away from it.
use Rattle.std.proofs.Common.{◌≡◌, ◌≢◌, ℕ, ◌≤◌, false, Option, Some, None, IsSome, All, refl, sym, ap, subst, ◌∙◌, ◌⊎◌, inl, inr, arith}
use Rattle.std.proofs.lemmas.Bool.{cases_eq}
use Rattle.nm_base.specs.Geometry.{Geometry, IsGeometry, frame_count}
use Rattle.nm_base.specs.HomeWord.{home_word}
use Rattle.nm_base.specs.PageWord.{is_writable, frame_of}
use Rattle.nm_base.specs.Ranges.{IsFrame}
use Rattle.nm_base.specs.ShadowWord.{shadow_word, shadow_frame}
use Rattle.nm_base.proofs.ShadowWords.{shadow_frame-shadow_word, IsFrame-IsShadowWord}
use Rattle.nm_action.specs.declared.action.Reply.TheVariants.{Done}
use Rattle.nm_action.specs.declared.action.Action.TheVariants.{SetShadow}
use Rattle.nm_view.specs.declared.view.Fill.{Fill}
use Rattle.nm_view.specs.declared.view.Fill.TheVariants.{Equal}
use Rattle.nm_view.specs.declared.view.Owned.{Owned}
use Rattle.nm_view.specs.Views.{Op, View}
use Rattle.nm_view.specs.Operations.{page_of, op_on, fill_of}
use Rattle.nm_view.proofs.Items.{all_same}
use Rattle.nm_view.proofs.Finds.{find_number}
use Rattle.nm_permit.specs.Permitted.{MayShade, MayUnshade}
use Rattle.nm_words.specs.declared.names.Where.TheVariants as words
use Rattle.nm_event.specs.After.{after_of, shaded, shading, unshading, unshaded_fill, is_quiet}
use Rattle.nm_world.specs.Worlds.{World, moved, viewing, written, pte_at, home_at, shadow_at, op_at}
use Rattle.nm_world.specs.Sights.{Sight, WritesOne, Sets, sight_of, sight_at}
use Rattle.nm_world.specs.LockLaw.{LockLaw}
use Rattle.nm_world.specs.CopyLaw.{CopyLaw}
use Rattle.nm_world.specs.FrameLaw.{Claim, Bit, AtHome, AtShadow, By, Claims, Names, names_of, NamesAsShadow, AreRoles, IsWordOf, FrameLaw}
use Rattle.nm_world.specs.Bounds.{HasBounds}
use Rattle.nm_world.specs.Laws.{IsReady}
use Rattle.nm_world.proofs.Options.{some_and}
use Rattle.nm_world.proofs.Moves.{each_op, edited, sole_op}
use Rattle.nm_world.proofs.Roles.{one_moves, one_claim}
use Rattle.nm_world.proofs.Writing.{word_writes, edit_sets, fill_put, fill_gone}
use Rattle.nm_frames.proofs.Still.{not_both}
use Rattle.nm_frames.proofs.Table.{if_at, true_op, no_shadow}
use Rattle.nm_frames.proofs.Owners.{by_forth, by_back, some_same_fill, none_some}

-- Roles.

-- the shadow word of a frame is written, and a frame comes to an actor or goes from it
record Shades (n after : Names) (a f k word : ℕ) (fill : Option Fill) : Type 0 where
  shadow : WritesOne n.shadow after.shadow k word
  fills : Sets n.fill after.fill a f fill
  free : (h : ℕ) → after.free h ≡ n.free h
  home : (b : ℕ) → after.home b ≡ n.home b

-- a claim on another frame stands, where the shadow word named no other
shade_forth : (n after : Names) (a f k word : ℕ) (fill : Option Fill) → Shades n after a f k word fill → ((h : ℕ) → NamesAsShadow (n.shadow k) h → h ≡ f) → (c : Claim) (h : ℕ) → h ≢ f → Claims n c h → Claims after c h
shade_forth n after a f k word fill s lone Bit h other claims = s.free h ∙ claims
shade_forth n after a f k word fill s lone (AtHome b) h other claims = s.home b ∙ claims
shade_forth n after a f k word fill s lone (AtShadow j) h other claims = elim (cases_eq j k) [
  | inl same ↦ absurd (other (lone h (subst (λ (i : ℕ). NamesAsShadow (n.shadow i) h) same claims)))
  | inr apart ↦ subst (λ (w : ℕ). NamesAsShadow w h) (sym (s.shadow.rest j apart)) claims
]
shade_forth n after a f k word fill s lone (By d) h other claims = by_forth n.fill after.fill a f fill s.fills d h other claims

-- a claim after the step is that of the actor on the frame, or that of the written word, or stood before
shade_back : (n after : Names) (a f k word : ℕ) (fill : Option Fill) → Shades n after a f k word fill → (c : Claim) (h : ℕ) → Claims after c h → ((c ≡ By a) × (h ≡ f)) ⊎ (((c ≡ AtShadow k) × NamesAsShadow word h) ⊎ Claims n c h)
shade_back n after a f k word fill s Bit h claims = inr (inr (sym (s.free h) ∙ claims))
shade_back n after a f k word fill s (AtHome b) h claims = inr (inr (sym (s.home b) ∙ claims))
shade_back n after a f k word fill s (AtShadow j) h claims = elim (cases_eq j k) [
  | inl same ↦ inr (inl (ap AtShadow same, subst (λ (w : ℕ). NamesAsShadow w h) s.shadow.here (subst (λ (i : ℕ). NamesAsShadow (after.shadow i) h) same claims)))
  | inr apart ↦ inr (inr (subst (λ (w : ℕ). NamesAsShadow w h) (s.shadow.rest j apart) claims))
]
shade_back n after a f k word fill s (By d) h claims = elim (by_back n.fill after.fill a f fill s.fills d h claims) [
  | inl new ↦ inl new
  | inr old ↦ inr (inr old)
]

not_zero : (f : ℕ) → NamesAsShadow 0 f → ⊥
not_zero f names = names.some refl

-- a shadow that is taken away goes to the actor
role_unshaded : (g : Geometry) (n after : Names) (a f k : ℕ) (fill : Fill) → Shades n after a f k 0 (Some fill) → NamesAsShadow (n.shadow k) f → IsFrame g f → AreRoles g n → AreRoles g after
role_unshaded g n after a f k fill s was frame roles = one_moves g n after f (AtShadow k) (By a) (record {
  was = was;
  is = some_same_fill (Some fill) (after.fill a f) (sym s.fills.here) cc;
  gone = λ names. absurd (not_zero f (subst (λ (w : ℕ). NamesAsShadow w f) s.shadow.here names));
  back = λ c h claims. elim (shade_back n after a f k 0 (Some fill) s c h claims) [
    | inl by ↦ inl by
    | inr more ↦ elim more [ inl names ↦ absurd (not_zero h names.1) | inr old ↦ inr old ]
  ];
  forth = shade_forth n after a f k 0 (Some fill) s (λ h names. sym names.is ∙ was.is);
}) frame roles

-- a shadow that is given goes from the actor
role_shaded : (g : Geometry) (n after : Names) (a f k word : ℕ) → Shades n after a f k word None → n.shadow k ≡ 0 → NamesAsShadow word f → IsSome (n.fill a f) → IsFrame g f → AreRoles g n → AreRoles g after
role_shaded g n after a f k word s none names was frame roles = one_moves g n after f (By a) (AtShadow k) (record {
  was = was;
  is = subst (λ (w : ℕ). NamesAsShadow w f) (sym s.shadow.here) names;
  gone = λ own. absurd (none_some (after.fill a f) s.fills.here own);
  back = λ c h claims. elim (shade_back n after a f k word None s c h claims) [
    | inl by ↦
        let own : Claims after (By a) h = subst (λ (d : Claim). Claims after d h) by.0 claims in
        absurd (none_some (after.fill a f) s.fills.here (some_same_fill (after.fill a h) (after.fill a f) (ap (after.fill a) by.1) own))
    | inr more ↦ elim more [ inl new ↦ inl (new.0, sym new.1.is ∙ names.is) | inr old ↦ inr old ]
  ];
  forth = shade_forth n after a f k word None s (λ h named. absurd (named.some none));
}) frame roles

-- Words.

-- a word goes on mapping, where its frame gets no shadow unless it is not writable
word_shaded : (g : Geometry) (homes shades after : ℕ → ℕ) (b v word : ℕ) → (after (frame_of word) ≢ 0 → is_writable word ≡ false) → IsWordOf g homes shades b v word → IsWordOf g homes after b v word
word_shaded g homes shades after b v word unshaded h = record { layout = h.layout; home = h.home; writable = h.writable; saved = h.saved; unshaded = unshaded }

-- where one shadow word is cleared, no frame gets a shadow
less_shaded : (g : Geometry) (homes shades after : ℕ → ℕ) (b v word k : ℕ) → WritesOne shades after k 0 → IsWordOf g homes shades b v word → IsWordOf g homes after b v word
less_shaded g homes shades after b v word k writes h =
    word_shaded g homes shades after b v word
    (λ some. elim (cases_eq (frame_of word) k) [
      | inl same ↦ absurd (some (ap after same ∙ writes.here))
      | inr other ↦ h.unshaded (λ none. some (writes.rest (frame_of word) other ∙ none))
    ]) h

-- where another frame gets a shadow, a word goes on mapping
more_shaded : (g : Geometry) (homes shades after : ℕ → ℕ) (b v word k x : ℕ) → WritesOne shades after k x → (homes b ≡ home_word k → is_writable word ≡ false) → IsWordOf g homes shades b v word → IsWordOf g homes after b v word
more_shaded g homes shades after b v word k x writes own h =
    word_shaded g homes shades after b v word
    (λ some. elim (cases_eq (frame_of word) k) [
      | inl same ↦ own (h.home ∙ ap home_word same)
      | inr other ↦ h.unshaded (λ none. some (writes.rest (frame_of word) other ∙ none))
    ]) h

-- The kind.

pub few_frames : (g : Geometry) → IsGeometry g → frame_count g ≤ 4096
few_frames g is = is.ranges.1.3

frames_unshade : (g : Geometry) (m : World) (a b k : ℕ) → IsGeometry g → LockLaw g m → HasBounds g m → IsReady g m a (SetShadow b k None) → FrameLaw g (sight_of g m) → FrameLaw g (sight_of g (moved g m a (SetShadow b k None)))
frames_unshade g m a b k isg locks bounds r law =
    let view : View = m.view a in
    let new : View = after_of g view (SetShadow b k None) Done in
    let after : Sight = sight_at g (written (words.Shadow k) 0 m.word) (viewing a new m.view) in
    let on = some_and (op_on view b) (MayUnshade k) r.allowed.permitted in
    let o : Op = on.0 in
    let known = true_op m g a b o locks on.1.0 in
    let home : home_at m b ≡ home_word k = sym (if_at (λ h. h ≡ home_at m b) o.home (home_word k) known.home on.1.1.home) in
    let shade = some_and o.shadow (λ w. w ≢ 0) on.1.1.some in
    let stands : shade.0 ≡ shadow_at m k = if_at (λ w. (f : ℕ) → home_at m b ≡ home_word f → w ≡ shadow_at m f) o.shadow shade.0 known.shadow shade.1.0 k home in
    let f : ℕ = shadow_frame shade.0 in
    let own : Owned = record { frame = f; fill = unshaded_fill (is_quiet g o) b } in
    let some : shadow_at m k ≢ 0 = λ none. shade.1.1 (stands ∙ none) in
    let frame : IsFrame g f = subst (λ (w : ℕ). IsFrame g (shadow_frame w)) (sym stands) (IsFrame-IsShadowWord g (shadow_at m k) (few_frames g isg) (bounds.shadows k) some) in
    let owned = ap (λ found. shading g b found None view.owned) on.1.0 ∙ ap (λ w. unshading (unshaded_fill (is_quiet g o) b) w view.owned) shade.1.0 in
    let P : ℕ → ℕ → Op → Type 0 = λ c d p. p.moved ≡ false → All (λ q. IsWordOf g (home_at m) after.shadow d q.0 q.1) p.taken in
    let writes : WritesOne (shadow_at m) after.shadow k 0 = word_writes (shadow_at m) k 0 in
    let less : (c d : ℕ) (p : Op) → op_at m c d ≡ Some p → P c d p = λ c d p is unmoved. all_same (λ q. IsWordOf g (home_at m) (shadow_at m) d q.0 q.1) (λ q. IsWordOf g (home_at m) after.shadow d q.0 q.1) p.taken
    (λ q h. less_shaded g (home_at m) (shadow_at m) after.shadow d q.0 q.1 k writes h) (law.taken c d p is unmoved) in
    record {
      roles = role_unshaded g (names_of (sight_of g m)) (names_of after) a f k own.fill
          (record { shadow = writes; fills = fill_put a own new m.view owned; free = λ h. refl; home = λ c. refl })
          (record { some = some; is = ap shadow_frame (sym stands) }) frame law.roles;
      words = λ v is. (let maps = law.words v is in record { page = maps.page; of = maps.of; is = less_shaded g (home_at m) (shadow_at m) after.shadow maps.page v (pte_at m v) k writes maps.is });
      taken = edited P (op_at m) (λ c d. op_on (viewing a new m.view c) d) a b (shaded b None o) (edit_sets a b (shaded b None) o new m.view (λ x. refl) refl on.1.0)
          (less a b o on.1.0) (λ c d p apart is. less c d p is);
    }

pub same_page : (b c : ℕ) → AtHome b ≡ AtHome c → b ≡ c
same_page b c e = cc

frames_shade : (g : Geometry) (m : World) (a b k s : ℕ) → IsGeometry g → LockLaw g m → CopyLaw g (sight_of g m) → IsReady g m a (SetShadow b k (Some s)) → FrameLaw g (sight_of g m) → FrameLaw g (sight_of g (moved g m a (SetShadow b k (Some s))))
frames_shade g m a b k s isg locks copies r law =
    let view : View = m.view a in
    let new : View = after_of g view (SetShadow b k (Some s)) Done in
    let x : ℕ = shadow_word b (Some s) in
    let after : Sight = sight_at g (written (words.Shadow k) x m.word) (viewing a new m.view) in
    let on = some_and (op_on view b) (MayShade g view k s) r.allowed.permitted in
    let o : Op = on.0 in
    let may = on.1.1 in
    let known = true_op m g a b o locks on.1.0 in
    let home : home_at m b ≡ home_word k = sym (if_at (λ h. h ≡ home_at m b) o.home (home_word k) known.home may.home) in
    let page : o.page ≡ b = find_number page_of b view.ops o on.1.0 in
    let fill : fill_of view s ≡ Some (Equal b) = subst (λ (c : ℕ). fill_of view s ≡ Some (Equal c)) page may.fill in
    let twin = (copies.ops a b o on.1.0).equal s fill in
    let names : NamesAsShadow x s = record { some = λ none. omega (arith, none); is = shadow_frame-shadow_word b s (omega (arith, few_frames g isg, r.allowed.range.shadow)) } in
    let writes : WritesOne (shadow_at m) after.shadow k x = word_writes (shadow_at m) k x in
    let lone : (c : ℕ) → home_at m c ≡ home_word k → c ≡ b = λ c at. same_page c b (one_claim g (names_of (sight_of g m)) k (AtHome c) (AtHome b) law.roles r.allowed.range.master at home) in
    let P : ℕ → ℕ → Op → Type 0 = λ c d p. p.moved ≡ false → All (λ q. IsWordOf g (home_at m) after.shadow d q.0 q.1) p.taken in
    record {
      roles = role_shaded g (names_of (sight_of g m)) (names_of after) a s k x
          (record { shadow = writes; fills = fill_gone a s new m.view refl (r.shaped.shape a r.actor).keyed.owned_once; free = λ h. refl; home = λ c. refl })
          (no_shadow m b k o known may.none home) names (some_same_fill (Some (Equal b)) (fill_of view s) (sym fill) cc) r.allowed.range.shadow law.roles;
      words = λ v is. (let maps = law.words v is in record {
        page = maps.page;
        of = maps.of;
        is = more_shaded g (home_at m) (shadow_at m) after.shadow maps.page v (pte_at m v) k x writes (λ at. twin.unwritable v (maps.of ∙ ap Some (lone maps.page at))) maps.is;
      });
      taken = each_op P (op_at m) (λ c d. op_on (viewing a new m.view c) d) a b (shaded b (Some s) o) (edit_sets a b (shaded b (Some s)) o new m.view (λ y. refl) refl on.1.0) (sole_op g m a b o locks on.1.0)
          (λ unmoved. absurd (not_both o.moved may.moved unmoved))
          (λ c d p other is unmoved. all_same (λ q. IsWordOf g (home_at m) (shadow_at m) d q.0 q.1) (λ q. IsWordOf g (home_at m) after.shadow d q.0 q.1) p.taken
          (λ q h. more_shaded g (home_at m) (shadow_at m) after.shadow d q.0 q.1 k x writes (λ at. absurd (other (lone d at))) h) (law.taken c d p is unmoved));
    }

pub frames_set_shadow : (g : Geometry) (m : World) (a b k : ℕ) (shadow : Option ℕ) → IsGeometry g → LockLaw g m → CopyLaw g (sight_of g m) → HasBounds g m → IsReady g m a (SetShadow b k shadow) → FrameLaw g (sight_of g m) → FrameLaw g (sight_of g (moved g m a (SetShadow b k shadow)))
frames_set_shadow g m a b k None isg locks copies bounds r law = frames_unshade g m a b k isg locks bounds r law
frames_set_shadow g m a b k (Some s) isg locks copies bounds r law = frames_shade g m a b k s isg locks copies r law
