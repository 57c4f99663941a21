-- SetHome: a page gets a new home, and its old one goes to the actor.
use Rattle.std.proofs.Common.{◌≡◌, ◌≢◌, ℕ, ◌-◌, ◌==◌, ◌&&◌, if◌then◌else◌, true, false, List, [], ◌∷◌, Option, Some, None, IsSome, IsSomeAnd, All, refl, sym, ap, subst, ◌∙◌, ◌⊎◌, inl, inr, arith}
use Rattle.std.specs.Prelude.{option_map}
use Rattle.std.proofs.lemmas.Bool.{cases_eq}
use Rattle.nm_base.specs.Geometry.{Geometry}
use Rattle.nm_base.specs.HomeWord.{home_word, IsHomeWord}
use Rattle.nm_base.specs.PageWord.{frame_of}
use Rattle.nm_base.specs.Ranges.{IsFrame}
use Rattle.nm_action.specs.declared.action.Reply.TheVariants.{Done}
use Rattle.nm_action.specs.declared.action.Action.TheVariants.{SetHome}
use Rattle.nm_view.specs.declared.view.Phase.TheVariants.{Taken}
use Rattle.nm_view.specs.declared.view.Fill.{Fill}
use Rattle.nm_view.specs.declared.view.Fill.TheVariants.{Copied, Equal}
use Rattle.nm_view.specs.declared.view.Owned.{Owned}
use Rattle.nm_view.specs.Lists.{find, first, erase, put, Once}
use Rattle.nm_view.specs.Views.{Op, View}
use Rattle.nm_view.specs.Operations.{page_of, owned_frame, op_on, fill_of, known_home, IsTaken, IsLookedOver, IsInLastTier, names_one, IsUnmapped}
use Rattle.nm_view.proofs.Items.{all_find, all_head}
use Rattle.nm_view.proofs.Finds.{find_number, find_put, find_put_other, find_erase, find_erase_other}
use Rattle.nm_permit.specs.Permitted.{MaySetHome, HasNewHome, IsHomeCommitted, IsFreeOfShadow}
use Rattle.nm_shape.specs.Shape.{IsOpShaped}
use Rattle.nm_words.specs.declared.names.Where.TheVariants as words
use Rattle.nm_event.specs.After.{after_of, homed_at, let_go}
use Rattle.nm_event.specs.Fitting.{Agrees}
use Rattle.nm_world.specs.Worlds.{World, moved, viewing, written, pte_at, home_at, shadow_at, op_at}
use Rattle.nm_world.specs.Parts.{lore_of}
use Rattle.nm_world.specs.Sights.{Sight, WritesOne, Sets, sight_of, sight_at}
use Rattle.nm_world.specs.Notions.{IsOut, HasOne}
use Rattle.nm_world.specs.LockLaw.{LockLaw, IsTrueOp}
use Rattle.nm_world.specs.CopyLaw.{CopyLaw}
use Rattle.nm_world.specs.FrameLaw.{Claim, Bit, AtHome, AtShadow, By, Claims, Names, names_of, NamesAsShadow, AreRoles, IsWordOf, MapsToHome, FrameLaw}
use Rattle.nm_world.specs.Bounds.{HasBounds}
use Rattle.nm_world.specs.Laws.{IsReady}
use Rattle.nm_world.proofs.Options.{some_and}
use Rattle.nm_world.proofs.Choose.{choose, choose_both}
use Rattle.nm_world.proofs.Moves.{each_op, sole_op}
use Rattle.nm_world.proofs.Roles.{one_moves, one_claim}
use Rattle.nm_world.proofs.Writing.{own_view, other_view, word_writes, edit_sets, fill_gone}
use Rattle.nm_frames.proofs.Still.{not_both, cases_on, word_of_still, taken_words_still}
use Rattle.nm_frames.proofs.Table.{if_at, true_op}
use Rattle.nm_frames.proofs.Owners.{by_forth, by_back, some_same_fill, none_some}

-- The home is known.

based_home : (found : Option ℕ) (P : ℕ → Type 0) → IsSomeAnd found P → (h : ℕ) × (found ≡ Some h)
based_home found P h = let home = some_and found P h in (home.0, home.1.0)

-- an operation that may set a home knows the old one
free_home : (g : Geometry) (o : Op) → IsOpShaped g o → IsFreeOfShadow g o → (h : ℕ) × (o.home ≡ Some h)
free_home g o shaped (inl none) = based_home o.home (λ h. h ≢ 0) (if_at (λ _. IsSomeAnd o.home (λ h. h ≢ 0)) o.shadow 0 shaped.based none)
free_home g o shaped (inr last) = based_home o.home (IsInLastTier g) last

pub old_home : (g : Geometry) (o : Op) (fill : Fill) → IsOpShaped g o → HasNewHome g fill o → (h : ℕ) × (o.home ≡ Some h)
old_home g o fill shaped (inl demanded) = (0, demanded.home)
old_home g o fill shaped (inr (inl committed)) = free_home g o shaped committed.shadow
old_home g o fill shaped (inr (inr moves)) = free_home g o shaped (inl moves.shadow)

-- The page is out of the table.

none_pair : (found : Option (ℕ × ℕ)) → found ≡ None → IsSome found → ⊥
none_pair None e h = cc
none_pair (Some p) e h = cc

some_pair : (found : Option (ℕ × ℕ)) → IsSome found → (p : ℕ × ℕ) × (found ≡ Some p)
some_pair None h = absurd (let none : ⊥ = cc in none)
some_pair (Some p) h = (p, refl)

by_find : (found : Option (ℕ × ℕ)) (P : Type 0) → (found ≡ None → P) → (IsSome found → P) → P
by_find None P none some = none refl
by_find (Some p) P none some = some cc

-- a word that was looked at as 0 and not taken is 0, and so is one that was taken
zero_word : (m : World) (b v : ℕ) (o : Op) → IsTrueOp m b (lore_of o) → IsSome (find first v o.looked) → ((p : ℕ × ℕ) → find first v o.looked ≡ Some p → find first v o.taken ≡ None → p.1 ≡ 0) → pte_at m v ≡ 0
zero_word m b v o known looked zeros =
    by_find (find first v o.taken) (pte_at m v ≡ 0)
    (λ none.
    by_find (find first v o.looked) (pte_at m v ≡ 0)
    (λ unlooked. absurd (none_pair (find first v o.looked) unlooked looked))
    (λ some.
    let p = some_pair (find first v o.looked) some in
    let agrees : Agrees p.0.1 (pte_at m v) = if_at (λ q. Agrees q.1 (pte_at m v)) (find first v o.looked) p.0 (known.looked v none) p.1 in
    agrees.absent.0 (zeros p.0 p.1 none)))
    (λ taken. known.taken v taken)

-- every word that is not 0 was taken
all_taken_out : (g : Geometry) (m : World) (b : ℕ) (o : Op) → IsTrueOp m b (lore_of o) → o.page ≡ b → IsUnmapped g o → IsOut g (pte_at m) b
all_taken_out g m b o known page out v of =
    zero_word m b v o known (out.over v (of ∙ ap Some (sym page)))
    (λ p is none. elim (cases_eq p.1 0) [
      | inl absent ↦ absent
      | inr some ↦
          let taken : IsTaken o.taken p.0 = all_find first v (λ q. q.1 ≢ 0 → IsTaken o.taken q.0) o.looked p out.taken is some in
          absurd (none_pair (find first v o.taken) none (subst (λ (u : ℕ). IsTaken o.taken u) (find_number first v o.looked p is) taken))
    ])

first_item : (pairs : List (ℕ × ℕ)) (w : ℕ) → pairs ≢ [] → All (λ p. p.0 ≡ w) pairs → IsSome (find first w pairs)
first_item [] w some all = absurd (some refl)
first_item (p ∷ ps) w some all = let number : p.0 ≡ w = all_head (λ q. q.0 ≡ w) p ps all in grind (arith, number)

-- the one virtual page that is named was taken
one_taken_out : (g : Geometry) (m : World) (b : ℕ) (o : Op) → IsTrueOp m b (lore_of o) → o.page ≡ b → o.taken ≢ [] → IsLookedOver g o.page o.looked → HasOne o.looked o.taken → IsOut g (pte_at m) b
one_taken_out g m b o known page some over one v of =
    zero_word m b v o known (over v (of ∙ ap Some (sym page)))
    (λ p is none. elim (cases_eq p.1 0) [
      | inl absent ↦ absent
      | inr word ↦
          let at : p.0 ≡ one.0 = all_find first v (λ q. q.1 ≢ 0 → q.0 ≡ one.0) o.looked p one.1.looks is word in
          let same : one.0 ≡ v = sym at ∙ find_number first v o.looked p is in
          absurd (none_pair (find first v o.taken) none (subst (λ (u : ℕ). IsSome (find first u o.taken)) same (first_item o.taken one.0 some one.1.takes)))
    ])

names_unmoved : (o : Op) → o.phase ≡ Taken → o.cleared ≡ true → o.moved ≡ false → names_one o.phase o.cleared o.moved ≡ true
names_unmoved o phase cleared unmoved = rw (phase, cleared, unmoved) refl

names_moved : (o : Op) → o.phase ≡ Taken → o.cleared ≡ true → o.moved ≡ true → names_one o.phase o.cleared o.moved ≡ false
names_moved o phase cleared gone = rw (phase, cleared, gone) refl

committed_out : (g : Geometry) (m : World) (a b f : ℕ) (o : Op) (fill : Fill) → LockLaw g m → CopyLaw g (sight_of g m) → op_at m a b ≡ Some o → o.page ≡ b → fill_of (m.view a) f ≡ Some fill → IsHomeCommitted g o fill → IsOut g (pte_at m) b
committed_out g m a b f o fill locks copies here page owned c =
    let known = true_op m g a b o locks here in
    let staged = locks.staged a b (lore_of o) (ap (option_map lore_of) here) in
    let copied : fill_of (m.view a) f ≡ Some (Copied b g.words) = owned ∙ ap Some (c.filled ∙ ap (λ p. Copied p g.words) page) in
    cases_on (λ t. o.moved ≡ t → IsOut g (pte_at m) b) o.moved
    (λ _ gone. (copies.ops a b o here).out (names_moved o c.phase c.cleared gone) (inr (record { frame = f; count = g.words; is = copied })))
    (λ _ unmoved.
    let naming = names_unmoved o c.phase c.cleared unmoved in
    one_taken_out g m b o known page c.clean.some (staged.over naming) (staged.alone naming)) refl

-- where a home may be set, the page has none or is out of the table
pub out_or_homeless : (g : Geometry) (m : World) (a b f : ℕ) (o : Op) (fill : Fill) → LockLaw g m → CopyLaw g (sight_of g m) → op_at m a b ≡ Some o → o.page ≡ b → fill_of (m.view a) f ≡ Some fill → HasNewHome g fill o → (home_at m b ≡ 0) ⊎ IsOut g (pte_at m) b
out_or_homeless g m a b f o fill locks copies here page owned (inl demanded) = inl (sym (if_at (λ h. h ≡ home_at m b) o.home 0 (true_op m g a b o locks here).home demanded.home))
out_or_homeless g m a b f o fill locks copies here page owned (inr (inl committed)) = inr (committed_out g m a b f o fill locks copies here page owned committed)
out_or_homeless g m a b f o fill locks copies here page owned (inr (inr moves)) = inr (all_taken_out g m b o (true_op m g a b o locks here) page moves.unmapped)

-- Roles.

-- the home word of a page is written, and a frame comes to an actor or goes from it
record Homes (n after : Names) (a f b word : ℕ) (fill : Option Fill) : Type 0 where
  home : WritesOne n.home after.home b word
  fills : Sets n.fill after.fill a f fill
  free : (h : ℕ) → after.free h ≡ n.free h
  shadow : (k : ℕ) → after.shadow k ≡ n.shadow k

-- a claim on another frame stands, where the home word named no other
home_forth : (n after : Names) (a f b word : ℕ) (fill : Option Fill) → Homes n after a f b word fill → ((h : ℕ) → n.home b ≡ home_word h → h ≡ f) → (c : Claim) (h : ℕ) → h ≢ f → Claims n c h → Claims after c h
home_forth n after a f b word fill s lone Bit h other claims = s.free h ∙ claims
home_forth n after a f b word fill s lone (AtHome d) h other claims = elim (cases_eq d b) [
  | inl same ↦ absurd (other (lone h (ap n.home (sym same) ∙ claims)))
  | inr apart ↦ s.home.rest d apart ∙ claims
]
home_forth n after a f b word fill s lone (AtShadow k) h other claims = subst (λ (w : ℕ). NamesAsShadow w h) (sym (s.shadow k)) claims
home_forth n after a f b word fill s lone (By d) h other claims = by_forth n.fill after.fill a f fill s.fills d h other claims

-- a claim after the step is that of the actor on the frame, or that of the written word, or stood before
home_back : (n after : Names) (a f b word : ℕ) (fill : Option Fill) → Homes n after a f b word fill → (c : Claim) (h : ℕ) → Claims after c h → ((c ≡ By a) × (h ≡ f)) ⊎ (((c ≡ AtHome b) × (word ≡ home_word h)) ⊎ Claims n c h)
home_back n after a f b word fill s Bit h claims = inr (inr (sym (s.free h) ∙ claims))
home_back n after a f b word fill s (AtHome d) h claims = elim (cases_eq d b) [
  | inl same ↦ inr (inl (ap AtHome same, sym s.home.here ∙ ap after.home (sym same) ∙ claims))
  | inr apart ↦ inr (inr (sym (s.home.rest d apart) ∙ claims))
]
home_back n after a f b word fill s (AtShadow k) h claims = inr (inr (subst (λ (w : ℕ). NamesAsShadow w h) (s.shadow k) claims))
home_back n after a f b word fill s (By d) h claims = elim (by_back n.fill after.fill a f fill s.fills d h claims) [
  | inl new ↦ inl new
  | inr old ↦ inr (inr old)
]

no_home : (word f : ℕ) → word ≡ 0 → word ≡ home_word f → ⊥
no_home word f none is = omega (arith, none, is)

one_home : (f h : ℕ) → home_word f ≡ home_word h → h ≡ f
one_home f h e = omega (arith, e)

-- a frame leaves its page and goes to the actor
leaves : (g : Geometry) (n after : Names) (a f b : ℕ) (fill : Fill) → Homes n after a f b 0 (Some fill) → n.home b ≡ home_word f → IsFrame g f → AreRoles g n → AreRoles g after
leaves g n after a f b fill s was frame roles = one_moves g n after f (AtHome b) (By a) (record {
  was = was;
  is = some_same_fill (Some fill) (after.fill a f) (sym s.fills.here) cc;
  gone = λ names. absurd (no_home (after.home b) f s.home.here names);
  back = λ c h claims. elim (home_back n after a f b 0 (Some fill) s c h claims) [
    | inl by ↦ inl by
    | inr more ↦ elim more [ inl names ↦ absurd (no_home 0 h refl names.1) | inr old ↦ inr old ]
  ];
  forth = home_forth n after a f b 0 (Some fill) s (λ h names. one_home f h (sym was ∙ names));
}) frame roles

-- a frame goes from the actor to a page that has no home
enters : (g : Geometry) (n after : Names) (a f b : ℕ) → Homes n after a f b (home_word f) None → n.home b ≡ 0 → IsSome (n.fill a f) → IsFrame g f → AreRoles g n → AreRoles g after
enters g n after a f b s none was frame roles = one_moves g n after f (By a) (AtHome b) (record {
  was = was;
  is = s.home.here;
  gone = λ own. absurd (none_some (after.fill a f) s.fills.here own);
  back = λ c h claims. elim (home_back n after a f b (home_word f) None s c h claims) [
    | inl by ↦
        let own : Claims after (By a) h = subst (λ (d : Claim). Claims after d h) by.0 claims in
        absurd (none_some (after.fill a f) s.fills.here (some_same_fill (after.fill a h) (after.fill a f) (ap (after.fill a) by.1) own))
    | inr more ↦ elim more [ inl new ↦ inl (new.0, one_home f h new.1) | inr old ↦ inr old ]
  ];
  forth = home_forth n after a f b (home_word f) None s (λ h names. absurd (no_home (n.home b) h none names));
}) frame roles

-- The kind.

set_fill : (fill : ℕ → ℕ → Option Fill) (a k : ℕ) (x : Option Fill) → Sets fill (λ c j. if (c == a) && (j == k) then x else fill c j) a k x
set_fill fill a k x = record {
  here = choose_both (λ n. n ≡ x) a a k k x (fill a k) (λ s t. refl) (λ n. absurd (n refl)) (λ n. absurd (n refl));
  rest = λ j other. choose_both (λ n. n ≡ fill a j) a a j k x (fill a j) (λ s t. absurd (other t)) (λ n. refl) (λ n. refl);
  others = λ c j other. choose_both (λ n. n ≡ fill c j) c a j k x (fill c j) (λ s t. absurd (other s)) (λ n. refl) (λ n. refl);
}

-- the owned frames of the actor after its frame f became a home, and the old home w came to it
swap_sets : (a f : ℕ) (w : Owned) (new : View) (views : ℕ → View) → new.owned ≡ put owned_frame w (erase owned_frame f (views a).owned) → Once owned_frame (views a).owned → w.frame ≢ f → Sets (λ c k. if (c == a) && (k == w.frame) then Some w.fill else fill_of (views c) k) (λ c k. fill_of (viewing a new views c) k) a f None
swap_sets a f w new views is once apart =
    let rest : List Owned = erase owned_frame f (views a).owned in
    let fill : Option Owned → Option Fill = option_map (λ (y : Owned). y.fill) in
    let own : (k : ℕ) → fill_of (viewing a new views a) k ≡ fill (find owned_frame k (put owned_frame w rest)) = λ k. ap (λ v. fill_of v k) (own_view a new views) ∙ ap (λ xs. fill (find owned_frame k xs)) is in
    record {
      here = own f ∙ ap fill (find_put_other owned_frame w f rest apart ∙ find_erase owned_frame f (views a).owned once);
      rest = λ j other. choose_both (λ x. fill_of (viewing a new views a) j ≡ x) a a j w.frame (Some w.fill) (fill_of (views a) j)
          (λ _ same. own j ∙ ap (λ k. fill (find owned_frame k (put owned_frame w rest))) same ∙ ap fill (find_put owned_frame w rest))
          (λ n. absurd (n refl))
          (λ away. own j ∙ ap fill (find_put_other owned_frame w j rest (λ e. away (sym e)) ∙ find_erase_other owned_frame f j (views a).owned (λ e. other (sym e))));
      others = λ c j other. choose_both (λ x. fill_of (viewing a new views c) j ≡ x) c a j w.frame (Some w.fill) (fill_of (views c) j)
          (λ same _. absurd (other same))
          (λ _. ap (λ v. fill_of v j) (other_view a new views c other))
          (λ _. ap (λ v. fill_of v j) (other_view a new views c other));
    }

-- the names after the old home came to the actor, before its frame becomes the home
abbrev let_in : Names → ℕ → ℕ → ℕ → Names
let_in n a b old = record {
  free = n.free;
  home = λ c. if c == b then 0 else n.home c;
  shadow = n.shadow;
  fill = λ c k. if (c == a) && (k == old) then Some (Equal b) else n.fill c k;
}

by_no_home : (a b : ℕ) → By a ≡ AtHome b → ⊥
by_no_home a b e = cc

-- the roles where the page had a home
swapped : (g : Geometry) (n after : Names) (a f b old : ℕ) → WritesOne n.home after.home b (home_word f) → Sets (let_in n a b old).fill after.fill a f None → ((h : ℕ) → after.free h ≡ n.free h) → ((k : ℕ) → after.shadow k ≡ n.shadow k) → n.home b ≡ home_word old → IsFrame g old → IsSome (n.fill a f) → IsFrame g f → AreRoles g n → AreRoles g after
swapped g n after a f b old home fills free shadow was there owned frame roles =
    let mid : Names = let_in n a b old in
    let cleared : WritesOne n.home mid.home b 0 = word_writes n.home b 0 in
    let apart : f ≢ old = λ same. by_no_home a b (one_claim g n f (By a) (AtHome b) roles frame owned (was ∙ ap home_word (sym same))) in
    let first_step : AreRoles g mid = leaves g n mid a old b (Equal b) (record { home = cleared; fills = set_fill n.fill a old (Some (Equal b)); free = λ h. refl; shadow = λ k. refl }) was there roles in
    enters g mid after a f b (record {
      home = record { here = home.here; rest = λ j other. home.rest j other ∙ sym (cleared.rest j other) };
      fills = fills;
      free = free;
      shadow = shadow;
    }) cleared.here (some_same_fill (n.fill a f) (mid.fill a f) (sym ((set_fill n.fill a old (Some (Equal b))).rest f apart)) owned) frame first_step

let_go_none : (b h : ℕ) (owned : List Owned) → h ≡ 0 → let_go b (Some h) owned ≡ owned
let_go_none b h owned none = rw none refl

let_go_some : (b h : ℕ) (owned : List Owned) → h ≢ 0 → let_go b (Some h) owned ≡ put owned_frame (record { frame = h - 1; fill = Equal b }) owned
let_go_some b h owned some = choose (λ xs. xs ≡ put owned_frame (record { frame = h - 1; fill = Equal b }) owned) h 0 owned (put owned_frame (record { frame = h - 1; fill = Equal b }) owned) (λ none. absurd (some none)) (λ _. refl)

-- the roles after frame f became the home of page b, and the old home, if any, came to the actor
home_roles : (g : Geometry) (m : World) (a b f h : ℕ) (new : View) → new.owned ≡ let_go b (Some h) (erase owned_frame f (m.view a).owned) → Once owned_frame (m.view a).owned → h ≡ home_at m b → IsHomeWord g h → IsSome (fill_of (m.view a) f) → IsFrame g f → AreRoles g (names_of (sight_of g m)) → AreRoles g (names_of (sight_at g (written (words.Home b) (home_word f) m.word) (viewing a new m.view)))
home_roles g m a b f h new owned once stands range some frame roles =
    let n : Names = names_of (sight_of g m) in
    let after : Names = names_of (sight_at g (written (words.Home b) (home_word f) m.word) (viewing a new m.view)) in
    let rest : List Owned = erase owned_frame f (m.view a).owned in
    let writes : WritesOne (home_at m) after.home b (home_word f) = word_writes (home_at m) b (home_word f) in
    elim (cases_eq h 0) [
      | inl none ↦ enters g n after a f b
          (record { home = writes; fills = fill_gone a f new m.view (owned ∙ let_go_none b h rest none) once; free = λ k. refl; shadow = λ k. refl })
          (sym stands ∙ none) some frame roles
      | inr there ↦
          let w : Owned = record { frame = h - 1; fill = Equal b } in
          let was : home_at m b ≡ home_word w.frame = omega (arith, stands, there) in
          let apart : w.frame ≢ f = λ same. by_no_home a b (one_claim g n f (By a) (AtHome b) roles frame some (was ∙ ap home_word same)) in
          swapped g n after a f b w.frame writes (swap_sets a f w new m.view (owned ∙ let_go_some b h rest there) once apart)
          (λ k. refl) (λ k. refl) was (omega (arith, range, there)) some frame roles
    ]

-- a table word goes on mapping: it is of another page, as page b has no home or is out of the table
homed_word : (g : Geometry) (m : World) (b f v : ℕ) (homes : ℕ → ℕ) → WritesOne (home_at m) homes b (home_word f) → (home_at m b ≡ 0) ⊎ IsOut g (pte_at m) b → pte_at m v ≢ 0 → MapsToHome g (home_at m) (shadow_at m) v (pte_at m v) → MapsToHome g homes (shadow_at m) v (pte_at m v)
homed_word g m b f v homes writes out is maps =
    let other : maps.page ≢ b = λ same. elim out [
      | inl homeless ↦ no_home (home_at m b) (frame_of (pte_at m v)) homeless (ap (home_at m) (sym same) ∙ maps.is.home)
      | inr gone ↦ is (gone v (maps.of ∙ ap Some same))
    ] in
    record {
      page = maps.page;
      of = maps.of;
      is = word_of_still g (home_at m) (shadow_at m) homes (shadow_at m) maps.page v (pte_at m v) (writes.rest maps.page other) refl maps.is;
    }

pub frames_set_home : (g : Geometry) (m : World) (a b f : ℕ) → LockLaw g m → CopyLaw g (sight_of g m) → HasBounds g m → IsReady g m a (SetHome b f) → FrameLaw g (sight_of g m) → FrameLaw g (sight_of g (moved g m a (SetHome b f)))
frames_set_home g m a b f locks copies bounds r law =
    let view : View = m.view a in
    let new : View = after_of g view (SetHome b f) Done in
    let after : Sight = sight_at g (written (words.Home b) (home_word f) m.word) (viewing a new m.view) in
    let on = some_and (op_on view b) (MaySetHome g (fill_of view f)) r.allowed.permitted in
    let o : Op = on.0 in
    let own = some_and (fill_of view f) (λ known. HasNewHome g known o) on.1.1 in
    let page : o.page ≡ b = find_number page_of b view.ops o on.1.0 in
    let shape = r.shaped.shape a r.actor in
    let shaped : IsOpShaped g o = all_find page_of b (IsOpShaped g) view.ops o shape.ops on.1.0 in
    let old = old_home g o own.0 shaped own.1.1 in
    let stands : old.0 ≡ home_at m b = if_at (λ x. x ≡ home_at m b) o.home old.0 (true_op m g a b o locks on.1.0).home old.1 in
    let rest : List Owned = erase owned_frame f view.owned in
    let owned : new.owned ≡ let_go b (Some old.0) rest = ap (λ found. let_go b (known_home found) rest) on.1.0 ∙ ap (λ x. let_go b x rest) old.1 in
    let some : IsSome (fill_of view f) = some_same_fill (Some own.0) (fill_of view f) (sym own.1.0) cc in
    let writes : WritesOne (home_at m) after.home b (home_word f) = word_writes (home_at m) b (home_word f) in
    let out = out_or_homeless g m a b f o own.0 locks copies on.1.0 page own.1.0 own.1.1 in
    let P : ℕ → ℕ → Op → Type 0 = λ c d p. p.moved ≡ false → All (λ q. IsWordOf g after.home (shadow_at m) d q.0 q.1) p.taken in
    record {
      roles = home_roles g m a b f old.0 new owned shape.keyed.owned_once stands (subst (IsHomeWord g) (sym stands) (bounds.homes b)) some r.allowed.range.frame law.roles;
      words = λ v is. homed_word g m b f v after.home writes out is (law.words v is);
      taken = each_op P (op_at m) (λ c d. op_on (viewing a new m.view c) d) a b (homed_at f o) (edit_sets a b (homed_at f) o new m.view (λ y. refl) refl on.1.0) (sole_op g m a b o locks on.1.0)
          (λ unmoved. absurd (not_both true refl unmoved))
          (λ c d p other is unmoved. taken_words_still g (home_at m) (shadow_at m) after.home (shadow_at m) d p.taken (writes.rest d other) (λ k. refl) (law.taken c d p is unmoved));
    }
