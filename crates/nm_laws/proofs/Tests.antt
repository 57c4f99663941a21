-- Each of the four tests of a frame finds the claims of one kind: free the bit, mapped the home words, shadow the shadow
-- words, held the views.
use Rattle.std.proofs.Common.{◌≡◌, ℕ, ◌<◌, ◌==◌, ◌&&◌, not, Bool, true, length, get_or, Option, Some, None, is_some, option_map, refl, sym, ap, subst, inl, inr, ◌∙◌, arith}
use Rattle.std.specs.Int.{bit_at}
use Rattle.std.proofs.lemmas.Bool.{true≢false, lt-ltb, eqb-true, eq-eqb, ne_eqb, and_parts, and_from, not_from_false, cases_lt}
use Rattle.std.proofs.lemmas.List.{get_or_default, get_or_past}
use Rattle.std.proofs.lemmas.List.Folds.{Any-from_list_any, list_any_at}
use Rattle.nm_base.specs.Geometry.{Geometry, page_count, frame_count}
use Rattle.nm_base.specs.FreeWords.{free_bit}
use Rattle.nm_base.specs.HomeWord.{home_word}
use Rattle.nm_base.specs.Ranges.{IsFrame}
use Rattle.nm_base.specs.ShadowWord.{shadow_frame}
use Rattle.nm_view.specs.Lists.{find}
use Rattle.nm_view.specs.Views.{View}
use Rattle.nm_view.specs.Opening.{opening}
use Rattle.nm_view.specs.Operations.{owned_frame, fill_of}
use Rattle.nm_words.specs.declared.names.Where.TheVariants.{Home, Shadow}
use Rattle.nm_words.specs.Words.{HasSizes}
use Rattle.nm_step.specs.Table.{free_word_of}
use Rattle.nm_core.specs.State.{State, view_of}
use Rattle.nm_core.specs.Roles as state
use Rattle.nm_core.proofs.InPlace.{IsPlace-free_word_of}
use Rattle.nm_world.specs.FrameLaw.{Claim, Claims, Names, NamesAsShadow, names_of}
use Rattle.nm_world.specs.FrameLaw.Claim.{Bit, AtHome, AtShadow, By}
use Rattle.nm_world.specs.Sights.{sight_of}
use Rattle.nm_world.specs.Seen.{seen_word, world_of}
use Rattle.nm_world.proofs.Bridge.{seen_word-place, seen_of}

-- the kinds of claims, by numbers
abbrev pub kind_of : Claim → ℕ
kind_of Bit = 0
kind_of (AtHome b) = 1
kind_of (AtShadow k) = 2
kind_of (By a) = 3

-- a test of frame f finds the claims of one kind
pub record FindsKind (n : Names) (f kind : ℕ) (test : Bool) : Type 0 where
  pub to : test ≡ true → (c : Claim) × (Claims n c f × (kind_of c ≡ kind))
  pub from : (c : Claim) → Claims n c f → kind_of c ≡ kind → test ≡ true

-- the names of frames in a state
abbrev pub names_in : State → Names
names_in s = names_of (sight_of s.geometry (world_of s))

-- ---- bits

same_bit : (s : State) (f : ℕ) → IsFrame s.geometry f → (names_in s).free f ≡ state.is_free s f
same_bit s f frame =
    let g : Geometry = s.geometry in
    ap (λ t. t && (bit_at (seen_word g s.words (free_word_of g f)) (free_bit g f) == 1)) (lt-ltb f (frame_count g) frame)
    ∙ ap (λ n. bit_at n (free_bit g f) == 1) (seen_word-place g s.words (free_word_of g f) (IsPlace-free_word_of g f frame))

free_from : (s : State) (f : ℕ) → IsFrame s.geometry f → (c : Claim) → Claims (names_in s) c f → kind_of c ≡ 0 → state.is_free s f ≡ true
free_from s f frame Bit h e = sym (same_bit s f frame) ∙ h
free_from s f frame (AtHome b) h e = absurd (omega (arith, e))
free_from s f frame (AtShadow k) h e = absurd (omega (arith, e))
free_from s f frame (By a) h e = absurd (omega (arith, e))

pub finds_bit : (s : State) (f : ℕ) → IsFrame s.geometry f → FindsKind (names_in s) f 0 (state.is_free s f)
finds_bit s f frame = record {
  to = λ holds. (Bit, (same_bit s f frame ∙ holds, refl));
  from = free_from s f frame;
}

-- ---- home words

home_to : (s : State) (f : ℕ) → HasSizes s.geometry s.words → state.is_mapped s f ≡ true → (c : Claim) × (Claims (names_in s) c f × (kind_of c ≡ 1))
home_to s f sizes holds =
    let found = Any-from_list_any (state.is_home_of f) s.words.home holds in
    let there : found.0 < page_count s.geometry = omega (arith, found.2, sizes.home) in
    let word : get_or s.words.home found.0 0 ≡ found.1 = get_or_default s.words.home found.0 0 found.1 found.2 ∙ found.3 in
    (AtHome found.0, (seen_word-place s.geometry s.words (Home found.0) there ∙ word ∙ eqb-true found.1 (home_word f) found.4, refl))

home_at_place : (s : State) (f b : ℕ) → HasSizes s.geometry s.words → seen_word s.geometry s.words (Home b) ≡ home_word f → state.is_mapped s f ≡ true
home_at_place s f b sizes =
    seen_of (λ n. n ≡ home_word f → state.is_mapped s f ≡ true) s.geometry s.words (Home b)
    (λ e. absurd (omega (arith, e)))
    (λ place e. list_any_at (state.is_home_of f) s.words.home b 0 (omega (arith, place, sizes.home)) (eq-eqb _ (home_word f) e))

home_from : (s : State) (f : ℕ) → HasSizes s.geometry s.words → (c : Claim) → Claims (names_in s) c f → kind_of c ≡ 1 → state.is_mapped s f ≡ true
home_from s f sizes Bit h e = absurd (omega (arith, e))
home_from s f sizes (AtHome b) h e = home_at_place s f b sizes h
home_from s f sizes (AtShadow k) h e = absurd (omega (arith, e))
home_from s f sizes (By a) h e = absurd (omega (arith, e))

pub finds_home : (s : State) (f : ℕ) → HasSizes s.geometry s.words → FindsKind (names_in s) f 1 (state.is_mapped s f)
finds_home s f sizes = record { to = home_to s f sizes; from = home_from s f sizes }

-- ---- shadow words

names-true : (f word : ℕ) → state.names_shadow f word ≡ true → NamesAsShadow word f
names-true f word holds =
    let parts = and_parts (not (word == 0)) (shadow_frame word == f) holds in
    record { some = λ none. true≢false (sym parts.0 ∙ ap not (eq-eqb word 0 none)); is = eqb-true (shadow_frame word) f parts.1 }

true-names : (f word : ℕ) → NamesAsShadow word f → state.names_shadow f word ≡ true
true-names f word h = and_from _ _ (not_from_false (word == 0) (ne_eqb word 0 h.some)) (eq-eqb (shadow_frame word) f h.is)

shadow_to : (s : State) (f : ℕ) → HasSizes s.geometry s.words → state.is_shadow s f ≡ true → (c : Claim) × (Claims (names_in s) c f × (kind_of c ≡ 2))
shadow_to s f sizes holds =
    let Named : ℕ → Type 0 = λ n. NamesAsShadow n f in
    let found = Any-from_list_any (state.names_shadow f) s.words.shadow holds in
    let there : found.0 < frame_count s.geometry = omega (arith, found.2, sizes.shadow) in
    let word : get_or s.words.shadow found.0 0 ≡ found.1 = get_or_default s.words.shadow found.0 0 found.1 found.2 ∙ found.3 in
    (AtShadow found.0, (subst Named (sym (seen_word-place s.geometry s.words (Shadow found.0) there ∙ word)) (names-true f found.1 found.4), refl))

shadow_at_place : (s : State) (f k : ℕ) → HasSizes s.geometry s.words → NamesAsShadow (seen_word s.geometry s.words (Shadow k)) f → state.is_shadow s f ≡ true
shadow_at_place s f k sizes =
    seen_of (λ n. NamesAsShadow n f → state.is_shadow s f ≡ true) s.geometry s.words (Shadow k)
    (λ h. absurd (h.some refl))
    (λ place h. list_any_at (state.names_shadow f) s.words.shadow k 0 (omega (arith, place, sizes.shadow)) (true-names f _ h))

shadow_from : (s : State) (f : ℕ) → HasSizes s.geometry s.words → (c : Claim) → Claims (names_in s) c f → kind_of c ≡ 2 → state.is_shadow s f ≡ true
shadow_from s f sizes Bit h e = absurd (omega (arith, e))
shadow_from s f sizes (AtHome b) h e = absurd (omega (arith, e))
shadow_from s f sizes (AtShadow k) h e = shadow_at_place s f k sizes h
shadow_from s f sizes (By a) h e = absurd (omega (arith, e))

pub finds_shadow : (s : State) (f : ℕ) → HasSizes s.geometry s.words → FindsKind (names_in s) f 2 (state.is_shadow s f)
finds_shadow s f sizes = record { to = shadow_to s f sizes; from = shadow_from s f sizes }

-- ---- views

some_map : {A B : Type 0} (h : A → B) (o : Option A) → is_some (option_map h o) ≡ is_some o
some_map h None = refl
some_map h (Some x) = refl

-- a view has a fill for the frames that it owns
fill_owned : (view : View) (f : ℕ) → is_some (fill_of view f) ≡ state.owns f view
fill_owned view f = some_map (λ w. w.fill) (find owned_frame f view.owned)

held_to : (s : State) (f : ℕ) → state.is_held s f ≡ true → (c : Claim) × (Claims (names_in s) c f × (kind_of c ≡ 3))
held_to s f holds =
    let found = Any-from_list_any (state.owns f) s.views holds in
    let view : view_of s found.0 ≡ found.1 = get_or_default s.views found.0 (opening s.geometry found.0) found.1 found.2 ∙ found.3 in
    (By found.0, (fill_owned (view_of s found.0) f ∙ ap (state.owns f) view ∙ found.4, refl))

-- a number of no actor has an opening view, which owns nothing
held_by : (s : State) (f a : ℕ) → state.owns f (view_of s a) ≡ true → state.is_held s f ≡ true
held_by s f a h = elim (cases_lt a (length s.views)) [
  | inl there ↦ list_any_at (state.owns f) s.views a (opening s.geometry a) there h
  | inr past ↦ absurd (true≢false (sym h ∙ ap (state.owns f) (get_or_past s.views a (opening s.geometry a) past)))
]

held_from : (s : State) (f : ℕ) (c : Claim) → Claims (names_in s) c f → kind_of c ≡ 3 → state.is_held s f ≡ true
held_from s f Bit h e = absurd (omega (arith, e))
held_from s f (AtHome b) h e = absurd (omega (arith, e))
held_from s f (AtShadow k) h e = absurd (omega (arith, e))
held_from s f (By a) h e = held_by s f a (sym (fill_owned (view_of s a) f) ∙ h)

pub finds_view : (s : State) (f : ℕ) → FindsKind (names_in s) f 3 (state.is_held s f)
finds_view s f = record { to = held_to s f; from = held_from s f }
