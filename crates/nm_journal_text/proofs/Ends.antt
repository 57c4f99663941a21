-- Each state has end words.
use Rattle.std.proofs.Common.{◌≡◌, ℕ, ◌+◌, ◌==◌, ◌&&◌, ◌↔◌, Bool, true, false, IsTrue, List, [], ◌∷◌, Option, refl, sym, ap, ◌∙◌, map}
use Rattle.std.specs.Prelude.{All, slice_index}
use Rattle.std.specs.List.{range_with_len}
use Rattle.std.specs.Bool.{Decides}
use Rattle.std.proofs.lemmas.Bool.Decides.{Decides-eqb, Decides-and, Decides-by_and, Decides-like}
use Rattle.nm_base.specs.Geometry.{page_count}
use Rattle.nm_base.specs.HomeWord.{named_home}
use Rattle.nm_base.specs.ShadowWord.{named_shadow}
use Rattle.nm_view.specs.Views.{View, end_word}
use Rattle.nm_core.specs.declared.ends.Role.{Role}
use Rattle.nm_core.specs.State.{State}
use Rattle.nm_core.specs.Roles.{role_of, all_frames, IsSettled}
use Rattle.nm_core.specs.EndWords.{EndWords, IsEndOf}

are_all : ℕ → List ℕ → Bool
are_all n [] = true
are_all n (x ∷ xs) = x == n && are_all n xs

decides_all : (n : ℕ) (xs : List ℕ) → Decides (are_all n xs) (All (λ x. x ≡ n) xs)
unfolding are_all
decides_all n xs = Decides-by_and (λ x. x == n) (λ x. x ≡ n) (are_all n) (λ x. Decides-eqb x n) refl (λ _ _. refl) xs

is_empty : {A : Type 0} → List A → Bool
is_empty [] = true
is_empty (x ∷ xs) = false

decides_empty : {A : Type 0} (xs : List A) → Decides (is_empty xs) (xs ≡ [])
unfolding is_empty
decides_empty [] = (λ _. refl, λ _. refl)
decides_empty (x ∷ xs) = (λ e. absurd cc, λ e. absurd cc)

are_idle : (View → Bool) → List View → Bool
are_idle p [] = true
are_idle p (v ∷ vs) = p v && are_idle p vs

decides_idle : (p : View → Bool) (P : View → Type 0) (each : (v : View) → Decides (p v) (P v)) (vs : List View) → Decides (are_idle p vs) (All P vs)
unfolding are_idle
decides_idle p P each vs = Decides-by_and p P (are_idle p) each refl (λ _ _. refl) vs

settled : State → Bool
settled s = are_all end_word s.words.ack && (are_all 0 s.words.lock && (are_all 0 s.words.turn && (are_all 0 s.words.mark && (are_idle (λ v. is_empty v.ops) s.views && are_idle (λ v. is_empty v.owned) s.views))))

decides_settled : (s : State) → Decides (settled s) (IsSettled s)
unfolding settled
decides_settled s =
    let ack = decides_all end_word s.words.ack in
    let lock = decides_all 0 s.words.lock in
    let turn = decides_all 0 s.words.turn in
    let mark = decides_all 0 s.words.mark in
    let ops = decides_idle (λ v. is_empty v.ops) (λ v. v.ops ≡ []) (λ v. decides_empty v.ops) s.views in
    let owned = decides_idle (λ v. is_empty v.owned) (λ v. v.owned ≡ []) (λ v. decides_empty v.owned) s.views in
    let whole = Decides-and _ _ ack (Decides-and _ _ lock (Decides-and _ _ turn (Decides-and _ _ mark (Decides-and _ _ ops owned)))) in (
      λ e. let h = whole.0 e in record { ended = h.0; locks = h.1.0; turns = h.1.1.0; marks = h.1.1.1.0; ops = h.1.1.1.1.0; owned = h.1.1.1.1.1 },
      λ h. whole.1 (h.ended, (h.locks, (h.turns, (h.marks, (h.ops, h.owned))))),
    )

-- each state has end words
pub end_of : (s : State) → (e : EndWords) × IsEndOf s e
end_of s =
    let d = decides_settled s in (
      record {
        homes = map (λ page. named_home (slice_index s.words.home page)) (range_with_len 0 (page_count s.geometry));
        shadows = map (λ frame. named_shadow (slice_index s.words.shadow frame)) (all_frames s.geometry);
        marks = s.words.mark;
        roles = map (role_of s) (all_frames s.geometry);
        settled = settled s;
      },
      record {
        homes = refl;
        shadows = refl;
        marks = refl;
        roles = refl;
        settled = (d.0, d.1);
      },
    )

same_bool : (a b : Bool) (P : Type 0) → IsTrue a ↔ P → IsTrue b ↔ P → a ≡ b
same_bool true true P h k = refl
same_bool true false P h k = sym (k.1 (h.0 refl))
same_bool false true P h k = h.1 (k.0 refl)
same_bool false false P h k = refl

-- and these alone
pub one_end : (s : State) (a b : EndWords) → IsEndOf s a → IsEndOf s b → a ≡ b
one_end s a b h k =
    let homes : a.homes ≡ b.homes = h.homes ∙ sym k.homes in
    let shadows : a.shadows ≡ b.shadows = h.shadows ∙ sym k.shadows in
    let marks : a.marks ≡ b.marks = h.marks ∙ sym k.marks in
    let roles : a.roles ≡ b.roles = h.roles ∙ sym k.roles in
    let last : a.settled ≡ b.settled = same_bool a.settled b.settled (IsSettled s) h.settled k.settled in
    ap (λ (q : List (Option ℕ) × List (Option (ℕ × ℕ)) × List ℕ × List Role × Bool). record { homes = q.0; shadows = q.1; marks = q.2; roles = q.3; settled = q.4 })
    (five a.homes b.homes a.shadows b.shadows a.marks b.marks a.roles b.roles a.settled b.settled homes shadows marks roles last)
  where
    five : (a b : List (Option ℕ)) (c d : List (Option (ℕ × ℕ))) (e f : List ℕ) (g h : List Role) (i j : Bool) → a ≡ b → c ≡ d → e ≡ f → g ≡ h → i ≡ j
        → ◌≡◌ {A = List (Option ℕ) × List (Option (ℕ × ℕ)) × List ℕ × List Role × Bool} (a, c, e, g, i) (b, d, f, h, j)
    five a b c d e f g h i j k l m n o = cc
