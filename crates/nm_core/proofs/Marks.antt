-- Marks on the roles of frames.
use Rattle.std.proofs.Common.{◌≡◌, ℕ, ◌+◌, ◌<◌, ◌≤◌, ◌==◌, ◌||◌, if◌then◌else◌, Bool, true, false, List, length, take, get_or, set, refl, sym, ap, ◌∙◌, arith}
use Rattle.std.specs.List.{list_any}
use Rattle.std.proofs.lemmas.Bool.{eqb-true, eqb-false}
use Rattle.std.proofs.lemmas.List.{get_or-set_same, get_or-set_other}
use Rattle.std.proofs.lemmas.List.Folds.{list_any_more}
use Rattle.nm_core.specs.declared.ends.Role.{Role}
use Rattle.nm_core.specs.declared.ends.Role.TheVariants.{Free, Mapped, Shadow, Held}
use Rattle.nm_core.specs.State.{State}
use Rattle.nm_core.specs.Roles.{is_free, is_home_of, is_mapped, names_shadow, is_shadow, marked, role_of}

-- what has no mark stays
pub marked-not : (role before : Role) → marked role false before ≡ before
marked-not role Free = refl
marked-not role Mapped = refl
marked-not role Shadow = refl
marked-not role Held = refl

-- two marks of one role are one: the role is none that a mark would not change
pub marked-twice : (role before : Role) (a b : Bool) → (marked role true role ≡ role) → marked role b (marked role a before) ≡ marked role (a || b) before
marked-twice role Free a b same = refl
marked-twice role Mapped true true same = same
marked-twice role Mapped true false same = marked-not role role
marked-twice role Mapped false b same = refl
marked-twice role Shadow true true same = same
marked-twice role Shadow true false same = marked-not role role
marked-twice role Shadow false b same = refl
marked-twice role Held true true same = same
marked-twice role Held true false same = marked-not role role
marked-twice role Held false b same = refl

mark_go : (roles : List Role) (frame k : ℕ) (role : Role) (b : Bool) → (frame == k) ≡ b → frame < length roles → get_or (set roles frame (marked role true (get_or roles frame Free))) k Free ≡ marked role b (get_or roles k Free)
mark_go roles frame k role true e lt =
    let same : frame ≡ k = eqb-true frame k e in
    ap (λ n. get_or (set roles frame (marked role true (get_or roles frame Free))) n Free) (sym same) ∙ get_or-set_same roles frame (marked role true (get_or roles frame Free)) Free lt ∙ ap (λ n. marked role true (get_or roles n Free)) same
mark_go roles frame k role false e lt =
    get_or-set_other roles frame k (marked role true (get_or roles frame Free)) Free (λ same. eqb-false frame k e (sym same)) ∙ sym (marked-not role (get_or roles k Free))

-- a frame is marked
pub mark_there : (roles : List Role) (frame k : ℕ) (role : Role) → frame < length roles → get_or (set roles frame (marked role true (get_or roles frame Free))) k Free ≡ marked role (frame == k) (get_or roles k Free)
mark_there roles frame k role lt = mark_go roles frame k role (frame == k) refl lt

past_go : (role before : Role) (frame k : ℕ) (b : Bool) → (frame == k) ≡ b → k < frame → before ≡ marked role b before
past_go role before frame k true e lt = absurd (omega (arith, lt, eqb-true frame k e))
past_go role before frame k false e lt = sym (marked-not role before)

-- there is no such frame
pub mark_past : (roles : List Role) (frame k : ℕ) (role : Role) → length roles ≤ frame → k < length roles → get_or roles k Free ≡ marked role (frame == k) (get_or roles k Free)
mark_past roles frame k role le lt = past_go role (get_or roles k Free) frame k (frame == k) refl (omega (arith, le, lt))

-- one word more of those that name a frame
pub mark_more : (role : Role) (names : ℕ → Bool) (words : List ℕ) (i d : ℕ) (before now next : Role) → i < length words → marked role true role ≡ role → now ≡ marked role (list_any names (take i words)) before → next ≡ marked role (names (get_or words i d)) now → next ≡ marked role (list_any names (take (i + 1) words)) before
mark_more role names words i d before now next lt same was is =
    is ∙ ap (marked role (names (get_or words i d))) was ∙ marked-twice role before (list_any names (take i words)) (names (get_or words i d)) same ∙ ap (λ b. marked role b before) (sym (list_any_more names words i d lt))

role_go : (free mapped shadow : Bool) → marked Mapped mapped (marked Shadow shadow (if free then Free else Held)) ≡ (if free then Free else if mapped then Mapped else if shadow then Shadow else Held)
role_go true mapped shadow = refl
role_go false true true = refl
role_go false true false = refl
role_go false false true = refl
role_go false false false = refl

-- the marks of the shadow words and then of the homes are the role
pub role-marked : (s : State) (f : ℕ) (shadows homes : List ℕ) (first second third : Role) → shadows ≡ s.words.shadow → homes ≡ s.words.home → first ≡ (if is_free s f then Free else Held) → second ≡ marked Shadow (list_any (names_shadow f) shadows) first → third ≡ marked Mapped (list_any (is_home_of f) homes) second → third ≡ role_of s f
role-marked s f shadows homes first second third some every begin copy home =
    home ∙ ap (λ xs. marked Mapped (list_any (is_home_of f) xs) second) every ∙ ap (marked Mapped (is_mapped s f)) (copy ∙ ap (λ xs. marked Shadow (list_any (names_shadow f) xs) first) some ∙ ap (marked Shadow (is_shadow s f)) begin) ∙ role_go (is_free s f) (is_mapped s f) (is_shadow s f)
