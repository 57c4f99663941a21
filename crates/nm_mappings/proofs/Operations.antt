-- What visits change in the operation on their page.
use Rattle.std.proofs.Common.{◌≡◌, ◌≢◌, ℕ, zero, suc, ◌+◌, ◌<◌, List, [], ◌∷◌, ◌++◌, map, Option, Some, None, IsSomeAnd, refl, sym, ap, ◌∙◌, subst, arith, append_assoc}
use Rattle.std.specs.Prelude.{option_map}
use Rattle.std.proofs.lemmas.List.{append-nil}
use Rattle.nm_view.specs.Lists.{find, edit, erase, put, first, itself, Once}
use Rattle.nm_view.specs.Views.{Op}
use Rattle.nm_view.specs.Operations.{page_of}
use Rattle.nm_view.proofs.Finds.{find_erase_other}
use Rattle.nm_event.specs.After.{raised_to}
use Rattle.nm_vpages.specs.VPages.{AreBelow}
use Rattle.nm_mappings.specs.declared.visits.Visit.{Visit}
use Rattle.nm_mappings.specs.declared.visits.Visit.TheVariants as visits
use Rattle.nm_mappings.specs.Visits.{visited_at, visited}
use Rattle.nm_mappings.proofs.Lists.{once-absent, put-new}

-- Edits.

-- one edit after another
pub edit-then : {A : Type 0} (key : A → ℕ) (k : ℕ) (f h both : A → A) (xs : List A) → ((x : A) → key (f x) ≡ key x) → ((x : A) → h (f x) ≡ both x) → edit key k h (edit key k f xs) ≡ edit key k both xs
edit-then key k f h both [] kept same = refl
edit-then key k f h both (x ∷ xs) kept same = grind (arith, kept x, same x, edit-then key k f h both xs kept same)

-- edits that are the same
pub edit-same : {A : Type 0} (key : A → ℕ) (k : ℕ) (f h : A → A) (xs : List A) → ((x : A) → f x ≡ h x) → edit key k f xs ≡ edit key k h xs
edit-same key k f h [] same = refl
edit-same key k f h (x ∷ xs) same = grind (arith, same x, edit-same key k f h xs same)

-- an edit that changes nothing
pub edit-nothing : {A : Type 0} (key : A → ℕ) (k : ℕ) (f : A → A) (xs : List A) → ((x : A) → f x ≡ x) → edit key k f xs ≡ xs
edit-nothing key k f [] same = refl
edit-nothing key k f (x ∷ xs) same = grind (arith, same x, edit-nothing key k f xs same)

-- what is known of an operation, after a change of it
pub some-changed : {A B : Type 0} (f : A → B) (P : A → Type 0) (Q : B → Type 0) (o : Option A) → ((x : A) → P x → Q (f x)) → IsSomeAnd o P → IsSomeAnd (option_map f o) Q
some-changed f P Q None all h = h
some-changed f P Q (Some x) all h = all x h

-- Visits.

-- one visit more
pub visited-push : (visit : Visit) (told : List (ℕ × ℕ)) (p : ℕ × ℕ) (o : Op) → visited visit (told ++ p ∷ []) o ≡ visited_at visit p.0 p.1 (visited visit told o)
visited-push visit [] p o = refl
visited-push visit (q ∷ told) p o = visited-push visit told p (visited_at visit q.0 q.1 o)

at-page : (visit : Visit) (v w : ℕ) (o : Op) → (visited_at visit v w o).page ≡ o.page
at-page visits.Look v w o = refl
at-page visits.Arm v w o = refl
at-page visits.Raise v w o = refl

-- they keep its page
pub visited-page : (visit : Visit) (told : List (ℕ × ℕ)) (o : Op) → page_of (visited visit told o) ≡ page_of o
visited-page visit [] o = refl
visited-page visit (p ∷ told) o = visited-page visit told (visited_at visit p.0 p.1 o) ∙ at-page visit p.0 p.1 o

-- Arms change nothing
pub visited-arm : (told : List (ℕ × ℕ)) (o : Op) → visited visits.Arm told o ≡ o
visited-arm [] o = refl
visited-arm (p ∷ told) o = visited-arm told o

-- Looks add what they told
pub visited-look : (told : List (ℕ × ℕ)) (o : Op) → Once first (o.looked ++ told) → visited visits.Look told o ≡ record o { looked = o.looked ++ told }
visited-look [] o once = ap (λ (l : List (ℕ × ℕ)). record o { looked = l }) (sym (append-nil o.looked))
visited-look (p ∷ told) o once =
    let new : put first p o.looked ≡ o.looked ++ p ∷ [] = put-new o.looked p (once-absent o.looked told p once) in
    let rest : (o.looked ++ p ∷ []) ++ told ≡ o.looked ++ p ∷ told = append_assoc o.looked (p ∷ []) told in
    let kept = subst (Once first) (sym rest) once in
    ap (λ (l : List (ℕ × ℕ)). visited visits.Look told (record o { looked = l })) new
    ∙ visited-look told (record o { looked = o.looked ++ p ∷ [] }) kept
    ∙ ap (λ (l : List (ℕ × ℕ)). record o { looked = l }) rest

-- Raises of others keep a virtual page wet
pub raised-wet : (told : List (ℕ × ℕ)) (v : ℕ) (o : Op) → AreBelow v (map first told) → find itself v (visited visits.Raise told o).wet ≡ find itself v o.wet
raised-wet [] v o below = refl
raised-wet (p ∷ told) v o below =
    let low : p.0 < v = below zero 0 (omega arith) in
    let other : p.0 ≢ v = λ e. omega arith in
    raised-wet told v (raised_to p.0 (p.1 + 1) o) (λ i d lt. below (suc i) d (omega arith)) ∙ find_erase_other itself p.0 v o.wet other

erase-first : (v : ℕ) (vs : List ℕ) → erase itself v (v ∷ vs) ≡ vs
erase-first v vs = grind arith

-- Raises of all that are wet, in their order, leave none
pub raised-dry : (told : List (ℕ × ℕ)) (o : Op) → o.wet ≡ map first told → (visited visits.Raise told o).wet ≡ []
raised-dry [] o is = is
raised-dry (p ∷ told) o is = raised-dry told (raised_to p.0 (p.1 + 1) o) (ap (erase itself p.0) is ∙ erase-first p.0 (map first told))

-- Raises change nothing else
pub raised-same : (told : List (ℕ × ℕ)) (o : Op) → visited visits.Raise told o ≡ record o { wet = (visited visits.Raise told o).wet; raised = (visited visits.Raise told o).raised }
raised-same [] o = refl
raised-same (p ∷ told) o = raised-same told (raised_to p.0 (p.1 + 1) o)
