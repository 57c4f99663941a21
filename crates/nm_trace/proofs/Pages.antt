-- One reference more: its page, its number, and the lines of the references before it.
use Rattle.std.proofs.Common.{◌≡◌, ℕ, zero, suc, ◌+◌, ◌<◌, ◌==◌, ◌||◌, Bool, true, false, not, cond, nat_eq, max, List, [], ◌∷◌, ◌++◌, map, filter, length, set, get_or, refl, sym, ap, subst, ◌∙◌, inl, inr, arith}
use Rattle.std.specs.List.{AllByRecursion, list_any, range_with_len}
use Rattle.std.proofs.lemmas.Bool.{cases_Bool, ne_eqb, eq-eqb}
use Rattle.std.proofs.lemmas.List.{append-nil, map-append}
use Rattle.std.proofs.lemmas.List.Elements.{filter-append}
use Rattle.std.proofs.lemmas.List.FromFn.{get_or-map-range_with_len}
use Rattle.std.proofs.lemmas.List.Folds.{list_any-append}
use Rattle.indexmap.specs.IndexSet.{insert_key, insert_all}
use Rattle.nm_script.specs.declared.script.Line.{Line}
use Rattle.nm_trace.specs.declared.reference.Reference.{Reference}
use Rattle.nm_trace.specs.Imports.{referenced_page, referenced_word, pages_seen, cpus_seen, page_number, access_with, frames_for, line_for, program_for, programs_for}
use Rattle.nm_trace.specs.Drafts.{IsPageSeen}

insert_all-push : (ks xs : List ℕ) (k : ℕ) → insert_all nat_eq ks (xs ++ k ∷ []) ≡ insert_key nat_eq (insert_all nat_eq ks xs) k
insert_all-push ks [] k = refl
insert_all-push ks (x ∷ xs) k = insert_all-push (insert_key nat_eq ks x) xs k

-- the pages with one reference more
pub pages_seen-push : (refs : List Reference) (r : Reference) → pages_seen (refs ++ r ∷ []) ≡ insert_key nat_eq (pages_seen refs) (referenced_page r)
pages_seen-push refs r = ap (insert_all nat_eq []) (map-append referenced_page refs (r ∷ [])) ∙ insert_all-push [] (map referenced_page refs) (referenced_page r)

-- the processors with one reference more
pub cpus_seen-push : (refs : List Reference) (r : Reference) → cpus_seen (refs ++ r ∷ []) ≡ max (cpus_seen refs) (r.cpu + 1)
cpus_seen-push [] r = omega arith
cpus_seen-push (q ∷ refs) r = omega (arith, cpus_seen-push refs r)

by_key : (b : Bool) (P : List ℕ → Type 0) (ks : List ℕ) (y : ℕ) → P ks → P (ks ++ y ∷ []) → P (cond b ks (ks ++ y ∷ []))
by_key true P ks y h g = h
by_key false P ks y h g = g

-- a page that was seen stays seen
pub seen-insert : (ks : List ℕ) (k y : ℕ) → list_any (nat_eq k) ks ≡ true → list_any (nat_eq k) (insert_key nat_eq ks y) ≡ true
seen-insert ks k y h = by_key (list_any (nat_eq y) ks) (λ l. list_any (nat_eq k) l ≡ true) ks y h (list_any-append (nat_eq k) ks (y ∷ []) ∙ rw h refl)

either-true : (a b : Bool) → b ≡ true → (a || b) ≡ true
either-true true b e = refl
either-true false b e = e

-- and a new one is seen
pub seen-new : (ks : List ℕ) (k : ℕ) → list_any (nat_eq k) (insert_key nat_eq ks k) ≡ true
seen-new ks k = elim (cases_Bool (list_any (nat_eq k) ks)) [
  | inl old ↦ rw old old
  | inr new ↦ rw new (list_any-append (nat_eq k) ks (k ∷ []) ∙ either-true (list_any (nat_eq k) ks) (nat_eq k k || false) (rw (eq-eqb k k refl) refl))
]

place-cons : (b : Bool) (m n : ℕ) → m ≡ n → cond (not b) (1 + m) 0 ≡ cond (not b) (1 + n) 0
place-cons true m n e = refl
place-cons false m n e = ap (λ k. 1 + k) e

-- the number of a page that was seen stays
place-push : (ks : List ℕ) (k y : ℕ) → list_any (nat_eq k) ks ≡ true → page_number (ks ++ y ∷ []) k ≡ page_number ks k
place-push [] k y h = cc h
place-push (x ∷ ks) k y h = elim (cases_Bool (nat_eq k x)) [
  | inl e ↦ rw e refl
  | inr e ↦ rw e (ap (λ n. 1 + n) (place-push ks k y (rw e at h)))
]

pub place-insert : (ks : List ℕ) (k y : ℕ) → list_any (nat_eq k) ks ≡ true → page_number (insert_key nat_eq ks y) k ≡ page_number ks k
place-insert ks k y h = by_key (list_any (nat_eq y) ks) (λ l. page_number l k ≡ page_number ks k) ks y refl (place-push ks k y h)

place-last : (ks : List ℕ) (k : ℕ) → list_any (nat_eq k) ks ≡ false → page_number (ks ++ k ∷ []) k ≡ page_number ks k
place-last [] k h = rw (eq-eqb k k refl) refl
place-last (x ∷ ks) k h = elim (cases_Bool (nat_eq k x)) [
  | inl e ↦ rw e refl
  | inr e ↦ rw e (ap (λ n. 1 + n) (place-last ks k (rw e at h)))
]

-- a page has the number that it has before it is inserted: its own, or the next one
pub place-own : (ks : List ℕ) (k : ℕ) → page_number (insert_key nat_eq ks k) k ≡ page_number ks k
place-own ks k = elim (cases_Bool (list_any (nat_eq k) ks)) [
  | inl old ↦ rw old refl
  | inr new ↦ rw new (place-last ks k new)
]

-- every reference stays seen
pub seen-more : (ks : List ℕ) (y : ℕ) (refs : List Reference) → AllByRecursion (IsPageSeen ks) refs → AllByRecursion (IsPageSeen (insert_key nat_eq ks y)) refs
seen-more ks y [] h = tt
seen-more ks y (r ∷ refs) h = (seen-insert ks (referenced_page r) y h.0, seen-more ks y refs h.1)

pub all-push : (P : Reference → Type 0) (refs : List Reference) (r : Reference) → AllByRecursion P refs → P r → AllByRecursion P (refs ++ r ∷ [])
all-push P [] r h p = (p, tt)
all-push P (q ∷ refs) r h p = (h.0, all-push P refs r h.1 p)

map-cond : (f : Reference → Line) (b : Bool) (r : Reference) (rs : List Reference) → map f (cond b (r ∷ rs) rs) ≡ cond b (f r ∷ map f rs) (map f rs)
map-cond f true r rs = refl
map-cond f false r rs = refl

-- the lines of the references stay
program-stays : (ks : List ℕ) (y p : ℕ) (refs : List Reference) → AllByRecursion (IsPageSeen ks) refs → program_for (insert_key nat_eq ks y) refs p ≡ program_for ks refs p
program-stays ks y p [] h = refl
program-stays ks y p (r ∷ refs) h =
    let new = insert_key nat_eq ks y in
    let line : line_for new r ≡ line_for ks r = rw (place-insert ks (referenced_page r) y h.0) refl in
    map-cond (line_for new) (r.cpu == p) r (filter (λ q. q.cpu == p) refs)
    ∙ ap (λ l. cond (r.cpu == p) (l ∷ program_for new refs p) (program_for new refs p)) line
    ∙ ap (λ ls. cond (r.cpu == p) (line_for ks r ∷ ls) ls) (program-stays ks y p refs h.1)
    ∙ sym (map-cond (line_for ks) (r.cpu == p) r (filter (λ q. q.cpu == p) refs))

-- the program of a processor with one reference more
program-push : (ks : List ℕ) (refs : List Reference) (r : Reference) (p : ℕ) → program_for ks (refs ++ r ∷ []) p ≡ program_for ks refs p ++ cond (r.cpu == p) (line_for ks r ∷ []) []
program-push ks refs r p =
    ap (map (line_for ks)) (filter-append (λ q. q.cpu == p) refs (r ∷ []))
    ∙ map-append (line_for ks) (filter (λ q. q.cpu == p) refs) (cond (r.cpu == p) (r ∷ []) [])
    ∙ ap (λ l. program_for ks refs p ++ l) (map-cond (line_for ks) (r.cpu == p) r [])

pub program-more : (refs : List Reference) (r : Reference) (p : ℕ) → AllByRecursion (IsPageSeen (pages_seen refs)) refs
    → program_for (pages_seen (refs ++ r ∷ [])) (refs ++ r ∷ []) p ≡ program_for (pages_seen refs) refs p ++ cond (r.cpu == p) (line_for (pages_seen (refs ++ r ∷ [])) r ∷ []) []
program-more refs r p h =
    let new = pages_seen (refs ++ r ∷ []) in
    program-push new refs r p
    ∙ ap (λ l. l ++ cond (r.cpu == p) (line_for new r ∷ []) []) (ap (λ ks. program_for ks refs p) (pages_seen-push refs r) ∙ program-stays (pages_seen refs) (referenced_page r) p refs h)

-- a list by number, where one place is set and the others stay
set-range : {X : Type 0} (f g : ℕ → X) (a n i j : ℕ) → i < n → a + i ≡ j → ((k : ℕ) → (j == k) ≡ false → g k ≡ f k) → set (map f (range_with_len a n)) i (g j) ≡ map g (range_with_len a n)
set-range f g a zero i j h e same = absurd (omega (arith, h))
set-range f g a (suc n) zero j h e same =
    let at : a ≡ j = omega (arith, e) in
    rw at (ap (λ l. g j ∷ l) (others (j + 1) n (omega arith)))
  where
    others : (b m : ℕ) → j < b → map f (range_with_len b m) ≡ map g (range_with_len b m)
    others b zero h = refl
    others b (suc m) h = rw (same b (ne_eqb j b (λ z. omega (arith, z, h))), others (b + 1) m (omega (arith, h))) refl
set-range f g a (suc n) (suc i) j h e same =
    rw (same a (ne_eqb j a (λ z. omega (arith, z, e))), set-range f g (a + 1) n i j (omega (arith, h)) (omega (arith, e)) same) refl

-- one reference more makes one program longer by its line
pub programs-more : (refs : List Reference) (r : Reference) (before : List (List Line)) → AllByRecursion (IsPageSeen (pages_seen refs)) refs → r.cpu < 16
    → before ≡ programs_for (pages_seen refs) refs 16
    → set before r.cpu (get_or before r.cpu [] ++ line_for (pages_seen (refs ++ r ∷ [])) r ∷ []) ≡ programs_for (pages_seen (refs ++ r ∷ [])) (refs ++ r ∷ []) 16
programs-more refs r before seen few e =
    let f = program_for (pages_seen refs) refs in
    let g = program_for (pages_seen (refs ++ r ∷ [])) (refs ++ r ∷ []) in
    let own : f r.cpu ++ line_for (pages_seen (refs ++ r ∷ [])) r ∷ [] ≡ g r.cpu = sym (program-more refs r r.cpu seen ∙ rw (eq-eqb r.cpu r.cpu refl) refl) in
    let at : get_or before r.cpu [] ≡ f r.cpu = ap (λ l. get_or l r.cpu []) e ∙ get_or-map-range_with_len f 0 16 r.cpu r.cpu [] few (omega arith) in
    rw (at, own, e) (set-range f g 0 16 r.cpu r.cpu few (omega arith) (λ k ne. program-more refs r k seen ∙ rw (ne, append-nil (f k)) refl))

-- the frames that are needed with one reference more
pub frames-more : (refs : List Reference) (r : Reference) (old new : List ℕ) (cpus : ℕ) → old ≡ pages_seen refs → new ≡ insert_key nat_eq old (referenced_page r) → cpus ≡ cpus_seen refs
    → length new + max cpus (r.cpu + 1) + 9 ≡ frames_for (refs ++ r ∷ [])
frames-more refs r old new cpus p n c =
    let pages : length new ≡ length (pages_seen (refs ++ r ∷ [])) = ap length (n ∙ ap (λ ks. insert_key nat_eq ks (referenced_page r)) p ∙ sym (pages_seen-push refs r)) in
    omega (arith, pages, c, cpus_seen-push refs r)

-- the line of one reference more
pub line-own : (refs : List Reference) (r : Reference) (old : List ℕ) (v : ℕ) (line : Line) → old ≡ pages_seen refs → v ≡ page_number old (referenced_page r) → line ≡ access_with v (referenced_word r) r.value
    → line ≡ line_for (pages_seen (refs ++ r ∷ [])) r
line-own refs r old v line p e l =
    l ∙ ap (λ n. access_with n (referenced_word r) r.value) (e ∙ ap (λ ks. page_number ks (referenced_page r)) p ∙ sym (place-own (pages_seen refs) (referenced_page r)) ∙ ap (λ ks. page_number ks (referenced_page r)) (sym (pages_seen-push refs r)))

-- every reference is seen with one more
pub seen-push : (refs : List Reference) (r : Reference) → AllByRecursion (IsPageSeen (pages_seen refs)) refs → AllByRecursion (IsPageSeen (pages_seen (refs ++ r ∷ []))) (refs ++ r ∷ [])
seen-push refs r h =
    let ks = insert_key nat_eq (pages_seen refs) (referenced_page r) in
    subst (λ new. AllByRecursion (IsPageSeen new) (refs ++ r ∷ [])) (sym (pages_seen-push refs r))
    (all-push (IsPageSeen ks) refs r (seen-more (pages_seen refs) (referenced_page r) refs h) (seen-new (pages_seen refs) (referenced_page r)))
