-- Lists of virtual pages and of frames.
use Rattle.std.proofs.Common.{◌≡◌, ℕ, zero, suc, ◌<◌, ◌==◌, if◌then◌else◌, Bool, true, false, List, [], ◌∷◌, ◌++◌, map, drop, length, All, Option, Some, None, IsSome, refl, sym, ap, ◌∙◌, subst, arith}
use Rattle.nm_view.specs.declared.view.Fill.{Fill}
use Rattle.nm_view.specs.declared.view.Fill.TheVariants.{Raw, Zeroed, Copied, Equal}
use Rattle.nm_view.specs.declared.view.Owned.{Owned}
use Rattle.nm_view.specs.Lists.{find, edit, erase, put, first, itself}
use Rattle.nm_view.specs.Operations.{owned_frame}
use Rattle.nm_view.proofs.Items.{all_head, all_tail, more, none_left}
use Rattle.nm_event.specs.After.{filled, spoiled_fill, spoiled_frame, spoiled}
use Rattle.nm_vpages.specs.VPages.{AreBelow}

-- Virtual pages.

pub put-last : (v : ℕ) (vs : List ℕ) → AreBelow v vs → put itself v vs ≡ vs ++ v ∷ []
put-last v [] h = refl
put-last v (x ∷ vs) h =
    let low : x < v = h zero 0 (omega arith) in
    let rest = put-last v vs (λ i d lt. h (suc i) d (omega arith)) in
    grind (arith, rest)

found-there : (u v : ℕ) (vs : List ℕ) (test : Bool) → (u == v) ≡ test → (test ≡ false → IsSome (find itself v vs)) → IsSome (if test then Some u else find itself v vs)
found-there u v vs true e rest = refl
found-there u v vs false e rest = rest refl

more-found : (u : ℕ) (vs us : List ℕ) → All (λ v. IsSome (find itself v vs)) us → All (λ v. IsSome (find itself v (u ∷ vs))) us
more-found u vs [] h = none_left (λ v. IsSome (find itself v (u ∷ vs)))
more-found u vs (v ∷ us) h =
    more (λ v. IsSome (find itself v (u ∷ vs))) v us (found-there u v vs (u == v) refl (λ _. all_head (λ v. IsSome (find itself v vs)) v us h))
    (more-found u vs us (all_tail (λ v. IsSome (find itself v vs)) v us h))

-- each of them is found
pub all-found : (vs : List ℕ) → All (λ v. IsSome (find itself v vs)) vs
all-found [] = none_left (λ v. IsSome (find itself v []))
all-found (u ∷ vs) =
    let here : (u == u) ≡ true = grind arith in
    more (λ v. IsSome (find itself v (u ∷ vs))) u vs (found-there u u vs (u == u) refl (λ e. absurd (let t : true ≡ false = sym here ∙ e in cc))) (more-found u vs vs (all-found vs))

word-there : (p : ℕ × ℕ) (u : ℕ) (test : Bool) (o : Option ℕ) (q : Option (ℕ × ℕ)) → (IsSome o → IsSome q) → IsSome (if test then Some p.0 else o) → IsSome (if test then Some p else q)
word-there p u true o q rest h = refl
word-there p u false o q rest h = rest h

-- a virtual page that was taken has its word
pub found-word : (u : ℕ) (taken : List (ℕ × ℕ)) → IsSome (find itself u (map first taken)) → IsSome (find first u taken)
found-word u [] h = h
found-word u (p ∷ taken) h = word-there p u (p.0 == u) (find itself u (map first taken)) (find first u taken) (found-word u taken) h

pub erase-head : (p : ℕ × ℕ) (taken : List (ℕ × ℕ)) → erase first p.0 (p ∷ taken) ≡ taken
erase-head p taken = let here : (p.0 == p.0) ≡ true = grind arith in ap (λ (t : Bool). if t then taken else p ∷ erase first p.0 taken) here

pub find-head : (p : ℕ × ℕ) (taken : List (ℕ × ℕ)) → find first p.0 (p ∷ taken) ≡ Some p
find-head p taken = let here : (p.0 == p.0) ≡ true = grind arith in ap (λ (t : Bool). if t then Some p else find first p.0 taken) here

-- what all have, one of them has
pub all-in : (P : ℕ × ℕ → Type 0) (taken : List (ℕ × ℕ)) (index : ℕ) (p : ℕ × ℕ) (rest : List (ℕ × ℕ)) → All P taken → drop index taken ≡ p ∷ rest → P p
all-in P [] zero p rest h e = cc
all-in P [] (suc index) p rest h e = cc
all-in P (x ∷ taken) zero p rest h e = let same : x ≡ p = cc in subst P same (all_head P x taken h)
all-in P (x ∷ taken) (suc index) p rest h e = all-in P taken index p rest (all_tail P x taken h) e

-- there is a place where a word stands
pub drop-within : (taken : List (ℕ × ℕ)) (index : ℕ) (p : ℕ × ℕ) (rest : List (ℕ × ℕ)) → drop index taken ≡ p ∷ rest → index < length taken
drop-within [] zero p rest e = cc
drop-within [] (suc index) p rest e = cc
drop-within (x ∷ taken) zero p rest e = omega arith
drop-within (x ∷ taken) (suc index) p rest e = let low = drop-within taken index p rest e in omega arith

-- Frames.

-- an edit of a frame that is then taken out
pub erase-filled : (frame : ℕ) (fill : Fill) (owned : List Owned) → erase owned_frame frame (edit owned_frame frame (filled fill) owned) ≡ erase owned_frame frame owned
erase-filled frame fill [] = refl
erase-filled frame fill (w ∷ owned) = grind (arith, erase-filled frame fill owned)

-- a new frame that is taken out again
pub erase-put : (w : Owned) (owned : List Owned) → find owned_frame w.frame owned ≡ None → erase owned_frame w.frame (put owned_frame w owned) ≡ owned
erase-put w [] e = grind arith
erase-put w (x ∷ owned) e = grind (arith, erase-put w owned)

spoiled-test : (page : ℕ) (fill : Fill) (test : Bool) → (test ≡ false → spoiled_fill page fill ≡ fill) → spoiled_fill page (if test then Raw else fill) ≡ (if test then Raw else fill)
spoiled-test page fill true same = refl
spoiled-test page fill false same = same refl

spoiled-once : (page : ℕ) (fill : Fill) → spoiled_fill page (spoiled_fill page fill) ≡ spoiled_fill page fill
spoiled-once page Raw = refl
spoiled-once page (Zeroed n) = refl
spoiled-once page (Copied b n) = spoiled-test page (Copied b n) (b == page) (λ e. ap (λ (t : Bool). if t then Raw else Copied b n) e)
spoiled-once page (Equal b) = spoiled-test page (Equal b) (b == page) (λ e. ap (λ (t : Bool). if t then Raw else Equal b) e)

-- frames of which nothing is known any more
pub spoiled-twice : (page : ℕ) (owned : List Owned) → spoiled page (spoiled page owned) ≡ spoiled page owned
spoiled-twice page [] = refl
spoiled-twice page (w ∷ owned) =
    ap (λ (f : Fill). (record w { fill = f }) ∷ spoiled page (spoiled page owned)) (spoiled-once page w.fill) ∙ ap (λ (l : List Owned). spoiled_frame page w ∷ l) (spoiled-twice page owned)
