-- Shaped operations: what each change keeps.
use Rattle.std.proofs.Common.{◌≡◌, ◌≢◌, ℕ, ◌+◌, inl, inr, ◌&&◌, Bool, true, false, IsTrue, List, [], ◌∷◌, ◌++◌, Option, Some, None, refl, sym, subst, arith}
use Rattle.std.specs.Option.{IfSome, IsSomeAnd}
use Rattle.nm_base.specs.Geometry.{Geometry}
use Rattle.nm_action.specs.declared.action.Cell.{Cell}
use Rattle.nm_action.specs.declared.action.Cell.TheVariants.{Home, Shadow}
use Rattle.nm_view.specs.declared.view.Phase.TheVariants.{Held, Cleared, Taken}
use Rattle.nm_view.specs.Lists.{erase, first}
use Rattle.nm_view.specs.Views.{Op, View}
use Rattle.nm_base.specs.ShadowWord.{shadow_word, IsShadowWordOf}
use Rattle.nm_view.specs.Opening.{opened}
use Rattle.nm_base.specs.Ranges.{IsPage, IsFrame}
use Rattle.nm_permit.specs.Permitted.{MayRead, MaySetShadow}
use Rattle.nm_event.specs.After.{looked_at, read_cell, cleared_at, taken_at, raised_to, bumped_to, seen_at, loaded, copied_one, homed_at, shaded, mapped_at, granted_at, has_some}
use Rattle.nm_event.specs.Fitting.{IsReadOf, IsNewsOfShadow}
use Rattle.nm_shape.specs.Shape.{IsOpShaped}

no_true : IsTrue false → ⊥
no_true e = cc

not_taken : Held ≡ Taken → ⊥
not_taken e = cc

still_there : Cleared ≡ Taken → ⊥
still_there e = cc

joined : {A : Type 0} (x : A) (xs : List A) → xs ++ x ∷ [] ≢ []
joined x [] e = cc
joined x (y ∷ ys) e = cc

some_left : (b : Bool) (xs : List (ℕ × ℕ)) → IsTrue (b && has_some xs) → xs ≢ []
some_left true [] t e = no_true t
some_left false [] t e = no_true t
some_left b (x ∷ xs) t e = cc

-- an operation in which nothing is known
pub shaped_opened : (g : Geometry) (page room : ℕ) → IsOpShaped g (opened page room)
shaped_opened g page room = record { named = tt; based = tt; due = λ t. absurd (no_true t); some = λ t. absurd (no_true t) }

pub shaped_looked : (g : Geometry) (v word : ℕ) (o : Op) → IsOpShaped g o → IsOpShaped g (looked_at v word o)
shaped_looked g v word o h = record { named = h.named; based = h.based; due = h.due; some = h.some }

pub shaped_cleared : (g : Geometry) (v : ℕ) (o : Op) → IsOpShaped g o → IsOpShaped g (cleared_at v o)
shaped_cleared g v o h = record { named = h.named; based = h.based; due = λ t. refl; some = λ t e. absurd (still_there e) }

pub shaped_taken : (g : Geometry) (v word : ℕ) (o : Op) → IsOpShaped g o → IsOpShaped g (taken_at v word o)
shaped_taken g v word o h = record { named = h.named; based = h.based; due = λ t. refl; some = λ t e. joined (v, word) o.taken }

pub shaped_raised : (g : Geometry) (v number : ℕ) (o : Op) → IsOpShaped g o → IsOpShaped g (raised_to v number o)
shaped_raised g v number o h = record { named = h.named; based = h.based; due = h.due; some = h.some }

pub shaped_bumped : (g : Geometry) (number : ℕ) (o : Op) → IsOpShaped g o → IsOpShaped g (bumped_to number o)
shaped_bumped g number o h = record { named = h.named; based = h.based; due = λ t. absurd (no_true t); some = h.some }

pub shaped_seen : (g : Geometry) (cpu word : ℕ) (o : Op) → IsOpShaped g o → IsOpShaped g (seen_at cpu word o)
shaped_seen g cpu word o h = record { named = h.named; based = h.based; due = h.due; some = h.some }

pub shaped_loaded : (g : Geometry) (word : ℕ) (o : Op) → IsOpShaped g o → IsOpShaped g (loaded word o)
shaped_loaded g word o h = record { named = h.named; based = h.based; due = h.due; some = h.some }

pub shaped_copied : (g : Geometry) (o : Op) → IsOpShaped g o → IsOpShaped g (copied_one o)
shaped_copied g o h = record { named = h.named; based = h.based; due = h.due; some = h.some }

pub shaped_homed : (g : Geometry) (frame : ℕ) (o : Op) → IsOpShaped g o → IsOpShaped g (homed_at frame o)
shaped_homed g frame o h = record { named = inl refl; based = omega arith; due = h.due; some = h.some }

pub shaped_mapped : (g : Geometry) (v word : ℕ) (o : Op) → IsOpShaped g o → IsOpShaped g (mapped_at v word o)
shaped_mapped g v word o h = record { named = h.named; based = h.based; due = h.due; some = λ t e. some_left o.cleared (erase first v o.taken) t }

pub shaped_granted : (g : Geometry) (v word : ℕ) (o : Op) → IsOpShaped g o → IsOpShaped g (granted_at v word o)
shaped_granted g v word o h = record { named = h.named; based = h.based; due = h.due; some = h.some }

-- a home that names a frame is known
known_home : (home : Option ℕ) (frame : ℕ) → home ≡ Some (frame + 1) → IsSomeAnd home (λ h. h ≢ 0)
known_home home frame e = let P : Option ℕ → Type 0 = λ y. IsSomeAnd y (λ h. h ≢ 0) in let some : frame + 1 ≢ 0 = omega arith in subst P (sym e) some

shadow_named : (g : Geometry) (page : ℕ) (shadow : Option ℕ) → IsPage g page → IfSome shadow (IsFrame g) → IsShadowWordOf g page (shadow_word page shadow)
shadow_named g page None p f = inl refl
shadow_named g page (Some s) p f = inr (s, record { exists = p; range = f; is = refl })

shaded_home : (g : Geometry) (view : View) (master : ℕ) (shadow : Option ℕ) (o : Op) → MaySetShadow g view master shadow o → o.home ≡ Some (master + 1)
shaded_home g view master None o may = may.home
shaded_home g view master (Some s) o may = may.home

pub shaped_shaded : (g : Geometry) (view : View) (page master : ℕ) (shadow : Option ℕ) (o : Op) → o.page ≡ page → IsPage g page → IfSome shadow (IsFrame g) → MaySetShadow g view master shadow o → IsOpShaped g o → IsOpShaped g (shaded page shadow o)
shaped_shaded g view page master shadow o e p f may h = record { named = rw e (shadow_named g page shadow p f); based = known_home o.home master (shaded_home g view master shadow o may); due = h.due; some = h.some }

-- the home that is read is the known one, where a shadow word is known
read_based : (shadow home : Option ℕ) (word : ℕ) → IfSome shadow (λ _. IsSomeAnd home (λ h. h ≢ 0)) → IfSome home (λ h. word ≡ h) → IfSome shadow (λ _. word ≢ 0)
read_based None home word b known = tt
read_based (Some s) None word b known = absurd b
read_based (Some s) (Some h) word b known = rw known b

news_of : (g : Geometry) (page master word : ℕ) → IsNewsOfShadow g page master word → IsShadowWordOf g page word
news_of g page master word (inl e) = inl e
news_of g page master word (inr (s, n)) = inr (s, n.names)

read_named : (g : Geometry) (page master word : ℕ) (shadow : Option ℕ) → IfSome shadow (IsShadowWordOf g page) → IfSome shadow (λ s. word ≡ s) → (shadow ≡ None → IsNewsOfShadow g page master word) → IsShadowWordOf g page word
read_named g page master word None h known news = news_of g page master word (news refl)
read_named g page master word (Some s) h known news = let P : ℕ → Type 0 = λ w. IsShadowWordOf g page w in subst P (sym known) h

pub shaped_read : (g : Geometry) (view : View) (cell : Cell) (word : ℕ) (o : Op) → MayRead cell o → IsReadOf g view cell word o → IsOpShaped g o → IsOpShaped g (read_cell cell word o)
shaped_read g view (Home n) word o may r h = record { named = h.named; based = read_based o.shadow o.home word h.based r.known; due = h.due; some = h.some }
shaped_read g view (Shadow m) word o may r h = record { named = read_named g o.page m word o.shadow h.named r.known r.news; based = known_home o.home m may; due = h.due; some = h.some }
