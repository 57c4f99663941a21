-- What a shadow word names is what was written into it.
use Rattle.std.proofs.Common.{◌≡◌, ◌≢◌, ℕ, ◌+◌, ◌*◌, ◌/◌, ◌%◌, ◌^◌, ◌<◌, ◌≤◌, Some, inl, inr, sym, subst, arith}
use Rattle.std.proofs.lemmas.Nat.{mod-mul-add, div-mul-add}
use Rattle.nm_base.specs.Geometry.{Geometry, frame_count}
use Rattle.nm_base.specs.Ranges.{IsFrame}
use Rattle.nm_base.specs.ShadowWord.{shadow_word, shadow_page, shadow_frame, NamesShadow, IsShadowWord, IsShadowWordOf}

pub shadow_frame-shadow_word : (page frame : ℕ) → frame + 1 < 2 ^ 32 → shadow_frame (shadow_word page (Some frame)) ≡ frame
shadow_frame-shadow_word page frame lt =
    let m : ((page + 1) * 2 ^ 32 + (frame + 1)) % 2 ^ 32 ≡ frame + 1 = mod-mul-add (page + 1) (2 ^ 32) (frame + 1) lt in
    let e : (page + 1) * 2 ^ 32 + frame + 1 ≡ (page + 1) * 2 ^ 32 + (frame + 1) = omega arith in
    rw (e, m) (omega arith)

pub shadow_page-shadow_word : (page frame : ℕ) → frame + 1 < 2 ^ 32 → shadow_page (shadow_word page (Some frame)) ≡ page
shadow_page-shadow_word page frame lt =
    let m : ((page + 1) * 2 ^ 32 + (frame + 1)) / 2 ^ 32 ≡ page + 1 = div-mul-add (page + 1) (2 ^ 32) (frame + 1) lt in
    let e : (page + 1) * 2 ^ 32 + frame + 1 ≡ (page + 1) * 2 ^ 32 + (frame + 1) = omega arith in
    rw (e, m) (omega arith)

-- the frame that a word names as shadow is the one that is read off it
pub shadow_frame-NamesShadow : (g : Geometry) (word page frame : ℕ) → frame_count g ≤ 4096 → NamesShadow g word page frame → shadow_frame word ≡ frame
shadow_frame-NamesShadow g word page frame few h =
    let P : ℕ → Type 0 = λ w. shadow_frame w ≡ frame in
    subst P (sym h.is) (shadow_frame-shadow_word page frame (omega (arith, few, h.range)))

-- the shadow of a shadow word that is not 0 is a frame
pub IsFrame-IsShadowWord : (g : Geometry) (word : ℕ) → frame_count g ≤ 4096 → IsShadowWord g word → word ≢ 0 → IsFrame g (shadow_frame word)
IsFrame-IsShadowWord g word few (inl e) n = absurd (n e)
IsFrame-IsShadowWord g word few (inr (page, frame, h)) n =
    let Q : ℕ → Type 0 = λ f. IsFrame g f in
    subst Q (sym (shadow_frame-NamesShadow g word page frame few h)) h.range

-- a shadow word of a page is a shadow word
pub IsShadowWord-of : (g : Geometry) (page word : ℕ) → IsShadowWordOf g page word → IsShadowWord g word
IsShadowWord-of g page word (inl e) = inl e
IsShadowWord-of g page word (inr (frame, h)) = inr (page, frame, h)
