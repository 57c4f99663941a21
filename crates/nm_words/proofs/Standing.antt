-- That words stay what they can be.
use Rattle.std.proofs.Common.{◌≡◌, ◌≢◌, ℕ, ◌-◌, ◌*◌, ◌^◌, ◌<◌, ◌≤◌, min, length, get_or, refl, sym, ap, subst, ◌∙◌, ◌⊎◌, inl, inr, arith}
use Rattle.std.proofs.lemmas.Bool.{cases_eq, cases_lt}
use Rattle.std.proofs.lemmas.List.{get_or-replicate}
use Rattle.std.proofs.lemmas.Nat.{pow_pos}
use Rattle.std.proofs.lemmas.Nat.Bits.{bit_at_ones_above}
use Rattle.std.proofs.Math.Nat.{pow-le-pow_right}
use Rattle.nm_base.specs.Geometry.{Geometry, page_count, frame_count}
use Rattle.nm_base.specs.FreeWords.{HasOwnBits}
use Rattle.nm_base.specs.Ranges.{IsWord}
use Rattle.nm_base.proofs.TableWords.{IsTableInRange-zero}
use Rattle.nm_view.specs.Views.{off_word}
use Rattle.nm_words.specs.declared.names.Where.{Where}
use Rattle.nm_words.specs.declared.names.Where.TheVariants.{Req, Pte, Stamp, Home, Shadow, Lock, Mark, Ack, Turn, Free, Mem}
use Rattle.nm_words.specs.Names.{IsPlace, mem_place}
use Rattle.nm_words.specs.Words.{Words, word_at, with_word, HasSizes, full_word, opening_words}
use Rattle.nm_words.specs.Ranged.{IsRanged, AreRanged, AreWords}
use Rattle.nm_words.proofs.Places.{mem_place-lt, get_or-full}
use Rattle.nm_words.proofs.Groups.{ap2, word_at-same, word_at-other}

-- two pairs are the same, or not
pairs : {C : Type 0} (name : ℕ → ℕ → C) (a b c d : ℕ) → (name a b ≡ name c d → (a ≡ c) × (b ≡ d)) → (name a b ≡ name c d) ⊎ (name a b ≢ name c d)
pairs name a b c d apart =
    elim (cases_eq a c) [
      | inl e ↦ elim (cases_eq b d) [ inl h ↦ inl (ap2 name e h) | inr n ↦ inr (λ same. n (apart same).1) ]
      | inr n ↦ inr (λ same. n (apart same).0)
    ]

numbers : {C : Type 0} (name : ℕ → C) (a b : ℕ) → (name a ≡ name b → a ≡ b) → (name a ≡ name b) ⊎ (name a ≢ name b)
numbers name a b apart = elim (cases_eq a b) [ inl e ↦ inl (ap name e) | inr n ↦ inr (λ same. n (apart same)) ]

-- two names are the same, or not
pub same_or_not : (d c : Where) → (d ≡ c) ⊎ (d ≢ c)
same_or_not Req Req = inl refl
same_or_not (Pte v) (Pte u) = numbers Pte v u (λ e. cc)
same_or_not (Stamp v) (Stamp u) = numbers Stamp v u (λ e. cc)
same_or_not (Home v) (Home u) = numbers Home v u (λ e. cc)
same_or_not (Shadow v) (Shadow u) = numbers Shadow v u (λ e. cc)
same_or_not (Lock v) (Lock u) = numbers Lock v u (λ e. cc)
same_or_not (Mark v) (Mark u) = numbers Mark v u (λ e. cc)
same_or_not (Ack v) (Ack u) = numbers Ack v u (λ e. cc)
same_or_not (Turn v) (Turn u) = numbers Turn v u (λ e. cc)
same_or_not (Free t k) (Free u j) = pairs Free t k u j (λ e. (cc, cc))
same_or_not (Mem f i) (Mem m j) = pairs Mem f i m j (λ e. (cc, cc))
same_or_not d c = inr (λ e. cc)

-- more raises leave room for every word, and more bumps for every word but their number
pub IsRanged-more : (g : Geometry) (bumps raises more later : ℕ) (c : Where) (x : ℕ) → raises ≤ later → (c ≡ Req → more ≡ bumps) → IsRanged g bumps raises c x → IsRanged g more later c x
IsRanged-more g bumps raises more later Req x le same h = h ∙ sym (same refl)
IsRanged-more g bumps raises more later (Pte v) x le same h = h
IsRanged-more g bumps raises more later (Stamp v) x le same h = omega (arith, le, h)
IsRanged-more g bumps raises more later (Home b) x le same h = h
IsRanged-more g bumps raises more later (Shadow m) x le same h = h
IsRanged-more g bumps raises more later (Free t k) x le same h = h
IsRanged-more g bumps raises more later c x le same h = h

-- a write of what a word can be leaves each word what it can be
pub AreRanged-with_word : (g : Geometry) (bumps raises more later : ℕ) (w : Words) (c : Where) (x : ℕ) → HasSizes g w → IsPlace g c → raises ≤ later → (c ≢ Req → more ≡ bumps) → IsRanged g more later c x → AreRanged g bumps raises w → AreRanged g more later (with_word g w c x)
AreRanged-with_word g bumps raises more later w c x sizes place le same new old d there =
    elim (same_or_not d c) [
      | inl here ↦
          let At : Where → Type 0 = λ e. IsRanged g more later e (word_at g (with_word g w c x) e) in
          subst At (sym here) (subst (IsRanged g more later c) (sym (word_at-same g w c x sizes place)) new)
      | inr away ↦
          let kept = word_at-other g w c x d place there away in
          subst (IsRanged g more later d) (sym kept) (IsRanged-more g bumps raises more later d (word_at g w d) le (λ req. same (λ e. away (req ∙ sym e))) (old d there))
    ]

-- the bits of a word of free frames, all free, are of its tier
HasOwnBits-full : (g : Geometry) (t k : ℕ) → HasOwnBits g t k (full_word (get_or g.tiers t 0) k)
HasOwnBits-full g t k bit set =
    let n : ℕ = get_or g.tiers t 0 in
    elim (cases_lt bit (min 64 (n - 64 * k))) [
      | inl below ↦ omega (arith, below)
      | inr above ↦ absurd (omega (arith, set, bit_at_ones_above (min 64 (n - 64 * k)) bit above))
    ]

-- at first each word is what it can be
pub AreRanged-opening : (g : Geometry) → 0 < frame_count g → AreRanged g 0 0 (opening_words g)
AreRanged-opening g some Req place = refl
AreRanged-opening g some (Pte v) place = rw (get_or-replicate {A = ℕ} (length g.vpages) v 0 0 place) (IsTableInRange-zero g some)
AreRanged-opening g some (Stamp v) place = rw (get_or-replicate {A = ℕ} (length g.vpages) v 0 0 place) (omega arith)
AreRanged-opening g some (Home b) place = rw (get_or-replicate {A = ℕ} (page_count g) b 0 0 place) (omega arith)
AreRanged-opening g some (Shadow m) place = inl (get_or-replicate {A = ℕ} (frame_count g) m 0 0 place)
AreRanged-opening g some (Free t k) place = subst (HasOwnBits g t k) (sym (get_or-full g t k place.0 place.1)) (HasOwnBits-full g t k)
AreRanged-opening g some c place = tt

-- a write of a 64-bit word leaves each word one
pub AreWords-with_word : (g : Geometry) (w : Words) (c : Where) (x : ℕ) → HasSizes g w → IsPlace g c → IsWord x → AreWords g w → AreWords g (with_word g w c x)
AreWords-with_word g w c x sizes place new old d there =
    elim (same_or_not d c) [
      | inl here ↦
          let At : Where → Type 0 = λ e. IsWord (word_at g (with_word g w c x) e) in
          subst At (sym here) (subst IsWord (sym (word_at-same g w c x sizes place)) new)
      | inr away ↦ subst IsWord (sym (word_at-other g w c x d place there away)) (old d there)
    ]

IsWord-full : (frames k : ℕ) → IsWord (full_word frames k)
IsWord-full frames k =
    let le : min 64 (frames - 64 * k) ≤ 64 = omega arith in
    let some : 0 < 2 = omega arith in
    let few : 2 ^ min 64 (frames - 64 * k) ≤ 2 ^ 64 = pow-le-pow_right some le in
    omega (arith, few, pow_pos (min 64 (frames - 64 * k)))

-- at first each word is one of 64 bits
pub AreWords-opening : (g : Geometry) → AreWords g (opening_words g)
AreWords-opening g Req place = omega arith
AreWords-opening g (Pte v) place = rw (get_or-replicate {A = ℕ} (length g.vpages) v 0 0 place) (omega arith)
AreWords-opening g (Stamp v) place = rw (get_or-replicate {A = ℕ} (length g.vpages) v 0 0 place) (omega arith)
AreWords-opening g (Home b) place = rw (get_or-replicate {A = ℕ} (page_count g) b 0 0 place) (omega arith)
AreWords-opening g (Shadow m) place = rw (get_or-replicate {A = ℕ} (frame_count g) m 0 0 place) (omega arith)
AreWords-opening g (Lock b) place = rw (get_or-replicate {A = ℕ} (page_count g) b 0 0 place) (omega arith)
AreWords-opening g (Mark b) place = rw (get_or-replicate {A = ℕ} (page_count g) b 0 0 place) (omega arith)
AreWords-opening g (Ack p) place = rw (get_or-replicate {A = ℕ} g.cpus p off_word 0 place) (omega arith)
AreWords-opening g (Turn t) place = rw (get_or-replicate {A = ℕ} (length g.tiers) t 0 0 place) (omega arith)
AreWords-opening g (Free t k) place = subst IsWord (sym (get_or-full g t k place.0 place.1)) (IsWord-full (get_or g.tiers t 0) k)
AreWords-opening g (Mem f i) place = rw (get_or-replicate {A = ℕ} (frame_count g * g.words) (mem_place g f i) 0 0 (mem_place-lt g f i place.0 place.1)) (omega arith)
