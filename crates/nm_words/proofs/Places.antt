-- The places of words in their lists: each lies in its list, and no two words of one list have one place.
use Rattle.std.proofs.Common.{◌≡◌, ℕ, ◌+◌, ◌-◌, ◌*◌, ◌/◌, ◌^◌, ◌<◌, ◌≤◌, min, List, [], ◌∷◌, ◌++◌, All, length, map, take, get_or, refl, sym, ap, ◌∙◌, inl, inr, append_assoc, arith}
use Rattle.std.specs.Prelude.{sum_by}
use Rattle.std.specs.List.{range_with_len, flat_map}
use Rattle.std.proofs.lemmas.Bool.{cases_lt}
use Rattle.std.proofs.lemmas.List.{take-take}
use Rattle.std.proofs.lemmas.List.Sums.{sum_by-le, sum_by-cons, sum_by_more, sum_by_more_le, sum_by-take-le}
use Rattle.std.proofs.lemmas.List.FromFn.{length-map-range_with_len, get_or-map-range_with_len, map-range_with_len_more}
use Rattle.std.proofs.lemmas.List.Concat.{length-flat_map, get_or-flat_map}
use Rattle.std.proofs.lemmas.Nat.{same_from_place, mul-add-lt}
use Rattle.std.proofs.lemmas.Nat.Bits.{ones_shr}
use Rattle.nm_base.specs.Geometry.{Geometry, frame_count}
use Rattle.nm_base.specs.FreeWords.{words_for}
use Rattle.nm_words.specs.Names.{first_free, free_place, free_word_count, mem_place}
use Rattle.nm_words.specs.Words.{full_word, full_words}

-- the words of so few tiers are few
pub free_few : (tiers : List ℕ) → length tiers ≤ 4 → All (λ n. n ≤ 4096) tiers → sum_by words_for tiers ≤ 256
free_few tiers few all =
    omega (arith, sum_by-le words_for 64 tiers (λ i d lt. let n : get_or tiers i d ≤ 4096 = all i d lt in omega arith))

-- the words before a tier and its own are no more than those before a later one
first_free-le : (tiers : List ℕ) (t u : ℕ) → t < u → t < length tiers → sum_by words_for (take t tiers) + words_for (get_or tiers t 0) ≤ sum_by words_for (take u tiers)
first_free-le tiers t u lt within =
    let le : t + 1 ≤ u = omega arith in
    let front : sum_by words_for (take (t + 1) (take u tiers)) ≤ sum_by words_for (take u tiers) = sum_by-take-le words_for (take u tiers) (t + 1) in
    omega (arith, sum_by_more words_for tiers t 0 within, rw (take-take (t + 1) u tiers le) at front)

-- each word lies in its list
pub free_place-lt : (g : Geometry) (t k : ℕ) → t < length g.tiers → k < words_for (get_or g.tiers t 0) → free_place g t k < free_word_count g
free_place-lt g t k tier index = omega (arith, sum_by_more_le words_for g.tiers t 0 tier)

pub mem_place-lt : (g : Geometry) (f i : ℕ) → f < frame_count g → i < g.words → mem_place g f i < frame_count g * g.words
mem_place-lt g f i frame word = omega (arith, mul-add-lt f g.words i (frame_count g) frame word)

-- a word of a tier's free frames has no other tier and number
pub free-same : (g : Geometry) (t k u j : ℕ) → t < length g.tiers → u < length g.tiers → k < words_for (get_or g.tiers t 0) → j < words_for (get_or g.tiers u 0) → free_place g t k ≡ free_place g u j → (t ≡ u) × (k ≡ j)
free-same g t k u j tier other word index same =
    elim (cases_lt t u) [
      | inl below ↦ absurd (omega (arith, first_free-le g.tiers t u below tier))
      | inr above ↦ elim (cases_lt u t) [
        | inl below ↦ absurd (omega (arith, first_free-le g.tiers u t below other))
        | inr beside ↦
            let e : t ≡ u = omega arith in
            let first : first_free g t ≡ first_free g u = ap (first_free g) e in
            (e, omega (arith, first))
      ]
    ]

-- a word of a frame has no other frame and number
pub mem-same : (g : Geometry) (f i m j : ℕ) → i < g.words → j < g.words → mem_place g f i ≡ mem_place g m j → (f ≡ m) × (i ≡ j)
mem-same g f i m j word other same = same_from_place f i m j g.words word other same

-- the words of a tier whose frames are all free are as many as they have to be
pub length-full_words : (frames : ℕ) → length (full_words frames) ≡ words_for frames
length-full_words frames = length-map-range_with_len (full_word frames) 0 (words_for frames)

-- one word more of a tier whose frames are all free
pub full_words-more : (frames k few : ℕ) → few ≡ min 64 (frames - 64 * k) → few ≤ 64 → map (full_word frames) (range_with_len 0 k) ++ (2 ^ 64 - 1) / 2 ^ (64 - few) ∷ [] ≡ map (full_word frames) (range_with_len 0 (k + 1))
full_words-more frames k few is le =
    let shift : 64 - few ≤ 64 = omega arith in
    let back : 64 - (64 - few) ≡ few = omega arith in
    let word : (2 ^ 64 - 1) / 2 ^ (64 - few) ≡ full_word frames k = ones_shr 64 (64 - few) shift ∙ ap (λ n. 2 ^ n - 1) back ∙ ap (λ n. 2 ^ n - 1) is in
    rw word (sym (map-range_with_len_more (full_word frames) 0 k k (omega arith)))

-- a list of such words with one more
pub full_words-push : (before words new : List ℕ) (frames k few : ℕ) → words ≡ before ++ map (full_word frames) (range_with_len 0 k) → few ≡ min 64 (frames - 64 * k) → few ≤ 64 → new ≡ words ++ (2 ^ 64 - 1) / 2 ^ (64 - few) ∷ [] → new ≡ before ++ map (full_word frames) (range_with_len 0 (k + 1))
full_words-push before words new frames k few was is le push =
    push ∙ ap (λ xs. xs ++ (2 ^ 64 - 1) / 2 ^ (64 - few) ∷ []) was ∙ append_assoc before (map (full_word frames) (range_with_len 0 k)) _ ∙ ap (λ xs. before ++ xs) (full_words-more frames k few is le)

-- the words of tiers whose frames are all free are as many as they have to be
sum_by-full : (tiers : List ℕ) → sum_by (λ n. length (full_words n)) tiers ≡ sum_by words_for tiers
sum_by-full [] = refl
sum_by-full (n ∷ ns) =
    omega (arith, sum_by-cons (λ n. length (full_words n)) n ns, sum_by-cons words_for n ns, sum_by-full ns, length-full_words n)

pub length-full : (tiers : List ℕ) → length (flat_map full_words tiers) ≡ sum_by words_for tiers
length-full tiers = length-flat_map full_words tiers ∙ sum_by-full tiers

-- each word of tiers whose frames are all free
pub get_or-full : (g : Geometry) (t k : ℕ) → t < length g.tiers → k < words_for (get_or g.tiers t 0) → get_or (flat_map full_words g.tiers) (free_place g t k) 0 ≡ full_word (get_or g.tiers t 0) k
get_or-full g t k tier index =
    let n : ℕ = get_or g.tiers t 0 in
    let size : length (full_words n) ≡ words_for n = length-full_words n in
    let in_tier : k < length (full_words n) = omega arith in
    let at : length (flat_map full_words (take t g.tiers)) + k ≡ free_place g t k = omega (arith, length-full (take t g.tiers)) in
    ap (λ i. get_or (flat_map full_words g.tiers) i 0) (sym at) ∙ get_or-flat_map full_words g.tiers t k 0 0 tier in_tier ∙ get_or-map-range_with_len (full_word n) 0 (words_for n) k k 0 index (omega arith)
