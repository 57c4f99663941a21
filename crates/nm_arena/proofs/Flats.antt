-- The list of all words determines the words.
use Rattle.std.proofs.Common.{◌≡◌, ℕ, zero, suc, ◌+◌, ◌<◌, List, [], ◌∷◌, ◌++◌, length, map, get_or, set, sum, below_more, refl, sym, ap, ◌∙◌, arith}
use Rattle.std.specs.List.{flat_map}
use Rattle.std.proofs.lemmas.List.Sums.{sum-map}
use Rattle.std.proofs.lemmas.List.Concat.{flat_map-cons, length-flat_map}
use Rattle.std.proofs.lemmas.List.{get_or_append_left, get_or_push, get_or-set_same, get_or-set_other}
use mathlib.Core.Option.{some, some-injective, some-ne-none}
use lib.ListN.{get_elem?}
use Rattle.nm_base.specs.Geometry.{Geometry}
use Rattle.nm_words.specs.declared.names.Where.{Where}
use Rattle.nm_words.specs.declared.exchanges.Change.TheVariants.{Put}
use Rattle.nm_words.specs.Names.{IsPlace}
use Rattle.nm_words.specs.Words.{Words, HasSizes, word_at, exchanged}
use Rattle.nm_words.specs.Flat.{groups_of, sizes_of, total_words, flat, at}
use Rattle.nm_words.proofs.Flat.{flat-at, flat-with}
use Rattle.nm_arena.proofs.Laid.{at-lt}

-- lists that agree at each index are the same
pub same_at_each : {A : Type 0} (xs ys : List A) (d : A) → length xs ≡ length ys → ((i : ℕ) → i < length xs → get_or xs i d ≡ get_or ys i d) → xs ≡ ys
same_at_each [] [] d size each = refl
same_at_each [] (y ∷ ys) d size each = absurd (omega arith)
same_at_each (x ∷ xs) [] d size each = absurd (omega arith)
same_at_each (x ∷ xs) (y ∷ ys) d size each =
    let head : x ≡ y = each 0 (omega arith) in
    let rest : xs ≡ ys = same_at_each xs ys d (omega arith) (λ i lt. each (suc i) (omega (arith, lt))) in
    cc

-- two lists with fronts of one length are the same in front and behind
apart : (xs ys zs ws : List ℕ) → length xs ≡ length ys → xs ++ zs ≡ ys ++ ws → (xs ≡ ys) × (zs ≡ ws)
apart [] [] zs ws size same = (refl, same)
apart [] (y ∷ ys) zs ws size same = absurd (omega arith)
apart (x ∷ xs) [] zs ws size same = absurd (omega arith)
apart (x ∷ xs) (y ∷ ys) zs ws size same =
    let head : x ≡ y = cc in
    let tail : xs ++ zs ≡ ys ++ ws = cc in
    let rest = apart xs ys zs ws (omega arith) tail in
    (let e : xs ≡ ys = rest.0 in cc, rest.1)

groups_same : (xss yss : List (List ℕ)) → map (λ xs. length xs) xss ≡ map (λ xs. length xs) yss → flat_map (λ xs. xs) xss ≡ flat_map (λ xs. xs) yss → xss ≡ yss
groups_same [] [] sizes same = refl
groups_same [] (ys ∷ yss) sizes same = absurd (cc)
groups_same (xs ∷ xss) [] sizes same = absurd (cc)
groups_same (xs ∷ xss) (ys ∷ yss) sizes same =
    let first : length xs ≡ length ys = cc in
    let later : map (λ xs. length xs) xss ≡ map (λ xs. length xs) yss = cc in
    let joined : xs ++ flat_map (λ xs. xs) xss ≡ ys ++ flat_map (λ xs. xs) yss = sym (flat_map-cons (λ xs. xs) xs xss) ∙ same ∙ flat_map-cons (λ xs. xs) ys yss in
    let parts = apart xs ys (flat_map (λ xs. xs) xss) (flat_map (λ xs. xs) yss) first joined in
    let head : xs ≡ ys = parts.0 in
    let rest : xss ≡ yss = groups_same xss yss later parts.1 in
    cc

sizes : (g : Geometry) (w : Words) → HasSizes g w → map (λ xs. length xs) (groups_of w) ≡ sizes_of g
sizes g w h = rw (h.pte, h.stamp, h.home, h.shadow, h.lock, h.mark, h.ack, h.turn, h.free, h.mem) refl

-- there are as many words as the geometry says
pub length-flat : (g : Geometry) (w : Words) → HasSizes g w → length (flat w) ≡ total_words g
length-flat g w h = length-flat_map (λ xs. xs) (groups_of w) ∙ sym (sum-map (λ xs. length xs) (groups_of w)) ∙ ap sum (sizes g w h)

-- the group of this number
abbrev nth : ℕ → List (List ℕ) → List ℕ
nth k gs = get_or gs k []

-- words of the right sizes with the same list are the same
pub words_same : (g : Geometry) (w v : Words) → HasSizes g w → HasSizes g v → flat w ≡ flat v → w ≡ v
words_same g w v h k same =
    let e : groups_of w ≡ groups_of v = groups_same (groups_of w) (groups_of v) (sizes g w h ∙ sym (sizes g v k)) same in
    let req : w.req ≡ v.req = ap (λ gs. get_or (nth 0 gs) 0 0) e in
    let pte : w.pte ≡ v.pte = ap (nth 1) e in
    let stamp : w.stamp ≡ v.stamp = ap (nth 2) e in
    let home : w.home ≡ v.home = ap (nth 3) e in
    let shadow : w.shadow ≡ v.shadow = ap (nth 4) e in
    let lock : w.lock ≡ v.lock = ap (nth 5) e in
    let mark : w.mark ≡ v.mark = ap (nth 6) e in
    let ack : w.ack ≡ v.ack = ap (nth 7) e in
    let turn : w.turn ≡ v.turn = ap (nth 8) e in
    let free : w.free ≡ v.free = ap (nth 9) e in
    let mem : w.mem ≡ v.mem = ap (nth 10) e in
    λ i. record { req = req i; pte = pte i; stamp = stamp i; home = home i; shadow = shadow i; lock = lock i; mark = mark i; ack = ack i; turn = turn i; free = free i; mem = mem i }

-- The words one by one.

-- a list that was made of the words before a place, with the word at the place
pub listed_more : (g : Geometry) (w : Words) (list : List ℕ) (place word : ℕ) (name : Where) → HasSizes g w → IsPlace g name → at g name ≡ place → word ≡ word_at g w name → length list ≡ place → ((k : ℕ) → k < place → get_or list k 0 ≡ get_or (flat w) k 0) → (k : ℕ) → k < place + 1 → get_or (list ++ word ∷ []) k 0 ≡ get_or (flat w) k 0
listed_more g w list place word name h there here is count before =
    let found : word ≡ get_or (flat w) place 0 = is ∙ sym (flat-at g w name h there) ∙ ap (λ n. get_or (flat w) n 0) here in
    below_more (λ k. get_or (list ++ word ∷ []) k 0 ≡ get_or (flat w) k 0) place
    (λ k lt. get_or_append_left list (word ∷ []) 0 k (omega (arith, lt, count)) ∙ before k lt)
    (get_or_push list word 0 place count ∙ found)

-- the words with one more that is read back
pub read_more : (g : Geometry) (w new : Words) (last : List ℕ) (place word : ℕ) (name : Where) → HasSizes g w → IsPlace g name → at g name ≡ place → new ≡ exchanged g name (Put word) w → get_or last place 0 ≡ word → ((k : ℕ) → k < place → get_or (flat w) k 0 ≡ get_or last k 0) → (k : ℕ) → k < place + 1 → get_or (flat new) k 0 ≡ get_or last k 0
read_more g w new last place word name h there here is found before =
    let list : flat new ≡ set (flat w) place word = ap flat is ∙ flat-with g w name word h there ∙ ap (λ n. set (flat w) n word) here in
    let lt : place < length (flat w) = omega (arith, at-lt g name there, here, length-flat g w h) in
    below_more (λ k. get_or (flat new) k 0 ≡ get_or last k 0) place
    (λ k below. ap (λ ws. get_or ws k 0) list ∙ get_or-set_other (flat w) place k word 0 (λ same. let e : k ≡ place = same in omega (arith, below, e)) ∙ before k below)
    (ap (λ ws. get_or ws place 0) list ∙ get_or-set_same (flat w) place word 0 lt ∙ sym found)

-- what a list has at a place
pub word_found : (list : List ℕ) (place word : ℕ) → get_elem? list place ≡ some word → get_or list place 0 ≡ word
word_found [] place word e = absurd (some-ne-none word (sym e))
word_found (x ∷ xs) zero word e = some-injective x word e
word_found (x ∷ xs) (suc place) word e = word_found xs place word e
