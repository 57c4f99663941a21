-- The counts of several actors together.
use Rattle.std.proofs.Common.{◌≡◌, ◌<◌, ◌+◌, ℕ, List, [], ◌∷◌, ◌++◌, length, map, take, get_or, refl, sym, ap, ◌∙◌, arith}
use Rattle.std.proofs.Math.Seq.{get_or-append_seam}
use Rattle.std.proofs.lemmas.List.{take_more, map-append, length-map, length-append, get_or-map, get_or_append_left, get_or-append-add}
use Rattle.nm_action.specs.declared.tally.Tally.{Tally}
use Rattle.nm_action.specs.Tally.{sum_of}
use Rattle.nm_tally.specs.Counts.{zero_tally}
use Rattle.nm_crew.specs.Crewed.{tallies_from, tally_of, counts_at, crew_tallies}

pub tally-append : (tally : Tally) (first second : List Tally) → tallies_from tally (first ++ second) ≡ tallies_from (tallies_from tally first) second
tally-append tally [] second = refl
tally-append tally (counts ∷ first) second = tally-append (sum_of tally counts) first second

-- one actor more
pub tally-more : {C : Type 0} (counted : C → Tally) (cpus : List C) (i : ℕ) (d : C) (tally counts : Tally) → i < length cpus → tally ≡ tally_of (map counted (take i cpus)) → counts ≡ counted (get_or cpus i d)
    → sum_of tally counts ≡ tally_of (map counted (take (i + 1) cpus))
tally-more counted cpus i d tally counts lt so-far is =
    ap (λ t. sum_of t counts) so-far ∙ ap (λ c. sum_of (tally_of (map counted (take i cpus))) c) is
    ∙ sym (ap (λ l. tally_of (map counted l)) (take_more cpus i d lt) ∙ ap tally_of (map-append counted (take i cpus) (get_or cpus i d ∷ [])) ∙ tally-append zero_tally (map counted (take i cpus)) (counted (get_or cpus i d) ∷ []))

-- all of them
pub tally-all : (cpus : List Tally) (migrator reclaimer tally : Tally) → tally ≡ tally_of cpus → sum_of (sum_of tally migrator) reclaimer ≡ tally_of (crew_tallies cpus migrator reclaimer)
tally-all cpus migrator reclaimer tally is =
    ap (λ t. sum_of (sum_of t migrator) reclaimer) is ∙ sym (tally-append zero_tally cpus (migrator ∷ reclaimer ∷ []))

-- ---- whose counts they are

pub tallies-many : (cpus : List Tally) (migrator reclaimer : Tally) (n : ℕ) → length cpus ≡ n → length (crew_tallies cpus migrator reclaimer) ≡ n + 2
tallies-many cpus migrator reclaimer n many = length-append cpus (migrator ∷ reclaimer ∷ []) ∙ ap (λ k. k + 2) many

pub counts-cpu : {C : Type 0} (counted : C → Tally) (cpus : List C) (migrator reclaimer : Tally) (cpu : ℕ) (d : C) → cpu < length cpus → counts_at (crew_tallies (map counted cpus) migrator reclaimer) cpu ≡ counted (get_or cpus cpu d)
counts-cpu counted cpus migrator reclaimer cpu d lt =
    get_or_append_left (map counted cpus) (migrator ∷ reclaimer ∷ []) zero_tally cpu (omega (arith, lt, length-map cpus counted)) ∙ get_or-map counted cpus cpu d zero_tally lt

pub counts-migrator : (cpus : List Tally) (migrator reclaimer : Tally) (n : ℕ) → length cpus ≡ n → counts_at (crew_tallies cpus migrator reclaimer) n ≡ migrator
counts-migrator cpus migrator reclaimer n many =
    ap (λ k. get_or (crew_tallies cpus migrator reclaimer) k zero_tally) (sym many) ∙ get_or-append_seam cpus migrator (reclaimer ∷ []) zero_tally

pub counts-reclaimer : (cpus : List Tally) (migrator reclaimer : Tally) (n : ℕ) → length cpus ≡ n → counts_at (crew_tallies cpus migrator reclaimer) (n + 1) ≡ reclaimer
counts-reclaimer cpus migrator reclaimer n many =
    ap (λ k. get_or (crew_tallies cpus migrator reclaimer) (k + 1) zero_tally) (sym many) ∙ get_or-append-add cpus (migrator ∷ reclaimer ∷ []) 1 zero_tally
