-- A page among the pages of a list.
use Rattle.std.proofs.Common.{◌≡◌, ◌≢◌, ℕ, ◌+◌, ◌-◌, ◌^◌, min, ◌==◌, ◌||◌, Bool, true, false, List, [], ◌∷◌, length, get_or, refl, sym, ap, ◌∙◌}
use Rattle.std.proofs.Math.ListN.{length-set}
use Rattle.std.proofs.lemmas.Bool.{eqb-true}
use Rattle.nm_txn.specs.declared.end.TxnEnd.{TxnEnd}
use Rattle.nm_txn.specs.declared.end.TxnEnd.TheVariants as ends
use Rattle.nm_migrator_work.specs.Planned.{is_among, aborts_after, aborts_with}

among-by : (page b : ℕ) (rest : List ℕ) (test : Bool) → (b == page) ≡ test → b ≢ page → (test || is_among page rest) ≡ is_among page rest
among-by page b rest true is other = absurd (other (eqb-true b page is))
among-by page b rest false is other = refl

pub among-next : (page b : ℕ) (xs rest : List ℕ) → xs ≡ b ∷ rest → b ≢ page → is_among page rest ≡ is_among page xs
among-next page b xs rest is other = sym (ap (is_among page) is ∙ among-by page b rest (b == page) refl other)

-- Counts of aborts.

aborts-after-length : (page : ℕ) (end : TxnEnd) (aborts : List ℕ) → length (aborts_after page end aborts) ≡ length aborts
aborts-after-length page (ends.Aborted word) aborts = length-set aborts page (min (get_or aborts page 0 + 1) (2 ^ 32 - 1))
aborts-after-length page ends.Committed aborts = refl
aborts-after-length page (ends.NoFrame n) aborts = refl
aborts-after-length page ends.Gone aborts = refl
aborts-after-length page ends.Worn aborts = refl
aborts-after-length page ends.Busy aborts = refl

-- there are as many counts as before
pub aborts-length : (pieces : List (ℕ × ℕ)) (told : List TxnEnd) (aborts : List ℕ) → length (aborts_with pieces told aborts) ≡ length aborts
aborts-length [] told aborts = refl
aborts-length (p ∷ ps) [] aborts = refl
aborts-length (p ∷ ps) (end ∷ told) aborts = aborts-length ps told (aborts_after p.0 end aborts) ∙ aborts-after-length p.0 end aborts
