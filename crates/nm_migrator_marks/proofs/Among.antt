-- Lists of pages, and which pages are among them.
use Rattle.std.proofs.Common.{◌≡◌, ℕ, ◌⊎◌, List, [], ◌∷◌, ◌++◌, inl, inr}

abbrev pub IsAmong : ℕ → List ℕ → Type 0
IsAmong page [] = ⊥
IsAmong page (b ∷ pages) = (page ≡ b) ⊎ IsAmong page pages

pub among-left : (page : ℕ) (a b : List ℕ) → IsAmong page a → IsAmong page (a ++ b)
among-left page [] b h = absurd h
among-left page (x ∷ a) b (inl here) = inl here
among-left page (x ∷ a) b (inr there) = inr (among-left page a b there)

pub among-right : (page : ℕ) (a b : List ℕ) → IsAmong page b → IsAmong page (a ++ b)
among-right page [] b h = h
among-right page (x ∷ a) b h = inr (among-right page a b h)

pub among-either : (page : ℕ) (a b : List ℕ) → IsAmong page (a ++ b) → IsAmong page a ⊎ IsAmong page b
among-either page [] b h = inr h
among-either page (x ∷ a) b (inl here) = inl (inl here)
among-either page (x ∷ a) b (inr there) = elim (among-either page a b there) [
  | inl left ↦ inl (inr left)
  | inr right ↦ inr right
]

-- the pages of some pieces, each with a number
abbrev pub pages_of : List (ℕ × ℕ) → List ℕ
pages_of [] = []
pages_of (p ∷ ps) = p.0 ∷ pages_of ps

pub pages-more : (ps : List (ℕ × ℕ)) (p : ℕ × ℕ) (page : ℕ) → IsAmong page (pages_of ps) ⊎ (page ≡ p.0) → IsAmong page (pages_of (ps ++ p ∷ []))
pages-more [] p page (inl h) = absurd h
pages-more [] p page (inr h) = inl h
pages-more (q ∷ ps) p page (inl (inl h)) = inl h
pages-more (q ∷ ps) p page (inl (inr h)) = inr (pages-more ps p page (inl h))
pages-more (q ∷ ps) p page (inr h) = inr (pages-more ps p page (inr h))
