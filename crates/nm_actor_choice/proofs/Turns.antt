-- Two lists of answered turns that are the same, or part at a turn that heard two things.
use Rattle.std.proofs.Common.{◌≡◌, ◌⊎◌, [], ◌∷◌, ◌++◌, sym, ap, ◌∙◌, append_assoc, inl, inr}
use Rattle.std.proofs.lemmas.List.{append_cancel_left}
use Rattle.nm_action.specs.declared.turn.Turn.{Turn}
use Rattle.nm_action.specs.declared.turn.Heard.{Heard}
use Rattle.nm_actor.specs.Turns.{Turns}
use Rattle.nm_choice.specs.Deterministic.{Diverge, AreAnswersApart}

-- they are the same, or they part
abbrev pub AreAlike : Turns → Turns → Type 0
AreAlike one other = Diverge AreAnswersApart one other ⊎ (one ≡ other)

first-and-rest : (t u : Turn × Heard) (ts us : Turns) → t ∷ ts ≡ u ∷ us → (t ≡ u) × (ts ≡ us)
first-and-rest t u ts us is = (cc, cc)

not-both : (t here there : Turn × Heard) → AreAnswersApart here there → t ≡ here → t ≡ there → ⊥
not-both t here there apart is other = apart.differ (ap (λ (p : Turn × Heard). p.1) (sym is ∙ other))

parted-next : (front before rest more back behind : Turns) (t u here there : Turn × Heard) → AreAnswersApart here there → front ++ t ∷ rest ≡ before ++ here ∷ back → front ++ u ∷ more ≡ before ++ there ∷ behind → t.0 ≡ u.0
parted-next [] [] rest more back behind t u here there apart is other =
    ap (λ (p : Turn × Heard). p.0) (first-and-rest t here rest back is).0 ∙ apart.same ∙ sym (ap (λ (p : Turn × Heard). p.0) (first-and-rest u there more behind other).0)
parted-next [] (x ∷ before) rest more back behind t u here there apart is other =
    ap (λ (p : Turn × Heard). p.0) ((first-and-rest t x rest (before ++ here ∷ back) is).0 ∙ sym (first-and-rest u x more (before ++ there ∷ behind) other).0)
parted-next (y ∷ front) [] rest more back behind t u here there apart is other =
    absurd (not-both y here there apart (first-and-rest y here (front ++ t ∷ rest) back is).0 (first-and-rest y there (front ++ u ∷ more) behind other).0)
parted-next (y ∷ front) (x ∷ before) rest more back behind t u here there apart is other =
    parted-next front before rest more back behind t u here there apart (first-and-rest y x (front ++ t ∷ rest) (before ++ here ∷ back) is).1 (first-and-rest y x (front ++ u ∷ more) (before ++ there ∷ behind) other).1

-- after the same answered turns the same turn is given
pub next-alike : (front rest more one other : Turns) (t u : Turn × Heard) → AreAlike one other → one ≡ front ++ t ∷ rest → other ≡ front ++ u ∷ more → t.0 ≡ u.0
next-alike front rest more one other t u (inl d) is other_is = parted-next front d.front rest more d.rest d.more t u d.here d.there d.parts (sym is ∙ d.is) (sym other_is ∙ d.other_is)
next-alike front rest more one other t u (inr same) is other_is =
    ap (λ (p : Turn × Heard). p.0) (first-and-rest t u rest more (append_cancel_left front (t ∷ rest) (u ∷ more) (sym is ∙ same ∙ other_is))).0

no-more : (one more : Turns) (t : Turn × Heard) → ¬ (one ≡ one ++ t ∷ more)
no-more [] more t is = cc
no-more (x ∷ one) more t is = no-more one more t (first-and-rest x x one (one ++ t ∷ more) is).1

-- nothing stands behind a whole list
pub none-behind : (one other more : Turns) (t : Turn × Heard) → AreAlike one other → other ≡ one ++ t ∷ more → ⊥
none-behind one other more t (inl d) is =
    let longer : d.front ++ d.there ∷ d.more ≡ d.front ++ ((d.here ∷ d.rest) ++ t ∷ more) = sym d.other_is ∙ is ∙ ap (λ (l : Turns). l ++ t ∷ more) d.is ∙ append_assoc d.front (d.here ∷ d.rest) (t ∷ more) in
    let same = append_cancel_left d.front (d.there ∷ d.more) ((d.here ∷ d.rest) ++ t ∷ more) longer in
    d.parts.differ (ap (λ (p : Turn × Heard). p.1) (sym (first-and-rest d.there d.here d.more (d.rest ++ t ∷ more) same).0))
none-behind one other more t (inr same) is = no-more one more t (same ∙ is)
