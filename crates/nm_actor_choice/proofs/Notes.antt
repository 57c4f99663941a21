-- Two lists of notes of a routine that leaves no choice.
use Rattle.std.proofs.Common.{◌≡◌, ◌⊎◌, [], ◌∷◌, ◌++◌, refl, sym, ap, ap₂, ◌∙◌, inl, inr}
use Rattle.nm_action.specs.declared.turn.Turn.{Turn}
use Rattle.nm_action.specs.declared.turn.Heard.{Heard}
use Rattle.nm_worker.specs.Notes.{Noted, Notes, noted_turns}
use Rattle.nm_worker.proofs.NoteLists.{turns-append}
use Rattle.nm_choice.specs.Deterministic.{Diverge, Coincide}
use Rattle.nm_note_choice.specs.NotesApart.{AreNotesApart}
use Rattle.nm_actor_choice.proofs.Turns.{AreAlike}

-- the turns of such lists are the same, or part
pub turns-alike : {O : Type 0} (one other : Notes) (outcome end : O) → Diverge AreNotesApart one other ⊎ Coincide one outcome other end → AreAlike (noted_turns one) (noted_turns other)
turns-alike one other outcome end (inl d) = inl (record {
  front = noted_turns d.front;
  here = (d.here.turn, d.here.heard);
  there = (d.there.turn, d.there.heard);
  rest = noted_turns d.rest;
  more = noted_turns d.more;
  is = ap noted_turns d.is ∙ turns-append d.front (d.here ∷ d.rest);
  other_is = ap noted_turns d.other_is ∙ turns-append d.front (d.there ∷ d.more);
  parts = record { same = d.parts.same; differ = d.parts.differ };
})
turns-alike one other outcome end (inr same) = inr (ap noted_turns same.list)

first-and-rest : (n m : Noted) (ns ms : Notes) → n ∷ ns ≡ m ∷ ms → (n ≡ m) × (ns ≡ ms)
first-and-rest n m ns ms is = (cc, cc)

first-turn : (n m : Noted) (ns ms : Notes) → noted_turns (n ∷ ns) ≡ noted_turns (m ∷ ms) → (n.heard ≡ m.heard) × (noted_turns ns ≡ noted_turns ms)
first-turn n m ns ms is =
    let one : Turn × Heard = (n.turn, n.heard) in
    let other : Turn × Heard = (m.turn, m.heard) in
    let heads : one ≡ other = cc in
    (ap (λ (p : Turn × Heard). p.1) heads, cc)

no-turn : (n : Noted) (ns : Notes) → ¬ ([] ≡ noted_turns (n ∷ ns))
no-turn n ns is = cc

parted : (one other before rest more back behind : Notes) (here there : Noted) → AreNotesApart here there → one ++ rest ≡ before ++ here ∷ back → other ++ more ≡ before ++ there ∷ behind → noted_turns one ≡ noted_turns other → one ≡ other
parted [] [] before rest more back behind here there apart is other_is same = refl
parted [] (m ∷ other) before rest more back behind here there apart is other_is same = absurd (no-turn m other same)
parted (n ∷ one) [] before rest more back behind here there apart is other_is same = absurd (no-turn n one (sym same))
parted (n ∷ one) (m ∷ other) [] rest more back behind here there apart is other_is same =
    let n_is = (first-and-rest n here (one ++ rest) back is).0 in
    let m_is = (first-and-rest m there (other ++ more) behind other_is).0 in
    absurd (apart.differ (ap (λ (x : Noted). x.heard) (sym n_is) ∙ (first-turn n m one other same).0 ∙ ap (λ (x : Noted). x.heard) m_is))
parted (n ∷ one) (m ∷ other) (x ∷ before) rest more back behind here there apart is other_is same =
    let n_is = first-and-rest n x (one ++ rest) (before ++ here ∷ back) is in
    let m_is = first-and-rest m x (other ++ more) (before ++ there ∷ behind) other_is in
    ap₂ (λ (y : Noted) (l : Notes). y ∷ l) (n_is.0 ∙ sym m_is.0) (parted one other before rest more back behind here there apart n_is.1 m_is.1 (first-turn n m one other same).1)

as-one : (one other rest more : Notes) → one ++ rest ≡ other ++ more → noted_turns one ≡ noted_turns other → one ≡ other
as-one [] [] rest more is same = refl
as-one [] (m ∷ other) rest more is same = absurd (no-turn m other same)
as-one (n ∷ one) [] rest more is same = absurd (no-turn n one (sym same))
as-one (n ∷ one) (m ∷ other) rest more is same =
    let both = first-and-rest n m (one ++ rest) (other ++ more) is in
    ap₂ (λ (y : Noted) (l : Notes). y ∷ l) both.0 (as-one one other rest more both.1 (first-turn n m one other same).1)

-- beginnings with the same answered turns are the same, with what is counted in them
pub beginnings-alike : {O : Type 0} (one other rest more : Notes) (outcome end : O) → Diverge AreNotesApart (one ++ rest) (other ++ more) ⊎ Coincide (one ++ rest) outcome (other ++ more) end → noted_turns one ≡ noted_turns other → one ≡ other
beginnings-alike one other rest more outcome end (inl d) same = parted one other d.front rest more d.rest d.more d.here d.there d.parts d.is d.other_is same
beginnings-alike one other rest more outcome end (inr whole) same = as-one one other rest more whole.list same
