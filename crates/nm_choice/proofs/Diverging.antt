-- Lists that diverge, with something before or behind them.
use Rattle.std.proofs.Common.{◌≡◌, List, [], ◌∷◌, ◌++◌, refl, sym, ap, ◌∙◌, append_assoc}
use Rattle.nm_choice.specs.Deterministic.{Diverge, Coincide}

pub part-here : {E : Type 0} (apart : E → E → Type 0) (here there : E) (rest more : List E) → apart here there → Diverge apart (here ∷ rest) (there ∷ more)
part-here apart here there rest more parts = record { front = []; here = here; there = there; rest = rest; more = more; is = refl; other_is = refl; parts = parts }

-- behind the same events
pub part-behind : {E : Type 0} (apart : E → E → Type 0) (front own other : List E) → Diverge apart own other → Diverge apart (front ++ own) (front ++ other)
part-behind {E} apart front own other d = record {
  front = front ++ d.front;
  here = d.here;
  there = d.there;
  rest = d.rest;
  more = d.more;
  is = ap (λ (l : List E). front ++ l) d.is ∙ sym (append_assoc front d.front (d.here ∷ d.rest));
  other_is = ap (λ (l : List E). front ++ l) d.other_is ∙ sym (append_assoc front d.front (d.there ∷ d.more));
  parts = d.parts;
}

-- with any more events behind them
pub part-more : {E : Type 0} (apart : E → E → Type 0) (own other back more : List E) → Diverge apart own other → Diverge apart (own ++ back) (other ++ more)
part-more {E} apart own other back more d = record {
  front = d.front;
  here = d.here;
  there = d.there;
  rest = d.rest ++ back;
  more = d.more ++ more;
  is = ap (λ (l : List E). l ++ back) d.is ∙ append_assoc d.front (d.here ∷ d.rest) back;
  other_is = ap (λ (l : List E). l ++ more) d.other_is ∙ append_assoc d.front (d.there ∷ d.more) more;
  parts = d.parts;
}

pub part-as : {E : Type 0} (apart : E → E → Type 0) (own other now then : List E) → own ≡ now → other ≡ then → Diverge apart now then → Diverge apart own other
part-as apart own other now then is other_is d = record {
  front = d.front;
  here = d.here;
  there = d.there;
  rest = d.rest;
  more = d.more;
  is = is ∙ d.is;
  other_is = other_is ∙ d.other_is;
  parts = d.parts;
}

pub both-same : {E O : Type 0} (own other : List E) (outcome end : O) → own ≡ other → outcome ≡ end → Coincide own outcome other end
both-same own other outcome end list ends = record { list = list; ends = ends }

pub part-next : {E : Type 0} (apart : E → E → Type 0) (one two : E) (own other : List E) → one ≡ two → Diverge apart own other → Diverge apart (one ∷ own) (two ∷ other)
part-next {E} apart one two own other same d =
    part-as apart (one ∷ own) (two ∷ other) (one ∷ own) (one ∷ other) refl (ap (λ (e : E). e ∷ other) (sym same)) (part-behind apart (one ∷ []) own other d)
