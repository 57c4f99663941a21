-- A crew that sits, runs and stands.
use Rattle.std.proofs.Common.{◌≡◌, ℕ, suc, ◌<◌, List, [], ◌∷◌, length, map, refl, sym, ap, ◌∙◌, subst, Option, Some, None, arith}
use Rattle.std.specs.Prelude.{All, slice_index_or}
use Rattle.std.proofs.lemmas.List.{get_or-map, length-map}
use Rattle.std.proofs.lemmas.List.Elements.{All-nil, All-from_get_or}
use Rattle.nm_base.specs.Geometry.{Geometry}
use Rattle.nm_action.specs.declared.turn.Turn.{Turn}
use Rattle.nm_action.specs.declared.turn.Turn.TheVariants.{End}
use Rattle.nm_actor.specs.Turns.{Turns, turns_view}
use Rattle.nm_actor.specs.Chairs.{ChairState}
use Rattle.nm_actor.specs.Boards.{BoardState, IsOpeningChair}
use Rattle.nm_threads.specs.Desks.{IsDeskReady, IsDeskDone, HaveRun}
use Rattle.nm_crew.specs.Crewed.{AtEach, IsNewAt}
use Rattle.nm_thread_crew.specs.Boarded.{HaveSat, IsSeated}
use Rattle.nm_threads.proofs.Kept.{made-keeps}
use Rattle.nm_thread_crew.proofs.Chairs.{opening-ready, ready-at, driven-at}

pub seated-first : {N M : Type 0} (geometry : M → Geometry) (number : M → ℕ) (made : M) (is_new : Type 0) (agrees : Turns → Option Turn → Type 0) (b : BoardState N) (n : ℕ) (c : ChairState N)
    → IsOpeningChair b n c → IsNewAt geometry number made is_new b.geometry n → (is_new → agrees [] None) → IsSeated b n geometry number made agrees None c
seated-first geometry number made is_new agrees b n c opening new opens = record {
  machine = new.machine;
  same = new.same;
  at = opening-ready geometry number made is_new agrees b n c opening new opens;
  others = opening.others;
}

pub seated-ready : {N M : Type 0} (b : BoardState N) (n : ℕ) (geometry : M → Geometry) (number : M → ℕ) (made : M) (agrees : Turns → Option Turn → Type 0) (c : ChairState N)
    → IsSeated b n geometry number made agrees None c → IsDeskReady geometry number made agrees c
seated-ready b n geometry number made agrees c s = ready-at geometry number made agrees b n c s.machine s.same s.at

pub seated-done : {N M : Type 0} (b : BoardState N) (n : ℕ) (geometry : M → Geometry) (number : M → ℕ) (made made' : M) (agrees agrees' : Turns → Option Turn → Type 0) (old new : ChairState N)
    → IsSeated b n geometry number made agrees None old → IsDeskDone geometry number made made' agrees agrees' old new → IsSeated b n geometry number made' agrees' (Some End) new
seated-done b n geometry number made made' agrees agrees' old new s done = record {
  machine = ap geometry done.same ∙ s.machine;
  same = ap number done.same ∙ s.same;
  at = driven-at geometry number made agrees agrees' b n old new s.machine s.same s.at done.driven;
  others = (made-keeps old new done.driven.turns done.driven.made).others ∙ s.others;
}

pub seated-as : {N M : Type 0} (to : ℕ) (b b' : BoardState N) (n : ℕ) (geometry : M → Geometry) (number : M → ℕ) (made : M) (agrees : Turns → Option Turn → Type 0) (last : Option Turn) (c : ChairState N)
    → HaveSat 0 to b b' → IsSeated b n geometry number made agrees last c → IsSeated b' n geometry number made agrees last c
seated-as {N} to b b' n geometry number made agrees last c sat s =
    let machine : b'.geometry ≡ b.geometry = ap (λ (k : BoardState N). k.geometry) sat.is in
    let at = s.at in
    record {
      machine = s.machine ∙ sym machine;
      same = s.same;
      at = record {
        turns = at.turns;
        agreed = at.agreed;
        own = at.own;
        candidates = at.candidates;
        pending = at.pending;
        view = at.view ∙ ap (λ (g : Geometry). turns_view g n at.turns) (sym machine);
        machine = at.machine ∙ sym machine;
        sitter = at.sitter;
        name = at.name ∙ sym (ap (λ (k : BoardState N). k.name) sat.is);
      };
      others = s.others;
    }

-- Lists.

pub all-of : {D : Type 0} (P : D → Type 0) (list : List D) → AtEach (λ n d. P d) list → All P list
all-of P [] each = All-nil P
all-of P (d ∷ list) each = All-from_get_or P (d ∷ list) d (λ i lt. each i d lt)

-- what is said of the actors is said of their desks
pub each-of-map : {D C : Type 0} (f : D → C) (said : ℕ → C → Type 0) (desks : List D) (cpus : List C) → map f desks ≡ cpus → AtEach said cpus → AtEach (λ n d. said n (f d)) desks
each-of-map {D} {C} f said desks cpus is each place beyond lt =
    let L : List C → Type 0 = λ l. AtEach said l in
    let all : AtEach said (map f desks) = subst L (sym is) each in
    let P : C → Type 0 = λ c. said place c in
    let below : place < length (map f desks) = omega (arith, lt, length-map desks f) in
    subst P (get_or-map f desks place beyond (f beyond) lt) (all place (f beyond) below)

pub each-ran : {D : Type 0} (ran : D → D → Type 0) (P Q : ℕ → D → Type 0) (old new : List D) → HaveRun ran old new → AtEach P old → ((n : ℕ) (d e : D) → P n d → ran d e → Q n e) → AtEach Q new
each-ran ran P Q old new h each step place beyond lt =
    let below : place < length old = omega (arith, lt, h.many) in
    step place (slice_index_or old place beyond) (slice_index_or new place beyond) (each place beyond below) (h.each place beyond below)

-- what each was made with is the same after it has run
pub made-ran : {D M : Type 0} (made : D → M) (ran : D → D → Type 0) (old new : List D) → HaveRun ran old new → ((d e : D) → ran d e → made e ≡ made d) → map made new ≡ map made old
made-ran made ran [] [] h keeps = refl
made-ran made ran [] (e ∷ new) h keeps = absurd (omega (arith, h.many))
made-ran made ran (d ∷ old) [] h keeps = absurd (omega (arith, h.many))
made-ran {D} {M} made ran (d ∷ old) (e ∷ new) h keeps =
    let rest : HaveRun ran old new = record { many = omega (arith, h.many); each = λ place beyond lt. h.each (suc place) beyond (omega (arith, lt)) } in
    let first : made e ≡ made d = keeps d e (h.each 0 d (omega arith)) in
    ap (λ (m : M). m ∷ map made new) first ∙ ap (λ (l : List M). made d ∷ l) (made-ran made ran old new rest keeps)
