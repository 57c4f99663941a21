-- Where no view holds anything no word is held, so a machine whose actors have ended is settled.
use Rattle.std.proofs.Common.{◌≡◌, ℕ, zero, suc, ◌+◌, ◌<◌, List, [], length, Some, None, IsSome, All, refl, sym, ap, subst, inl, inr, ◌∙◌, arith}
use Rattle.std.proofs.lemmas.Bool.{true≢false, cases_lt}
use Rattle.std.proofs.lemmas.List.{get_or_default}
use Rattle.std.proofs.lemmas.List.Elements.{All-from_get_or}
use Rattle.nm_base.specs.Geometry.{Geometry, IsGeometry}
use Rattle.nm_action.specs.declared.action.Event.{Event}
use Rattle.nm_view.specs.Lists.{find}
use Rattle.nm_view.specs.Views.{Op, View, end_word}
use Rattle.nm_view.specs.Opening.{opening, IsActor}
use Rattle.nm_view.specs.Operations.{page_of, op_on}
use Rattle.nm_words.specs.Words.{HasSizes}
use Rattle.nm_words.specs.declared.names.Where.TheVariants.{Lock, Turn, Ack}
use Rattle.nm_core.specs.Kept.{IsKept}
use Rattle.nm_core.specs.Roles.{IsSettled}
use Rattle.nm_core.specs.Runs.{IsRun, state_after}
use Rattle.nm_core.specs.State.{State, view_of, actor_count}
use Rattle.nm_world.specs.Worlds.{lock_at, turn_at}
use Rattle.nm_world.specs.Laws.{AreAll}
use Rattle.nm_world.specs.Seen.{world_of}
use Rattle.nm_world.proofs.Bridge.{seen_word-place}
use Rattle.nm_runs.proofs.EachRun.{IsLawful, lawful_run}
use Rattle.nm_worker.specs.Routines.{IsLeftEmpty}
use Rattle.nm_settled.specs.Ended.{HaveEndedViews, HasNoMark}

-- a word that names no holder is 0
unheld : (n : ℕ) → ((a : ℕ) → ¬ (n ≡ a + 1)) → n ≡ 0
unheld zero h = refl
unheld (suc n) h = absurd (h n (omega arith))

-- a view without operations has none on a page
none-open : (view : View) (b : ℕ) → view.ops ≡ [] → ¬ IsSome (op_on view b)
none-open view b none some =
    let F : List Op → Type 0 = λ l. IsSome (find page_of b l) in
    let f : IsSome (find page_of b []) = subst F none some in
    true≢false (sym f)

-- a view that holds no turn does not hold this one
none-held : (view : View) (t : ℕ) → view.turn ≡ None → ¬ (view.turn ≡ Some t)
none-held view t none some = let e : None ≡ Some t = sym none ∙ some in cc

-- the view of every number is left empty, also where there is no such actor
all-empty : (s : State) → AreAll s.geometry (world_of s) → HaveEndedViews s → (a : ℕ) → IsLeftEmpty (view_of s a)
all-empty s all ended a = elim (cases_lt a (actor_count s.geometry)) [
  | inl there ↦ (ended a there).empty
  | inr past ↦
      let nobody : view_of s a ≡ opening s.geometry a = all.shape.nobody a (λ there. absurd (omega (arith, there, past))) in
      record {
        ops = ap (λ (v : View). v.ops) nobody;
        owned = ap (λ (v : View). v.owned) nobody;
        turn = ap (λ (v : View). v.turn) nobody;
      }
]

no-lock : (s : State) → AreAll s.geometry (world_of s) → HaveEndedViews s → (b : ℕ) → lock_at (world_of s) b ≡ 0
no-lock s all ended b = unheld (lock_at (world_of s) b) (λ a is. none-open (view_of s a) b (all-empty s all ended a).ops ((all.locks.locks a b).0 is))

no-turn : (s : State) → AreAll s.geometry (world_of s) → HaveEndedViews s → (t : ℕ) → turn_at (world_of s) t ≡ 0
no-turn s all ended t = unheld (turn_at (world_of s) t) (λ a is. none-held (view_of s a) t (all-empty s all ended a).turn ((all.locks.turns a t).0 is))

-- what holds of the view of each actor holds of each view
all-views : (P : View → Type 0) (s : State) → length s.views ≡ actor_count s.geometry → ((a : ℕ) → IsActor s.geometry a → P (view_of s a)) → All P s.views
all-views P s size each = All-from_get_or P s.views (opening s.geometry 0) (λ i there.
    subst P (get_or_default s.views i (opening s.geometry i) (opening s.geometry 0) there) (each i (omega (arith, there, size))))

pub settled : (s : State) → IsKept s → AreAll s.geometry (world_of s) → HaveEndedViews s → HasNoMark s → IsSettled s
settled s kept all ended unmarked =
    let sizes : HasSizes s.geometry s.words = kept.sizes in
    record {
      ended = All-from_get_or (λ n. n ≡ end_word) s.words.ack 0 (λ p there.
          let cpu : p < s.geometry.cpus = omega (arith, there, sizes.ack) in
          sym (seen_word-place s.geometry s.words (Ack p) cpu) ∙ sym ((all.caches.desks p).acked cpu) ∙ (ended p (omega (arith, cpu))).acked cpu);
      locks = All-from_get_or (λ n. n ≡ 0) s.words.lock 0 (λ b there.
          sym (seen_word-place s.geometry s.words (Lock b) (omega (arith, there, sizes.lock))) ∙ no-lock s all ended b);
      turns = All-from_get_or (λ n. n ≡ 0) s.words.turn 0 (λ t there.
          sym (seen_word-place s.geometry s.words (Turn t) (omega (arith, there, sizes.turn))) ∙ no-turn s all ended t);
      marks = All-from_get_or (λ n. n ≡ 0) s.words.mark 0 (λ b there. unmarked b (omega (arith, there, sizes.mark)));
      ops = all-views (λ v. v.ops ≡ []) s kept.actors (λ a there. (ended a there).empty.ops);
      owned = all-views (λ v. v.owned ≡ []) s kept.actors (λ a there. (ended a there).empty.owned);
    }

-- in the state after a run
pub settled-run : (g : Geometry) (events : List Event) → IsGeometry g → IsRun g events → HaveEndedViews (state_after g events) → HasNoMark (state_after g events) → IsSettled (state_after g events)
settled-run g events is run ended unmarked =
    let s : State = state_after g events in
    let A : Geometry → Type 0 = λ n. AreAll n (world_of s) in
    let lawful : IsLawful g s = lawful_run g events is run in
    settled s lawful.kept (subst A (sym lawful.machine) lawful.all) ended unmarked
