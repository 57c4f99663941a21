-- That a step keeps the rule, and what it tells.
use Rattle.std.proofs.Common.{◌≡◌, ◌≢◌, ℕ, List, [], ◌∷◌, ◌++◌, Some, None, get_or, set, refl, sym, ap, subst, ◌∙◌, inl, inr}
use mathlib.Core.Option.{some}
use lib.ListN.{get_elem?}
use Rattle.atomic_table.specs.Table.{State, Me, Allows, keeps}
use Rattle.atomic_table.proofs.Lists.{at_set}
use Rattle.nm_base.specs.Geometry.{Geometry, IsGeometry}
use Rattle.nm_action.specs.declared.action.Action.{Action}
use Rattle.nm_action.specs.declared.action.Event.{Event}
use Rattle.nm_action.specs.declared.action.Reply.{Reply}
use Rattle.nm_view.specs.Views.{View}
use Rattle.nm_words.specs.declared.exchanges.Change.{Change}
use Rattle.nm_words.specs.declared.exchanges.Change.TheVariants.{Put}
use Rattle.nm_words.specs.Exchanges.{changed}
use Rattle.nm_words.specs.Flat.{flat, at}
use Rattle.nm_step.specs.Table.{where_of, change_of, reply_of}
use Rattle.nm_event.specs.After.{after_of}
use Rattle.nm_event.specs.Fitting.{Fits}
use Rattle.nm_core.specs.State as core
use Rattle.nm_core.specs.Causes.{Refuses}
use Rattle.nm_core.specs.Runs.{IsRun, IsStep, state_after}
use Rattle.nm_core.proofs.Causes.{busy_at, lost_at, refused_same}
use Rattle.nm_runs.proofs.EachRun.{IsLawful, lawful_run, fits_in_run}
use Rattle.nm_rule.specs.declared.known.Progress.{Progress}
use Rattle.nm_rule.specs.declared.known.ActorSeat.{ActorSeat}
use Rattle.nm_rule.specs.declared.known.Knowledge.{Knowledge}
use Rattle.nm_rule.specs.Knows.{event_made, advanced, seat_of, progress_by}
use Rattle.nm_rule.specs.Shows.{IsProgress, IsKnown, IsKnowing, Shows}
use Rattle.nm_rule.specs.Steps.{IsMoveMade, Grows, told_of, Tells, IsExchange}
use Rattle.nm_rule.proofs.Parts.{own_of-same, own_of-other}
use Rattle.nm_rule.proofs.Fronts.{prefix-self, prefix-more}
use Rattle.nm_rule.proofs.AfterRuns.{step_made, words_made, run_more, state_more, view-same, view-other, number-run}

-- What another seat knows stays so.

known_other : (g : Geometry) (run : List Event) (e : Event) (knower : ℕ → ℕ) (mover seat actor : ℕ) (p : Progress) → IsRun g run → IsRun g (run ++ e ∷ []) → knower e.actor ≡ mover → seat ≢ mover → IsKnown g run knower seat actor p → IsKnown g (run ++ e ∷ []) knower seat actor p
known_other g run e knower mover seat actor p before after moves apart h =
    let away : actor ≢ e.actor = λ same. apart (sym h.known_by ∙ ap knower same ∙ moves) in
    record {
      progress = record {
        exists = h.progress.exists;
        number = h.progress.number;
        view = view-other g run e actor h.progress.exists before after away ∙ h.progress.view;
        own = own_of-other actor run e away ∙ h.progress.own;
      };
      known_by = h.known_by;
    }

knows_other : (g : Geometry) (run : List Event) (e : Event) (knower : ℕ → ℕ) (mover seat : ℕ) (k : Knowledge) → IsRun g run → IsRun g (run ++ e ∷ []) → knower e.actor ≡ mover → seat ≢ mover → IsKnowing g run knower seat k → IsKnowing g (run ++ e ∷ []) knower seat k
knows_other g run e knower mover seat k before after moves apart h = record {
  mine = λ p is. known_other g run e knower mover seat p.view.number p before after moves apart (h.mine p is);
  seats = λ actor p is. known_other g run e knower mover seat actor p before after moves apart (h.seats actor p is);
  seen = prefix-more k.seen run (e ∷ []) h.seen;
}

-- What the seat that steps knows after it.

abbrev grown : Geometry → Action → Reply → Progress → Knowledge → List Event → Knowledge
grown g a r p k run = record { mine = Some (advanced g a r p); seats = k.seats; seen = run ++ event_made p.view.number a r ∷ [] }

progress_own : (g : Geometry) (run : List Event) (a : Action) (r : Reply) (p : Progress) → IsGeometry g → IsRun g run → IsRun g (run ++ event_made p.view.number a r ∷ []) → IsProgress g run p.view.number p → IsProgress g (run ++ event_made p.view.number a r ∷ []) p.view.number (advanced g a r p)
progress_own g run a r p is before after h =
    let e : Event = event_made p.view.number a r in
    let view : core.view_of (state_after g (run ++ e ∷ [])) p.view.number ≡ after_of g p.view a r = view-same g run e p.view.number h.exists before after refl ∙ ap (λ v. after_of g v a r) h.view in
    record {
      exists = h.exists;
      number = ap (λ v. v.number) (sym view) ∙ number-run g (run ++ e ∷ []) p.view.number is after h.exists;
      view = view;
      own = own_of-same p.view.number run e refl ∙ ap (λ own. own ++ (a, r) ∷ []) h.own;
    }

known_own : (g : Geometry) (run : List Event) (knower : ℕ → ℕ) (seat actor : ℕ) (p : Progress) → IsProgress g run actor p → knower actor ≡ seat → IsKnown g run knower seat p.view.number p
known_own g run knower seat actor p h knows = record {
  progress = subst (λ n. IsProgress g run n p) (sym h.number) h;
  known_by = ap knower h.number ∙ knows;
}

some_same : (p q : Progress) → Some p ≡ Some q → p ≡ q
some_same p q e = cc

pub nothing : (p : Progress) → None ≡ Some p → ⊥
nothing p e = cc

pub none_out : (actor : ℕ) (seats : List ActorSeat) (p : Progress) → seats ≡ [] → progress_by (seat_of seats actor) ≡ Some p → ⊥
none_out actor seats p none is =
    let out : progress_by (seat_of [] actor) ≡ Some p = subst (λ ks. progress_by (seat_of ks actor) ≡ Some p) none is in
    nothing p out

knows_own : (g : Geometry) (run : List Event) (knower : ℕ → ℕ) (seat : ℕ) (a : Action) (r : Reply) (p : Progress) (k : Knowledge) → IsGeometry g → IsRun g run → IsRun g (run ++ event_made p.view.number a r ∷ []) → k.seats ≡ [] → IsKnown g run knower seat p.view.number p → IsKnowing g (run ++ event_made p.view.number a r ∷ []) knower seat (grown g a r p k run)
knows_own g run knower seat a r p k is before after none h =
    let after_run : List Event = run ++ event_made p.view.number a r ∷ [] in
    let new = known_own g after_run knower seat p.view.number (advanced g a r p) (progress_own g run a r p is before after h.progress) h.known_by in
    record {
      mine = λ q same. subst (λ x. IsKnown g after_run knower seat x.view.number x) (some_same (advanced g a r p) q same) new;
      seats = λ actor q told_of. absurd (none_out actor k.seats q none told_of);
      seen = prefix-self after_run;
    }

-- The table after the step.

moved_shows : (g : Geometry) (seat : ℕ) (k : Knowledge) (p : Progress) (a : Action) (r : Reply) (t : State (Unit {0}) Knowledge) (ws : List ℕ) (h : Shows g t) → get_elem? t.views seat ≡ some k → k.mine ≡ Some p → k.seats ≡ [] → IsStep (state_after g h.run) (event_made p.view.number a r) → ws ≡ flat (state_after g (h.run ++ event_made p.view.number a r ∷ [])).words
    → Shows g (record { words = ws; homes = t.homes; views = set t.views seat (grown g a r p k h.run) })
moved_shows g seat k p a r t ws h here mine none made words =
    let e : Event = event_made p.view.number a r in
    let after : IsRun g (h.run ++ e ∷ []) = run_more g h.run e h.is_run made in
    let own = (h.known seat k here).mine p mine in
    record {
      geometry = h.geometry;
      run = h.run ++ e ∷ [];
      knower = h.knower;
      is_run = after;
      words = words;
      known = λ other n at. elim (at_set t.views seat other (grown g a r p k h.run) n at) [
        | inl same ↦
            subst (λ x. IsKnowing g (h.run ++ e ∷ []) h.knower other x) same.1
            (subst (λ x. IsKnowing g (h.run ++ e ∷ []) h.knower x (grown g a r p k h.run)) (sym same.0) (knows_own g h.run h.knower seat a r p k h.geometry h.is_run after none own))
        | inr away ↦ knows_other g h.run e h.knower seat other n h.is_run after own.known_by away.0 (h.known other n away.1)
      ];
    }

moved_made : (g : Geometry) (seat : ℕ) (k : Knowledge) (p : Progress) (a : Action) (r : Reply) (t : State (Unit {0}) Knowledge) (h : Shows g t) → get_elem? t.views seat ≡ some k → k.mine ≡ Some p → IsStep (state_after g h.run) (event_made p.view.number a r) → IsMoveMade g p a r k.seen (h.run ++ event_made p.view.number a r ∷ [])
moved_made g seat k p a r t h here mine made =
    let e : Event = event_made p.view.number a r in
    let known = h.known seat k here in
    let own = known.mine p mine in
    let s : core.State = state_after g h.run in
    record {
      front = h.run;
      run = h.is_run;
      own = own.progress.own;
      view = own.progress.view;
      since = known.seen;
      step = made;
      seen = refl;
      whole = run_more g h.run e h.is_run made;
      part = own_of-same p.view.number h.run e refl ∙ ap (λ own. own ++ (a, r) ∷ []) own.progress.own;
      busy = λ w. busy_at s s p.view.number a r w refl made.reply;
      lost = λ w. lost_at s s p.view.number a r w refl made.reply;
      refused = λ no. state_more g h.run e ∙ refused_same s p.view.number a (subst Refuses made.reply no);
    }

moved_grows : (g : Geometry) (seat : ℕ) (k : Knowledge) (p : Progress) (a : Action) (r : Reply) (t : State (Unit {0}) Knowledge) (h : Shows g t) → get_elem? t.views seat ≡ some k → k.mine ≡ Some p → IsStep (state_after g h.run) (event_made p.view.number a r) → Grows g a r p k (grown g a r p k h.run)
moved_grows g seat k p a r t h here mine made =
    let own = (h.known seat k here).mine p mine in
    record {
      mine = refl;
      seats = refl;
      made = moved_made g seat k p a r t h here mine made;
      fits = subst (λ v. Fits g v a r) own.progress.view (fits_in_run g h.run (event_made p.view.number a r) h.geometry h.is_run made);
    }

-- a put tells nothing, so its reply follows from the word that was put as well
reply_told : (c : Change) (n : ℕ) → reply_of c (told_of c n) ≡ reply_of c n
reply_told (Put x) n = refl
reply_told c n = refl

-- an exchange that is the action of the seat's actor keeps the rule, whatever was done before it
pub moves : (g : Geometry) (slots seat : ℕ) (me : Me (Unit {0}) Knowledge) (a : Action) (i : ℕ) (c : Change) (f : ℕ → ℕ) → IsExchange g a me.0 i c → ((n : ℕ) → f n ≡ changed c n) → Allows (Shows g) slots seat me i f (λ n after. Tells g a (told_of c n) me after)
moves g slots seat me a i c f x same t h size here bound =
    let p : Progress = x.actor in
    let v : View = x.actor.view in
    let q : ℕ = x.actor.view.number in
    let n : ℕ = get_or t.words i 0 in
    let r : Reply = reply_of (change_of g v a) n in
    let e : Event = event_made q a r in
    let s : core.State = state_after g h.run in
    let law : IsLawful g s = lawful_run g h.run h.geometry h.is_run in
    let own = (h.known seat me.0 here).mine p x.mine in
    let found : n ≡ get_or (flat s.words) (at g (where_of g v a)) 0 = ap (λ ws. get_or ws i 0) h.words ∙ ap (λ j. get_or (flat s.words) j 0) x.place in
    let made : IsStep s e = step_made g s q v a n law.machine own.progress.view law.kept own.progress.exists x.allowed found in
    let words : set t.words i (f n) ≡ flat (state_after g (h.run ++ e ∷ [])).words = ap (λ m. set t.words i m) (same n ∙ ap (λ d. changed d n) x.change) ∙ ap (λ ws. set ws i (changed (change_of g v a) (get_or ws i 0))) h.words ∙ ap (λ j. set (flat s.words) j (changed (change_of g v a) (get_or (flat s.words) j 0))) x.place ∙ words_made g s q v a law.machine own.progress.view law.kept own.progress.exists x.allowed ∙ ap (λ (z : core.State). flat z.words) (sym (state_more g h.run e)) in
    let reply : r ≡ reply_of (change_of g v a) (told_of c n) = sym (reply_told (change_of g v a) n) ∙ ap (λ d. reply_of (change_of g v a) (told_of d n)) (sym x.change) in
    let new : Knowledge = grown g a r p me.0 h.run in (
      new,
      keeps,
      tt,
      moved_shows g seat me.0 p a r t (set t.words i (f n)) h here x.mine x.seats made words,
      record {
        actor = p;
        mine = x.mine;
        slots = refl;
        grows = subst (λ z. Grows g a z p me.0 new) reply (moved_grows g seat me.0 p a r t h here x.mine made);
      },
    )
