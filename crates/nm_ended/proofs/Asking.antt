-- The steps of the question to all processors.
use Rattle.std.proofs.Common.{◌≡◌, ◌≢◌, ℕ, zero, suc, ◌+◌, ◌-◌, ◌<◌, ◌≤◌, ◌==◌, Bool, true, false, [], List, map, refl, sym, ap, subst, ◌∙◌, arith}
use Rattle.std.proofs.lemmas.Bool.{ne_eqb}
use Rattle.nm_base.specs.Geometry.{Geometry}
use Rattle.nm_action.specs.declared.action.Action.{Action}
use Rattle.nm_action.specs.declared.action.Action.TheVariants.{SeeAck}
use Rattle.nm_action.specs.declared.action.Reply.{Reply}
use Rattle.nm_action.specs.declared.action.Reply.TheVariants.{Done, Word, Busy, Lost}
use Rattle.nm_action.specs.Own.{Own}
use Rattle.nm_view.specs.Views.{Op, View, end_word}
use Rattle.nm_event.specs.After.{seen_at}
use Rattle.nm_part.specs.Patterns.{Ends, Follows, Either, CanEnd}
use Rattle.nm_part.proofs.Patterns.{ends-now, can-ends, can-follow, can-either, either-yes, either-other}
use Rattle.nm_compose.specs.Acts.{MayAct, IsAct, IsActed}
use Rattle.nm_compose.specs.Plans.{IsNewRun, IsOver}
use Rattle.nm_compose.specs.Stages.{IsPieceAt, RunsAt}
use Rattle.nm_compose.specs.declared.act.Act.{Act}
use Rattle.nm_compose.proofs.Acting.{some-act}
use Rattle.nm_compose.proofs.Staging.{by-stage, runs-new}
use Rattle.nm_ended.specs.declared.ask.AskEnded.{AskEnded}
use Rattle.nm_ended.specs.Asking.{tells_end, AsksFrom, IsAsking, MayAsk, ask_action, ask_left, IsAskedAt, ask_stages}

-- What is left.

can-asks : (g : Geometry) (cpu more : ℕ) → CanEnd (AsksFrom g cpu more)
can-asks g cpu zero = can-ends true
can-asks g cpu (suc more) =
    let some = some-act (SeeAck cpu) g in
    can-follow (IsAct (SeeAck cpu) g) (λ reply. Either (tells_end reply) (AsksFrom g (cpu + 1) more) (Ends false)) some
    (can-either (tells_end some.outcome) (AsksFrom g (cpu + 1) more) (Ends false) (can-asks g (cpu + 1) more) (can-ends false))

-- the pattern has a list
pub some-asking : (cpus : ℕ) (g : Geometry) → CanEnd (IsAsking cpus g)
some-asking cpus g = can-asks g 0 cpus

can-left : (cpus cpu : ℕ) (g : Geometry) (reply : Reply) → CanEnd (ask_left cpus cpu g reply)
can-left cpus cpu g reply = can-either (tells_end reply) (AsksFrom g (cpu + 1) (cpus - (cpu + 1))) (Ends false) (can-asks g (cpu + 1) (cpus - (cpu + 1))) (can-ends false)

one-more : (cpu cpus : ℕ) → cpu < cpus → cpus - cpu ≡ suc (cpus - (cpu + 1))
one-more cpu cpus h = omega arith

none-more : (cpu cpus : ℕ) → cpus ≤ cpu → cpus - cpu ≡ 0
none-more cpu cpus h = omega arith

-- The view.

seen-none : (now : View) (cpu word : ℕ) → now.ops ≡ [] → record now { ops = map (seen_at cpu word) now.ops } ≡ now
seen-none now cpu word none =
    ap (λ (ops : List Op). record now { ops = map (seen_at cpu word) ops }) none ∙ sym (ap (λ (ops : List Op). record now { ops = ops }) none)

-- a processor that was asked leaves a view without operations as it was
asked-same : (g : Geometry) (first now later : View) (cpu : ℕ) (reply : Reply) → now ≡ first → first.ops ≡ [] → IsActed g now (SeeAck cpu) reply later → later ≡ first
asked-same g first now later cpu Done same none a = absurd a.fits.kind
asked-same g first now later cpu (Word word) same none a = a.is ∙ seen-none now cpu word (ap (λ (v : View). v.ops) same ∙ none) ∙ same
asked-same g first now later cpu (Busy word) same none a = absurd a.fits.kind
asked-same g first now later cpu (Lost word) same none a = absurd a.fits.kind

-- The pieces.

abbrev pub RunsAsk : ℕ → ℕ → (Own → Bool → Type 0) → Geometry → View → View → Type 0
RunsAsk = RunsAt (λ action g view. MayAct g view action) IsAct ask_stages

runs-ask : (cpus cpu : ℕ) (was : Own → Bool → Type 0) (g : Geometry) (first now : View) → MayAsk cpus g first → now ≡ first → cpu < cpus
    → ((own : Own) (all : Bool) → AsksFrom g cpu (cpus - cpu) own all → was own all) → RunsAsk cpus cpu was g first now
runs-ask cpus cpu was g first now may same within fits =
    let L : ℕ → Type 0 = λ n. cpu < n in
    record {
      begin = record { quiet = tt; allowed = record { range = subst L may.all within; permitted = tt } };
      known = record { is = refl; known = record { may = may; within = within; same = same } };
      can = λ own end shown. can-left cpus cpu g end;
      fits = λ own all f. fits own all (rw (one-more cpu cpus within) f);
    }

-- the plan gives this action, where this was left
abbrev pub GivesAsk : AskEnded → Act → (Own → Bool → Type 0) → Geometry → View → View → Type 0
GivesAsk new act was g first now = IsNewRun (λ (a : Act). a.action) (λ a. Unit {0}) (λ action g view. MayAct g view action) IsAct (IsPieceAt ask_stages new.cpus new.cpu) (ask_left new.cpus new.cpu) was act g first now

gives-ask : (new : AskEnded) (cpus cpu : ℕ) (act : Act) (was : Own → Bool → Type 0) (g : Geometry) (first now : View)
    → new.cpus ≡ cpus → new.cpu ≡ cpu → act.action ≡ SeeAck cpu → RunsAsk cpus cpu was g first now → GivesAsk new act was g first now
gives-ask new cpus cpu act was g first now same at acts run =
    runs-new (λ (a : Act). a.action) (λ a. Unit {0}) (λ action g view. MayAct g view action) IsAct ask_stages was cpus new.cpus cpu new.cpu act g first now same at acts tt run

-- the first processor is asked
pub ask-first : (old : AskEnded) (act : Act) → old.cpu ≡ 0 → act.action ≡ SeeAck old.cpu → (g : Geometry) (view : View) → MayAsk old.cpus g view
    → GivesAsk old act (IsAsking old.cpus g) g view view
ask-first old act at acts g view may =
    gives-ask old old.cpus 0 act (IsAsking old.cpus g) g view view refl at (acts ∙ ap SeeAck at)
    (runs-ask old.cpus 0 (IsAsking old.cpus g) g view view may refl may.some (λ own all f. let e : old.cpus - 0 ≡ old.cpus = omega arith in let A : ℕ → Type 0 = λ n. AsksFrom g 0 n own all in subst A e f))

-- The steps.

abbrev Asked : Action → Geometry → View → Reply → View → Type 0
Asked action g view reply left = IsActed g view action reply left

told-end : (end : Reply) (word : ℕ) → end ≡ Word word → word ≡ end_word → tells_end end ≡ true
told-end end word ended same = ap tells_end ended ∙ ap (λ (w : ℕ). w == end_word) same

-- it has ended: the next processor is asked
pub ask-more : (old new : AskEnded) (act : Act) (word : ℕ) (end : Reply) (g : Geometry) (first now later : View) (action : Action)
    → end ≡ Word word → word ≡ end_word → old.cpu + 1 < old.cpus → IsPieceAt ask_stages old.cpus old.cpu g first now action → IsActed g now action end later
    → new ≡ record old { cpu = old.cpu + 1 } → act.action ≡ SeeAck new.cpu
    → GivesAsk new act (ask_left old.cpus old.cpu g end) g first later
ask-more old new act word end g first now later action ended same within known acted is acts =
    by-stage ask_stages Asked (λ cpu reply. GivesAsk new act (ask_left old.cpus old.cpu g end) g first later) old.cpus old.cpu old.cpu end end g first now later action refl refl known acted
    (λ k a. let at = ap (λ (s : AskEnded). s.cpu) is in
    gives-ask new old.cpus (old.cpu + 1) act (ask_left old.cpus old.cpu g end) g first later (ap (λ (s : AskEnded). s.cpus) is) at (acts ∙ ap SeeAck at)
    (runs-ask old.cpus (old.cpu + 1) (ask_left old.cpus old.cpu g end) g first later k.may (asked-same g first now later old.cpu end k.same k.may.ops a) within
    (λ own all f. either-yes (tells_end end) (AsksFrom g (old.cpu + 1) (old.cpus - (old.cpu + 1))) (Ends false) own all (told-end end word ended same) f)))

abbrev pub AskOver : (Own → Bool → Type 0) → Geometry → View → View → Bool → Type 0
AskOver was g first now all = IsOver was (λ g view all left. left ≡ view) (λ g all. Unit {0}) g first now all

-- the last one has ended: all have
pub ask-all : (old : AskEnded) (word : ℕ) (end : Reply) (g : Geometry) (first now later : View) (action : Action)
    → end ≡ Word word → word ≡ end_word → old.cpus ≤ old.cpu + 1 → IsPieceAt ask_stages old.cpus old.cpu g first now action → IsActed g now action end later
    → AskOver (ask_left old.cpus old.cpu g end) g first later true
ask-all old word end g first now later action ended same last known acted =
    by-stage ask_stages Asked (λ cpu reply. AskOver (ask_left old.cpus old.cpu g end) g first later true) old.cpus old.cpu old.cpu end end g first now later action refl refl known acted
    (λ k a. let A : ℕ → Type 0 = λ n. AsksFrom g (old.cpu + 1) n [] true in
    record {
      shown = either-yes (tells_end end) (AsksFrom g (old.cpu + 1) (old.cpus - (old.cpu + 1))) (Ends false) [] true (told-end end word ended same) (subst A (sym (none-more (old.cpu + 1) old.cpus last)) (ends-now true));
      left = asked-same g first now later old.cpu end k.same k.may.ops a;
      over = tt;
    })

-- it has not ended: this is the end
pub ask-none : (old : AskEnded) (word : ℕ) (end : Reply) (g : Geometry) (first now later : View) (action : Action)
    → end ≡ Word word → word ≢ end_word → IsPieceAt ask_stages old.cpus old.cpu g first now action → IsActed g now action end later
    → AskOver (ask_left old.cpus old.cpu g end) g first later false
ask-none old word end g first now later action ended other known acted =
    by-stage ask_stages Asked (λ cpu reply. AskOver (ask_left old.cpus old.cpu g end) g first later false) old.cpus old.cpu old.cpu end end g first now later action refl refl known acted
    (λ k a. record {
      shown = either-other (tells_end end) (AsksFrom g (old.cpu + 1) (old.cpus - (old.cpu + 1))) (Ends false) [] false (ap tells_end ended ∙ ne_eqb word end_word other) (ends-now false);
      left = asked-same g first now later old.cpu end k.same k.may.ops a;
      over = tt;
    })
