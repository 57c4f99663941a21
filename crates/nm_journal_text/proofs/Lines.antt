-- One line more of a journal, and what the reader of its lines needs at each of them.
use Rattle.std.proofs.Common.{◌≡◌, ◌≢◌, ℕ, suc, zero, ◌+◌, ◌<◌, ◌≤◌, List, [], ◌∷◌, ◌++◌, length, get_or, map, codes, refl, sym, ap, ◌∙◌, subst, arith, append_assoc, append-nil, length-append, inl, inr}
use Rattle.std.specs.Prelude.{◌⊎◌, IfSome}
use Rattle.std.specs.List.{AllByRecursion}
use Rattle.nm_base.specs.Geometry.{Geometry, IsGeometry}
use Rattle.nm_flat.specs.Memory.{own_part_of}
use Rattle.nm_action.specs.declared.action.Event.{Event}
use Rattle.nm_core.specs.Kept.{IsKept}
use Rattle.nm_core.specs.State.{State, view_of, start}
use Rattle.nm_core.specs.Runs.{IsStep, IsRun, access_of, accesses_of, state_after}
use Rattle.nm_runs.proofs.EachRun.{lawful_run}
use Rattle.nm_words.specs.declared.names.Where.TheVariants.{Ack}
use Rattle.nm_world.specs.Seen.{seen_word}
use Rattle.std.proofs.lemmas.Bool.{lt-ltb}
use Rattle.nm_script.specs.declared.script.Line.{Line}
use Rattle.nm_script.specs.declared.script.Line.TheVariants.{Load, Store, Add, Await}
use Rattle.nm_script.specs.Plain.{Script}
use Rattle.nm_script.specs.Script.{IsScript, IsAccess}
use Rattle.nm_script.specs.Items.{line}
use Rattle.nm_text.specs.Cuts.{Lacks}
use Rattle.nm_event_text.specs.Events.{event_text, IsEventLine}
use Rattle.nm_follow.specs.Cursors.{HasTries, Cursor, IsCursorAt, new_cursor}
use Rattle.nm_follow.proofs.Steps.{made_none, tries_few}
use Rattle.nm_journal_text.specs.Journals.{program_of, events_text}
use Rattle.nm_journal_text.specs.Taken.{cursor_of, AreTaken, AreAt, IsLineTaken, IsLineRefused}
use Rattle.nm_journal_text.specs.Verdicts.{IsBegun}
use Rattle.nm_journal_text.specs.Following.{event_lines, IsMore}
use Rattle.nm_journal_text.proofs.Processors.{processor_of}
use Rattle.nm_journal_text.proofs.Beginning.{events-more}
use Rattle.nm_journal_text.proofs.More.{taken_more}
use Rattle.nm_journal_text.proofs.Wrong.{wrong_line, wrong_event}

-- ---- the programs of a script

has_tries : (g : Geometry) (l : Line) → IsAccess g l → HasTries l
has_tries g (Load v w) h = tt
has_tries g (Store v w x) h = tt
has_tries g (Add v w x) h = tt
has_tries g (Await v w x n) h = (h.3, h.4)

all_tries : (g : Geometry) (lines : List Line) → AllByRecursion (IsAccess g) lines → AllByRecursion HasTries lines
all_tries g [] h = tt
all_tries g (l ∷ lines) h = (has_tries g l h.0, all_tries g lines h.1)

each_tries : (g : Geometry) (programs : List (List Line)) (cpu : ℕ) → AllByRecursion (λ p. AllByRecursion (IsAccess g) p) programs → AllByRecursion HasTries (get_or programs cpu [])
each_tries g [] cpu h = tt
each_tries g (p ∷ programs) zero h = all_tries g p h.0
each_tries g (p ∷ programs) (suc cpu) h = each_tries g programs cpu h.1

-- each await of a script has a try
pub script_tries : (script : Script) → IsScript script → (cpu : ℕ) → AllByRecursion HasTries (program_of script cpu)
script_tries script is cpu = each_tries script.geometry script.programs cpu is.lines

-- ---- the cursors

-- the cursors of taken events can take one more
pub at_of : (script : Script) (events : List Event) (s : State) (cursors : List Cursor) → IsScript script → AreTaken script events cursors → s ≡ state_after script.geometry events → AreAt script s cursors
at_of script events s cursors is h at = record {
  machine = ap (λ q. q.geometry) at ∙ (lawful_run script.geometry events is.geometry h.run).machine;
  cpus = h.cpus;
  tries = λ cpu lt. let c : Cursor = cursor_of cursors cpu in tries_few cpu (program_of script cpu) c.results c.tries (own_part_of cpu (accesses_of events)) (script_tries script is cpu) (h.made cpu lt);
}

-- nothing was taken
pub taken_none : (script : Script) (cursors : List Cursor) → IsScript script → length cursors ≡ script.geometry.cpus → ((cpu : ℕ) → cursor_of cursors cpu ≡ new_cursor) → AreTaken script [] cursors
taken_none script cursors is cpus each = record {
  run = tt;
  fits = tt;
  cpus = cpus;
  made = λ cpu lt. subst (λ (c : Cursor). IsCursorAt cpu (program_of script cpu) c []) (sym (each cpu)) (made_none cpu (program_of script cpu) (script_tries script is cpu));
}

there_of : (script : Script) (events : List Event) (s : State) (e : Event) (cursors : List Cursor) → IsScript script → AreTaken script events cursors → s ≡ state_after script.geometry events → IsStep s e → IfSome (access_of e) (λ a. a.cpu < script.geometry.cpus)
there_of script events s e cursors is h at made =
    let law = lawful_run script.geometry events is.geometry h.run in
    let machine : s.geometry ≡ script.geometry = ap (λ q. q.geometry) at ∙ law.machine in
    let kept : IsKept s = subst IsKept (sym at) law.kept in
    subst (λ (g : Geometry). IfSome (access_of e) (λ a. a.cpu < g.cpus)) machine (processor_of s e kept made)

-- ---- a line

pub line_more : (script : Script) (events : List Event) (l : List ℕ) (s s' : State) (old new : List Cursor) → IsScript script → AreTaken script events old → s ≡ state_after script.geometry events → IsLineTaken script s old l s' new → IsMore script events l s' new
line_more script events l s s' old new is h at t =
    let more = taken_more script events s s' old new t.event (there_of script events s t.event old is h at t.taken.step) h at t.is.fits t.taken in
    record { event = t.event; is = t.is.is; taken = more.0; state = more.1 }

pub line_wrong : (script : Script) (events : List Event) (l : List ℕ) (s : State) (old : List Cursor) → IsScript script → AreTaken script events old → s ≡ state_after script.geometry events → Lacks 10 l → l ≢ codes "report" → IsLineRefused script s old l → ¬ IsBegun script (event_lines events ++ l ∷ [])
line_wrong script events l s old is h at lacks other refused b = elim refused as (λ _. ⊥) [
  | inl none ↦ wrong_line script events old l h lacks other none b
  | inr r ↦ wrong_event script events old s l r.event h lacks r.is at (λ made. there_of script events s r.event old is h at made) r.refused b
]

-- the text behind one line more
pub text_more : (text : List ℕ) (events : List Event) (e : Event) (l rest after : List ℕ) → text ≡ events_text events ++ rest → rest ≡ l ++ 10 ∷ after → l ≡ event_text e → text ≡ events_text (events ++ e ∷ []) ++ after
text_more text events e l rest after is front same =
    is ∙ ap (λ t. events_text events ++ t) (front ∙ ap (λ t. t ++ 10 ∷ after) same ∙ sym (append_assoc (event_text e) (10 ∷ []) after))
    ∙ sym (append_assoc (events_text events) (line (event_text e)) after)
    ∙ ap (λ t. t ++ after) (sym (events-more events (e ∷ []) ∙ ap (λ t. events_text events ++ t) (append-nil (line (event_text e)))))

-- ---- what a processor acknowledged

seen_ack : (s : State) (cpu : ℕ) → cpu < s.geometry.cpus → seen_word s.geometry s.words (Ack cpu) ≡ get_or s.words.ack cpu 0
seen_ack s cpu lt = rw (lt-ltb cpu s.geometry.cpus lt) refl

-- the view of a processor tells its acknowledgement, in each state of a run
pub acked_as_seen : (g : Geometry) (events : List Event) (s : State) → IsGeometry g → IsRun g events → s ≡ state_after g events → (cpu : ℕ) → cpu < g.cpus → (view_of s cpu).acked ≡ get_or s.words.ack cpu 0
acked_as_seen g events s is run at cpu lt =
    let law = lawful_run g events is run in
    let t : State = state_after g events in
    let there : cpu < t.geometry.cpus = omega (arith, lt, ap (λ m. m.cpus) law.machine) in
    subst (λ (q : State). (view_of q cpu).acked ≡ get_or q.words.ack cpu 0) (sym at) ((law.all.caches.desks cpu).acked lt ∙ seen_ack t cpu there)
