-- Loops of a number of tries.
use Rattle.std.proofs.Common.{ℕ, zero, suc, Bool, true, false, List, [], ◌∷◌, Option, Some, None, refl}
use Rattle.nm_base.specs.Geometry.{Geometry}
use Rattle.nm_action.specs.declared.turn.Lane.{Lane}
use Rattle.nm_action.specs.declared.turn.Lane.TheVariants.{Pending}
use Rattle.nm_part.specs.Patterns.{Follows, Either, Sometimes, CanEnd}
use Rattle.nm_part.proofs.Patterns.{can-follow, can-either}
use Rattle.nm_worker.specs.Notes.{Notes, IsWorkDone, IsPut, IsTake}
use Rattle.nm_action.specs.declared.turn.Turn.TheVariants as turn
use Rattle.nm_worker.specs.Notes.{put_heard, take_heard}
use Rattle.nm_worker.proofs.Routing.{some-work}
use Rattle.nm_migrator_work.specs.Works.{MigratorWorkMade, MigratorWorkEnd, IsMigratorWork}
use Rattle.nm_migrator_work.proofs.Listing.{some-migrator-work}
use Rattle.nm_migrator_work.specs.Ends.{migrator_counts}
use Rattle.nm_migrator_work.specs.Planned.{MigratorKept, is_mapped}
use Rattle.nm_migrator.specs.Migrating.{Sequence, Does, PutsTry, Puts, Taken, TakesMappedTry, TakesMapped}
use Rattle.nm_migrator.specs.Stages.{PutLeft}

-- a number of tries that comes after a first list can be chosen before it
pub sometimes-out : {E X O : Type 0} (first : List E → X → Type 0) (after : X → ℕ → List E → O → Type 0) (own : List E) (outcome : O)
    → Follows first (λ x. Sometimes (after x)) own outcome → Sometimes (λ n. Follows first (λ x. after x n)) own outcome
sometimes-out first after own outcome f = record {
  tries = f.rest.tries;
  is = record { end = f.end; front = f.front; back = f.back; shown = f.shown; rest = f.rest.is; is = f.is };
}

-- Puts.

-- a page was put
abbrev pub page-put : (lane : Lane) (page : ℕ) → CanEnd (IsPut lane page)
page-put lane page = record { rest = record { turn = turn.Put lane page; heard = put_heard false; counts = None } ∷ []; outcome = false; shown = record { is = refl } }

-- a lane was empty
abbrev pub none-taken : (lane : Lane) → CanEnd (IsTake lane)
none-taken lane = record { rest = record { turn = turn.Take lane; heard = take_heard None; counts = None } ∷ []; outcome = None; shown = record { is = refl } }

put-again : (page : ℕ) (after : Sequence) (full : Bool) (back : Notes) (outcome : MigratorKept) → PutLeft page full after back outcome → (n : ℕ) × Either full (PutsTry page after n) after back outcome
put-again page after true back outcome s = (s.tries, s.is)
put-again page after false back outcome h = (0, h)

pub puts-once : (page : ℕ) (after : Sequence) (notes : Notes) (outcome : MigratorKept) → Follows (IsPut Pending page) (λ full. PutLeft page full after) notes outcome → Puts page after notes outcome
puts-once page after notes outcome f =
    let again = put-again page after f.end f.back outcome f.rest in
    record { tries = suc again.0; is = record { end = f.end; front = f.front; back = f.back; shown = f.shown; rest = again.1; is = f.is } }

pub can-puts : (page : ℕ) (after : Sequence) → CanEnd after → CanEnd (Puts page after)
can-puts page after can =
    let c = can-follow (IsPut Pending page) (λ full. Either full (PutsTry page after zero) after) (page-put Pending page) can in
    record { rest = c.rest; outcome = c.outcome; shown = record { tries = suc zero; is = c.shown } }

pub can-put-left : (page : ℕ) (full : Bool) (after : Sequence) → CanEnd after → CanEnd (PutLeft page full after)
can-put-left page full after can = can-either full (Puts page after) after (can-puts page after can) can

-- Takes.

take-mapped : (g : Geometry) (lane : Lane) (after : Option ℕ → Sequence) (page : ℕ) (test : Bool) (back : Notes) (outcome : MigratorKept)
    → Either test (after (Some page)) (TakesMapped g lane after) back outcome → (n : ℕ) × Either test (after (Some page)) (TakesMappedTry g lane after n) back outcome
take-mapped g lane after page true back outcome h = (0, h)
take-mapped g lane after page false back outcome s = (s.tries, s.is)

take-again : (g : Geometry) (lane : Lane) (after : Option ℕ → Sequence) (page : Option ℕ) (back : Notes) (outcome : MigratorKept)
    → Taken g (TakesMapped g lane after) after page back outcome → (n : ℕ) × Taken g (TakesMappedTry g lane after n) after page back outcome
take-again g lane after None back outcome h = (0, h)
take-again g lane after (Some page) back outcome h = take-mapped g lane after page (is_mapped g page) back outcome h

pub takes-once : (g : Geometry) (lane : Lane) (after : Option ℕ → Sequence) (notes : Notes) (outcome : MigratorKept)
    → Follows (IsTake lane) (λ page. Taken g (TakesMapped g lane after) after page) notes outcome → TakesMapped g lane after notes outcome
takes-once g lane after notes outcome f =
    let again = take-again g lane after f.end f.back outcome f.rest in
    record { tries = suc again.0; is = record { end = f.end; front = f.front; back = f.back; shown = f.shown; rest = again.1; is = f.is } }

pub can-takes : (g : Geometry) (lane : Lane) (after : Option ℕ → Sequence) → CanEnd (after None) → CanEnd (TakesMapped g lane after)
can-takes g lane after can =
    let c = can-follow (IsTake lane) (λ page. Taken g (TakesMappedTry g lane after zero) after page) (none-taken lane) can in
    record { rest = c.rest; outcome = c.outcome; shown = record { tries = suc zero; is = c.shown } }

pub can-taken : (g : Geometry) (again : Sequence) (after : Option ℕ → Sequence) (page : Option ℕ) → CanEnd again → ((page : Option ℕ) → CanEnd (after page)) → CanEnd (Taken g again after page)
can-taken g again after None can each = each None
can-taken g again after (Some page) can each = can-either (is_mapped g page) (after (Some page)) again (each (Some page)) can

-- Works.

pub can-does : (g : Geometry) (work : MigratorWorkMade) (after : MigratorWorkEnd → Sequence) → ((end : MigratorWorkEnd) → CanEnd (after end)) → CanEnd (Does g work after)
can-does g work after each =
    let some = some-work IsMigratorWork migrator_counts work g (some-migrator-work work g) in
    can-follow (IsWorkDone IsMigratorWork migrator_counts work g) after some (each some.outcome)
