use Rattle.std.proofs.Common.{◌≡◌, ◌-◌, sym, arith}
use Rattle.std.specs.List.{insert, remove}
use Rattle.std.proofs.lemmas.List.{length-set}
use Rattle.nm_xlat.specs.FullyAssociative.{FullyAssociative}
use Rattle.nm_xlat.proofs.Placed.{at_within, gap_within}
use Rattle.nm_xlat.proofs.Puts.{put_in-at, put_in-gap, put_in-full, ascending-set, ascending-insert, ascending-insert_full}
use Rattle.nm_xlat.proofs.xlat_cache.XlatCache.put_page.Goals as goal

-- the page has an entry, which is written over
pub index_mut-requires : goal.index_mut-requires
index_mut-requires c =
    let found = rw (← c.self.view_is) at c.in-Ok.ensures.found in
    omega (arith, at_within _ _ _ found)

pub invariant_of-self : goal.invariant_of-self
invariant_of-self c =
    let found = rw (← c.self.view_is) at c.in-Ok.ensures.found in
    (ascending-set c.args.put _ _ c.self.invariant.0 found, c.self.invariant.1, rw length-set c.self.invariant.2, c.self.invariant.3)

pub returns-in-Ok : goal.returns-in-Ok
returns-in-Ok c =
    let found = rw (← c.self.view_is) at c.in-Ok.ensures.found in
    rw (← c.self.view_is) (sym (put_in-at _ _ _ found))

-- the page is new, and there is room
pub insert-requires : goal.insert-requires
insert-requires c =
    let gap = rw (← c.self.view_is) at c.in-Err.ensures.absent in
    omega (arith, gap_within _ _ _ gap)

inserted : (c : goal.After-unwrap) → c.insert.new.self.items ≡ insert c.self.inside.entries.items c.in-Err.at c.args.put
inserted c = rw c.unwrap.ensures at c.insert.ensures.items

pub invariant_of-self-then-len-self : goal.invariant_of-self-then-len-self
invariant_of-self-then-len-self c =
    let gap = rw (← c.self.view_is) at c.in-Err.ensures.absent in
    let longer = rw c.unwrap.ensures at c.insert.ensures.len in
    let block = c.insert.ensures.in_place (omega (arith, c.self.invariant)) in
    (rw (inserted c) (ascending-insert c.args.put _ _ c.self.invariant.0 gap), c.self.invariant.1, omega (arith, longer), omega (arith, block, c.self.invariant))

pub returns-in-Err : goal.returns-in-Err
returns-in-Err c =
    let gap = rw (← c.self.view_is) at c.in-Err.ensures.absent in
    let old : FullyAssociative = record { room = c.self.inside.room; entries = c.self.inside.entries.items } in
    rw (← c.self.view_is, inserted c) (sym (put_in-gap c.args.put old _ gap (omega arith)))

-- the page is new, and the cache is full
pub insert-requires-in-Err-2 : goal.insert-requires-in-Err-2
insert-requires-in-Err-2 c =
    let gap = rw (← c.self.view_is) at c.in-Err.ensures.absent in
    omega (arith, gap_within _ _ _ gap, c.self.invariant.1)

replaced : (c : goal.After-unwrap-in-Err-2) → c.insert-in-Err-2.new.self.items ≡ insert (remove c.self.inside.entries.items 0) (c.in-Err.at - 1) c.args.put
replaced c = rw (c.unwrap-in-Err-2.ensures, c.remove.ensures.items, c.saturating_sub.ensures) at c.insert-in-Err-2.ensures.items

pub invariant_of-self-in-Err-2 : goal.invariant_of-self-in-Err-2
invariant_of-self-in-Err-2 c =
    let gap = rw (← c.self.view_is) at c.in-Err.ensures.absent in
    let longer = rw c.unwrap-in-Err-2.ensures at c.insert-in-Err-2.ensures.len in
    let block = c.insert-in-Err-2.ensures.in_place (omega (arith, c.self.invariant)) in
    (rw (replaced c) (ascending-insert_full c.args.put _ _ c.self.invariant.0 gap (omega (arith, c.self.invariant))), c.self.invariant.1, omega (arith, longer), omega (arith, block, c.self.invariant))

pub returns-in-Err-2 : goal.returns-in-Err-2
returns-in-Err-2 c =
    let gap = rw (← c.self.view_is) at c.in-Err.ensures.absent in
    let old : FullyAssociative = record { room = c.self.inside.room; entries = c.self.inside.entries.items } in
    rw (← c.self.view_is, replaced c) (sym (put_in-full c.args.put old _ c.self.invariant.0 gap c.self.invariant.1 (omega arith)))
