use Rattle.std.proofs.Common.{◌≡◌, ◌*◌, ◌%◌, ◌^◌, ◌≤◌, map, take}
use Rattle.nm_report.specs.Summary.{access_count, load_count, store_count, loaded_sum}
use Rattle.nm_report.proofs.totals.totals_of.Given as goal

abbrev pub invariant-loop-list : goal.invariant-loop-list
invariant-loop-list l = record {
  accesses : l.totals.accesses ≡ access_count (map (λ r. r.items) (take l.list-index l.results));
  loads : l.totals.loads ≡ load_count (map (λ r. r.items) (take l.list-index l.results));
  stores : l.totals.stores ≡ store_count (map (λ r. r.items) (take l.list-index l.results));
  sum : l.totals.sum ≡ loaded_sum (map (λ r. r.items) (take l.list-index l.results)) % 2 ^ 64;
  few : l.totals.accesses ≤ l.list-index * 2 ^ 59;
  few_loads : l.totals.loads ≤ l.totals.accesses;
  few_stores : l.totals.stores ≤ l.totals.accesses;
}
