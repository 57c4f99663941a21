use Rattle.std.proofs.Common.{◌≡◌, ◌%◌, ◌^◌, take, length}
use Rattle.std.specs.Prelude.{count_by, sum_by}
use Rattle.nm_report.specs.Summary.{is_load, is_store, loaded_value}
use Rattle.nm_report.proofs.totals.totals_of_list.Given as goal

abbrev pub invariant-loop-result : goal.invariant-loop-result
invariant-loop-result l = record {
  accesses : l.totals.accesses ≡ length l.results;
  loads : l.totals.loads ≡ count_by is_load (take l.result-index l.results);
  stores : l.totals.stores ≡ count_by is_store (take l.result-index l.results);
  sum : l.totals.sum ≡ sum_by loaded_value (take l.result-index l.results) % 2 ^ 64;
}
