use Rattle.std.proofs.Common.{◌∙◌, ap}
use Rattle.std.specs.Option.{option_map}
use Rattle.nm_xlat.specs.declared.translations.Entry.{Entry}
use Rattle.nm_xlat.specs.Entries.{entry_at}
use Rattle.nm_setcache.proofs.Merged.{entry_at-entries_of_set}
use Rattle.nm_setcache.proofs.set_cache.SetCacheTranslations.stamp_of.Goals as goal

-- the page's set has the page's entry
pub returns : goal.returns
returns c =
    let own = ap (entry_at c.args.v) c.set_of.ensures ∙ entry_at-entries_of_set c.args.self.now.sets c.args.v c.args.self.now.entries in
    c.stamp_of.ensures ∙ ap (option_map (λ (e : Entry). e.stamp)) own
