-- The changes of an operation, by name.
use Rattle.nm_event.specs.declared.change.OpChange.{OpChange}
use Rattle.nm_event.specs.declared.change.OpChange.TheVariants.{LookedAt, ReadCell, ClearedAt, TakenAt, RaisedTo, Loaded, CopiedOne, HomedAt, Shaded, MappedAt, GrantedAt}
use Rattle.nm_view.specs.Views.{Op}
use Rattle.nm_event.specs.After.{looked_at, read_cell, cleared_at, taken_at, raised_to, loaded, copied_one, homed_at, shaded, mapped_at, granted_at}

-- the operation after a change
abbrev pub op_changed : OpChange → Op → Op
op_changed (LookedAt v word) o = looked_at v word o
op_changed (ReadCell cell word) o = read_cell cell word o
op_changed (ClearedAt v) o = cleared_at v o
op_changed (TakenAt v word) o = taken_at v word o
op_changed (RaisedTo v number) o = raised_to v number o
op_changed (Loaded word) o = loaded word o
op_changed CopiedOne o = copied_one o
op_changed (HomedAt frame) o = homed_at frame o
op_changed (Shaded page shadow) o = shaded page shadow o
op_changed (MappedAt v word) o = mapped_at v word o
op_changed (GrantedAt v word) o = granted_at v word o
