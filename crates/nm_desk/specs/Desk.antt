-- The desk of an actor: what a part of its work sees of its view.
use Rattle.std.specs.Prelude.{◌≡◌, []}
use Rattle.nm_base.specs.Geometry.{Geometry}
use Rattle.nm_action.specs.declared.action.Action.{Action}
use Rattle.nm_action.specs.declared.action.Reply.{Reply}
use Rattle.nm_view.specs.Views.{View, off_word}
use Rattle.nm_permit.specs.Permitted.{Allowed}
use Rattle.nm_event.specs.Fitting.{Fits}
use Rattle.nm_event.specs.After.{after_of}
use Rattle.nm_part.specs.Parts.{IsQuiet}

-- the view without its translations: as that of an actor that is no processor, which has polled, peeked and acknowledged
-- nothing
abbrev pub desk : Geometry → View → View
desk g view = record view { number = g.cpus; cache = []; req_seen = off_word; acked = off_word; peeked = [] }

-- an action is not quiet: it is an access, or uses or tells of translations or the acknowledgement
abbrev pub IsLoud : Action → Type 0
IsLoud action = IsQuiet action → ⊥

-- a quiet action that the desk permits is permitted
abbrev pub DeskAllows : Type 0
DeskAllows = (g : Geometry) (view : View) (action : Action) → IsQuiet action → Allowed g (desk g view) action → Allowed g view action

-- a reply that fits a quiet action fits it at the desk
abbrev pub DeskFits : Type 0
DeskFits = (g : Geometry) (view : View) (action : Action) (reply : Reply) → IsQuiet action → Fits g view action reply → Fits g (desk g view) action reply

-- a quiet action changes the desk as it changes the view
abbrev pub DeskFollows : Type 0
DeskFollows = (g : Geometry) (view : View) (action : Action) (reply : Reply) → IsQuiet action → desk g (after_of g view action reply) ≡ after_of g (desk g view) action reply

-- every other action leaves the desk as it is
abbrev pub DeskStays : Type 0
DeskStays = (g : Geometry) (view : View) (action : Action) (reply : Reply) → IsLoud action → desk g (after_of g view action reply) ≡ desk g view

-- a quiet action leaves the translations, and the acknowledgement, as they are
abbrev pub QuietKeeps : Type 0
QuietKeeps = (g : Geometry) (view : View) (action : Action) (reply : Reply) → IsQuiet action
    → after_of g view action reply ≡ record (after_of g view action reply) { number = view.number; cache = view.cache; req_seen = view.req_seen; acked = view.acked; peeked = view.peeked }
