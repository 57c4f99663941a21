-- The words of the kinds of action.
use Rattle.std.specs.Prelude.{ℕ, if◌then◌else◌, List, [], ◌∷◌, Option, Some, None, codes}
use Rattle.std.specs.Str.{bytes_eq}
use Rattle.nm_action.specs.declared.kind.ActionKind.{ActionKind}
use Rattle.nm_action.specs.declared.kind.ActionKind.TheVariants as kinds

-- the kinds of action in lower case
abbrev pub kind_text : ActionKind → List ℕ
kind_text kinds.Load = codes "load"
kind_text kinds.Store = codes "store"
kind_text kinds.Add = codes "add"
kind_text kinds.Look = codes "look"
kind_text kinds.Walk = codes "walk"
kind_text kinds.Peek = codes "peek"
kind_text kinds.Poll = codes "poll"
kind_text kinds.Ack = codes "ack"
kind_text kinds.Lock = codes "lock"
kind_text kinds.Unlock = codes "unlock"
kind_text kinds.Bump = codes "bump"
kind_text kinds.SeeAck = codes "seeack"
kind_text kinds.Raise = codes "raise"
kind_text kinds.Soften = codes "soften"
kind_text kinds.Arm = codes "arm"
kind_text kinds.ClearDirty = codes "cleardirty"
kind_text kinds.Unmap = codes "unmap"
kind_text kinds.Map = codes "map"
kind_text kinds.Grant = codes "grant"
kind_text kinds.CopyLoad = codes "copyload"
kind_text kinds.CopyStore = codes "copystore"
kind_text kinds.SetHome = codes "sethome"
kind_text kinds.SetShadow = codes "setshadow"
kind_text kinds.TakeTurn = codes "taketurn"
kind_text kinds.Scan = codes "scan"
kind_text kinds.GiveFrame = codes "giveframe"
kind_text kinds.PutFrame = codes "putframe"
kind_text kinds.ReleaseTurn = codes "releaseturn"
kind_text kinds.Mark = codes "mark"
kind_text kinds.Read = codes "read"

-- every kind of action
abbrev pub all_kinds : List ActionKind
all_kinds =
    kinds.Load ∷ kinds.Store ∷ kinds.Add ∷ kinds.Look ∷ kinds.Walk ∷ kinds.Peek ∷ kinds.Poll ∷ kinds.Ack ∷ kinds.Lock ∷ kinds.Unlock ∷
    kinds.Bump ∷ kinds.SeeAck ∷ kinds.Raise ∷ kinds.Soften ∷ kinds.Arm ∷ kinds.ClearDirty ∷ kinds.Unmap ∷ kinds.Map ∷ kinds.Grant ∷ kinds.CopyLoad ∷
    kinds.CopyStore ∷ kinds.SetHome ∷ kinds.SetShadow ∷ kinds.TakeTurn ∷ kinds.Scan ∷ kinds.GiveFrame ∷ kinds.PutFrame ∷ kinds.ReleaseTurn ∷ kinds.Mark ∷ kinds.Read ∷ []

-- the first of the kinds that a word spells
abbrev pub kind_among : List ActionKind → List ℕ → Option ActionKind
kind_among [] word = None
kind_among (k ∷ ks) word = if bytes_eq (kind_text k) word then Some k else kind_among ks word
