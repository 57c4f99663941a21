-- What follows from what holds where a call succeeds.
use Rattle.std.proofs.Common.{Result, Ok, Err, OnOk}

pub OnOk-map : {T E A B : Type 0} (r : Result T E) → OnOk r A → (A → B) → OnOk r B
OnOk-map (Ok x) h f = f h
OnOk-map (Err e) h f = h
