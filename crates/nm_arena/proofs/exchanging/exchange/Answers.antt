-- Each sort of exchange is the step of the seat's actor.
use Rattle.std.proofs.Common.{refl}
use Rattle.nm_words.specs.declared.exchanges.Change.TheVariants.{Keep, Swap, Put, Add, And, Or, Xor, Take, IfIs}
use Rattle.nm_arena.proofs.Sorts.{moves_as, compared}
use Rattle.nm_arena.proofs.exchanging.exchange.Goals as goal

pub load-requires : goal.load-requires
load-requires g c = (c.requires.table.0, c.requires.table.1, moves_as _ _ _ _ _ _ _ _ Keep _ c.requires.key c.requires.exchange c.in-Keep.is (λ n. refl))

pub swap-requires : goal.swap-requires
swap-requires g c = (c.requires.table.0, c.requires.table.1, moves_as _ _ _ _ _ _ _ _ (Swap c.in-Swap.new) _ c.requires.key c.requires.exchange c.in-Swap.is (λ n. refl))

pub store-requires : goal.store-requires
store-requires g c = (c.requires.table.0, c.requires.table.1, moves_as _ _ _ _ _ _ _ _ (Put c.in-Put.new) _ c.requires.key c.requires.exchange c.in-Put.is (λ n. refl))

pub fetch_add-requires : goal.fetch_add-requires
fetch_add-requires g c = (c.requires.table.0, c.requires.table.1, moves_as _ _ _ _ _ _ _ _ (Add c.in-Add.more) _ c.requires.key c.requires.exchange c.in-Add.is (λ n. refl))

pub fetch_and-requires : goal.fetch_and-requires
fetch_and-requires g c = (c.requires.table.0, c.requires.table.1, moves_as _ _ _ _ _ _ _ _ (And c.in-And.mask) _ c.requires.key c.requires.exchange c.in-And.is (λ n. refl))

pub fetch_or-requires : goal.fetch_or-requires
fetch_or-requires g c = (c.requires.table.0, c.requires.table.1, moves_as _ _ _ _ _ _ _ _ (Or c.in-Or.mask) _ c.requires.key c.requires.exchange c.in-Or.is (λ n. refl))

pub fetch_xor-requires : goal.fetch_xor-requires
fetch_xor-requires g c = (c.requires.table.0, c.requires.table.1, moves_as _ _ _ _ _ _ _ _ (Xor c.in-Xor.mask) _ c.requires.key c.requires.exchange c.in-Xor.is (λ n. refl))

pub compare_exchange-requires : goal.compare_exchange-requires
compare_exchange-requires g c = (c.requires.table.0, c.requires.table.1, moves_as _ _ _ _ _ _ _ _ (Take c.in-Take.new) _ c.requires.key c.requires.exchange c.in-Take.is (compared 0 c.in-Take.new))

pub compare_exchange-requires-in-IfIs : goal.compare_exchange-requires-in-IfIs
compare_exchange-requires-in-IfIs g c = (c.requires.table.0, c.requires.table.1, moves_as _ _ _ _ _ _ _ _ (IfIs c.in-IfIs.old c.in-IfIs.new) _ c.requires.key c.requires.exchange c.in-IfIs.is (compared c.in-IfIs.old c.in-IfIs.new))
