-- A store or an add writes the word of its backing page.
use Rattle.nm_flat.proofs.Flat.{IsMemory-read, IsMemory-write}
use Rattle.nm_flat.proofs.memory.apply.Goals as goal

pub returns-in-Store-clause-memory : goal.returns-in-Store-clause-memory
returns-in-Store-clause-memory c = λ m memory.
    let placed = c.requires.placed in
    rw (c.in-Store.is, c.place_of-at.ensures.place) (IsMemory-write c.args.g.now c.args.words.now m c.args.access.vpage c.args.access.word _ memory placed.mapped placed.within)

pub returns-in-Add-clause-memory : goal.returns-in-Add-clause-memory
returns-in-Add-clause-memory c = λ m memory.
    let placed = c.requires.placed in
    let had = IsMemory-read c.args.g.now c.args.words.now m c.args.access.vpage c.args.access.word memory placed.mapped placed.within in
    rw (c.in-Add.is, c.place_of-at.ensures.place, had) (IsMemory-write c.args.g.now c.args.words.now m c.args.access.vpage c.args.access.word _ memory placed.mapped placed.within)
