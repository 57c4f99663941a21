-- The groups, one after the other.
use Rattle.std.proofs.Common.{◌≡◌, ◌*◌, ◌<◌, ◌^◌, length, ap, ◌∙◌, arith}
use Rattle.nm_base.specs.Geometry.{Geometry, frame_count}
use Rattle.nm_shape.proofs.Laws.{kept_geometry}
use Rattle.nm_words.specs.Names.{first_free, free_word_count}
use Rattle.nm_words.specs.Flat.{total_words}
use Rattle.nm_arena.proofs.Laid.{few_words, free_all}
use Rattle.nm_arena.proofs.layout.Layout.of.Goals as goal

pub overflow_add-mem : goal.overflow_add-mem
overflow_add-mem c =
    let g = c.args.g.now in
    let few : total_words g < 2 ^ 32 = few_words g (kept_geometry c.g.inside g c.g.view_is c.g.invariant) in
    let vpages : length c.g.inside.vpages.items ≡ length g.vpages = ap (λ (m : Geometry). length m.vpages) c.g.view_is in
    let tiers : length c.g.inside.tiers.items ≡ length g.tiers = ap (λ (m : Geometry). length m.tiers) c.g.view_is in
    let cpus : c.g.inside.cpus ≡ g.cpus = ap (λ (m : Geometry). m.cpus) c.g.view_is in
    let all : c.len-2.result ≡ length g.tiers = omega (arith, tiers, c.len-2.ensures) in
    let free : c.free_before.result ≡ free_word_count g = c.free_before.ensures ∙ ap (first_free g) all ∙ free_all g in
    omega (arith, few, vpages, tiers, cpus, free, c.len-vpages.ensures, c.pages-pages.ensures, c.frames-frames.ensures, c.len.ensures)

pub overflow_add-end : goal.overflow_add-end
overflow_add-end c =
    let g = c.args.g.now in
    let few : total_words g < 2 ^ 32 = few_words g (kept_geometry c.g.inside g c.g.view_is c.g.invariant) in
    let vpages : length c.g.inside.vpages.items ≡ length g.vpages = ap (λ (m : Geometry). length m.vpages) c.g.view_is in
    let tiers : length c.g.inside.tiers.items ≡ length g.tiers = ap (λ (m : Geometry). length m.tiers) c.g.view_is in
    let cpus : c.g.inside.cpus ≡ g.cpus = ap (λ (m : Geometry). m.cpus) c.g.view_is in
    let all : c.len-2.result ≡ length g.tiers = omega (arith, tiers, c.len-2.ensures) in
    let free : c.free_before.result ≡ free_word_count g = c.free_before.ensures ∙ ap (first_free g) all ∙ free_all g in
    let mem : c.frames-frames.result * c.g.inside.words ≡ frame_count g * g.words = ap (λ n. n * c.g.inside.words) c.frames-frames.ensures ∙ ap (λ (m : Geometry). frame_count g * m.words) c.g.view_is in
    omega (arith, few, vpages, tiers, cpus, free, mem, c.len-vpages.ensures, c.pages-pages.ensures, c.frames-frames.ensures, c.len.ensures)

pub returns : goal.returns
returns c =
    let g = c.args.g.now in
    let few : total_words g < 2 ^ 32 = few_words g (kept_geometry c.g.inside g c.g.view_is c.g.invariant) in
    let vpages : length c.g.inside.vpages.items ≡ length g.vpages = ap (λ (m : Geometry). length m.vpages) c.g.view_is in
    let tiers : length c.g.inside.tiers.items ≡ length g.tiers = ap (λ (m : Geometry). length m.tiers) c.g.view_is in
    let cpus : c.g.inside.cpus ≡ g.cpus = ap (λ (m : Geometry). m.cpus) c.g.view_is in
    let v : c.len-vpages.result ≡ length g.vpages = omega (arith, vpages, c.len-vpages.ensures) in
    let t : c.len.result ≡ length g.tiers = omega (arith, tiers, c.len.ensures) in
    let all : c.len-2.result ≡ length g.tiers = omega (arith, tiers, c.len-2.ensures) in
    let free : c.free_before.result ≡ free_word_count g = c.free_before.ensures ∙ ap (first_free g) all ∙ free_all g in
    let mem : c.frames-frames.result * c.g.inside.words ≡ frame_count g * g.words = ap (λ n. n * c.g.inside.words) c.frames-frames.ensures ∙ ap (λ (m : Geometry). frame_count g * m.words) c.g.view_is in
    record {
      stamp = omega (arith, v);
      home = omega (arith, v);
      shadow = omega (arith, v, c.pages-pages.ensures);
      lock = omega (arith, v, c.pages-pages.ensures, c.frames-frames.ensures);
      mark = omega (arith, v, c.pages-pages.ensures, c.frames-frames.ensures);
      ack = omega (arith, v, c.pages-pages.ensures, c.frames-frames.ensures);
      turn = omega (arith, v, c.pages-pages.ensures, c.frames-frames.ensures, cpus);
      free = omega (arith, v, c.pages-pages.ensures, c.frames-frames.ensures, cpus, t);
      mem = omega (arith, v, c.pages-pages.ensures, c.frames-frames.ensures, cpus, t, free);
      end = omega (arith, v, c.pages-pages.ensures, c.frames-frames.ensures, cpus, t, free, mem);
      few = few;
    }
