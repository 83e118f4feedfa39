use Rattle.std.proofs.Common.{◌≡◌, ◌+◌, ◌<◌, List, map, length, get_or, refl, ap, sym, ◌∙◌, subst, arith}
use Rattle.program_tables.proofs.TableLemmas.{entry_there}
use Rattle.class_pool.specs.declared.class.ClassFile.{ClassFile}
use Rattle.class_pool.specs.declared.entry.Entry.{Entry}
use Rattle.lists.proofs.Lemmas.{some_same}
use Rattle.image_words.specs.Pools.{instructions_in}
use Rattle.image_layout.specs.Uses.{instr_of}
use Rattle.image_layout.proofs.EntryLemmas.{uses_long, use_read}
use Rattle.image_layout.proofs.PoolLemmas.{pool_more}
use Rattle.image_layout.proofs.entries.add_entries.Goals as goal

pub bounds-uses-place : goal.bounds-uses-place
bounds-uses-place c =
    let k = c.class.result.now in
    let many = uses_long c.args.program.now c.args.number k (map instr_of (instructions_in k)) c.args.uses.now (1 + length k.pool) (c.requires.uses k c.class.ensures) in
    let pool = ap length c.entries-entries.ensures in
    let test = c.loop-place-test.true in
    omega (arith, many, pool, test)

pub loop-place-preserved : goal.loop-place-preserved
loop-place-preserved c =
    λ k at.
    let cs = c.args.program.now in
    let n = c.args.number in
    let i = c.loop-place.place in
    let e = c.index-entries-place.result in
    let uses = c.args.uses.now in
    let same = some_same c.class.result.now k (sym c.class.ensures ∙ at) in
    let pool : c.entries-entries.result.now ≡ k.pool = c.entries-entries.ensures ∙ ap (λ (k : ClassFile). k.pool) same in
    let lt : i < length k.pool = subst (λ (es : List Entry). i < length es) pool c.loop-place-test.true in
    let is : e ≡ get_or k.pool i e = subst (λ (es : List Entry). e ≡ get_or es i e) pool c.index-entries-place.is in
    let next : i + 1 < 1 + length k.pool = omega (arith, lt) in
    let used = use_read cs n k (map instr_of (instructions_in k)) uses (1 + length k.pool) (i + 1) _ (c.requires.uses k at) next in
    let pair = c.in_ok-pair.ensures k at (entry_there k.pool i e lt is) used in
    pool_more cs n k i (i + 1) c.args.words.now.items c.loop-place.words.items c.extend_from_slice-in-loop-place.new.self.items c.in_ok-pair.pair (c.loop-place.invariant k at) refl pair c.in_ok-extend_from_slice-2.ensures.items
