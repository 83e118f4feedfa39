use Rattle.std.proofs.Common.{◌<◌, List, length, ap, ◌∙◌, arith}
use Rattle.std.specs.Prelude.{slice_get}
use Rattle.class_pool.specs.declared.class.ClassFile.{ClassFile}
use Rattle.program_tables.specs.Entries.{meaning_at, meanings_seen}
use Rattle.program_tables.proofs.TableLemmas.{entries_long, entries_read}
use Rattle.resolved_program.proofs.program.Program.meaning.Goals as goal

pub index-requires : goal.index-requires
index-requires c =
    let long = entries_long c.self.inside.classes c.self.inside.entries.items c.self.invariant.8 in
    let all = ap length c.self.view_is in
    omega (arith, long, all, c.requires)

pub returns : goal.returns
returns c = λ k at.
    let cs = c.self.inside.classes in
    let n = c.args.class in
    let all = ap length c.self.view_is in
    let lt : n < length cs = omega (arith, all, c.requires) in
    let here = ap (λ (xs : List ClassFile). slice_get xs n) c.self.view_is ∙ at in
    c.meaning_at.ensures cs n k (ap meanings_seen c.as_slice.ensures ∙ entries_read cs c.self.inside.entries.items c.self.invariant.8 n lt c.index.result.now c.index.ensures k here)
    ∙ ap (λ (xs : List ClassFile). meaning_at xs n k c.args.index) c.self.view_is
