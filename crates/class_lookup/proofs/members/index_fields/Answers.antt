use Rattle.std.proofs.Common.{◌+◌, List, ℕ, take, take_all, sym, subst}
use Rattle.std.specs.List.{AllZip}
use Rattle.class_pool.specs.declared.class.Member.{Member}
use Rattle.class_pool.specs.declared.class.ClassFile.{ClassFile}
use Rattle.class_lookup.specs.Symbols.{texts}
use Rattle.class_lookup.specs.Numbered.{IsIndexed}
use Rattle.class_lookup.proofs.SymbolLemmas.{zip_next}
use Rattle.class_lookup.proofs.NamedLemmas.{item_at}
use Rattle.class_lookup.proofs.members.index_fields.Goals as goal

pub loop-i-preserved : goal.loop-i-preserved
loop-i-preserved c =
    let cs = c.args.classes.now in
    let class = c.index-classes-i.result in
    let lt = c.loop-i-test.true in
    let is = c.index-classes-i.is in
    let R : ClassFile → List ((ℕ × ℕ) × ℕ) → Type 0 = λ k index. IsIndexed (texts cs) k k.fields index in
    let row = c.in_ok-index_members.field-0 in
    subst (AllZip R (take (c.loop-i.i + 1) cs)) (sym c.in_ok-push.ensures.items)
    (zip_next R cs c.loop-i.i class c.loop-i.table.items row lt is c.loop-i.invariant
    (subst (λ (ms : List Member). IsIndexed (texts cs) class ms row) c.as_slice.ensures (c.in_ok-index_members.ensures class (item_at cs c.loop-i.i class lt is))))

pub returns : goal.returns
returns c =
    let cs = c.args.classes.now in
    subst (λ xs. AllZip (λ k index. IsIndexed (texts cs) k k.fields index) xs c.loop-i.table.items) (take_all c.loop-i.i cs c.loop-i-test.false) c.loop-i.invariant
