use Rattle.std.proofs.Common.{◌+◌, take, sym, ap, ◌∙◌, subst, arith}
use Rattle.std.specs.Prelude.{is_some}
use Rattle.class_lookup.specs.Parts.{name_of}
use Rattle.class_lookup.specs.Tables.{AreNamed}
use Rattle.class_lookup.proofs.Numbering.{not_some}
use Rattle.class_lookup.proofs.SymbolLemmas.{symbol_below}
use Rattle.class_lookup.proofs.NamedLemmas.{item_at, named_new, named_old, read_any}
use Rattle.class_lookup.proofs.names.first_named.Goals as goal
use Rattle.class_lookup.proofs.names.first_named.Goals.{then-is_none, else-is_none}

pub index-requires : goal.index-requires
index-requires c =
    let cs = c.args.classes.now in
    let class = c.index-classes-i.result in
    let at = item_at cs c.loop-i.i class c.loop-i-test.true c.index-classes-i.is in
    let below = symbol_below cs (name_of class) c.class_symbol-name.result (c.class_symbol-name.ensures class at) in
    let long = c.loop-i.invariant.long in
    omega (arith, below, long)

pub index_mut-requires : goal.index_mut-requires
index_mut-requires c =
    let cs = c.args.classes.now in
    let class = c.index-classes-i.result in
    let at = item_at cs c.loop-i.i class c.loop-i-test.true c.index-classes-i.is in
    let below = symbol_below cs (name_of class) c.class_symbol-name.result (c.class_symbol-name.ensures class at) in
    let long = c.loop-i.invariant.long in
    omega (arith, below, long)

pub loop-i-preserved : goal.loop-i-preserved
loop-i-preserved c =
    let cs = c.args.classes.now in
    let i = c.loop-i.i in
    let class = c.index-classes-i.result in
    let lt = c.loop-i-test.true in
    let at = item_at cs i class lt c.index-classes-i.is in
    let own = c.class_symbol-name.ensures class at in
    let name = c.class_symbol-name.result in
    let ns = c.loop-i.named.items in
    let below = symbol_below cs (name_of class) name own in
    let long = c.loop-i.invariant.long in
    let read = read_any ns name c.index.result.now (omega (arith, below, long)) c.index.ensures in
    elim c.if-is_none.branch [
      | then-is_none w ↦
          subst (λ v. AreNamed cs (take (i + 1) cs) v.items) (sym w.named-is)
          (named_new cs i class ns name lt at own c.loop-i.invariant (sym read ∙ not_some c.index.result.now w.if-is_none.ensures))
      | else-is_none w ↦
          subst (λ v. AreNamed cs (take (i + 1) cs) v.items) (sym w.named-is)
          (named_old cs i class ns name lt at own c.loop-i.invariant (ap is_some (sym read) ∙ w.if-is_none.ensures))
    ]
