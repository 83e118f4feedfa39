use Rattle.std.proofs.Common.{◌≡◌, ◌+◌, ◌∷◌, [], Some, List, take, take_all, refl, sym, ap, ◌∙◌, subst}
use Rattle.std.specs.List.{flat_map, AllZip}
use Rattle.class_pool.specs.declared.entry.Entry.{Entry}
use Rattle.class_pool.specs.declared.class.ClassFile.{ClassFile}
use Rattle.class_lookup.specs.Parts.{same_text}
use Rattle.class_lookup.specs.Lists.{with_items}
use Rattle.class_lookup.specs.Symbols.{pool_texts}
use Rattle.class_lookup.specs.Numbered.{number_in, HaveNumbers}
use Rattle.class_lookup.proofs.Numbering.{all_kept}
use Rattle.class_lookup.proofs.Mentions.{next_part}
use Rattle.class_lookup.proofs.SymbolLemmas.{numbers_kept, zip_next, zip_map, texts_are}
use Rattle.class_lookup.proofs.symbols.symbols_of.Goals as goal

pub number_entries-requires : goal.number_entries-requires
number_entries-requires c =
    subst (λ ts. number_in ts [] ≡ Some 0) (sym c.loop-class.invariant.texts) (all_kept ([] ∷ []) (flat_map (λ k. pool_texts k.pool) (take c.loop-class.class-index c.args.classes.now)) [] 0 refl)

pub loop-class-preserved : goal.loop-class-preserved
loop-class-preserved c =
    let cs = c.args.classes.now in
    let i = c.loop-class.class-index in
    let k = c.class-item.result in
    let now = c.loop-class.texts in
    let new = c.number_entries.new.texts in
    let lt = c.loop-class-test.true in
    let is = c.class-item.is in
    let put = c.in_ok-numbers.ensures.texts ∙ ap (λ (xs : List Entry). with_items same_text now (pool_texts xs)) c.entries.ensures in
    let rows : AllZip (λ x ns. HaveNumbers new x.pool ns) (take i cs) c.loop-class.entries.items =
    zip_map (λ x ns. HaveNumbers now x.pool ns) (λ x ns. HaveNumbers new x.pool ns) (λ x ns. numbers_kept now (pool_texts k.pool) new x.pool ns put) (take i cs) c.loop-class.entries.items c.loop-class.invariant.entries in
    record {
      texts = next_part same_text (λ (x : ClassFile). pool_texts x.pool) cs i k ([] ∷ []) now new lt is c.loop-class.invariant.texts put;
      entries = subst (AllZip (λ x ns. HaveNumbers new x.pool ns) (take (i + 1) cs)) (sym c.in_ok-push.ensures.items)
          (zip_next (λ x ns. HaveNumbers new x.pool ns) cs i k c.loop-class.entries.items c.new-in-loop-class.result lt is rows
          (subst (HaveNumbers new k.pool) (sym c.new-in-loop-class.ensures) (subst (λ (xs : List Entry). HaveNumbers new xs c.in_ok-numbers.numbers.items) c.entries.ensures c.in_ok-numbers.ensures.numbers)));
    }

pub returns : goal.returns
returns c =
    let all = take_all c.loop-class.class-index c.args.classes.now c.loop-class-test.false in
    record {
      texts = c.loop-class.invariant.texts ∙ (ap (λ xs. with_items same_text ([] ∷ []) (flat_map (λ k. pool_texts k.pool) xs)) all ∙ texts_are c.args.classes.now);
      entries = subst (λ xs. AllZip (λ k numbers. HaveNumbers c.loop-class.texts k.pool numbers) xs c.loop-class.entries.items) all c.loop-class.invariant.entries;
    }
