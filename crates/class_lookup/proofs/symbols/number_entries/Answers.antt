use Rattle.std.proofs.Common.{◌≡◌, ◌+◌, ◌∷◌, [], Some, take, take_all, sym, ap, ◌∙◌, subst}
use Rattle.class_lookup.specs.Parts.{same_text}
use Rattle.class_lookup.specs.Lists.{with_items}
use Rattle.class_lookup.specs.Symbols.{pool_texts}
use Rattle.class_lookup.specs.Numbered.{number_in, entry_text, HaveNumbers}
use Rattle.class_lookup.proofs.Numbering.{all_kept}
use Rattle.class_lookup.proofs.SymbolLemmas.{next_entry, numbers_kept, zip_next}
use Rattle.class_lookup.proofs.symbols.number_entries.Goals as goal

pub number_entry-requires : goal.number_entry-requires
number_entry-requires c =
    subst (λ ts. number_in ts [] ≡ Some 0) (sym c.loop-entry.invariant.texts) (all_kept c.args.texts.now (pool_texts (take c.loop-entry.entry-index c.args.entries.now)) [] 0 c.requires)

pub loop-entry-preserved : goal.loop-entry-preserved
loop-entry-preserved c =
    let es = c.args.entries.now in
    let i = c.loop-entry.entry-index in
    let e = c.entry-item.result in
    let now = c.loop-entry.texts in
    let new = c.number_entry.new.texts in
    let lt = c.loop-entry-test.true in
    let is = c.entry-item.is in
    let put = c.in_ok-number_entry.ensures.texts in
    record {
      texts = next_entry es i e c.args.texts.now now new lt is c.loop-entry.invariant.texts put;
      numbers = subst (HaveNumbers new (take (i + 1) es)) (sym c.in_ok-push.ensures.items)
          (zip_next (λ x n. number_in new (entry_text x) ≡ Some n) es i e c.loop-entry.numbers.items c.in_ok-number_entry.field-0 lt is
          (numbers_kept now (pool_texts (e ∷ [])) new (take i es) c.loop-entry.numbers.items put c.loop-entry.invariant.numbers) c.in_ok-number_entry.ensures.number);
    }

pub returns : goal.returns
returns c =
    let all = take_all c.loop-entry.entry-index c.args.entries.now c.loop-entry-test.false in
    record {
      texts = c.loop-entry.invariant.texts ∙ ap (λ xs. with_items same_text c.args.texts.now (pool_texts xs)) all;
      numbers = subst (λ xs. HaveNumbers c.loop-entry.texts xs c.loop-entry.numbers.items) all c.loop-entry.invariant.numbers;
    }
