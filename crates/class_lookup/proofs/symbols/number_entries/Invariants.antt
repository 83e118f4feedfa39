use Rattle.std.proofs.Common.{◌≡◌, take}
use Rattle.class_lookup.specs.Parts.{same_text}
use Rattle.class_lookup.specs.Lists.{with_items}
use Rattle.class_lookup.specs.Symbols.{pool_texts}
use Rattle.class_lookup.specs.Numbered.{HaveNumbers}
use Rattle.class_lookup.proofs.symbols.number_entries.Given as goal

abbrev pub invariant-loop-entry : goal.invariant-loop-entry
invariant-loop-entry l = record {
  texts : l.texts ≡ with_items same_text l.fn.texts (pool_texts (take l.entry-index l.entries));
  numbers : HaveNumbers l.texts (take l.entry-index l.entries) l.numbers.items;
}
