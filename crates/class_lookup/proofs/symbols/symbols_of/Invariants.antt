use Rattle.std.proofs.Common.{◌≡◌, ◌∷◌, [], take}
use Rattle.std.specs.List.{flat_map, AllZip}
use Rattle.class_lookup.specs.Parts.{same_text}
use Rattle.class_lookup.specs.Lists.{with_items}
use Rattle.class_lookup.specs.Symbols.{pool_texts}
use Rattle.class_lookup.specs.Numbered.{HaveNumbers}
use Rattle.class_lookup.proofs.symbols.symbols_of.Given as goal

abbrev pub invariant-loop-class : goal.invariant-loop-class
invariant-loop-class l = record {
  texts : l.texts ≡ with_items same_text ([] ∷ []) (flat_map (λ c. pool_texts c.pool) (take l.class-index l.classes));
  entries : AllZip (λ c numbers. HaveNumbers l.texts c.pool numbers) (take l.class-index l.classes) l.entries.items;
}
