use Rattle.std.proofs.Common.{ℕ, List, [], ◌∷◌, Some, sym, ap, ◌∙◌, subst}
use Rattle.bytecode_model.specs.Types.{Kind, OfReferences, same_kind}
use Rattle.program_tables.specs.Lists.{with_item, with_items}
use Rattle.program_tables.specs.Marks.{AreAdded}
use Rattle.program_tables.specs.Numbers.{reference_arrays, used_by}
use Rattle.program_tables.specs.Tables.{kinds_of, kind_seen}
use Rattle.program_tables.proofs.MarkLemmas.{added_more}
use Rattle.program_tables.proofs.MentionLemmas.{with_items-append}
use Rattle.program_tables.proofs.mentions.add_used.Goals as goal

pub returns-in_ok-add_array_of-in-189-clause-put : goal.returns-in_ok-add_array_of-in-189-clause-put
returns-in_ok-add_array_of-in-189-clause-put c = λ items h e.
    let k = kind_seen c.args.kind in
    let old = kinds_of c.args.arrays.now.types in
    let first = c.in_ok-add_type-in-189.ensures.put items h e in
    let put = c.in_ok-add_array_of-in-189.ensures in
    let between = kinds_of c.add_type.new.arrays.types in (
      put
          ∙ (ap (λ (ks : List Kind). with_item same_kind ks (OfReferences k)) first.0
          ∙ (sym (with_items-append same_kind old (reference_arrays k) (OfReferences k ∷ []))
          ∙ ap (λ (op : ℕ). with_items same_kind old (used_by op (Some k))) (sym c.in-189.is))),
      λ n g. subst (λ ks. AreAdded same_kind items ks c.add_type.new.arrays.added.items) (sym put)
          (added_more same_kind items between (OfReferences k ∷ []) c.add_type.new.arrays.added.items first.1) n g,
    )
