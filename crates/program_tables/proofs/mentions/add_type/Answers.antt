use Rattle.std.proofs.Common.{◌≡◌, List, Some, true, refl, sym, ap, ◌∙◌, subst}
use Rattle.std.proofs.Math.ListN.{set}
use Rattle.std.specs.List.{list_any, list_all}
use Rattle.std.proofs.lemmas.Option.{slice_get-get_or}
use Rattle.bytecode_model.specs.Types.{Kind, same_kind}
use Rattle.program_tables.specs.Marks.{AreAdded}
use Rattle.program_tables.specs.Numbers.{reference_arrays}
use Rattle.program_tables.specs.Tables.{kinds_of, kind_seen}
use Rattle.program_tables.proofs.MarkLemmas.{marked, kept}
use Rattle.program_tables.proofs.MentionLemmas.{kind_decides}
use Rattle.program_tables.proofs.mentions.add_type.Goals as goal

pub returns-clause-put : goal.returns-clause-put
returns-clause-put c = λ items h e.
    let marks = c.args.arrays.now.added.items in
    let n = c.args.number in
    let xs = reference_arrays (kind_seen c.args.kind) in
    let put = c.in_ok-add_arrays.ensures in (
      put,
      λ m g. subst (λ ks. AreAdded same_kind items ks (set marks n true)) (sym put)
          (marked same_kind (λ x. (kind_decides x x).1 refl) items (kinds_of c.args.arrays.now.types) xs marks n h e) m g,
    )

pub returns-then-index-clause-put : goal.returns-then-index-clause-put
returns-then-index-clause-put c = λ items h e.
    let marks = c.args.arrays.now.added.items in
    let n = c.args.number in
    let ks = kinds_of c.args.arrays.now.types in
    let xs = reference_arrays (kind_seen c.args.kind) in
    let at = slice_get-get_or marks n c.index.result.now c.requires ∙ ap Some (sym c.index.ensures ∙ c.if-index.true) in
    (sym (kept same_kind ks xs (subst (λ (ys : List Kind). list_all (λ x. list_any (same_kind x) ks) ys ≡ true) e (h n at))), h)
