use Rattle.std.proofs.Common.{true, [], ◌∷◌, refl, sym, subst}
use Rattle.std.proofs.Math.ListN.{set}
use lib.Pointwise.{bytes_decides}
use Rattle.class_lookup.specs.Parts.{same_text}
use Rattle.program_tables.specs.Marks.{AreAdded}
use Rattle.program_tables.proofs.MarkLemmas.{marked}
use Rattle.program_tables.proofs.mentions.add_literal.Goals as goal

pub returns-clause-put : goal.returns-clause-put
returns-clause-put c = λ items h e.
    let marks = c.args.literals.now.added.items in
    let n = c.args.number in
    let units = c.args.units.now in
    let put = c.in_ok-insert.ensures in (
      put,
      λ m g. subst (λ ks. AreAdded same_text items ks (set marks n true)) (sym put)
          (marked same_text (λ x. (bytes_decides x x).1 refl) items c.args.literals.now.strings (units ∷ []) marks n h e) m g,
    )
