use Rattle.std.proofs.Common.{◌≡◌, ◌<◌, List, slice_get, Some, refl, sym, ap, ◌∙◌, subst}
use Rattle.std.specs.Prelude.{IfSome}
use Rattle.class_lookup.specs.Symbols.{symbol}
use Rattle.std.specs.Option.{IsSomeAnd}
use Rattle.class_pool.specs.declared.class.ClassFile.{ClassFile}
use Rattle.program_tables.specs.declared.text_type.TextType.{TextType}
use Rattle.program_tables.specs.Texts.{IsTextType}
use Rattle.program_tables.proofs.TextLemmas.{copied_get, means_there, kinds_within}
use Rattle.program_tables.proofs.texts.TextTypes.at.Goals as goal

pub returns : goal.returns
returns c =
    let lookup = c.get.ensures.lookup in
    let types = c.self.inside.types.items in
    let n = c.args.number in
    let cs = c.self.inside.classes.now in
    let same : cs ≡ c.args.self.now = c.self.view_is in
    let got = copied_get c.get.result c.deref.result.now n lookup.0 lookup.1 ∙ ap (λ (ts : List TextType). slice_get ts n) c.deref.ensures.value in
    record {
      means = λ text e. subst (λ o. IsSomeAnd o (IsTextType c.args.self.now text)) (sym got)
          (subst (λ (ds : List ClassFile). IsSomeAnd (slice_get types n) (IsTextType ds text)) same
          (means_there cs types c.self.invariant.0 c.self.invariant.1 text n (subst (λ ds. symbol ds text ≡ Some n) (sym same) e)));
      within = subst (λ o. IfSome o (λ t. IfSome t.entry.kind (λ k. k.dimensions < 256))) (sym got) (kinds_within cs types c.self.invariant.1 n (slice_get types n) refl);
    }
