use Rattle.std.proofs.Common.{◌++◌, ℕ, List, replicate, sym, ap, ◌∙◌, subst}
use Rattle.image_words.specs.Layout.{type_place}
use Rattle.image_builder.specs.declared.sums.Run.{Run}
use Rattle.image_words.specs.Outline.{AreInstances}
use Rattle.image_words.proofs.StartLemmas.{raised_made}
use Rattle.image_words.proofs.start.add_raised_object.Goals as goal

pub returns : goal.returns
returns c =
    λ cs o class.
    let instances = subst (λ (runs : List Run). AreInstances cs runs) (sym c.deref.ensures.value) o.instances in
    raised_made cs c.args.class c.args.words.now.items c.push.new.self.items c.add_zeros.new.words.items c.in_ok-type_place.field-0 c.class_words.result class
    c.in_ok-push.ensures.items (c.in_ok-add_zeros.ensures ∙ ap (λ (n : ℕ). c.push.new.self.items ++ replicate n 0) c.saturating_sub-fields.ensures)
    (c.in_ok-type_place.ensures cs o ∙ ap (type_place cs) c.in_ok-add.ensures) (c.class_words.ensures cs instances)
