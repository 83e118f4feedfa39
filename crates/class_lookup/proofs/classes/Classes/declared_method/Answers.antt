use Rattle.std.proofs.Common.{List, ℕ, ap, ◌∙◌}
use Rattle.class_lookup.specs.Lookup.{declared_method}
use Rattle.class_lookup.specs.Numbered.{place_in}
use Rattle.class_lookup.specs.Symbols.{symbol}
use Rattle.class_lookup.proofs.MemberLemmas.{signed, place_is}
use Rattle.class_lookup.proofs.classes.Classes.declared_method.Goals as goal

pub returns : goal.returns
returns c s h e =
    let cs = c.self.inside.classes.items in
    let own = signed cs s c.args.name c.args.descriptor (ap (λ x. symbol x s.name) c.self.view_is ∙ h) (ap (λ x. symbol x s.descriptor) c.self.view_is ∙ e) in
    c.place_in.ensures
    ∙ (ap (λ (table : List (List ((ℕ × ℕ) × ℕ))). place_in table (c.args.name, c.args.descriptor) c.args.class) c.deref.ensures.value
    ∙ (place_is (λ k. k.methods) cs c.self.inside.members.methods.items c.self.invariant.3.methods s (c.args.name, c.args.descriptor) own c.args.class ∙ ap (λ x. declared_method x s c.args.class) c.self.view_is))
