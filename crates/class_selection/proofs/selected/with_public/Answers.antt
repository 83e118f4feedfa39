use Rattle.std.proofs.Common.{refl, sym, ◌∙◌}
use Rattle.class_selection.proofs.Lemmas.{with_public, without_public}
use Rattle.class_selection.proofs.selected.with_public.Goals as goal

pub returns-then-is_public_instance : goal.returns-then-is_public_instance
returns-then-is_public_instance c = λ a ms i is. with_public c.args.classes.now a c.args.place ms _ i (sym c.is_public_instance.ensures ∙ c.if-is_public_instance.true) refl refl

pub returns-else-is_public_instance : goal.returns-else-is_public_instance
returns-else-is_public_instance c = λ a ms i is. without_public c.args.classes.now a c.args.place ms c.args.above.now i (sym c.is_public_instance.ensures ∙ c.if-is_public_instance.false) is
