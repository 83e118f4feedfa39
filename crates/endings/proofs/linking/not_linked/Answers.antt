use Rattle.std.proofs.Common.{◌≡◌, subst}
use Rattle.image_file.specs.Linked.{contents}
use Rattle.jopizer.specs.declared.refusal.LinkRefusal.{LinkRefusal}
use Rattle.jopizer.specs.declared.refusal.LinkRefusal.TheVariants.{Resolving}
use Rattle.jopizer.specs.Refused.{IsLinkRefusal}
use Rattle.endings.proofs.linking.not_linked.Goals as goal

pub returns-in-Resolving : goal.returns-in-Resolving
returns-in-Resolving c main refused =
    let is : ◌≡◌ {A = LinkRefusal} c.args.refusal (Resolving c.in-Resolving.unresolved) = cc c.in-Resolving.is in
    c.not_resolved.ensures main (subst (IsLinkRefusal (contents c.args.files.now) main) is refused)
