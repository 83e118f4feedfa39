use Rattle.std.proofs.Common.{◌≡◌, ℕ, List, length, take, drop, ◌-◌, ◌∙◌, ap, subst, arith}
use Rattle.std.specs.Prelude.{Vec, IfOk, IfErr}
use Rattle.std.specs.declared.alloc.Global.{Global}
use Rattle.std.proofs.lemmas.List.{take_all, length-drop}
use Rattle.outside.specs.Files.{contents}
use Rattle.endings.specs.Linking.{LinkFault}
use Rattle.endings.specs.Executive.{executive_class, IsLinkedOf}
use Rattle.endings.proofs.Behind.{behind}
use Rattle.endings.proofs.executive.link_behind.Goals as goal

-- the items from this one on are all that the slice has
from_first : (first : ℕ) (files : List (Vec ℕ Global)) → take (length files - first) (drop first files) ≡ drop first files
from_first first files = let long = length-drop first files in take_all (length files - first) (drop first files) (omega (arith, long))

pub returns-in-Ok-clause-linked : goal.returns-in-Ok-clause-linked
returns-in-Ok-clause-linked c =
    let L : List (List ℕ) → Type 0 = λ files. IfOk c.link_cyclic.result (IsLinkedOf files) in
    let C : List (Vec ℕ Global) → List (List ℕ) = λ files. contents (drop c.args.first files) in
    let same = ap contents (from_first c.args.first c.deref.result.now)
    ∙ (ap C c.deref.ensures.value ∙ behind c.args.table.now c.args.rounds c.args.operands.now.items c.push_executive.new.operands.items c.in-Ok.ensures c.args.first c.requires.there) in
    subst L same c.link_cyclic.ensures.linked

pub returns-in-Ok-clause-fault : goal.returns-in-Ok-clause-fault
returns-in-Ok-clause-fault c =
    let F : List (List ℕ) → Type 0 = λ files. IfErr c.link_cyclic.result (LinkFault files executive_class) in
    let C : List (Vec ℕ Global) → List (List ℕ) = λ files. contents (drop c.args.first files) in
    let same = ap contents (from_first c.args.first c.deref.result.now)
    ∙ (ap C c.deref.ensures.value ∙ behind c.args.table.now c.args.rounds c.args.operands.now.items c.push_executive.new.operands.items c.in-Ok.ensures c.args.first c.requires.there) in
    subst F same c.link_cyclic.ensures.fault
