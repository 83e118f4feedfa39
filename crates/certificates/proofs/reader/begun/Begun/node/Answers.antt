use Rattle.std.proofs.Common.{rules, refl, ◌≡◌, Some, ℤ, subst}
use Rattle.std.specs.Int.{w128}
use Rattle.std.proofs.lemmas.Bool.{MatchBool-at_true, MatchBool-at_false}
use Rattle.std.proofs.lemmas.Int.{to_z-of_z}
use Rattle.certificates.specs.Drafts.{with_node}
use Rattle.certificates.proofs.Next.{no_node, gives_node}
use Rattle.certificates.proofs.reader.begun.Begun.node.Goals as goal

pub returns-then-not-branch : goal.returns-then-not-branch
returns-then-not-branch c = no_node c.args.self c.in-Some.current c.args.u c.args.potential (search rules) (MatchBool-at_false {b = c.in_ok-add_node.field-0} _ _ (search rules) c.in_ok-add_node.ensures)

pub returns : goal.returns
returns c =
    let added = MatchBool-at_true {b = c.in_ok-add_node.field-0} _ _ (search rules) c.in_ok-add_node.ensures in
    gives_node c.args.self _ c.in-Some.current c.add_node.new.self c.args.u c.args.potential c.requires.kept c.requires.draft
    (record { version = refl; root = refl; closed = refl; sorts = refl; old = search rules; new = refl }) added.0
    (subst (λ (p : ℤ). with_node c.args.u p c.in-Some.current ≡ Some c.add_node.new.self) (to_z-of_z w128 c.args.potential c.ranges.potential) added.1) (search rules) c.requires.potential
