use Rattle.std.proofs.Common.{rules, refl}
use Rattle.std.proofs.lemmas.Bool.{MatchBool-at_true, MatchBool-at_false}
use Rattle.certificates.proofs.Next.{no_loop, gives_loop}
use Rattle.certificates.proofs.reader.begun.Begun.add_loop.Goals as goal

pub returns-then-not-branch : goal.returns-then-not-branch
returns-then-not-branch c = no_loop c.args.self c.in-Some.current c.args.line (search rules) (MatchBool-at_false {b = c.in_ok-add_loop.field-0} _ _ (search rules) c.in_ok-add_loop.ensures)

pub returns : goal.returns
returns c =
    let added = MatchBool-at_true {b = c.in_ok-add_loop.field-0} _ _ (search rules) c.in_ok-add_loop.ensures in
    gives_loop c.args.self _ c.in-Some.current c.add_loop.new.self c.args.line c.requires.kept c.requires.draft
    (record { version = refl; root = refl; closed = refl; sorts = refl; old = search rules; new = refl }) added.0 added.1 c.requires.loop_said
