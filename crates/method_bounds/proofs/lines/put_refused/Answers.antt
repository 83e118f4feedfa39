use Rattle.std.specs.Prelude.{codes}
use Rattle.method_bounds.specs.Lines.{name_in, cause_words}
use Rattle.method_bounds.proofs.Texts.{all_put}
use Rattle.method_bounds.proofs.lines.put_refused.Goals as goal

pub returns : goal.returns
returns c =
    all_put c.args.text.now.items c.extend_from_slice.new.self.items c.put_cause.new.text.items c.push.new.self.items (codes " bound=none ") (cause_words (name_in c.args.f.now) c.args.cause) (codes "\n") c.in_ok-extend_from_slice.ensures.items c.in_ok-put_cause.ensures c.in_ok-push.ensures.items
