use Rattle.std.proofs.Common.{◌∙◌}
use Rattle.refusal_lines.specs.Names.{item_name}
use Rattle.refusal_lines.specs.Lines.{place_of}
use Rattle.refusal_lines.proofs.LineLemmas.{said_at}
use Rattle.refusal_lines.proofs.lines.say_item.Goals as goal

pub returns-clause-said : goal.returns-clause-said
returns-clause-said g c =
    said_at c.args.file c.place_of-place.result (place_of c.args.site) c.as_bytes-item.result.now (item_name c.args.item) (g.O.Sink.held c.args.sink.now) (g.O.Sink.held c.say.new.sink)
    (g.O.Sink.faults c.args.sink.now) (g.O.Sink.faults c.say.new.sink) c.say.result c.place_of-place.ensures (c.as_bytes-item.ensures.value ∙ c.item_name.ensures) c.say.ensures.said
