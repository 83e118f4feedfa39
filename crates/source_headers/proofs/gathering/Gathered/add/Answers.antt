use Rattle.source_headers.proofs.GatherLemmas.{method_added}
use Rattle.source_headers.proofs.gathering.Gathered.add.Goals as goal

pub returns : goal.returns
returns c =
    method_added c.add_lines.result c.args.self.now (record { text = c.put_method.new.text; methods = c.add_places.new.methods; files = c.add_lines.new.files }) c.args.notes.now c.args.found.now c.args.method.number
    c.args.method.name.now c.args.loops.now c.in_ok-put_method.ensures c.in_ok-add_places.ensures c.add_lines.ensures
