use Rattle.std.proofs.Common.{◌∙◌}
use Rattle.source_headers.proofs.HeaderLemmas.{left_more, number_is, lines_more}
use Rattle.source_headers.proofs.methods.put_headers.Goals as goal

pub loop-place-preserved : goal.loop-place-preserved
loop-place-preserved c =
    let found = c.args.found.now in
    let left = c.loop-place.left.now in
    let next = c.from_place-left.result.now in
    let m = c.args.method.number in
    let name = c.args.method.name.now in
    let places = c.args.places.now in
    let i = c.loop-place.place-index in
    let less = c.from_place-left.ensures.left in
    let number = c.number_at-number.ensures ∙ number_is found left next m places i c.requires.places c.loop-place-test.true c.loop-place.invariant.left less in
    record {
      text =
          lines_more c.args.notes.now found m name c.args.source.now places i c.args.text.now.items c.loop-place.text.items c.put_header.new.text.items _ c.number_at-number.result c.loop-place-test.true
          c.loop-place.invariant.text c.in_ok-put_header.ensures c.source_at.ensures number;
      rising = less.rising c.loop-place.invariant.rising;
      left = left_more found left next m places i c.requires.places c.loop-place-test.true c.loop-place.invariant.left less;
    }
