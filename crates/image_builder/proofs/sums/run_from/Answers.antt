use Rattle.image_builder.proofs.RunLemmas.{places_more, end_more}
use Rattle.image_builder.proofs.sums.run_from.Goals as goal

pub loop-size-preserved : goal.loop-size-preserved
loop-size-preserved c =
    let sizes = c.args.sizes.now in
    let i = c.loop-size.size-index in
    record {
      places = places_more c.args.start sizes i c.loop-size.end c.loop-size.places.items c.push.new.self.items c.loop-size-test.true c.loop-size.invariant.places c.loop-size.invariant.end c.in_ok-push.ensures.items;
      end = end_more c.args.start sizes i c.loop-size.end _ c.loop-size-test.true c.loop-size.invariant.end c.in_ok-end.ensures;
    }
