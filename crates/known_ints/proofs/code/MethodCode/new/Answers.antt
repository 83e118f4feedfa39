use Rattle.known_ints.proofs.Placing.{stays}
use Rattle.known_ints.proofs.code.MethodCode.new.Goals as goal

pub returns : goal.returns
returns c P known m of sites never apart reads = record {
  parts = c.in_ok-parts.ensures.parts P known m of sites reads;
  scan = c.in_ok-scan.ensures P m of;
  graph = c.in_ok-graph.ensures.graph P m of;
  stays = stays c.starts_follow_one_another.ensures c.rows_are_of_their_kinds.ensures P m c.args.method.now c.code.ensures.whole of;
  never_put = never;
  apart = apart;
}
