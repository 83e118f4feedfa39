use Rattle.std.proofs.Common.{◌≡◌, ℕ, refl, sym, ap, ◌∙◌, inl}
use Rattle.std.proofs.lemmas.Bool.{both_ways}
use Rattle.loop_nest.specs.Walks.{IsEntering}
use Rattle.loop_marks.specs.Reach.{flag_at}
use Rattle.loop_finder.proofs.Entered.{source_of}
use Rattle.loop_finder.proofs.Sources.{member_more, unknown_more, entry_more}
use Rattle.loop_finder.proofs.beginning.with_source.Goals as goal

pub returns-then-has : goal.returns-then-has
returns-then-has c P known m us of are edge by =
    let k = c.args.marks.now in
    let v = c.args.node in
    let flag : c.has.result ≡ flag_at k.members v = c.has.ensures ∙ ap (λ (n : ℕ). flag_at k.members n) c.from.ensures in
    member_more P known m c.args.body.now.graph k.header c.args.local us v ((are.members v).0 (sym flag ∙ c.if-has.true)) c.args.so_far by

pub returns-in-Unknown : goal.returns-in-Unknown
returns-in-Unknown c P known m us of are edge by =
    unknown_more P known m c.args.body.now.graph c.args.marks.now.header c.args.local us c.args.node c.args.so_far c.in-Unknown.is by

pub returns-in_ok-stored_last-in_default : goal.returns-in_ok-stored_last-in_default
returns-in_ok-stored_last-in_default c P known m us of are edge by =
    let k = c.args.marks.now in
    let v = c.args.node in
    let g = c.args.body.now.graph in
    let flag : c.has.result ≡ flag_at k.members v = c.has.ensures ∙ ap (λ (n : ℕ). flag_at k.members n) c.from.ensures in
    let e : IsEntering g k.header v k.header = record {
      edge = edge;
      outside = λ member. both_ways c.has.result c.if-has.false (flag ∙ (are.members v).1 member);
      inside = (are.header, inl refl);
    } in
    entry_more P known m g k.header c.args.local us v e c.in_ok-stored_last-in_default.field-0 (λ u at come. c.in_ok-stored_last-in_default.ensures P known m u of at come)
    (source_of P m g of.graph v k.header edge) c.args.so_far c.joined.result c.joined.ensures by
