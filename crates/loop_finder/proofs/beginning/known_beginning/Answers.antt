use Rattle.std.proofs.Common.{◌≡◌, ◌≢◌, ℤ, w32, to_z, of_z, Some, sym, ◌∙◌, subst, arith}
use Rattle.std.proofs.lemmas.Int.{ints}
use Rattle.loop_nest.specs.Digraph.{sources_of}
use Rattle.loop_rules.specs.Further.Beginning.{BeginsAt}
use Rattle.loop_finder.specs.declared.beginning.SoFar.{SoFar}
use Rattle.loop_finder.specs.Beginning.{IsKnownBeginning}
use Rattle.loop_acts.specs.Writing.{IsOnly}
use Rattle.loop_finder.proofs.Sources.{one_begins, none_begins}
use Rattle.loop_finder.proofs.beginning.known_beginning.Goals as goal

pub returns-then-header-eq0 : goal.returns-then-header-eq0
returns-then-header-eq0 c P known m of are v b = b.entered (sym c.header.ensures ∙ c.if-header-eq0.true)

pub returns-in-One : goal.returns-in-One
returns-in-One c P known m of are =
    let g = c.args.body.now.graph in
    let h = c.args.marks.now.header in
    let k = c.args.local in
    let value = c.in-One.value in
    let head = c.header.ensures in
    let other = c.if-header-eq0.false in
    let nonzero : h ≢ 0 = λ (zero : h ≡ 0). other (head ∙ zero) in
    let by = subst (λ (x : SoFar). IsKnownBeginning P known m g h k (sources_of g.edges h) x) c.in-One.is (c.in_ok-value.ensures P known m of are) in
    let same : to_z w32 (of_z w32 value) ≡ value = omega (arith, ints) in
    subst (λ (z : ℤ). IsOnly (BeginsAt P known m g h k) (Some z)) (sym same) (one_begins P known m g h k c.last_writes_are_reached.ensures.reached nonzero value by)

pub returns-in_default : goal.returns-in_default
returns-in_default c P known m of are =
    none_begins P known m c.args.body.now.graph c.args.marks.now.header c.args.local c.walks_lead_on.ensures.comes_by c.headers_dominate_members.ensures of.graph are.header c.in_ok-value.field-0 c.in_default.not-One
    (c.in_ok-value.ensures P known m of are)
