use Rattle.std.proofs.Common.{Contains, sym, ◌∙◌, subst}
use Rattle.std.proofs.lemmas.Bool.{both_ways}
use Rattle.known_ints.specs.declared.parts.Part.{Part}
use Rattle.known_ints.specs.Parts.{written}
use Rattle.known_ints.proofs.Answering.{store_told, write_told}
use Rattle.known_ints.proofs.answers.told_at.Goals as goal

pub returns-then-is_store_of : goal.returns-then-is_store_of
returns-then-is_store_of c P known m of so come stop =
    store_told c.lines_follow_one_another.ensures.one P known m c.args.q.now of c.args.place c.stored.result come
    (sym c.part-part.ensures ∙ c.is_store_of.ensures.0 c.if-is_store_of.true) c.stored.ensures

pub returns-then-writes : goal.returns-then-writes
returns-then-writes c P known m of so come stop =
    write_told c.lines_follow_one_another.ensures.one P known m c.args.q.now of c.args.place come
    (subst (λ (x : Part). Contains (written x) c.args.q.now.local.index) c.part-part.ensures (c.writes.ensures.0 c.if-writes.true))
    (λ is. both_ways c.is_store_of.result c.if-is_store_of.false (c.is_store_of.ensures.1 (c.part-part.ensures ∙ is)))
