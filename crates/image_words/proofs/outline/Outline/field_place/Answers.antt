use Rattle.std.proofs.Common.{arith}
use Rattle.image_words.proofs.PlaceLemmas.{field_at, field_none}
use Rattle.image_words.proofs.outline.Outline.field_place.Goals as goal

pub returns-then-class-len : goal.returns-then-class-len
returns-then-class-len c =
    let many = c.args.self.now.instances.ok.0 in
    let len = c.len.ensures in
    let test = c.if-class-len.true in
    λ cs o. field_at cs c.args.self.now.instances.items c.args.class c.args.index c.index.result.now c.at.result (omega (arith, many, len, test)) c.index.ensures o.instances c.at.ensures

pub returns-else-class-len : goal.returns-else-class-len
returns-else-class-len c =
    let many = c.args.self.now.instances.ok.0 in
    let len = c.len.ensures in
    let test = c.if-class-len.false in
    λ cs o. field_none cs c.args.self.now.instances.items c.args.class c.args.index (omega (arith, many, len, test)) o.instances
