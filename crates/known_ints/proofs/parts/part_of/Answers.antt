use Rattle.std.proofs.Common.{ℕ, ℤ, Option, sym, ap, ◌∙◌, subst}
use Rattle.loop_rules.specs.Sites.{int_at}
use Rattle.code_lines.specs.Lines.{IsLine}
use Rattle.known_ints.specs.Lines.{part_by}
use Rattle.known_ints.specs.Parts.{IsPart}
use Rattle.known_ints.proofs.Reading.{by_sites}
use Rattle.known_ints.proofs.parts.part_of.Goals as goal

pub returns : goal.returns
returns c P known m of sites reads =
    let p = c.args.place in
    let l = c.int_line-line.ensures.line P m of in
    let next = c.int_line-line.result.next in
    let row = c.int_line-line.result.row in
    let value = c.value_at-value.result in
    let line = subst (λ (q : ℕ). IsLine P m q next l.0) c.int_line-line.ensures.place l.1 in
    let ys = c.args.arrays.now in
    let is = by_sites c.lines_follow_one_another.ensures.one P known m p c.args.sites.now sites ys reads next l.0 line row l.2 value (c.value_at-value.ensures P m of next l.0 line) in
    let pushed = ap (λ (o : Option ℤ). part_by o c.field.result c.length_at-array.result row value) c.pushed.ensures in
    let field = ap (λ (o : Option ℤ). part_by (int_at c.args.sites.now.pushed p) o c.length_at-array.result row value) c.field.ensures in
    let array = ap (λ (o : Option ℤ). part_by (int_at c.args.sites.now.pushed p) (int_at c.args.sites.now.fields p) o row value) c.length_at-array.ensures in
    let told = c.part_by.ensures ∙ (pushed ∙ (field ∙ array)) in
    subst (IsPart P known m p) (sym told) is
