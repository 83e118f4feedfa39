use Rattle.std.proofs.Common.{◌≡◌, ap, ◌∙◌, arith}
use Rattle.ascii_text.specs.Line.{lines_of as text_lines}
use Rattle.certificates.specs.Texts.{text_of}
use Rattle.priced_cert.proofs.WeavingLemmas.{skipped, all_written}
use Rattle.priced_cert.proofs.writer.write_priced_cert.Goals as goal

pub returns : goal.returns
returns c =
    let cert = c.args.c.now in
    let text : c.in_ok-plain.plain.items ≡ text_of cert.plain = c.in_ok-plain.ensures ∙ ap text_of c.plain.ensures in
    let left = skipped cert.plain c.requires.plain c.lines-left.result c.next.new.self c.next-2.new.self c.next.result c.next-2.result
    (c.lines-left.ensures.lines ∙ ap text_lines (c.as_slice.ensures.value ∙ text)) c.next.ensures.steps c.next-2.ensures.steps in
    all_written cert c.requires c.new-out.result.items c.put_line.new.out.items c.put_number.new.out.items c.push.new.self.items c.put_root_prices.new.out.items c.weave.new.out.items c.from.result
    c.root_prices.result.now c.prices.result.now c.next-2.new.self c.new-out.ensures.items c.in_ok-put_line.ensures (omega (arith, c.from.ensures, c.root.ensures, ap (λ p. p.root) c.plain-2.ensures)) c.in_ok-put_number.ensures c.in_ok-push.ensures.items
    c.root_prices.ensures c.in_ok-put_root_prices.ensures c.prices.ensures left c.in_ok-weave.ensures
