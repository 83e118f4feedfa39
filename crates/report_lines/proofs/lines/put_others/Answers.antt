use Rattle.std.proofs.Common.{◌++◌, ℕ, ◌∙◌, ap}
use Rattle.std.specs.Prelude.{codes}
use Rattle.report_lines.specs.Text.{part_text}
use Rattle.report_lines.proofs.TellLemmas.{on_ok, others_are}
use Rattle.report_lines.proofs.lines.put_others.Goals as goal

pub returns : goal.returns
returns c =
    let t = c.args.totals in
    let invoke = ap (λ (n : ℕ). c.put_named.new.text.items ++ (codes "invoke" ++ part_text t.bound n)) c.from.ensures in
    let back = ap (λ (n : ℕ). c.put_named-2.new.text.items ++ (codes "return" ++ part_text t.bound n)) c.from-2.ensures in
    on_ok c.put_named-3.result _ _
    (λ last. others_are (part_text t.bound t.loads) (part_text t.bound t.invoke) (part_text t.bound t.back) (codes "loads") (codes "invoke") (codes "return")
    c.args.text.now.items c.put_named.new.text.items c.put_named-2.new.text.items c.put_named-3.new.text.items c.in_ok-put_named.ensures (c.in_ok-put_named-2.ensures ∙ invoke) (last ∙ back))
    c.put_named-3.ensures
