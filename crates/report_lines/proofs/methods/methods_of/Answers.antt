use Rattle.std.proofs.Common.{ℕ, ◌+◌, length, ◌∙◌, ap}
use Rattle.std.proofs.lemmas.List.{length_push}
use Rattle.report_lines.proofs.TellLemmas.{method_more}
use Rattle.report_lines.proofs.methods.methods_of.Goals as goal

pub loop-number-preserved : goal.loop-number-preserved
loop-number-preserved c =
    let methods = c.loop-number.methods.items in
    let before = c.loop-number.invariant in
    record {
      long = ap length c.in_ok-push.ensures.items ∙ (length_push methods c.in_ok-method.method ∙ ap (λ (k : ℕ). k + 1) before.long);
      each = method_more c.args.program.now methods c.push.new.self.items c.in_ok-method.method c.loop-number.number before.long before.each c.in_ok-method.ensures c.in_ok-push.ensures.items;
    }
