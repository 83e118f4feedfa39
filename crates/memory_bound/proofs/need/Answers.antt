use Rattle.std.proofs.Common.{IfOk, IfErr, subst}
use Rattle.memory_bound.specs.Setting.{NeedSetting, ForEach, bounds_in, lengths_in}
use Rattle.memory_bound.specs.Causes.{IsNeedFault, IsNeedOf}
use Rattle.memory_bound.proofs.need.Goals as goal

pub returns : goal.returns
returns c =
    let result = c.need_of.result in
    record {
      need = subst (λ (s : NeedSetting). IfOk result (λ n. ForEach s (λ P. IsNeedOf P (bounds_in s) (lengths_in s) n))) c.new.ensures c.need_of.ensures.need;
      cause = subst (λ (s : NeedSetting). IfErr result (λ e. ForEach s (λ P. IsNeedFault P (bounds_in s) (lengths_in s) e))) c.new.ensures c.need_of.ensures.cause;
    }
