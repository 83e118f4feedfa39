use Rattle.std.proofs.Common.{ℕ, List, nat_eq, ◌++◌, sym, ap, ◌∙◌}
use lib.Pointwise.{pointwise}
use Rattle.lists.specs.Tests.{not_true, not_false}
use Rattle.name_laws.specs.Written.{written}
use Rattle.name_laws.proofs.ReadBack.{named_so, not_named}
use Rattle.name_laws.proofs.reading.read_name.Goals as goal

pub returns-then-ne : goal.returns-then-ne
returns-then-ne c =
    c.new.ensures.items
    ∙ not_named c.args.text.now c.in_ok-name.name.items c.as_slice.result.now c.in_ok-name.ensures
    (c.as_slice.ensures.value ∙ c.in_ok-put_written.ensures ∙ ap (λ (l : List ℕ). l ++ written c.deref.result.now) c.new-again.ensures.items ∙ ap written c.deref.ensures.value)
    (not_true (pointwise nat_eq c.as_slice.result.now c.args.text.now) (sym c.ne.ensures ∙ c.if-ne.true))

pub returns : goal.returns
returns c =
    named_so c.args.text.now c.in_ok-name.name.items c.as_slice.result.now c.in_ok-name.ensures
    (c.as_slice.ensures.value ∙ c.in_ok-put_written.ensures ∙ ap (λ (l : List ℕ). l ++ written c.deref.result.now) c.new-again.ensures.items ∙ ap written c.deref.ensures.value)
    (not_false (pointwise nat_eq c.as_slice.result.now c.args.text.now) (sym c.ne.ensures ∙ c.if-ne.false))
