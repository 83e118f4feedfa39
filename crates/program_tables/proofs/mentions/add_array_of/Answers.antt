use Rattle.std.proofs.Common.{◌+◌, ap, ◌∙◌, add-one, rules}
use Rattle.bytecode_model.specs.Types.{same_kind}
use Rattle.program_tables.specs.contracts.kinds.ObjectKindPartialEq.TheImpl.{eq-value}
use Rattle.program_tables.specs.Kinds.{arrays_of}
use Rattle.program_tables.specs.Lists.{with_item}
use Rattle.program_tables.specs.Tables.{kinds_of, base_kind}
use Rattle.program_tables.proofs.MentionLemmas.{kind_put}
use Rattle.program_tables.proofs.mentions.add_array_of.Goals as goal

pub returns : goal.returns
returns c =
    let kind = c.args.kind in
    kind_put eq-value.it (λ a b. search rules) c.args.types.now.keys c.insert.new.self.keys (record { dimensions = kind.dimensions + 1; base = kind.base }) c.in_ok-insert.ensures.keys
    ∙ ap (λ n. with_item same_kind (kinds_of c.args.types.now) (arrays_of n (base_kind kind.base))) (add-one kind.dimensions)
