use Rattle.std.proofs.Common.{◌≡◌, ◌+◌, ◌-◌, [], map, ap, ◌∙◌, rules, arith}
use Rattle.std.specs.List.{range_with_len}
use Rattle.bytecode_model.specs.Types.{OfClass, OfNumbers, same_kind}
use Rattle.program_tables.specs.contracts.kinds.ObjectKindPartialEq.TheImpl.{eq-value}
use Rattle.program_tables.specs.declared.kinds.Base.TheVariants.{Class, Numbers}
use Rattle.program_tables.specs.Lists.{with_item, with_items}
use Rattle.program_tables.specs.Tables.{kinds_of}
use Rattle.program_tables.proofs.MentionLemmas.{kind_put, put_next, first_put}
use Rattle.program_tables.proofs.mentions.first_types.Goals as goal

pub loop-code-preserved : goal.loop-code-preserved
loop-code-preserved c =
    let code = c.loop-code.code in
    let one = kind_put eq-value.it (λ a b. search rules) c.loop-code.kinds.keys c.insert.new.self.keys (record { dimensions = 0; base = Numbers code }) c.in_ok-insert.ensures.keys in
    let same : code ≡ 4 + (code - 4) = omega arith in
    put_next same_kind OfNumbers 4 (code - 4) (code + 1 - 4) [] (kinds_of c.loop-code.kinds) (kinds_of c.insert.new.self) (omega arith) c.loop-code.invariant
    (one ∙ ap (λ n. with_item same_kind (kinds_of c.loop-code.kinds) (OfNumbers n)) same)

pub loop-class-init : goal.loop-class-init
loop-class-init c =
    let all : c.loop-code.code - 4 ≡ 8 = omega arith in
    c.loop-code.invariant ∙ ap (λ n. with_items same_kind [] (map OfNumbers (range_with_len 4 n))) all

pub loop-class-preserved : goal.loop-class-preserved
loop-class-preserved c =
    let class = c.loop-class.class in
    let first = with_items same_kind [] (map OfNumbers (range_with_len 4 8)) in
    let one = kind_put eq-value.it (λ a b. search rules) c.loop-class.kinds.keys c.insert-in-loop-class.new.self.keys (record { dimensions = 0; base = Class class }) c.in_ok-insert-2.ensures.keys in
    let same : class ≡ 0 + class = omega arith in
    put_next same_kind OfClass 0 class (class + 1) first (kinds_of c.loop-class.kinds) (kinds_of c.insert-in-loop-class.new.self) (omega arith) c.loop-class.invariant
    (one ∙ ap (λ n. with_item same_kind (kinds_of c.loop-class.kinds) (OfClass n)) same)

pub returns : goal.returns
returns c =
    let first = with_items same_kind [] (map OfNumbers (range_with_len 4 8)) in
    let all : c.loop-class.class ≡ c.args.class_count = omega arith in
    c.loop-class.invariant ∙ (ap (λ n. with_items same_kind first (map OfClass (range_with_len 0 n))) all ∙ first_put c.args.class_count)
