use Rattle.std.proofs.Common.{◌≡◌, ◌+◌, ◌∷◌, [], suc, add-one, map, sym, ap, ◌∙◌, rules, arith}
use Rattle.bytecode_model.specs.Types.{same_kind}
use Rattle.program_tables.specs.declared.kinds.ObjectKind.{ObjectKind}
use Rattle.program_tables.specs.contracts.kinds.ObjectKindPartialEq.TheImpl.{eq-value}
use Rattle.program_tables.specs.Kinds.{arrays_of}
use Rattle.program_tables.specs.Lists.{with_item, with_items}
use Rattle.program_tables.specs.Numbers.{reference_arrays}
use Rattle.program_tables.specs.Tables.{kinds_of, base_kind, kind_seen}
use Rattle.program_tables.proofs.MentionLemmas.{set_with, kind_eq, with_items-append}
use Rattle.program_tables.proofs.mentions.add_arrays.Goals as goal

pub loop-below-preserved : goal.loop-below-preserved
loop-below-preserved c =
    let base = base_kind c.args.kind.base in
    let n = c.loop-below.below in
    let old = kinds_of c.args.types.now in
    let x : ObjectKind = record { dimensions = n + 1; base = c.args.kind.base } in
    let one : map kind_seen c.insert.new.self.keys ≡ with_item same_kind (kinds_of c.loop-below.types) (kind_seen x) =
    ap (map kind_seen) c.in_ok-insert.ensures.keys ∙ set_with kind_seen eq-value.it same_kind (kind_eq eq-value.it (λ a b. search rules)) c.loop-below.types.keys x in
    one
    ∙ (ap (λ ks. with_item same_kind ks (arrays_of (n + 1) base)) c.loop-below.invariant
    ∙ (ap (λ m. with_item same_kind (with_items same_kind old (reference_arrays (arrays_of n base))) (arrays_of m base)) (add-one n)
    ∙ (sym (with_items-append same_kind old (reference_arrays (arrays_of n base)) (arrays_of (suc n) base ∷ []))
    ∙ ap (λ m. with_items same_kind old (reference_arrays (arrays_of m base))) (sym (add-one n)))))

pub returns : goal.returns
returns c =
    let all : c.loop-below.below ≡ c.args.kind.dimensions = omega arith in
    c.loop-below.invariant ∙ ap (λ n. with_items same_kind (kinds_of c.args.types.now) (reference_arrays (arrays_of n (base_kind c.args.kind.base)))) all
