use Rattle.std.proofs.Common.{◌≡◌, ◌-◌, suc, map, Some, sym, ap, ◌∙◌, arith}
use Rattle.std.specs.Prelude.{is_some}
use Rattle.std.specs.Option.{option_map}
use Rattle.std.proofs.lemmas.Bool.{false≢true}
use Rattle.std.proofs.lemmas.Option.{slice_get-map}
use Rattle.bytecode_model.specs.Lists.{onto}
use Rattle.bytecode_model.specs.Types.{OfReferences}
use Rattle.program_tables.specs.Kinds.{arrays_of}
use Rattle.program_tables.specs.Tables.{base_kind, kind_seen}
use Rattle.resolved_program.specs.declared.types.TypeName.TheVariants.{Array}
use Rattle.resolved_program.specs.Types.{name_among}
use Rattle.resolved_program.proofs.types.name_at.Goals as goal

pub unreachable-requires : goal.unreachable-requires
unreachable-requires c =
    let k = c.at-kind.result in
    let inner = arrays_of (k.dimensions - 1) (base_kind k.base) in
    let deep : k.dimensions ≡ suc (k.dimensions - 1) = omega (arith, c.if-kind-eq0.false) in
    let shape : kind_seen k ≡ OfReferences inner = ap (λ n. arrays_of n (base_kind k.base)) deep in
    let got = slice_get-map kind_seen c.args.types.now c.args.number ∙ (ap (option_map kind_seen) c.at-kind.ensures ∙ ap (λ x. Some x) shape) in
    let there = c.requires.components c.args.number inner got in
    let none = sym c.number.ensures ∙ c.in-None.is in
    false≢true (sym (ap is_some none) ∙ there)

pub returns : goal.returns
returns c =
    let k = c.at-kind.result in
    let types = map kind_seen c.args.types.now in
    let inner = arrays_of (k.dimensions - 1) (base_kind k.base) in
    let deep : k.dimensions ≡ suc (k.dimensions - 1) = omega (arith, c.if-kind-eq0.false) in
    let shape : kind_seen k ≡ OfReferences inner = ap (λ n. arrays_of n (base_kind k.base)) deep in
    let got = slice_get-map kind_seen c.args.types.now c.args.number ∙ (ap (option_map kind_seen) c.at-kind.ensures ∙ ap (λ x. Some x) shape) in
    ap (option_map Array) (sym c.in-Some.is ∙ c.number.ensures) ∙ ap (λ o. onto o (name_among types)) (sym got)
