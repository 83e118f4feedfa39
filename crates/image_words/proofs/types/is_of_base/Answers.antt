use Rattle.std.proofs.Common.{sym, ap, ◌∙◌}
use Rattle.bytecode_model.specs.Program.{is_of}
use Rattle.program_tables.specs.Kinds.{arrays_of}
use Rattle.program_tables.specs.Resolved.{resolved}
use Rattle.program_tables.specs.Tables.{base_kind}
use Rattle.program_tables.specs.declared.kinds.Base.{Base}
use Rattle.program_tables.specs.declared.kinds.Base.TheVariants.{Class, Numbers}
use Rattle.image_words.proofs.BaseLemmas.{array_is, array_isnt, numbers_are, class_isnt}
use Rattle.image_words.proofs.types.is_of_base.Goals as goal
use Rattle.image_words.proofs.types.is_of_base.Goals.{in_default-via-in-Class-base+else-dimensions-eq0, in_default-via-in_default}

pub returns-in_default : goal.returns-in_default
returns-in_default c =
    let P = resolved c.args.classes.now in
    let n = c.args.dimensions in
    let d = c.in-Class.above in
    c.is_above_arrays.ensures
    ∙ sym (ap (λ (o : Base). is_of P (arrays_of n (base_kind c.args.base)) (base_kind o)) c.in-Class.is
    ∙ (elim c.in_default.branch [
      | in_default-via-in-Class-base+else-dimensions-eq0 w ↦ array_is P c.args.base n d w.if-dimensions-eq0.false
      | in_default-via-in_default w ↦
          ap (λ (b : Base). is_of P (arrays_of n (base_kind b)) (base_kind (Class d))) w.in_default.is ∙ numbers_are P w.in_default.field-0 n d
    ]))

pub returns-in_default-base : goal.returns-in_default-base
returns-in_default-base c =
    let P = resolved c.args.classes.now in
    let n = c.args.dimensions in
    sym (ap (λ (o : Base). is_of P (arrays_of n (base_kind c.args.base)) (base_kind o)) c.in-Numbers.is ∙ array_isnt P c.args.base n c.in-Numbers.code c.if-dimensions-eq0-2.false)

pub returns-in_default-base-2 : goal.returns-in_default-base-2
returns-in_default-base-2 c =
    let P = resolved c.args.classes.now in
    let n = c.args.dimensions in
    sym (ap (λ (o : Base). is_of P (arrays_of n (base_kind c.args.base)) (base_kind o)) c.in-Numbers.is
    ∙ (ap (λ (b : Base). is_of P (arrays_of n (base_kind b)) (base_kind (Numbers c.in-Numbers.code))) c.in_default-base.is ∙ class_isnt P c.in_default-base.field-0 n c.in-Numbers.code))
