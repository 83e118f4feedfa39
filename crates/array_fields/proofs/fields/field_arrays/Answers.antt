use Rattle.std.proofs.Common.{List, length, subst}
use Rattle.program_tables.specs.Resolved.{resolved}
use Rattle.array_fields.specs.declared.puts.Put.{Put}
use Rattle.array_fields.specs.Lengths.{FieldLengths, AreStaticLengths, AreClassLengths}
use Rattle.array_fields.proofs.Knowing.{known_fields}
use Rattle.array_fields.proofs.fields.field_arrays.Goals as goal

pub returns : goal.returns
returns c constants tables =
    let cs = c.args.program.now in
    let P = resolved cs in
    let xs = c.in_ok-statics.statics.items in
    let xss = c.in_ok-fields.fields.items in
    let a : FieldLengths = record { statics = xs; fields = xss } in
    let statics = subst (λ (ps : List Put). AreStaticLengths P ps xs) c.deref.ensures.value c.in_ok-statics.ensures in
    let fields = subst (λ (ps : List Put). AreClassLengths P ps (length cs) xss) c.deref-2.ensures.value c.in_ok-fields.ensures in
    known_fields cs constants c.args.tables.now c.in_ok-puts.puts.items a tables c.in_ok-puts.ensures statics fields
