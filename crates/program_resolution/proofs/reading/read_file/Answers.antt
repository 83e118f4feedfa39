use Rattle.std.proofs.Common.{Err, refl, ap, ◌∙◌, arith}
use Rattle.class_file.specs.declared.fault.ClassFault.{ClassFault}
use Rattle.program_resolution.proofs.CodeLemmas.{code_is_bytes}
use Rattle.program_resolution.proofs.reading.read_file.Goals as goal

pub returns-in-Err-Bad-clause-refused : goal.returns-in-Err-Bad-clause-refused
returns-in-Err-Bad-clause-refused c =
    let none = c.read_class.ensures.bad (c.in-Err-Bad.is ∙ ap (λ (f : ClassFault). Err f) c.in-Err-Bad.field-0-is) in
    (refl, none.0, none.1)

pub returns-in-Ok-clause-bytes : goal.returns-in-Ok-clause-bytes
returns-in-Ok-clause-bytes c = code_is_bytes c.args.bytes.now c.in-Ok.class (λ i. omega (arith, c.type_inv.bytes i)) c.in-Ok.ensures.found
