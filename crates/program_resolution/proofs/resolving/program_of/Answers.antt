use Rattle.std.proofs.Common.{rules}
use Rattle.program_resolution.specs.Linking.{IsFirstOr, refusals_of}
use Rattle.program_resolution.proofs.resolving.program_of.Goals as goal

pub returns-in_err-pass_places-clause-refused : goal.returns-in_err-pass_places-clause-refused
returns-in_err-pass_places-clause-refused c =
    let refused : IsFirstOr (refusals_of c.args.classes c.args.files c.args.declares_main) c.in_err-pass_places.field-0.0 = c.in_err-pass_places.ensures.refused c.args.declares_main in
    search rules
