-- What a verified program that is laid out has at the start of its run.
use Rattle.std.proofs.Common.{◌≡◌, length, refl, sym, ◌∙◌, ap, arith}
use Rattle.program_tables.specs.Resolved.{resolved}
use Rattle.image_facts.specs.Laws.{WordsEnd}
use Rattle.image_facts.specs.Places.{image_of}
use Rattle.image_words.specs.Laws.{ImageWordsLie}
use Rattle.image_words.specs.Regions.{places_of}
use Rattle.image_laws.specs.Laws.{ImagesSayPrograms}
use Rattle.boundary.specs.Start.{VerifiedProgramsAreTold}
use Rattle.boundary.proofs.Handlers.{VerifierLaws, typed_program, catches_numbered, tables_at_starts}
use Rattle.boundary.proofs.Limits.{within_limits}
use Rattle.boundary.proofs.Statics.{statics_alike}

pub told : VerifierLaws → ImageWordsLie → WordsEnd → ImagesSayPrograms → VerifiedProgramsAreTold
told laws lie ends says cs laid r v within is =
    let P = resolved cs in
    let pl = places_of cs in
    let lawful = laws.lawful cs r in
    let words : laid.words ≡ image_of P pl = is.words ∙ lie cs in
    record {
      says = says cs r (within_limits cs within) (catches_numbered laws cs r v) (tables_at_starts laws cs v);
      lawful = lawful;
      typed = typed_program laws cs r v;
      linked = refl;
      words = words;
      few = omega (arith, ap length is.words, (within_limits cs within).words);
      count = sym (ap length words ∙ ends P pl P.first_statics P.first_objects (statics_alike P lawful));
    }
