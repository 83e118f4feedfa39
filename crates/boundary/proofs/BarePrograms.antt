-- Bare images are programs, and the machine at reset stands for their first state.
use Rattle.std.proofs.Common.{◌≡◌, Option, Some, None, refl, arith, inr}
use Rattle.std.specs.Prelude.{IsSomeAnd}
use Rattle.machine_stands.proofs.Beginning.{least}
use Rattle.jop_core.specs.Reset.{bare_reset}
use Rattle.bytecode_model.specs.State.{State}
use Rattle.bytecode_model.specs.Steps.{boot_state}
use Rattle.bytecode_typing.specs.Laws.{BareProgramsAreTyped, TheBootStateFits}
use Rattle.bytecode_typing.specs.Fits.{Fits}
use Rattle.machine_stands.specs.Bare as bare
use Rattle.machine_stands.specs.Bare.{BareImagesSay, BareImagesBegin}
use Rattle.boundary.specs.BareLaws.{BareOpcodes}
use Rattle.boundary.specs.Laws.{BareImagesArePrograms, BareRunsBegin}
use Rattle.boundary.specs.Setting.{limits, bare_setting}
use Rattle.boundary.specs.Session.{Begins}
use Rattle.boundary.proofs.BareWalk.{bare_body, bare_at}

pub bare_opcodes : BareOpcodes
bare_opcodes image grammar pc start = (bare_at image grammar.bytes grammar pc start).0

pub are_programs : BareImagesSay → BareProgramsAreTyped → BareImagesArePrograms
are_programs say typed image n size grammar =
    let (lawful, types) = typed (bare.body_of image) (bare_body image grammar.bytes grammar) in
    record { says = say image grammar; lawful = lawful; typed = types; origin = inr (image, grammar, refl) }

pub runs_begin : BareImagesArePrograms → BareImagesBegin → TheBootStateFits → BareRunsBegin
runs_begin programs begin fits n image config size grammar can =
    let g = bare_setting image n config.memory in
    let is = programs image n config.memory grammar in
    let large = least n size in
    first (boot_state g.program) refl (fits g.program g.types (limits g) is.lawful is.typed (omega (arith, grammar.frame, large)))
  where
    first : (o : Option State) → boot_state (bare.program_of image) ≡ o → IsSomeAnd o (Fits (bare.program_of image) (bare_setting image n config.memory).types (limits (bare_setting image n config.memory)))
        → Begins (bare_setting image n config.memory) (bare_reset n image config)
    first None e h = absurd h
    first (Some s) e h = record { boot = s; is_boot = e; stands = record { stands = begin n image config s size grammar can e; fits = h } }
