-- What a verified program that is laid out has at the start of its run, and at its end: JVM Specification SE 8, 2.10, 4.10 and 5.2.
use Rattle.std.specs.Prelude.{◌≡◌, ℕ, ◌<◌, ◌≤◌, true, None, List, length, IsSomeAnd}
use Rattle.class_pool.specs.declared.class.ClassFile.{ClassFile}
use Rattle.jop_core.specs.State as machine
use Rattle.bytecode_model.specs.declared.Ending.TheVariants.{Uncaught}
use Rattle.bytecode_model.specs.State.{State}
use Rattle.bytecode_model.specs.Program.{body_of}
use Rattle.bytecode_model.specs.Sizes.{body_words}
use Rattle.bytecode_typing.specs.Typed.{Typed}
use Rattle.bytecode_typing.specs.Lawful.{Lawful}
use Rattle.program_tables.specs.Resolving.{IsResolved}
use Rattle.program_tables.specs.Resolved.{resolved}
use Rattle.image_facts.specs.Places.{Places, image_of, image_words}
use Rattle.image_facts.specs.Says.{Says}
use Rattle.machine_stands.specs.StandsFor.{StandsFor}
use Rattle.image_words.specs.Regions.{places_of}
use Rattle.image_words.specs.Limits.{most_words}
use Rattle.image_builder.specs.Laid.{Laid}
use Rattle.image_layout.specs.Layout.{IsLaidOut, first_passed}
use Rattle.bytecode_verifier.specs.Failure.{IsVerified, types_found}
use Rattle.program_resolution.specs.Linked.{linked_classes}

-- Its image says the program, which is lawful and has the types that the verifier finds. The words are those of the image, and as many: no more than
-- an image may have.
pub record IsTold (cs : List ClassFile) (laid : Laid) : Type 0 where
  pub says : Says (resolved cs) (places_of cs)
  pub lawful : Lawful (resolved cs)
  pub typed : Typed (resolved cs) (types_found cs)
  pub linked : (resolved cs).linked ≡ true
  pub words : laid.words ≡ image_of (resolved cs) (places_of cs)
  pub count : image_words (resolved cs) (places_of cs) ≡ length laid.words
  pub few : length laid.words ≤ most_words

-- so is each that no rule of the verifier and no limit of the image refuses
abbrev pub VerifiedProgramsAreTold : Type 0
VerifiedProgramsAreTold = (cs : List ClassFile) (laid : Laid) → IsResolved cs → IsVerified cs → first_passed cs ≡ None → IsLaidOut cs laid → IsTold cs laid

-- the method that is run first has no local variables, and one operand; five words are saved
abbrev pub BootTakesSixWords : Type 0
BootTakesSixWords = (files : List ClassFile) (main : List ℕ)
    → let P = resolved (linked_classes files main) in IsSomeAnd (body_of P P.boot) (λ b. body_words b ≡ 6)

-- a machine that stands for a state in which an object of a class wasn't caught: the class is one of the program's
abbrev pub UncaughtClassesAreThere : Type 0
UncaughtClassesAreThere = (cs : List ClassFile) (pl : Places) (chip size : ℕ) (m : machine.MachineState) (s : State) (class : ℕ)
    → StandsFor (resolved cs) pl chip size m s → s.mode ≡ Uncaught class → class < length cs
