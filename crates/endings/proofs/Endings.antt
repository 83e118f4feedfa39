-- How the run of a linked image ends, with what its line shows.
use Rattle.std.proofs.Common.{◌≡◌, ℕ, ◌<◌, List, length, Option, Some, None, refl, sym, ◌∙◌, ap, subst}
use Rattle.std.specs.Prelude.{IsSomeAnd, slice_get}
use Rattle.std.proofs.lemmas.Option.{slice_get_within}
use Rattle.lists.proofs.Lemmas.{onto_some}
use Rattle.class_pool.specs.declared.class.ClassFile.{ClassFile}
use Rattle.bytecode_model.specs.Program.{Method, Body, body_of}
use Rattle.program_tables.specs.Laws.{MethodsStandByNumber}
use Rattle.program_tables.specs.Numbers.{methods_by_number}
use Rattle.program_tables.specs.Resolved.{resolved_method, resolved_methods, resolved}
use Rattle.image_file.specs.Linked.{LinkedContent, OneImage}
use Rattle.image_file.specs.Linked as file
use Rattle.jopizer.specs.declared.refusal.LinkRefusal.{LinkRefusal}
use Rattle.jopizer.specs.declared.refusal.LinkRefusal.TheVariants as refusals
use Rattle.jopizer.specs.declared.fault.ImageFault.TheVariants.{Link}
use Rattle.jopizer.specs.Images.{IsWrongImage, IsWrongIn}
use Rattle.jopizer.specs.Refused.{IsLinkRefusal}
use Rattle.endings.specs.declared.outcome.Ending.{Ending}
use Rattle.endings.specs.declared.outcome.Ending.TheVariants as endings
use Rattle.endings.specs.Linking.{LinkFault}
use Rattle.endings.specs.Opening.{BytesFault}

-- ---- the method that is too long

some_of : {A : Type 0} (o : Option A) (Q : A → Type 0) → IsSomeAnd o Q → (x : A) × (o ≡ Some x)
some_of None Q h = absurd h
some_of (Some x) Q h = (x, refl)

pub method_there : MethodsStandByNumber → (cs : List ClassFile) (m : ℕ) (Q : Body → Type 0) → IsSomeAnd (body_of (resolved cs) m) Q → m < length (methods_by_number cs)
method_there by_number cs m Q h =
    let b = some_of (body_of (resolved cs) m) Q h in
    let r = onto_some (slice_get (resolved_methods cs) m) (λ (x : Method). x.body) b.0 b.1 in
    let p = onto_some (slice_get (methods_by_number cs) m) (resolved_method cs) r.0 (sym (by_number cs m) ∙ r.1) in
    slice_get_within (methods_by_number cs) m p.0 p.1

-- ---- files of an image that aren't linked

refuses : (image : LinkedContent) (refusal : LinkRefusal) → IsWrongIn image (Link refusal) → IsLinkRefusal image.files image.main refusal
refuses image (refusals.Resolving refusal) wrong = wrong
refuses image (refusals.NotVerified file method pc rule) wrong = wrong
refuses image (refusals.TooLarge what count limit) wrong = wrong
refuses image (refusals.FileTooLarge count limit) wrong = wrong
refuses image refusals.NoMemory wrong = tt

faulty : (bytes : List ℕ) (image : LinkedContent) (ending : Ending) → file.IsLinkedFile bytes image → LinkFault image.files image.main ending → BytesFault bytes ending
faulty bytes image (endings.NotLinked refusal name) is fault = (image, is, fault.0, fault.1)
faulty bytes image endings.NoMemory is fault = tt
faulty bytes image (endings.TooLong number name count most) is fault = absurd fault
faulty bytes image (endings.Ended told) is fault = absurd fault
faulty bytes image endings.Written is fault = absurd fault
faulty bytes image (endings.Linked sizes) is fault = absurd fault
faulty bytes image (endings.Holds held) is fault = absurd fault
faulty bytes image (endings.NotHeld check name) is fault = absurd fault
faulty bytes image (endings.NotPriced method node name) is fault = absurd fault
faulty bytes image (endings.NotAnswered cause subject) is fault = absurd fault
faulty bytes image (endings.Uncaught class name counts) is fault = absurd fault
faulty bytes image (endings.Refused refusal) is fault = absurd fault
faulty bytes image (endings.Spent told) is fault = absurd fault
faulty bytes image (endings.CycleEnded told) is fault = absurd fault
faulty bytes image (endings.CycleUncaught class name told) is fault = absurd fault
faulty bytes image (endings.CycleSpent told) is fault = absurd fault
faulty bytes image endings.ReadFault is fault = absurd fault
faulty bytes image endings.InputFault is fault = absurd fault
faulty bytes image endings.WriteFault is fault = absurd fault

-- the image that was read of the bytes is the one whose files are refused
pub refused : OneImage → (bytes : List ℕ) (image : LinkedContent) (refusal : LinkRefusal) (files : List (List ℕ)) (ending : Ending) → file.IsLinkedFile bytes image → files ≡ image.files → IsWrongImage bytes (Link refusal)
    → ((main : List ℕ) → IsLinkRefusal files main refusal → LinkFault files main ending) → BytesFault bytes ending
refused one bytes image refusal files ending is same (other, is_other, wrong) told =
    let others : files ≡ other.files = same ∙ ap (λ (x : LinkedContent). x.files) (one bytes image other is is_other) in
    let R : List (List ℕ) → Type 0 = λ fs. IsLinkRefusal fs other.main refusal in
    let F : List (List ℕ) → Type 0 = λ fs. LinkFault fs other.main ending in
    faulty bytes other ending is_other (subst F others (told other.main (subst R (sym others) (refuses other refusal wrong))))
