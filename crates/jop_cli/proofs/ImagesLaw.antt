-- What is wrong with the bytes of an image is answered.
use Rattle.std.proofs.Common.{◌≡◌, ℕ, ◌<◌, true, false, List, ◌∷◌, Option, refl, sym, ◌∙◌, ap, subst, arith, ◌⊎◌, inl, inr, ⊎_elim}
use Rattle.std.specs.Prelude.{Vec, slice_get}
use Rattle.std.specs.declared.alloc.Global.{Global}
use Rattle.std.proofs.lemmas.Bool.{cases_lt}
use Rattle.class_pool.specs.declared.class.ClassFile.{ClassFile}
use Rattle.image_file.specs.Linked as file
use Rattle.image_file.specs.Linked.{LinkedContent, OneImage}
use Rattle.image_words.specs.Regions.{image_words_of}
use Rattle.jopizer.specs.declared.refusal.LinkRefusal.{LinkRefusal}
use Rattle.jopizer.specs.declared.fault.ImageFault.TheVariants as faults
use Rattle.jopizer.specs.Linked.{image_of}
use Rattle.jopizer.specs.Images.{IsDifference, DiffersFirst}
use Rattle.jopizer.specs.Laws.{LinkedImagesAreRead, LinkedFilesAreNotRefused, RefusalsAreOne}
use Rattle.jopizer.proofs.OneLemmas.{OneClass, same_program}
use Rattle.endings.specs.declared.outcome.Refusal.TheVariants as refusals
use Rattle.endings.specs.declared.outcome.Ending.{Ending}
use Rattle.endings.specs.declared.outcome.Ending.TheVariants as endings
use Rattle.jop_cli.specs.declared.task.Task.{Task}
use Rattle.endings.specs.Phase.{is_linked}
use Rattle.endings.specs.World.{IsQuiet}
use Rattle.endings.specs.Linking.{RefusesFiles, HasName}
use Rattle.endings.specs.Opening.{ImageFault}
use Rattle.endings.specs.Opening.{BytesFault}
use Rattle.jop_cli.specs.Calls.{Call, LacksMemory}
use Rattle.jop_cli.specs.promises.Answers.{AnswersEnding, AnswersRefusal}
use Rattle.jop_cli.specs.promises.Images.{NoImageIsBoth}
use Rattle.jop_cli.specs.promises.Refusals.{IsNoImage, BadImagesAreRefused, UnlinkedImagesAreRefused, DifferingImagesAreRefused}
use Rattle.jop_cli.proofs.Wholly.{IsWholly, wholly, lacks}
use Rattle.jop_cli.proofs.LinkingLaw.{refuses}
use Rattle.jop_cli.proofs.RunningLaw.{begins_linked, begins_bare, wrong_in}
use Rattle.jop_cli.proofs.Told.{EndsSo, answers_so}
use Rattle.jop_cli.proofs.Opened.{Opened, faulty, on_linked, on_bare, lacking, opened}

-- bytes that begin as those of a linked image are of no bare one
pub not_both : (bytes : List ℕ) → is_linked bytes ≡ true → is_linked bytes ≡ false → ⊥
not_both bytes begins not_begins =
    let clash : true ≡ false = sym begins ∙ not_begins in
    absurd (cc)

pub no_image_is_both : NoImageIsBoth
no_image_is_both bytes l image is_file bare = not_both bytes (begins_linked bytes (image_of l) is_file) (begins_bare bytes image bare)

-- ---- the first difference

-- there is none before another
not_before : (kept words : List ℕ) (p q : ℕ) (a b c d : Option ℕ) → IsDifference kept words p a b → IsDifference kept words q c d → p < q → ⊥
not_before kept words p q a b c d g h less = g.differ (sym g.at_kept ∙ (h.before p less ∙ g.at_linked))

one_difference : (kept words : List ℕ) (p q : ℕ) (a b c d : Option ℕ) → IsDifference kept words p a b → IsDifference kept words q c d → endings.Refused (refusals.Differs p a b) ≡ endings.Refused (refusals.Differs q c d)
one_difference kept words p q a b c d g h =
    let same : p ≡ q =
    ⊎_elim
    (λ less. absurd (not_before kept words p q a b c d g h less))
    (λ at_least. ⊎_elim (λ more. absurd (not_before kept words q p c d a b h g more)) (λ at_most. omega (arith, at_least, at_most)) (cases_lt q p))
    (cases_lt p q) in
    let mine : a ≡ c = sym g.at_kept ∙ (ap (slice_get kept) same ∙ h.at_kept) in
    let other : b ≡ d = sym g.at_linked ∙ (ap (slice_get words) same ∙ h.at_linked) in
    ap (λ (x : ℕ). endings.Refused (refusals.Differs x a b)) same
    ∙ (ap (λ (x : Option ℕ). endings.Refused (refusals.Differs q x b)) mine ∙ ap (λ (x : Option ℕ). endings.Refused (refusals.Differs q c x)) other)

-- ---- no image

module _ (c : Call) (task : Task) (bytes : List ℕ) (operands : List (List ℕ)) (none : IsNoImage bytes) where
  bytes_bad : (ending : Ending) → BytesFault bytes ending → (ending ≡ endings.Refused refusals.BadImage) ⊎ (ending ≡ endings.NoMemory)
  bytes_bad (endings.Refused refusals.BadImage) fault = inl refl
  bytes_bad (endings.Refused (refusals.Differs word kept other)) fault = absurd (none.0 fault.0 fault.1)
  bytes_bad (endings.NotLinked refusal name) fault = absurd (none.0 fault.0 fault.1)
  bytes_bad endings.NoMemory fault = inr refl
  bytes_bad ending fault = absurd fault

  image_bad : (ending : Ending) → ImageFault bytes ending → (ending ≡ endings.Refused refusals.BadImage) ⊎ (ending ≡ endings.NoMemory)
  image_bad (endings.Refused refusals.BadImage) fault = inl refl
  image_bad endings.NoMemory fault = inr refl
  image_bad ending fault = absurd fault

  bad : (ending : Ending) → Opened c task bytes operands ending → EndsSo c ending (endings.Refused refusals.BadImage)
  bad ending (faulty fault quiet) = record { is = ⊎_elim (λ f. bytes_bad ending f.1) (λ f. image_bad ending f.1) fault; quiet = quiet }
  bad ending (on_linked l is_linked is_file does) = absurd (none.0 (image_of l) is_file)
  bad ending (on_bare image is_bare does) = absurd (none.1 image is_bare)
  bad ending (lacking is quiet) = record { is = inr is; quiet = quiet }

pub bad_images_are_refused : BadImagesAreRefused
bad_images_are_refused c task bytes takes none n =
    answers_so c c.answered.ending (endings.Refused refusals.BadImage) (wholly c n) (bad c task bytes (bytes ∷ takes.others) none c.answered.ending (opened c n task bytes takes))

-- ---- class files that are refused

-- what is answered, and what it names
pub data EndsRefused (c : Call) (image : LinkedContent) (refusal : LinkRefusal) (ending : Ending) : Type 0 where
  names : (name : Vec ℕ Global) → HasName image.files refusal name.items → ending ≡ endings.NotLinked refusal name → IsQuiet c.old c.new → EndsRefused c image refusal ending
  unnamed : ending ≡ endings.NoMemory → IsQuiet c.old c.new → EndsRefused c image refusal ending

answers_refused : (c : Call) (image : LinkedContent) (refusal : LinkRefusal) (ending : Ending) → IsWholly c ending → EndsRefused c image refusal ending → AnswersRefusal c image.files refusal ⊎ LacksMemory c
answers_refused c image refusal ending w (names name has is quiet) =
    let said : AnswersEnding c ending = record { outcome = w.outcome; line = w.line; quiet = quiet } in
    inl (record { name = name; names = has; answers = subst (AnswersEnding c) is said })
answers_refused c image refusal ending w (unnamed is quiet) = inr (lacks c ending w is quiet)

-- files that are linked to classes aren't refused
not_refused : LinkedFilesAreNotRefused → (image : LinkedContent) (place : ℕ) (kept other : Option ℕ) (refusal : LinkRefusal) → DiffersFirst image place kept other → RefusesFiles image.files image.main refusal → ⊥
not_refused law image place kept other refusal differs is =
    let r = refuses image.files image.main refusal is in
    r.1 (law image.files image.main differs.classes refusal differs.are r.0)

module _ (one_image : OneImage) (images : LinkedImagesAreRead) (not_refused_law : LinkedFilesAreNotRefused) (one_refusal : RefusalsAreOne) (c : Call) (task : Task) (bytes : List ℕ) (operands : List (List ℕ)) (image : LinkedContent) (is_file : file.IsLinkedFile bytes image) where
  module _ (refusal : LinkRefusal) (is : RefusesFiles image.files image.main refusal) where
    same_refused : (other : LinkedContent) (r : LinkRefusal) (name : Vec ℕ Global) → file.IsLinkedFile bytes other → RefusesFiles other.files other.main r → HasName other.files r name.items → IsQuiet c.old c.new → EndsRefused c image refusal (endings.NotLinked r name)
    same_refused other r name of refused has quiet =
        let same : other ≡ image = one_image bytes other image of is_file in
        let refused_here = subst (λ (i : LinkedContent). RefusesFiles i.files i.main r) same refused in
        let has_here = subst (λ (i : LinkedContent). HasName i.files r name.items) same has in
        let a = refuses image.files image.main r refused_here in
        let b = refuses image.files image.main refusal is in
        let one : r ≡ refusal = one_refusal image.files image.main r refusal a.1 b.1 a.0 b.0 in
        names name (subst (λ (x : LinkRefusal). HasName image.files x name.items) one has_here) (ap (λ (x : LinkRefusal). endings.NotLinked x name) one) quiet

    bytes_refused : (ending : Ending) → IsQuiet c.old c.new → BytesFault bytes ending → EndsRefused c image refusal ending
    bytes_refused (endings.Refused refusals.BadImage) quiet fault = absurd (fault image is_file)
    bytes_refused (endings.Refused (refusals.Differs word kept other)) quiet fault =
        let same : fault.0 ≡ image = one_image bytes fault.0 image fault.1 is_file in
        absurd (not_refused not_refused_law image word kept other refusal (subst (λ (i : LinkedContent). DiffersFirst i word kept other) same fault.2) is)
    bytes_refused (endings.NotLinked r name) quiet fault = same_refused fault.0 r name fault.1 fault.2 fault.3 quiet
    bytes_refused endings.NoMemory quiet fault = unnamed refl quiet
    bytes_refused ending quiet fault = absurd fault

    refused_comes : (ending : Ending) → Opened c task bytes operands ending → EndsRefused c image refusal ending
    refused_comes ending (faulty (inl fault) quiet) = bytes_refused ending quiet fault.1
    refused_comes ending (faulty (inr fault) quiet) = absurd (not_both bytes (begins_linked bytes image is_file) fault.0)
    refused_comes ending (on_linked l is_linked is_its does) =
        let e : faults.Link refusal ≡ faults.NoMemory = images bytes l (faults.Link refusal) is_linked is_its (image, is_file, wrong_in image refusal is) in
        absurd (cc)
    refused_comes ending (on_bare other is_bare does) = absurd (not_both bytes (begins_linked bytes image is_file) (begins_bare bytes other is_bare))
    refused_comes ending (lacking is_it quiet) = unnamed is_it quiet

  -- ---- other words

  module _ (one_class : OneClass) (place : ℕ) (kept other : Option ℕ) (differs : DiffersFirst image place kept other) where
    same_words : (at : ℕ) (k o : Option ℕ) → DiffersFirst image at k o → endings.Refused (refusals.Differs at k o) ≡ endings.Refused (refusals.Differs place kept other)
    same_words at k o d =
        let same : d.classes ≡ differs.classes = same_program one_class image.files image.main d.classes differs.classes d.are.program differs.are.program in
        let moved : IsDifference image.words (image_words_of differs.classes) at k o = subst (λ (cs : List ClassFile). IsDifference image.words (image_words_of cs) at k o) same d.difference in
        one_difference image.words (image_words_of differs.classes) at place k o kept other moved differs.difference

    bytes_differ : (ending : Ending) → BytesFault bytes ending → (ending ≡ endings.Refused (refusals.Differs place kept other)) ⊎ (ending ≡ endings.NoMemory)
    bytes_differ (endings.Refused refusals.BadImage) fault = absurd (fault image is_file)
    bytes_differ (endings.Refused (refusals.Differs at k o)) fault =
        let same : fault.0 ≡ image = one_image bytes fault.0 image fault.1 is_file in
        inl (same_words at k o (subst (λ (i : LinkedContent). DiffersFirst i at k o) same fault.2))
    bytes_differ (endings.NotLinked r name) fault =
        let same : fault.0 ≡ image = one_image bytes fault.0 image fault.1 is_file in
        absurd (not_refused not_refused_law image place kept other r differs (subst (λ (i : LinkedContent). RefusesFiles i.files i.main r) same fault.2))
    bytes_differ endings.NoMemory fault = inr refl
    bytes_differ ending fault = absurd fault

    differs_comes : (ending : Ending) → Opened c task bytes operands ending → EndsSo c ending (endings.Refused (refusals.Differs place kept other))
    differs_comes ending (faulty (inl fault) quiet) = record { is = bytes_differ ending fault.1; quiet = quiet }
    differs_comes ending (faulty (inr fault) quiet) = absurd (not_both bytes (begins_linked bytes image is_file) fault.0)
    differs_comes ending (on_linked l is_linked is_its does) =
        let e : faults.Differs place kept other ≡ faults.NoMemory = images bytes l (faults.Differs place kept other) is_linked is_its (image, is_file, differs) in
        absurd (cc)
    differs_comes ending (on_bare b is_bare does) = absurd (not_both bytes (begins_linked bytes image is_file) (begins_bare bytes b is_bare))
    differs_comes ending (lacking is_it quiet) = record { is = inr is_it; quiet = quiet }

pub unlinked_images_are_refused : OneImage → LinkedImagesAreRead → LinkedFilesAreNotRefused → RefusalsAreOne → UnlinkedImagesAreRefused
unlinked_images_are_refused one_image images not_refused_law one_refusal c task bytes image refusal takes is_file is n =
    answers_refused c image refusal c.answered.ending (wholly c n)
    (refused_comes one_image images not_refused_law one_refusal c task bytes (bytes ∷ takes.others) image is_file refusal is c.answered.ending (opened c n task bytes takes))

pub differing_images_are_refused : OneImage → LinkedImagesAreRead → LinkedFilesAreNotRefused → RefusalsAreOne → OneClass → DifferingImagesAreRefused
differing_images_are_refused one_image images not_refused_law one_refusal one_class c task bytes image place kept other takes is_file differs n =
    answers_so c c.answered.ending (endings.Refused (refusals.Differs place kept other)) (wholly c n)
    (differs_comes one_image images not_refused_law one_refusal c task bytes (bytes ∷ takes.others) image is_file one_class place kept other differs c.answered.ending (opened c n task bytes takes))
