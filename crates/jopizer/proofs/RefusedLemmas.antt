-- Nothing refuses files that are linked, and nothing is wrong with the file of their image.
use Rattle.std.proofs.Common.{◌≡◌, ℕ, zero, suc, ◌⊎◌, inl, inr, List, [], ◌∷◌, ◌++◌, Option, Some, refl, sym, ap, ◌∙◌, subst, arith}
use Rattle.std.specs.Prelude.{slice_get}
use Rattle.image_file.specs.Linked.{LinkedContent, OneImage}
use Rattle.image_file.specs.Linked as file
use Rattle.class_pool.specs.declared.class.ClassFile.{ClassFile}
use Rattle.class_pool.specs.Spelling.{pool_bytes}
use Rattle.class_pool.specs.ClassSpelling.{inside_bytes}
use Rattle.class_rules.specs.Grammar.{IsClassOf}
use Rattle.class_file.specs.Grammar.{IsOtherVersion}
use Rattle.class_file.proofs.ClassLaws.{class_header, other_behind}
use Rattle.lists.specs.Lists.{first}
use Rattle.lists.proofs.Lemmas.{none≢some}
use Rattle.image_words.specs.Regions.{image_words_of}
use Rattle.image_layout.specs.Layout.{first_passed}
use Rattle.bytecode_verifier.specs.Failure.{method_failure, IsVerified}
use Rattle.program_resolution.specs.declared.refusal.ProgramRefusal.{ProgramRefusal}
use Rattle.program_resolution.specs.declared.refusal.ProgramRefusal.TheVariants as resolving
use Rattle.program_resolution.specs.Refusals.{refusals}
use Rattle.program_resolution.specs.Resolving.{AreClassesOf, IsUnread, IsFirstUnread, IsFirstOfRead, IsProgramOf}
use Rattle.jopizer.specs.declared.refusal.LinkRefusal.{LinkRefusal}
use Rattle.jopizer.specs.declared.refusal.LinkRefusal.TheVariants as answers
use Rattle.jopizer.specs.declared.fault.ImageFault.{ImageFault}
use Rattle.jopizer.specs.declared.fault.ImageFault.TheVariants as faults
use Rattle.jopizer.specs.Linked.{file_length, image_with, AreLinked, Parts, IsLinked, image_of}
use Rattle.jopizer.specs.Refused.{FailsInFile, PassesLimit, FileIsTooLong, IsLinkRefusal}
use Rattle.jopizer.specs.Images.{DiffersFirst, IsWrongIn, IsWrongImage}
use Rattle.jopizer.specs.Laws.{LinkedFilesAreNotRefused, LinkedImagesAreRead}
use Rattle.jopizer.proofs.OneLemmas.{OneClass, same_classes, same_program}

-- ---- files that are read

pub class_at : (files : List (List ℕ)) (ks : List ClassFile) (i : ℕ) (bytes : List ℕ) → AreClassesOf files ks → slice_get files i ≡ Some bytes → (k : ClassFile) × IsClassOf bytes k
class_at [] ks i bytes are at = absurd (none≢some bytes at)
class_at (f ∷ files) [] i bytes are at = absurd are
class_at (f ∷ files) (k ∷ ks) zero bytes are at = let same : f ≡ bytes = cc in (k, subst (λ (b : List ℕ). IsClassOf b k) same are.0)
class_at (f ∷ files) (k ∷ ks) (suc i) bytes are at = class_at files ks i bytes are.1 at

not_other : (bytes : List ℕ) (k : ClassFile) (major : ℕ) → IsClassOf bytes k → IsOtherVersion bytes major → ⊥
not_other bytes k major is other =
    let o = other_behind bytes k.minor k.major (pool_bytes k.pool ++ inside_bytes k) major (class_header bytes k is) other in
    let oldest = is.grammar.oldest in
    let newest = is.grammar.newest in
    let same = o.0 in
    elim o.1 [
      | inl lt ↦ absurd (omega arith)
      | inr gt ↦ absurd (omega arith)
    ]

pub read : (file : ℕ) (bytes : List ℕ) (k : ClassFile) (r : ProgramRefusal) → IsClassOf bytes k → IsUnread file bytes r → ⊥
read file bytes k (resolving.BadClass f) is h = h.1 k is
read file bytes k (resolving.UnsupportedVersion f major) is h = not_other bytes k major is h.1
read file bytes k (resolving.Duplicate a b) is h = h
read file bytes k (resolving.Unsupported a b c) is h = h
read file bytes k (resolving.Unresolved a b c) is h = h
read file bytes k (resolving.BadHierarchy a) is h = h
read file bytes k resolving.NoMain is h = h
read file bytes k (resolving.TooManyClasses a b) is h = h
read file bytes k resolving.NoMemory is h = h

-- ---- nothing refuses them

module _ (law : OneClass) (files : List (List ℕ)) (main : List ℕ) (cs : List ClassFile) where
  resolves : IsProgramOf files main cs → (r : ProgramRefusal) → IsFirstUnread files r ⊎ IsFirstOfRead files main r → ⊥
  resolves p r (inl u) = let k = class_at files p.classes u.file u.bytes p.read u.there in read u.file u.bytes k.0 r k.1 u.unread
  resolves p r (inr f) =
      let same = same_classes law files f.classes p.classes f.read p.read in
      none≢some r (ap first (sym p.none) ∙ (ap (λ (ks : List ClassFile). first (refusals ks main)) (sym same) ∙ f.first))

  pub is_resolved : IsProgramOf files main cs → (r : ProgramRefusal) → IsLinkRefusal files main (answers.Resolving r) → ⊥
  is_resolved p (resolving.BadClass f) h = resolves p (resolving.BadClass f) h
  is_resolved p (resolving.UnsupportedVersion f major) h = resolves p (resolving.UnsupportedVersion f major) h
  is_resolved p (resolving.Duplicate a b) h = resolves p (resolving.Duplicate a b) h
  is_resolved p (resolving.Unsupported a b c) h = resolves p (resolving.Unsupported a b c) h
  is_resolved p (resolving.Unresolved a b c) h = resolves p (resolving.Unresolved a b c) h
  is_resolved p (resolving.BadHierarchy a) h = resolves p (resolving.BadHierarchy a) h
  is_resolved p resolving.NoMain h = resolves p resolving.NoMain h
  is_resolved p (resolving.TooManyClasses a b) h = resolves p (resolving.TooManyClasses a b) h
  is_resolved p resolving.NoMemory h = h

  is_verified : AreLinked files main cs → (file method pc : ℕ) (rule : _) → FailsInFile files main file method pc rule → ⊥
  unfolding IsVerified
  is_verified are file method pc rule h =
      let same = same_program law files main h.classes cs h.program are.program in
      none≢some _ (sym (are.verified h.number) ∙ (ap (λ (xs : List ClassFile). method_failure xs h.number) (sym same) ∙ h.fails.fails))

  is_within : AreLinked files main cs → (what : _) (count limit : ℕ) → PassesLimit files main what count limit → ⊥
  is_within are what count limit h =
      let same = same_program law files main h.classes cs h.program are.program in
      none≢some _ (sym are.within ∙ (ap first_passed (sym same) ∙ h.passed))

  is_short : AreLinked files main cs → (count limit : ℕ) → FileIsTooLong files main count limit → ⊥
  is_short are count limit h =
      let same = same_program law files main h.classes cs h.program are.program in
      let long = ap (λ (xs : List ClassFile). file_length (image_with files main xs)) same in
      let small = are.small in
      let counted = h.long.counted in
      let passed = h.long.passed in
      absurd (omega arith)

pub not_refused : OneClass → LinkedFilesAreNotRefused
not_refused law files main cs (answers.Resolving r) are h = absurd (is_resolved law files main cs are.program r h)
not_refused law files main cs (answers.NotVerified file method pc rule) are h = absurd (is_verified law files main cs are file method pc rule h)
not_refused law files main cs (answers.TooLarge what count limit) are h = absurd (is_within law files main cs are what count limit h)
not_refused law files main cs (answers.FileTooLarge count limit) are h = absurd (is_short law files main cs are count limit h)
not_refused law files main cs answers.NoMemory are h = refl

-- ---- nothing is wrong with their image's file

module _ (law : OneClass) (images : OneImage) (bytes : List ℕ) (l : Parts) (is : IsLinked l) (of : file.IsLinkedFile bytes (image_of l)) where
  is_linked : (r : LinkRefusal) → IsWrongIn (image_of l) (faults.Link r) → ⊥
  is_linked (answers.Resolving r) h = is_resolved law l.files l.main l.classes is.linked.program r h
  is_linked (answers.NotVerified file method pc rule) h = is_verified law l.files l.main l.classes is.linked file method pc rule h
  is_linked (answers.TooLarge what count limit) h = is_within law l.files l.main l.classes is.linked what count limit h
  is_linked (answers.FileTooLarge count limit) h = is_short law l.files l.main l.classes is.linked count limit h
  is_linked answers.NoMemory h = h

  is_same : (place : ℕ) (kept linked : Option ℕ) → DiffersFirst (image_of l) place kept linked → ⊥
  is_same place kept linked h =
      let same = same_program law l.files l.main h.classes l.classes h.are.program is.linked.program in
      let words : l.laid.words ≡ image_words_of h.classes = is.laid.words ∙ ap image_words_of (sym same) in
      h.difference.differ (sym h.difference.at_kept ∙ (ap (λ (ws : List ℕ). slice_get ws place) words ∙ h.difference.at_linked))

  of_it : (image : LinkedContent) → file.IsLinkedFile bytes image → image ≡ image_of l
  of_it image h = images bytes image (image_of l) h of

  pub nothing_wrong : (f : ImageFault) → IsWrongImage bytes f → f ≡ faults.NoMemory
  nothing_wrong faults.Bad h = absurd (h (image_of l) of)
  nothing_wrong (faults.Link r) h = absurd (is_linked r (subst (λ (image : LinkedContent). IsWrongIn image (faults.Link r)) (of_it h.0 h.1) h.2))
  nothing_wrong (faults.Differs place kept linked) h = absurd (is_same place kept linked (subst (λ (image : LinkedContent). DiffersFirst image place kept linked) (of_it h.0 h.1) h.2))
  nothing_wrong faults.NoMemory h = refl

pub are_read : OneClass → OneImage → LinkedImagesAreRead
are_read law images bytes l f is of h = nothing_wrong law images bytes l is of f h
