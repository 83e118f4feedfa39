-- Files are refused for one cause.
use Rattle.std.proofs.Common.{◌≡◌, ◌≢◌, ℕ, zero, suc, ◌<◌, ◌⊎◌, inl, inr, List, [], ◌∷◌, take, Some, refl, sym, ap, ap₂, ◌∙◌, subst, arith}
use Rattle.std.specs.Prelude.{slice_get}
use Rattle.std.proofs.lemmas.Bool.{cases_lt}
use Rattle.lists.specs.Lists.{first}
use Rattle.lists.proofs.Lemmas.{none≢some, some_same}
use Rattle.class_pool.specs.declared.class.ClassFile.{ClassFile}
use Rattle.class_file.specs.Grammar.{IsOtherVersion}
use Rattle.class_file.proofs.ClassLaws.{other_header}
use Rattle.program_tables.specs.Numbers.{methods_by_number}
use Rattle.class_lookup.specs.Lookup.{Place}
use Rattle.bytecode_typing.specs.Rules as rules
use Rattle.verifier_types.specs.declared.checked.Rule.{Rule}
use Rattle.verifier_types.specs.declared.checked.Rule.TheVariants as told
use Rattle.bytecode_verifier.specs.declared.fault.MethodRule.{MethodRule}
use Rattle.bytecode_verifier.specs.declared.fault.MethodRule.TheVariants as codes
use Rattle.bytecode_verifier.specs.Failure.{Broken, Opcode, Table, Map, Walk, Failure, IsVerified, FailsFirst, broken_seen, method_failure}
use Rattle.image_builder.specs.Passed.{CountPastLimit}
use Rattle.image_layout.specs.Layout.{first_passed}
use Rattle.program_resolution.specs.declared.refusal.ProgramRefusal.{ProgramRefusal}
use Rattle.program_resolution.specs.declared.refusal.ProgramRefusal.TheVariants as resolving
use Rattle.program_resolution.specs.Linked.{number_of}
use Rattle.program_resolution.specs.Refusals.{refusals}
use Rattle.program_resolution.specs.Resolving.{AreClassesOf, IsUnread, IsFirstUnread, IsFirstOfRead, IsProgramOf}
use Rattle.jopizer.specs.declared.refusal.LinkRefusal.{LinkRefusal}
use Rattle.jopizer.specs.declared.refusal.LinkRefusal.TheVariants as answers
use Rattle.jopizer.specs.Linked.{file_length, image_with}
use Rattle.jopizer.specs.Refused.{FailsInFile, PassesLimit, FileIsTooLong, IsLinkRefusal}
use Rattle.jopizer.specs.Laws.{RefusalsAreOne}
use Rattle.jopizer.proofs.OneLemmas.{OneClass, same_classes, same_program}
use Rattle.jopizer.proofs.RefusedLemmas.{class_at, read, is_resolved}

-- ---- files that aren't read

abbrev NoClass : List ℕ → Type 0
NoClass bytes = (major : ℕ) → IsOtherVersion bytes major → ⊥

abbrev Cause : (file : ℕ) → (bytes : List ℕ) → ProgramRefusal → Type 0
Cause file bytes r = ((r ≡ resolving.BadClass file) × NoClass bytes) ⊎ ((major : ℕ) × (r ≡ resolving.UnsupportedVersion file major) × IsOtherVersion bytes major)

cause : (file : ℕ) (bytes : List ℕ) (r : ProgramRefusal) → IsUnread file bytes r → Cause file bytes r
cause file bytes (resolving.BadClass f) h = inl (ap resolving.BadClass h.0, h.2)
cause file bytes (resolving.UnsupportedVersion f major) h = inr (major, ap (λ (x : ℕ). resolving.UnsupportedVersion x major) h.0, h.1)
cause file bytes (resolving.Duplicate a b) h = absurd h
cause file bytes (resolving.Unsupported a b c) h = absurd h
cause file bytes (resolving.Unresolved a b c) h = absurd h
cause file bytes (resolving.BadHierarchy a) h = absurd h
cause file bytes resolving.NoMain h = absurd h
cause file bytes (resolving.TooManyClasses a b) h = absurd h
cause file bytes resolving.NoMemory h = absurd h

one_version : (bytes : List ℕ) (m n : ℕ) → IsOtherVersion bytes m → IsOtherVersion bytes n → m ≡ n
one_version bytes m n a b =
    let here : (ℕ × ℕ) × List ℕ = ((a.minor, m), a.rest) in
    let there : (ℕ × ℕ) × List ℕ = ((b.minor, n), b.rest) in
    ap (λ (p : (ℕ × ℕ) × List ℕ). p.0.1) (some_same here there (sym (other_header bytes m a) ∙ other_header bytes n b))

one_cause : (file : ℕ) (bytes : List ℕ) (r s : ProgramRefusal) → Cause file bytes r → Cause file bytes s → r ≡ s
one_cause file bytes r s (inl a) (inl b) = a.0 ∙ sym b.0
one_cause file bytes r s (inl a) (inr b) = absurd (a.1 b.0 b.2)
one_cause file bytes r s (inr a) (inl b) = absurd (b.1 a.0 a.2)
one_cause file bytes r s (inr a) (inr b) = a.1 ∙ (ap (resolving.UnsupportedVersion file) (one_version bytes a.0 b.0 a.2 b.2) ∙ sym b.1)

taken : {X : Type 0} (xs : List X) (n i : ℕ) → i < n → slice_get (take n xs) i ≡ slice_get xs i
taken xs zero i lt = absurd (omega arith)
taken [] (suc n) i lt = refl
taken (x ∷ xs) (suc n) zero lt = refl
taken (x ∷ xs) (suc n) (suc i) lt = taken xs n i (omega arith)

-- a file before one that isn't read is
not_before : (files : List (List ℕ)) (before : List ClassFile) (i j : ℕ) (bytes : List ℕ) (r : ProgramRefusal) → AreClassesOf (take j files) before → slice_get files i ≡ Some bytes
    → i < j → IsUnread i bytes r → ⊥
not_before files before i j bytes r are at lt unread =
    let k = class_at (take j files) before i bytes are (taken files j i lt ∙ at) in
    read i bytes k.0 r k.1 unread

one_unread : (files : List (List ℕ)) (r s : ProgramRefusal) → IsFirstUnread files r → IsFirstUnread files s → r ≡ s
one_unread files r s u v =
    elim (cases_lt u.file v.file) [
      | inl lt ↦ absurd (not_before files v.before u.file v.file u.bytes r v.read u.there lt u.unread)
      | inr ge ↦
          elim (cases_lt v.file u.file) [
            | inl lt ↦ absurd (not_before files u.before v.file u.file v.bytes s u.read v.there lt v.unread)
            | inr le ↦
                let file : u.file ≡ v.file = omega arith in
                let bytes = some_same u.bytes v.bytes (sym u.there ∙ (ap (slice_get files) file ∙ v.there)) in
                let moved : IsUnread v.file v.bytes r = subst (λ (b : List ℕ). IsUnread v.file b r) bytes (subst (λ (f : ℕ). IsUnread f u.bytes r) file u.unread) in
                one_cause v.file v.bytes r s (cause v.file v.bytes r moved) (cause v.file v.bytes s v.unread)
          ]
    ]

-- ---- what isn't resolved

abbrev Resolves : (files : List (List ℕ)) (main : List ℕ) → ProgramRefusal → Type 0
Resolves files main r = IsFirstUnread files r ⊎ IsFirstOfRead files main r

resolves : (files : List (List ℕ)) (main : List ℕ) (r : ProgramRefusal) → IsLinkRefusal files main (answers.Resolving r) → Resolves files main r
resolves files main (resolving.BadClass f) h = h
resolves files main (resolving.UnsupportedVersion f major) h = h
resolves files main (resolving.Duplicate a b) h = h
resolves files main (resolving.Unsupported a b c) h = h
resolves files main (resolving.Unresolved a b c) h = h
resolves files main (resolving.BadHierarchy a) h = h
resolves files main resolving.NoMain h = h
resolves files main (resolving.TooManyClasses a b) h = h
resolves files main resolving.NoMemory h = absurd h

one_resolved : OneClass → (files : List (List ℕ)) (main : List ℕ) (r s : ProgramRefusal) → Resolves files main r → Resolves files main s → r ≡ s
one_resolved law files main r s (inl u) (inl v) = one_unread files r s u v
one_resolved law files main r s (inl u) (inr f) = absurd (let k = class_at files f.classes u.file u.bytes f.read u.there in read u.file u.bytes k.0 r k.1 u.unread)
one_resolved law files main r s (inr f) (inl u) = absurd (let k = class_at files f.classes u.file u.bytes f.read u.there in read u.file u.bytes k.0 s k.1 u.unread)
one_resolved law files main r s (inr f) (inr g) =
    some_same r s (sym f.first ∙ (ap (λ (ks : List ClassFile). first (refusals ks main)) (same_classes law files f.classes g.classes f.read g.read) ∙ g.first))

-- ---- what isn't verified

rule_told : rules.Rule → Rule
rule_told rules.Flow = told.Flow
rule_told rules.Merge = told.Merge
rule_told rules.Operand = told.Operand
rule_told rules.Stack = told.Stack
rule_told rules.Access = told.Access
rule_told rules.Init = told.Init
rule_told rules.Target = told.Target
rule_told rules.Handled = told.Handled

broken_told : Broken → MethodRule
broken_told Opcode = codes.Opcode
broken_told Table = codes.Table
broken_told Map = codes.Map
broken_told (Walk rule) = codes.Walk (rule_told rule)

told_seen : (r : MethodRule) → broken_told (broken_seen r) ≡ r
unfolding broken_told rule_told
told_seen codes.Opcode = refl
told_seen codes.Table = refl
told_seen codes.Map = refl
told_seen (codes.Walk told.Flow) = refl
told_seen (codes.Walk told.Merge) = refl
told_seen (codes.Walk told.Operand) = refl
told_seen (codes.Walk told.Stack) = refl
told_seen (codes.Walk told.Access) = refl
told_seen (codes.Walk told.Init) = refl
told_seen (codes.Walk told.Target) = refl
told_seen (codes.Walk told.Handled) = refl

one_rule : (r s : MethodRule) → broken_seen r ≡ broken_seen s → r ≡ s
one_rule r s e = sym (told_seen r) ∙ (ap broken_told e ∙ told_seen s)

one_number : (cs : List ClassFile) (m n p q : ℕ) (a b : Broken) → FailsFirst cs m p a → FailsFirst cs n q b → m ≡ n
one_number cs m n p q a b h g =
    elim (cases_lt m n) [
      | inl lt ↦ absurd (none≢some (p, a) (sym (g.before m lt) ∙ h.fails))
      | inr ge ↦
          elim (cases_lt n m) [
            | inl lt ↦ absurd (none≢some (q, b) (sym (h.before n lt) ∙ g.fails))
            | inr le ↦ omega arith
          ]
    ]

one_failure : (cs : List ClassFile) (m n file file' method method' p q : ℕ) (r s : MethodRule) → FailsFirst cs m p (broken_seen r) → FailsFirst cs n q (broken_seen s)
    → slice_get (methods_by_number cs) m ≡ Some (number_of file, method) → slice_get (methods_by_number cs) n ≡ Some (number_of file', method')
    → answers.NotVerified file method p r ≡ answers.NotVerified file' method' q s
one_failure cs m n file file' method method' p q r s h g at there =
    let number = one_number cs m n p q (broken_seen r) (broken_seen s) h g in
    let x : Failure = (p, broken_seen r) in
    let y : Failure = (q, broken_seen s) in
    let failure : x ≡ y = some_same x y (sym h.fails ∙ (ap (method_failure cs) number ∙ g.fails)) in
    let here : Place = (number_of file, method) in
    let other : Place = (number_of file', method') in
    let place : here ≡ other = some_same here other (sym at ∙ (ap (slice_get (methods_by_number cs)) number ∙ there)) in
    let classes : number_of file ≡ number_of file' = ap (λ (z : Place). z.0) place in
    let files : file ≡ file' = omega (arith, classes) in
    let rule = one_rule r s (ap (λ (z : Failure). z.1) failure) in
    ap₂ (λ (f i : ℕ). answers.NotVerified f i p r) files (ap (λ (z : Place). z.1) place)
    ∙ ap₂ (λ (pc : ℕ) (z : MethodRule). answers.NotVerified file' method' pc z) (ap (λ (z : Failure). z.0) failure) rule

-- ---- all of it

module _ (law : OneClass) (files : List (List ℕ)) (main : List ℕ) where
  same : (cs ds : List ClassFile) → IsProgramOf files main cs → IsProgramOf files main ds → cs ≡ ds
  same = same_program law files main

  verified : (cs : List ClassFile) → IsProgramOf files main cs → IsVerified cs → (file method pc : ℕ) (rule : MethodRule) → FailsInFile files main file method pc rule → ⊥
  unfolding IsVerified
  verified cs p is file method pc rule h =
      none≢some (pc, broken_seen rule) (sym (is h.number) ∙ (ap (λ (xs : List ClassFile). method_failure xs h.number) (sym (same h.classes cs h.program p)) ∙ h.fails.fails))

  failures : (file file' method method' p q : ℕ) (r s : MethodRule) → FailsInFile files main file method p r → FailsInFile files main file' method' q s
      → answers.NotVerified file method p r ≡ answers.NotVerified file' method' q s
  failures file file' method method' p q r s h g =
      let e = same h.classes g.classes h.program g.program in
      one_failure g.classes h.number g.number file file' method method' p q r s (subst (λ (cs : List ClassFile). FailsFirst cs h.number p (broken_seen r)) e h.fails) g.fails
      (subst (λ (cs : List ClassFile). slice_get (methods_by_number cs) h.number ≡ Some (number_of file, method)) e h.place) g.place

  limits : (w v : _) (c d l m : ℕ) → PassesLimit files main w c l → PassesLimit files main v d m → answers.TooLarge w c l ≡ answers.TooLarge v d m
  limits w v c d l m h g =
      let x : CountPastLimit = (w, c, l) in
      let y : CountPastLimit = (v, d, m) in
      let e : x ≡ y = some_same x y (sym h.passed ∙ (ap first_passed (same h.classes g.classes h.program g.program) ∙ g.passed)) in
      ap (λ (z : CountPastLimit). answers.TooLarge z.0 z.1 z.2) e

  within : (w : _) (c d l m : ℕ) → PassesLimit files main w c l → FileIsTooLong files main d m → ⊥
  within w c d l m h g = none≢some (w, c, l) (sym g.within ∙ (ap first_passed (same g.classes h.classes g.program h.program) ∙ h.passed))

  lengths : (c d l m : ℕ) → FileIsTooLong files main c l → FileIsTooLong files main d m → answers.FileTooLarge c l ≡ answers.FileTooLarge d m
  lengths c d l m h g =
      let long = ap (λ (xs : List ClassFile). file_length (image_with files main xs)) (same h.classes g.classes h.program g.program) in
      ap₂ answers.FileTooLarge (h.long.counted ∙ (long ∙ sym g.long.counted)) (h.long.limited ∙ sym g.long.limited)

  one : (a b : LinkRefusal) → a ≢ answers.NoMemory → b ≢ answers.NoMemory → IsLinkRefusal files main a → IsLinkRefusal files main b → a ≡ b
  one answers.NoMemory b na nb h g = absurd (na refl)
  one (answers.Resolving r) answers.NoMemory na nb h g = absurd (nb refl)
  one (answers.Resolving r) (answers.Resolving s) na nb h g = ap answers.Resolving (one_resolved law files main r s (resolves files main r h) (resolves files main s g))
  one (answers.Resolving r) (answers.NotVerified file method pc rule) na nb h g = absurd (is_resolved law files main g.classes g.program r h)
  one (answers.Resolving r) (answers.TooLarge what count limit) na nb h g = absurd (is_resolved law files main g.classes g.program r h)
  one (answers.Resolving r) (answers.FileTooLarge count limit) na nb h g = absurd (is_resolved law files main g.classes g.program r h)
  one (answers.NotVerified file method pc rule) answers.NoMemory na nb h g = absurd (nb refl)
  one (answers.NotVerified file method pc rule) (answers.Resolving s) na nb h g = absurd (is_resolved law files main h.classes h.program s g)
  one (answers.NotVerified file method pc rule) (answers.NotVerified file' method' pc' rule') na nb h g = failures file file' method method' pc pc' rule rule' h g
  one (answers.NotVerified file method pc rule) (answers.TooLarge what count limit) na nb h g = absurd (verified g.classes g.program g.verified file method pc rule h)
  one (answers.NotVerified file method pc rule) (answers.FileTooLarge count limit) na nb h g = absurd (verified g.classes g.program g.verified file method pc rule h)
  one (answers.TooLarge what count limit) answers.NoMemory na nb h g = absurd (nb refl)
  one (answers.TooLarge what count limit) (answers.Resolving s) na nb h g = absurd (is_resolved law files main h.classes h.program s g)
  one (answers.TooLarge what count limit) (answers.NotVerified file method pc rule) na nb h g = absurd (verified h.classes h.program h.verified file method pc rule g)
  one (answers.TooLarge what count limit) (answers.TooLarge what' count' limit') na nb h g = limits what what' count count' limit limit' h g
  one (answers.TooLarge what count limit) (answers.FileTooLarge count' limit') na nb h g = absurd (within what count count' limit limit' h g)
  one (answers.FileTooLarge count limit) answers.NoMemory na nb h g = absurd (nb refl)
  one (answers.FileTooLarge count limit) (answers.Resolving s) na nb h g = absurd (is_resolved law files main h.classes h.program s g)
  one (answers.FileTooLarge count limit) (answers.NotVerified file method pc rule) na nb h g = absurd (verified h.classes h.program h.verified file method pc rule g)
  one (answers.FileTooLarge count limit) (answers.TooLarge what' count' limit') na nb h g = absurd (within what' count' count limit' limit g h)
  one (answers.FileTooLarge count limit) (answers.FileTooLarge count' limit') na nb h g = lengths count count' limit limit' h g

pub refusals_are_one : OneClass → RefusalsAreOne
refusals_are_one law files main a b = one law files main a b
