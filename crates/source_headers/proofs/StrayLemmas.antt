-- The first bound that strays, and the text where none does.
use Rattle.std.proofs.Common.{◌≡◌, ℕ, zero, suc, ◌<◌, List, [], ◌∷◌, ◌++◌, length, Contains, ◌∙◌, ap, arith, Some, inl, inr, Vec, Global, ℤ, Option}
use Rattle.std.specs.Prelude.{slice_get, Result, Ok, Err, IfOk, IfErr}
use Rattle.lists.proofs.Lemmas.{none≢some, some_same}
use Rattle.lists.specs.Members.{cons_cases, nil_contains}
use Rattle.class_pool.specs.declared.class.ClassFile.{ClassFile}
use Rattle.program_tables.specs.Resolved.{resolved}
use Rattle.method_flow.specs.Flow.{Flow, IsFlowOf}
use Rattle.loop_rules.specs.declared.found.FoundLoop.{FoundLoop}
use Rattle.loop_rules.specs.Finding.{AreCountedLoops}
use Rattle.loop_rules.specs.Sites.{int_at}
use Rattle.program_sites.specs.Ints.Constants.{AreConstants}
use Rattle.bound_texts.specs.Sources.Notes.{Note}
use Rattle.bound_texts.specs.Sources.Grammar.{AreNotesRead}
use Rattle.source_headers.specs.declared.fault.HeaderFault.{HeaderFault}
use Rattle.source_headers.specs.declared.fault.HeaderFault.TheVariants.{BadLine, TwiceLine, Stray, NoMemory}
use Rattle.source_headers.specs.declared.gathering.Gathered.{Gathered}
use Rattle.source_headers.specs.Files.{IsHeaderFile, IsHeaderFault}
use Rattle.source_headers.specs.Gathered.{AreGathered, AreKnown, IsLacking}
use Rattle.source_headers.specs.Lacking.{NamesSubject, IsLackingFault, IsStrayFault, AreUsedBy, IsFileBy}
use Rattle.source_headers.proofs.GatherLemmas.{all_known, texts_are, stray_is, is_stray}

-- ---- the first that lacks

-- a list on either side of an item, those before it by number
record IsSplit (X : Type 0) (xs : List X) (i : ℕ) (x : X) : Type 0 where
  before : List X
  after : List X
  parts : xs ≡ before ++ x ∷ after
  earlier : (y : X) → Contains before y → (k : ℕ) × (k < i) × (slice_get xs k ≡ Some y)

split : {X : Type 0} (xs : List X) (i : ℕ) (x : X) → slice_get xs i ≡ Some x → IsSplit X xs i x
split [] i x h = absurd (none≢some x h)
split (y ∷ ys) zero x h = record { before = []; after = ys; parts = ap (λ (z : _). z ∷ ys) (some_same y x h); earlier = λ z c. absurd (nil_contains z c) }
split (y ∷ ys) (suc i) x h =
    let r = split ys i x h in
    record {
      before = y ∷ r.before;
      after = r.after;
      parts = ap (λ (zs : List _). y ∷ zs) r.parts;
      earlier = λ z c.
          elim (cons_cases y z r.before c) [
            | inl same ↦ (0, omega arith, ap Some same)
            | inr there ↦ let e = r.earlier z there in (suc e.0, omega (arith, e.1), e.2)
          ];
    }

-- none of so many lacks
abbrev pub AreUsedBelow : Gathered → List Note → ℕ → Type 0
AreUsedBelow g notes i = (k : ℕ) (n : Note) → k < i → slice_get notes k ≡ Some n → ¬ IsLacking g n.subject

module _ (g : Gathered) (notes : List Note) where
  pub first_lacking : (i : ℕ) (n : Note) (fault : HeaderFault) → AreUsedBelow g notes i → slice_get notes i ≡ Some n → IsLacking g n.subject → NamesSubject n.subject fault → IsLackingFault g notes fault
  first_lacking i n (Stray text) used at lacks names =
      let s = split notes i n at in
      record {
        before = s.before;
        note = n;
        after = s.after;
        parts = s.parts;
        lacking = lacks;
        first = λ m c. let e = s.earlier m c in used e.0 m e.1 e.2;
        text_is = names;
      }
  first_lacking i n NoMemory used at lacks names = tt
  first_lacking i n (BadLine k) used at lacks names = absurd names
  first_lacking i n (TwiceLine k) used at lacks names = absurd names

-- ---- of the program

module _ (cs : List ClassFile) (notes : List Note) (found : List FoundLoop) (f : Flow) (flow : IsFlowOf (resolved cs) f) (g : Gathered) (h : AreGathered cs notes found (length f.methods) g) where
  known : AreKnown cs g
  known = all_known cs notes found f flow g h

  fault_case : (fault : HeaderFault) → IsLackingFault g notes fault → IsStrayFault cs notes fault
  fault_case (Stray text) l = record {
    before = l.before;
    note = l.note;
    after = l.after;
    parts = l.parts;
    stray = stray_is cs g known l.note.subject l.lacking;
    first = λ n c s. l.first n c (is_stray cs g known n.subject s);
    text_is = l.text_is;
  }
  fault_case NoMemory l = tt
  fault_case (BadLine n) l = absurd l
  fault_case (TwiceLine n) l = absurd l

  pub fault_is : (r : Result (Vec ℕ Global) HeaderFault) → IfErr r (IsLackingFault g notes) → IfErr r (IsStrayFault cs notes)
  fault_is (Ok text) l = tt
  fault_is (Err fault) l = fault_case fault l

  pub file_is : (r : Result (Vec ℕ Global) HeaderFault) → IfOk r (λ text. text.items ≡ g.text.items) → IfOk r (λ _. AreUsedBy g notes) → IfOk r (λ text. IsFileBy cs notes found text.items)
  file_is (Ok text) is used = record {
    used = λ n c s. used n c (is_stray cs g known n.subject s);
    texts = h.texts;
    methods = texts_are cs notes found f flow g h;
    text_is = is ∙ h.text_is;
  }
  file_is (Err fault) is used = tt

-- ---- by what is found

pub noted_is : (cs : List ClassFile) (notes : List Note) (constants : List (Option ℤ)) (found : List FoundLoop) → AreConstants cs constants → AreCountedLoops (resolved cs) (int_at constants) found
    → (r : Result (Vec ℕ Global) HeaderFault) → IfOk r (λ text. IsFileBy cs notes found text.items) → IfOk r (λ text. (lines : List ℕ) → AreNotesRead lines notes → IsHeaderFile cs lines text.items)
noted_is cs notes constants found are counted (Ok text) h = λ lines read.
    record { notes = notes; read = read; used = h.used; constants = constants; are = are; found = found; counted = counted; texts = h.texts; methods = h.methods; text_is = h.text_is }
noted_is cs notes constants found are counted (Err fault) h = tt

stray_case : (cs : List ClassFile) (notes : List Note) (fault : HeaderFault) → IsStrayFault cs notes fault → (lines : List ℕ) → AreNotesRead lines notes → IsHeaderFault cs lines fault
stray_case cs notes (Stray text) h lines read = (notes, read, h)
stray_case cs notes NoMemory h lines read = tt
stray_case cs notes (BadLine n) h lines read = absurd h
stray_case cs notes (TwiceLine n) h lines read = absurd h

pub noted_fault : (cs : List ClassFile) (notes : List Note) (r : Result (Vec ℕ Global) HeaderFault) → IfErr r (IsStrayFault cs notes)
    → IfErr r (λ fault. (lines : List ℕ) → AreNotesRead lines notes → IsHeaderFault cs lines fault)
noted_fault cs notes (Ok text) h = tt
noted_fault cs notes (Err fault) h = stray_case cs notes fault h

-- ---- by the lines

pub file_of_lines : (cs : List ClassFile) (lines : List ℕ) (notes : List Note) → AreNotesRead lines notes → (r : Result (Vec ℕ Global) HeaderFault)
    → IfOk r (λ text. (lines : List ℕ) → AreNotesRead lines notes → IsHeaderFile cs lines text.items) → IfOk r (λ text. IsHeaderFile cs lines text.items)
file_of_lines cs lines notes read (Ok text) h = h lines read
file_of_lines cs lines notes read (Err fault) h = tt

pub fault_of_lines : (cs : List ClassFile) (lines : List ℕ) (notes : List Note) → AreNotesRead lines notes → (r : Result (Vec ℕ Global) HeaderFault)
    → IfErr r (λ fault. (lines : List ℕ) → AreNotesRead lines notes → IsHeaderFault cs lines fault) → IfErr r (IsHeaderFault cs lines)
fault_of_lines cs lines notes read (Ok text) h = tt
fault_of_lines cs lines notes read (Err fault) h = h lines read
