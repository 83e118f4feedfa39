-- What is written for the loops of resolved classes can be read: places and numbers have 32 bits, and no file's name holds a line feed.
use Rattle.std.proofs.Common.{◌≡◌, ◌⊎◌, ℕ, ◌^◌, ◌<◌, Bool, true, false, ◌&&◌, List, [], ◌∷◌, ◌++◌, Contains, refl, sym, ◌∙◌, ap, subst, arith, lit<, Option, Some, None, inl, inr}
use Rattle.std.specs.Prelude.{◌==◌, slice_get, if◌then◌else◌}
use Rattle.std.specs.Option.{option_map, option_map_or}
use Rattle.std.proofs.lemmas.Bool.{eqb-true}
use Rattle.lists.specs.Lists.{onto}
use Rattle.lists.proofs.Lemmas.{none≢some, some_same, onto_some, map_some}
use Rattle.lists.specs.Members.{at_head, in_tail, cons_cases, nil_contains}
use Rattle.lists.specs.Tests.{and_left, and_right}
use Rattle.class_pool.specs.declared.class.ClassFile.{ClassFile}
use Rattle.class_pool.specs.declared.class.Code.{Code}
use Rattle.class_pool.specs.Found.{code_of}
use Rattle.class_rules.specs.Found.{MethodsHaveCode}
use Rattle.class_lookup.specs.Lookup.{Place, method_at}
use Rattle.program_tables.specs.Laws.{MethodsStandByNumber}
use Rattle.program_tables.specs.Numbers.{methods_by_number}
use Rattle.program_tables.specs.Resolved.{resolved}
use Rattle.program_tables.specs.Resolving.{IsResolved}
use Rattle.resolved_program.proofs.InstructionLemmas.{code_small}
use Rattle.ascii_text.specs.Line.{lines_of}
use Rattle.source_places.specs.Tables.Source.{source_file_of}
use Rattle.loop_rules.specs.declared.found.FoundLoop.{FoundLoop}
use Rattle.bound_texts.specs.Sources.Notes.{Subject, AtLine, AtPlace, Note, noted_bound, same_subject}
use Rattle.bound_texts.specs.Sources.Grammar.{SaysNotes, IsNote, GiveNotes, AreNotesRead}
use Rattle.name_laws.specs.Written.{written}
use Rattle.name_laws.specs.Laws.{WrittenAreWords}
use Rattle.bound_causes.specs.Shapes.{IsShape}
use Rattle.bound_causes.specs.declared.shapes.Shape.{Shape}
use Rattle.source_places.specs.Methods.Sources.{class_of, file_of, line_in, source_in, source_at}
use Rattle.source_headers.specs.Headers.{found_at, header_at, said, said_of_line, number_written}
use Rattle.source_headers.specs.Told.{headed_places}
use Rattle.source_headers.proofs.ToldLemmas.{header_in}
use Rattle.source_headers.proofs.LawLemmas.{lesser_is}
use Rattle.source_headers.proofs.ReadLemmas.{IsOnePart, IsReadable, lacks_none, word_is}

-- ---- places

code_case : (o : Option Place) (f : Place → Option Code) (k : Code) → option_map_or f o None ≡ Some k → (p : Place) × (f p ≡ Some k)
code_case None f k h = absurd (none≢some k h)
code_case (Some p) f k h = (p, h)

-- a place where a loop is headed has 16 bits
place_small : MethodsHaveCode → MethodsStandByNumber → (cs : List ClassFile) → IsResolved cs → (m : ℕ) (shape : Shape) → IsShape (resolved cs) m shape → (p : ℕ) → Contains (headed_places shape) p → p < 2 ^ 32
place_small have by_number cs r m shape is p c =
    let k = header_in by_number cs m shape is p c in
    let at = code_case (slice_get (methods_by_number cs) m) (λ q. onto (method_at cs q) code_of) k.code k.code_is in
    let small = code_small have cs r.grammar at.0 k.code at.1 in
    let wide : 65536 < 2 ^ 32 = lit< tt in
    omega (arith, k.within, small, wide)

-- ---- files

name_feedless : WrittenAreWords → (name : List ℕ) → ¬ Contains (written name) 10
name_feedless words [] = λ c. nil_contains 10 c
name_feedless words (b ∷ bs) =
    let part : IsOnePart (written (b ∷ bs)) = word_is (written (b ∷ bs)) (words (b ∷ bs) (λ e. let bad : ⊥ = cc in bad)) in
    lacks_none 10 (written (b ∷ bs)) part.feed

file_feedless : WrittenAreWords → (cs : List ClassFile) (m p : ℕ) (s : List ℕ × ℕ) → source_at cs m p ≡ Some s → ¬ Contains s.0 10
file_feedless words cs m p s h =
    let c = onto_some (class_of cs m) (source_in cs m p) s h in
    let file = onto_some (file_of c.0) (λ file. option_map (λ line. (file, line)) (line_in cs c.0 m p)) s c.2 in
    let line = map_some (λ (line : ℕ). (file.0, line)) (line_in cs c.0 m p) s file.2 in
    let name = map_some written (source_file_of c.0) file.0 file.1 in
    subst (λ (x : List ℕ). ¬ Contains x 10) (name.2 ∙ ap (λ (t : List ℕ × ℕ). t.0) line.2) (name_feedless words name.0)

-- ---- numbers that are said

bound_small : (line : List ℕ) (s : Subject) (n : ℕ) → IsNote line (record { subject = s; bound = n }) → n < 2 ^ 32
bound_small line (AtLine file number) n h = h.bound_is.number_is.2
bound_small line (AtPlace method pc) n h = h.bound.2

AreSmall : List Note → Type 0
AreSmall ns = (n : Note) → Contains ns n → n.bound < 2 ^ 32

line_small : (line : List ℕ) (first rest : List Note) → SaysNotes line first → AreSmall rest → AreSmall (first ++ rest)
unfolding AreSmall
line_small line [] rest h small = small
line_small line (n ∷ []) rest h small = λ x c.
    elim (cons_cases n x rest c) [
      | inl same ↦ subst (λ (y : Note). y.bound < 2 ^ 32) same (bound_small line n.subject n.bound h.1)
      | inr there ↦ small x there
    ]
line_small line (n ∷ k ∷ ns) rest h small = absurd h

lines_small : (lines : List (List ℕ)) (ns : List Note) → GiveNotes lines ns → AreSmall ns
unfolding AreSmall
lines_small [] ns h = λ n c. absurd (nil_contains n (subst (λ (xs : List Note). Contains xs n) h c))
lines_small (line ∷ lines) ns (first, rest, is, says, more) = subst AreSmall (sym is) (line_small line first rest says (lines_small lines rest more))

given_case : (s : Subject) (n : Note) (ns : List Note) (k : ℕ) (b : Bool) → (if b then Some n.bound else noted_bound s ns) ≡ Some k → (n.bound ≡ k) ⊎ (noted_bound s ns ≡ Some k)
given_case s n ns k true h = inl (some_same n.bound k h)
given_case s n ns k false h = inr h

said_small : (s : Subject) (ns : List Note) → AreSmall ns → (k : ℕ) → noted_bound s ns ≡ Some k → k < 2 ^ 32
unfolding AreSmall
said_small s [] small k h = absurd (none≢some k h)
said_small s (n ∷ ns) small k h =
    elim (given_case s n ns k (same_subject s n.subject) h) [
      | inl here ↦ subst (λ (x : ℕ). x < 2 ^ 32) here (small n (at_head n ns))
      | inr later ↦ said_small s ns (λ x c. small x (in_tail n x ns c)) k later
    ]

line_said_small : (ns : List Note) → AreSmall ns → (o : Option (List ℕ × ℕ)) (k : ℕ) → said_of_line ns o ≡ Some k → k < 2 ^ 32
line_said_small ns small None k h = absurd (none≢some k h)
line_said_small ns small (Some s) k h = said_small (AtLine s.0 s.1) ns small k h

-- ---- numbers that are found

-- the loop that has the number
pub record IsFoundAt (found : List FoundLoop) (m p n : ℕ) : Type 0 where
  pub loop : FoundLoop
  pub among : Contains found loop
  pub method : loop.method ≡ m
  pub place : loop.place ≡ p
  pub number : loop.bound ≡ n

found_case : (x : FoundLoop) (xs : List FoundLoop) (m p n : ℕ) (b : Bool) → (x.method == m && x.place == p) ≡ b → (if b then Some x.bound else found_at xs m p) ≡ Some n
    → (found_at xs m p ≡ Some n → IsFoundAt xs m p n) → IsFoundAt (x ∷ xs) m p n
found_case x xs m p n true e h later = record {
  loop = x;
  among = at_head x xs;
  method = eqb-true x.method m (and_left (x.method == m) (x.place == p) e);
  place = eqb-true x.place p (and_right (x.method == m) (x.place == p) e);
  number = some_same x.bound n h;
}
found_case x xs m p n false e h later =
    let f = later h in record { loop = f.loop; among = in_tail x f.loop xs f.among; method = f.method; place = f.place; number = f.number }

pub found_there : (found : List FoundLoop) (m p n : ℕ) → found_at found m p ≡ Some n → IsFoundAt found m p n
found_there [] m p n h = absurd (none≢some n h)
found_there (x ∷ xs) m p n h = found_case x xs m p n (x.method == m && x.place == p) refl h (found_there xs m p n)

-- ---- what is written

unfoldable pub AreFoundSmall : List FoundLoop → Type 0
AreFoundSmall found = (x : FoundLoop) → Contains found x → x.bound < 2 ^ 32

found_small : (found : List FoundLoop) → AreFoundSmall found → (m p n : ℕ) → found_at found m p ≡ Some n → n < 2 ^ 32
unfolding AreFoundSmall
found_small found small m p n h = let f = found_there found m p n h in subst (λ (x : ℕ). x < 2 ^ 32) f.number (small f.loop f.among)

pub number_small : (cs : List ClassFile) (lines : List ℕ) (notes : List Note) (found : List FoundLoop) → AreNotesRead lines notes → AreFoundSmall found → (m p : ℕ) (name : List ℕ) (n : ℕ)
    → number_written notes name (header_at cs found m p) ≡ Some n → n < 2 ^ 32
number_small cs lines notes found read small m p name n h =
    let notes_small = lines_small (lines_of lines) notes read.given in
    let header = header_at cs found m p in
    elim (lesser_is (found_at found m p) (said notes name header) n h) [
      | inl of ↦ found_small found small m p n of
      | inr say ↦
          elim (lesser_is (said_of_line notes (source_at cs m p)) (noted_bound (AtPlace name p) notes) n say) [
            | inl line ↦ line_said_small notes notes_small (source_at cs m p) n line
            | inr place ↦ said_small (AtPlace name p) notes notes_small n place
          ]
    ]

-- the headers of a method can be read
pub readable : WrittenAreWords → MethodsHaveCode → MethodsStandByNumber → (cs : List ClassFile) → IsResolved cs → (lines : List ℕ) (notes : List Note) (found : List FoundLoop) → AreNotesRead lines notes → AreFoundSmall found
    → (m : ℕ) (shape : Shape) → IsShape (resolved cs) m shape → (name : List ℕ) (p : ℕ) → Contains (headed_places shape) p → IsReadable notes name (header_at cs found m p)
readable words have by_number cs r lines notes found read small m shape is name p c = record {
  place = place_small have by_number cs r m shape is p c;
  file = file_feedless words cs m p;
  number = number_small cs lines notes found read small m p name;
}
