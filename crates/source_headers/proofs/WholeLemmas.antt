-- The text of the headers of a program is read as the numbers that are written.
use Rattle.std.proofs.Common.{◌≡◌, ◌↔◌, ℕ, suc, ◌+◌, ◌*◌, ◌<◌, ◌≤◌, true, false, List, [], ◌∷◌, ◌++◌, length, Contains, refl, sym, ◌∙◌, ap, subst, arith, Option, Some, None, inl, inr, ◌⊎◌}
use Rattle.std.specs.Prelude.{IsSome, is_some, slice_get}
use Rattle.std.specs.List.{concat}
use Rattle.std.proofs.lemmas.Bool.{cases_lt}
use Rattle.std.proofs.lemmas.List.Elements.{Contains-append_left, Contains-append_right, Contains-append_cases}
use Rattle.std.proofs.lemmas.Option.{slice_get_within}
use Rattle.lists.proofs.Lemmas.{onto_some}
use Rattle.lists.specs.Lists.{onto}
use Rattle.lists.specs.Members.{nil_contains}
use Rattle.class_pool.specs.declared.class.ClassFile.{ClassFile}
use Rattle.class_rules.specs.Found.{MethodsHaveCode}
use Rattle.bytecode_model.specs.Program.{Body, body_of}
use Rattle.program_tables.specs.Laws.{MethodsStandByNumber}
use Rattle.program_tables.specs.Resolved.{resolved}
use Rattle.program_tables.specs.Resolving.{IsResolved}
use Rattle.name_laws.specs.Laws.{WrittenAreWords, WrittenNamesAreOne}
use Rattle.name_laws.specs.Written.{written_name}
use Rattle.compact_walks.specs.Laws.{GraphsAreMoved, PartsAreSound, EndsAreOne}
use Rattle.loop_nest.specs.Digraph.{Digraph}
use Rattle.loop_nest.specs.Walks.{IsHeader}
use Rattle.ascii_text.specs.Line.{lines_of}
use Rattle.bound_texts.specs.Loops.Bounds.{LoopBound, bound_in, AreOfDifferentLoops}
use Rattle.bound_texts.specs.Loops.Grammar.{Give, IsRead}
use Rattle.bound_texts.specs.Loops.Laws.{GivesOne}
use Rattle.loop_rules.specs.declared.found.FoundLoop.{FoundLoop}
use Rattle.loop_rules.specs.Finding.{IsCountedLoop}
use Rattle.loop_rules.specs.Sites.{int_at}
use Rattle.bound_texts.specs.Sources.Notes.{Note, AtPlace, noted_bound as bound_in_notes}
use Rattle.bound_rules.specs.Laws.{GraphsAreOne}
use Rattle.bound_rules.specs.Bounding.{IsLeftWith, AreReducible, HaveLines}
use Rattle.bound_causes.specs.Shapes.{IsShape}
use Rattle.bound_causes.specs.declared.shapes.Shape.{Shape}
use Rattle.bound_causes.specs.declared.shapes.Shape.TheVariants.{Irreducible, Reducible}
use Rattle.method_flow.specs.Graphs.{IsGraphOf}
use Rattle.method_flow.specs.Keeping.{BoundOf}
use Rattle.method_flow.specs.Regions.{IsWithin}
use Rattle.source_places.specs.Methods.Sources.{source_at}
use Rattle.source_headers.specs.Headers.{found_at, header_at, said, said_of_line}
use Rattle.source_headers.specs.Straying.{MayBeBounded, IsHeaderAt}
use Rattle.source_headers.specs.Files.{AreMethodTexts, IsHeaderFile}
use Rattle.source_headers.specs.Laws.{written_of}
use Rattle.source_headers.specs.Whole.{IsWritten, GivesWritten, HeaderFilesAreRead, bounds_by, BoundsWritten, FilesBoundHeaders, FileBoundsAreFoundOrSaid, RootsHaveLines, KeptNotesKeepTheFile}
use Rattle.source_headers.proofs.ToldLemmas.{not_both}
use Rattle.source_headers.proofs.BoundLemmas.{first_is, not_absent, both_different}
use Rattle.source_headers.proofs.RangeLemmas.{AreFoundSmall, found_there}
use Rattle.source_headers.proofs.LawLemmas.{lesser_is, shape_there, have_lines, kept}
use Rattle.source_headers.proofs.MethodLemmas.{MethodGives, method_given}

-- ---- the methods from one on

-- the bound is written for one of so many methods, from number m on
record IsWrittenFrom (cs : List ClassFile) (notes : List Note) (found : List FoundLoop) (m count : ℕ) (b : LoopBound) : Type 0 where
  pub method : ℕ
  pub least : m ≤ method
  pub below : method < m + count
  pub is : IsWritten cs notes found method b

record GiveFrom (cs : List ClassFile) (notes : List Note) (found : List FoundLoop) (m : ℕ) (texts : List (List ℕ)) : Type 0 where
  pub bounds : List LoopBound
  pub given : Give (lines_of (concat texts)) bounds
  pub each : (b : LoopBound) → Contains bounds b ↔ IsWrittenFrom cs notes found m (length texts) b
  pub different : AreOfDifferentLoops bounds

module _ (names : WrittenNamesAreOne) (cs : List ClassFile) (r : IsResolved cs) (notes : List Note) (found : List FoundLoop) where
  one_method : (m n : ℕ) (b c : LoopBound) → IsWritten cs notes found m b → IsWritten cs notes found n c → c.name ≡ b.name → m ≡ n
  one_method m n b c h k same = names.one cs r m n h.header.bounded.0 k.header.bounded.0 (sym h.name ∙ sym same ∙ k.name)

  module _ (m : ℕ) (text : List ℕ) (texts : List (List ℕ)) (first : MethodGives cs notes found m text) (rest : GiveFrom cs notes found (suc m) texts) where
    to_from : (b : LoopBound) → Contains first.bounds b ⊎ Contains rest.bounds b → IsWrittenFrom cs notes found m (suc (length texts)) b
    to_from b (inl c) = record { method = m; least = omega arith; below = omega arith; is = (first.each b).0 c }
    to_from b (inr c) =
        let w = (rest.each b).0 c in
        let le : suc m ≤ w.method = w.least in
        let lt : w.method < suc m + length texts = w.below in
        record { method = w.method; least = omega (arith, le); below = omega (arith, lt); is = w.is }

    from_from : (b : LoopBound) → IsWrittenFrom cs notes found m (suc (length texts)) b → Contains (first.bounds ++ rest.bounds) b
    from_from b w =
        let le : m ≤ w.method = w.least in
        let lt : w.method < m + suc (length texts) = w.below in
        elim (cases_lt m w.method) [
          | inl later ↦
              Contains-append_right first.bounds rest.bounds b
              ((rest.each b).1 (record { method = w.method; least = omega (arith, later); below = omega (arith, lt); is = w.is }))
          | inr here ↦
              let same : w.method ≡ m = omega (arith, le, here) in
              Contains-append_left first.bounds rest.bounds b ((first.each b).1 (subst (λ (n : ℕ). IsWritten cs notes found n b) same w.is))
        ]

    apart : (x y : LoopBound) → Contains first.bounds x → Contains rest.bounds y → y.name ≡ x.name → ⊥
    apart x y c d same =
        let w = (rest.each y).0 d in
        let is : m ≡ w.method = one_method m w.method x y ((first.each x).0 c) w.is same in
        let least : suc m ≤ w.method = w.least in
        omega (arith, is, least)

    both : GiveFrom cs notes found m (text ∷ texts)
    both = record {
      bounds = first.bounds ++ rest.bounds;
      given = first.given (concat texts) rest.bounds rest.given;
      each = λ b. (λ c. to_from b (Contains-append_cases first.bounds rest.bounds b c), from_from b);
      different = both_different first.bounds rest.bounds first.different rest.different apart;
    }

  none_from : (m : ℕ) (b : LoopBound) → Contains {X = LoopBound} [] b ↔ IsWrittenFrom cs notes found m 0 b
  none_from m b = (
    λ c. absurd (nil_contains b c),
    λ w.
        let le : m ≤ w.method = w.least in
        let lt : w.method < m + 0 = w.below in
        absurd (omega (arith, le, lt)),
  )

  texts_given : (texts : List (List ℕ)) (m : ℕ) → ((k : ℕ) (text : List ℕ) → slice_get texts k ≡ Some text → MethodGives cs notes found (m + k) text) → GiveFrom cs notes found m texts
  texts_given [] m h = record { bounds = []; given = refl; each = none_from m; different = tt }
  texts_given (text ∷ texts) m h =
      let here : m + 0 ≡ m = omega arith in
      both m text texts (subst (λ (n : ℕ). MethodGives cs notes found n text) here (h 0 text refl))
      (texts_given texts (suc m) (λ k t at. let next : m + suc k ≡ suc m + k = omega arith in subst (λ (n : ℕ). MethodGives cs notes found n t) next (h (suc k) t at)))

  -- ---- of all methods

  module _ (texts : List (List ℕ)) (are : AreMethodTexts cs notes found texts) (all : GiveFrom cs notes found 0 texts) where
    there : (m : ℕ) (b : LoopBound) → IsWritten cs notes found m b → Contains all.bounds b
    there m b is =
        let below : m < length texts = (are.coded m).0 is.header.bounded.0 in
        (all.each b).1 (record { method = m; least = omega arith; below = omega (arith, below); is = is })

    -- what is given by the name of a method with code is written for it
    written_for : (m p n : ℕ) → IsSome (body_of (resolved cs) m) → bound_in (written_name cs m) p all.bounds ≡ Some n → IsWritten cs notes found m (record { name = written_name cs m; pc = p; bound = n })
    written_for m p n coded h =
        let f = first_is (written_name cs m) p n all.bounds h in
        let w = (all.each f.given).0 f.among in
        let same : w.method ≡ m = names.one cs r w.method m w.is.header.bounded.0 coded (sym w.is.name ∙ f.is.name) in
        let number : f.given ≡ record { name = written_name cs m; pc = p; bound = n } =
        ap (λ (name : List ℕ). record { name = name; pc = f.given.pc; bound = f.given.bound }) f.is.name ∙ ap (λ (q : ℕ). record { name = written_name cs m; pc = q; bound = f.given.bound }) f.is.pc
        ∙ ap (λ (k : ℕ). record { name = written_name cs m; pc = p; bound = k }) f.bound in
        subst (IsWritten cs notes found m) number (subst (λ (x : ℕ). IsWritten cs notes found x f.given) same w.is)

    headers_by : (m p : ℕ) → IsHeaderAt (resolved cs) m p → (given written : Option ℕ) → bound_in (written_name cs m) p all.bounds ≡ given → written_of cs notes found m p ≡ written → given ≡ written
    headers_by m p at (Some n) written e f = sym (written_for m p n at.bounded.0 e).number ∙ f
    headers_by m p at None None e f = refl
    headers_by m p at None (Some n) e f =
        let b : LoopBound = record { name = written_name cs m; pc = p; bound = n } in
        absurd (not_absent b all.bounds (there m b (record { header = at; name = refl; number = f })) e)

    gives_written : GivesWritten cs notes found (concat texts)
    gives_written = record {
      bounds = all.bounds;
      read = record { given = all.given; different = all.different };
      headers = λ m p at. headers_by m p at (bound_in (written_name cs m) p all.bounds) (written_of cs notes found m p) refl refl;
      others = λ b c. let w = (all.each b).0 c in (w.method, w.is);
    }

module _ (moves : GraphsAreMoved) (sound : PartsAreSound) (ends : EndsAreOne) (one : GraphsAreOne) (have : MethodsHaveCode) (by_number : MethodsStandByNumber) (words : WrittenAreWords)
    (names : WrittenNamesAreOne) where
  pub files_are_read : HeaderFilesAreRead
  unfolding AreFoundSmall
  files_are_read cs lines text r h =
      let small : AreFoundSmall h.found = λ x c. ((h.counted.each x).0 c).counted.counts.small in
      let each : (k : ℕ) (t : List ℕ) → slice_get h.texts k ≡ Some t → MethodGives cs h.notes h.found (0 + k) t =
      λ k t at.
      let coded = (h.methods.coded k).1 (slice_get_within h.texts k t at) in
      let zero_is : 0 + k ≡ k = omega arith in
      subst (λ (n : ℕ). MethodGives cs h.notes h.found n t) (sym zero_is)
      (method_given moves sound ends one words have by_number cs r lines h.notes h.found h.read small k (names.words cs k coded) t coded (h.methods.each k t at)) in
      subst (GivesWritten cs h.notes h.found) (sym h.text_is) (gives_written names cs r h.notes h.found h.texts h.methods (texts_given names cs r h.notes h.found h.texts 0 each))

-- ---- by methods

module _ (files : HeaderFilesAreRead) (names : WrittenNamesAreOne) (gives : GivesOne) where
  module _ (cs : List ClassFile) (r : IsResolved cs) (notes : List Note) (found : List FoundLoop) (text : List ℕ) (g : GivesWritten cs notes found text) where
    -- the bound of a loop is what is written for it
    bound_there : (m p n : ℕ) → bounds_by cs g.bounds m p ≡ Some n → IsHeaderAt (resolved cs) m p × (written_of cs notes found m p ≡ Some n)
    bound_there m p n h =
        let b = onto_some (body_of (resolved cs) m) (λ b. bound_in (written_name cs m) p g.bounds) n h in
        let coded : IsSome (body_of (resolved cs) m) = ap is_some b.1 in
        let f = first_is (written_name cs m) p n g.bounds b.2 in
        let w = g.others f.given f.among in
        let same : w.0 ≡ m = names.one cs r w.0 m w.1.header.bounded.0 coded (sym w.1.name ∙ f.is.name) in
        let header : IsHeaderAt (resolved cs) m p = subst (λ (x : ℕ). IsHeaderAt (resolved cs) x p) same (subst (IsHeaderAt (resolved cs) w.0) f.is.pc w.1.header) in
        (header, sym (ap (λ (x : ℕ). written_of cs notes found x p) same) ∙ sym (ap (λ (q : ℕ). written_of cs notes found w.0 q) f.is.pc) ∙ w.1.number ∙ ap Some f.bound)

    -- and a header has what is written for it
    header_bound : (m p : ℕ) → IsHeaderAt (resolved cs) m p → bounds_by cs g.bounds m p ≡ written_of cs notes found m p
    header_bound m p at = by (body_of (resolved cs) m) refl
      where
        by : (o : Option Body) → body_of (resolved cs) m ≡ o → bounds_by cs g.bounds m p ≡ written_of cs notes found m p
        by None e = let bad : false ≡ true = sym (ap is_some e) ∙ at.bounded.0 in absurd (let none : ⊥ = cc in none)
        by (Some b) e = ap (λ (o : Option Body). onto o (λ x. bound_in (written_name cs m) p g.bounds)) e ∙ g.headers m p at

  of_text : (cs : List ClassFile) (lines text : List ℕ) → IsResolved cs → (h : IsHeaderFile cs lines text) → (bounds : List LoopBound) → IsRead text bounds
      → (g : GivesWritten cs h.notes h.found text) × (g.bounds ≡ bounds)
  of_text cs lines text r h bounds read = let g = files cs lines text r h in (g, gives text g.bounds bounds g.read read)

  pub bounds_written : FilesBoundHeaders
  bounds_written cs lines text r h bounds read =
      let g = of_text cs lines text r h bounds read in
      subst (λ (bs : List LoopBound). BoundsWritten cs h.notes h.found (bounds_by cs bs)) g.1 (record {
        headers = header_bound cs r h.notes h.found text g.0;
        others = λ m p n is. (bound_there cs r h.notes h.found text g.0 m p n is).0;
      })

  written_there : (cs : List ClassFile) (lines text : List ℕ) (r : IsResolved cs) (h : IsHeaderFile cs lines text) (bounds : List LoopBound) → IsRead text bounds → (m p n : ℕ) → bounds_by cs bounds m p ≡ Some n
      → written_of cs h.notes h.found m p ≡ Some n
  written_there cs lines text r h bounds read m p n is =
      let w = bounds_written cs lines text r h bounds read in
      sym (w.headers m p (w.others m p n is)) ∙ is

  pub found_or_said : FileBoundsAreFoundOrSaid
  found_or_said cs lines text r h bounds read m p n is =
      let name = written_name cs m in
      let header = header_at cs h.found m p in
      let number = written_there cs lines text r h bounds read m p n is in
      elim (lesser_is (found_at h.found m p) (said h.notes name header) n number) [
        | inl of ↦ inl (counted h.found (λ x c. (h.counted.each x).0 c) m p n of)
        | inr say ↦ inr (lesser_is (said_of_line h.notes (source_at cs m p)) (bound_in_notes (AtPlace name p) h.notes) n say)
      ]
    where
      counted : (found : List FoundLoop) → ((x : FoundLoop) → Contains found x → IsCountedLoop (resolved cs) (int_at h.constants) x) → (m p n : ℕ) → found_at found m p ≡ Some n
          → IsCountedLoop (resolved cs) (int_at h.constants) (record { method = m; place = p; bound = n })
      counted found each m p n at =
          let f = found_there found m p n at in
          let same : f.loop ≡ record { method = m; place = p; bound = n } =
          ap (λ (x : ℕ). record { method = x; place = f.loop.place; bound = f.loop.bound }) f.method ∙ ap (λ (q : ℕ). record { method = m; place = q; bound = f.loop.bound }) f.place
          ∙ ap (λ (k : ℕ). record { method = m; place = p; bound = k }) f.number in
          subst (IsCountedLoop (resolved cs) (int_at h.constants)) same (each f.loop f.among)

  pub file_kept : KeptNotesKeepTheFile
  file_kept cs lines text r h bounds read m ns keeps graph live p bound is = kept cs h.notes h.found m ns keeps graph live p bound (written_there cs lines text r h bounds read m p bound is)

  -- ---- roots

  module _ (moves : GraphsAreMoved) (sound : PartsAreSound) (ends : EndsAreOne) (one : GraphsAreOne) where
    header_of : (cs : List ClassFile) (m p : ℕ) → MayBeBounded (resolved cs) m → IsLeftWith (resolved cs) m [] → (shape : Shape) → IsShape (resolved cs) m shape → (graph : Digraph) → IsGraphOf (resolved cs) m graph
        → IsHeader graph (2 * p) → IsHeaderAt (resolved cs) m p
    header_of cs m p bounded single (Irreducible nodes) is graph is_graph header = absurd (not_both moves sound ends one (resolved cs) m nodes.items is.0 is.1 single)
    header_of cs m p bounded single (Reducible places) is graph is_graph header = record {
      bounded = bounded;
      places = places.items;
      single = single;
      are = is.1;
      among = (is.1.each p).1 (record { graph = graph; is_graph = is_graph; header = header });
    }

    module _ (cs : List ClassFile) (notes : List Note) (found : List FoundLoop) (texts : List (List ℕ)) (are : AreMethodTexts cs notes found texts) (root : ℕ)
        (bounded : (m : ℕ) → IsWithin (resolved cs) root m → MayBeBounded (resolved cs) m) (reducible : AreReducible (resolved cs) root) (A B : BoundOf)
        (same : (m p : ℕ) → IsHeaderAt (resolved cs) m p → A m p ≡ B m p) where
      -- the lines of one family of bounds are those of another that is the same of headers
      lines_too : HaveLines (resolved cs) A root → HaveLines (resolved cs) B root
      lines_too lines m p lacks =
          let s = shape_there moves sound ends one cs notes found texts are m (bounded m lacks.within) in
          let at = header_of cs m p (bounded m lacks.within) (reducible m lacks.within) s.0 s.1 lacks.graph lacks.is_graph lacks.header in
          lines m p (record { within = lacks.within; graph = lacks.graph; is_graph = lacks.is_graph; header = lacks.header; none = same m p at ∙ lacks.none })

    pub roots_have_lines : RootsHaveLines
    roots_have_lines cs lines text r h bounds read root bounded =
        let D : BoundOf = bounds_by cs bounds in
        let W : BoundOf = written_of cs h.notes h.found in
        let same : (m p : ℕ) → IsHeaderAt (resolved cs) m p → D m p ≡ W m p = (bounds_written cs lines text r h bounds read).headers in
        let law = have_lines moves sound ends one cs h.notes h.found h.texts h.methods root bounded in (
          λ k. law.0 (k.0, lines_too cs h.notes h.found h.texts h.methods root bounded k.0 D W same k.1),
          λ numbers.
              let k = law.1 numbers in
              (k.0, lines_too cs h.notes h.found h.texts h.methods root bounded k.0 W D (λ m p at. sym (same m p at)) k.1),
        )
