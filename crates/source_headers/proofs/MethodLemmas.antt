-- The text of a method is read as the numbers that are written for its loops.
use Rattle.std.proofs.Common.{◌≡◌, ◌↔◌, ℕ, suc, ◌+◌, List, [], ◌∷◌, ◌++◌, Contains, refl, sym, ◌∙◌, ap, subst, arith, Option, Some, None, inl, inr}
use Rattle.std.specs.Prelude.{IsSome, IsTrue, flat_map, option_map}
use Rattle.std.specs.List.{filter_map, cons_option}
use Rattle.std.specs.List.Sorted.{IsStrictlyIncreasing}
use Rattle.std.proofs.lemmas.List.{append_assoc}
use Rattle.lists.proofs.Lemmas.{map_some}
use Rattle.lists.specs.Members.{at_head, in_tail, nil_contains, place_of, rising_pair}
use Rattle.class_pool.specs.declared.class.ClassFile.{ClassFile}
use Rattle.class_rules.specs.Found.{MethodsHaveCode}
use Rattle.bytecode_model.specs.Program.{body_of}
use Rattle.program_tables.specs.Laws.{MethodsStandByNumber}
use Rattle.program_tables.specs.Resolved.{resolved}
use Rattle.program_tables.specs.Resolving.{IsResolved}
use Rattle.name_laws.specs.Laws.{WrittenAreWords}
use Rattle.name_laws.specs.Written.{written_name, is_word}
use Rattle.compact_walks.specs.Laws.{GraphsAreMoved, PartsAreSound, EndsAreOne}
use Rattle.ascii_text.specs.Line.{lines_of}
use Rattle.bound_texts.specs.Loops.Bounds.{LoopBound, AreOfDifferentLoops}
use Rattle.bound_texts.specs.Loops.Grammar.{Give}
use Rattle.loop_rules.specs.declared.found.FoundLoop.{FoundLoop}
use Rattle.bound_texts.specs.Sources.Notes.{Note}
use Rattle.bound_texts.specs.Sources.Grammar.{AreNotesRead}
use Rattle.bound_rules.specs.Laws.{GraphsAreOne}
use Rattle.bound_causes.specs.Shapes.{IsShape}
use Rattle.bound_causes.specs.declared.shapes.Shape.{Shape}
use Rattle.bound_causes.specs.declared.shapes.Shape.TheVariants.{Irreducible, Reducible}
use Rattle.source_headers.specs.Headers.{header_at, header_lines, number_written, method_lines, IsMethodText}
use Rattle.source_headers.specs.Reading.{bound_written}
use Rattle.source_headers.specs.Straying.{MayBeBounded, IsHeaderAt}
use Rattle.source_headers.specs.Whole.{IsWritten}
use Rattle.source_headers.proofs.ToldLemmas.{not_both, all_headed}
use Rattle.source_headers.proofs.GatherLemmas.{mapped_contains}
use Rattle.source_headers.proofs.ReadLemmas.{IsOnePart, IsReadable, word_is, header_given, irreducible_given}
use Rattle.source_headers.proofs.BoundLemmas.{ArePast, rising_different}
use Rattle.source_headers.proofs.RangeLemmas.{AreFoundSmall, readable}

-- What a text gives, before others: just the bounds that are written for the loops of the method, no two of one loop.
pub record MethodGives (cs : List ClassFile) (notes : List Note) (found : List FoundLoop) (m : ℕ) (text : List ℕ) : Type 0 where
  pub bounds : List LoopBound
  pub given : (rest : List ℕ) (bs : List LoopBound) → Give (lines_of rest) bs → Give (lines_of (text ++ rest)) (bounds ++ bs)
  pub each : (b : LoopBound) → Contains bounds b ↔ IsWritten cs notes found m b
  pub different : AreOfDifferentLoops bounds

-- a text that says nothing, of a method for which nothing is written
silent : (cs : List ClassFile) (notes : List Note) (found : List FoundLoop) (m : ℕ) (text : List ℕ) → ((rest : List ℕ) (bs : List LoopBound) → Give (lines_of rest) bs → Give (lines_of (text ++ rest)) bs)
    → ((b : LoopBound) → IsWritten cs notes found m b → ⊥) → MethodGives cs notes found m text
silent cs notes found m text given none = record {
  bounds = [];
  given = given;
  each = λ b. (λ c. absurd (nil_contains b c), λ is. absurd (none b is));
  different = tt;
}

-- ---- places that rise

places_past : (ps : List ℕ) → IsStrictlyIncreasing ps → ArePast ps
unfolding ArePast
places_past [] h = tt
places_past (p ∷ ps) h = (
  λ q c. let k = place_of ps q c in let up = rising_pair (p ∷ ps) h 0 (suc k.0) (omega arith) (omega (arith, k.1)) in omega (arith, up, k.2),
  places_past ps (λ k lt. rising_pair (p ∷ ps) h (suc k) (suc (k + 1)) (omega arith) (omega (arith, lt))),
)

onto_more : (o : Option LoopBound) (xs ys : List LoopBound) → cons_option o xs ++ ys ≡ cons_option o (xs ++ ys)
onto_more None xs ys = refl
onto_more (Some x) xs ys = refl

module _ (cs : List ClassFile) (notes : List Note) (found : List FoundLoop) (m : ℕ) where
  -- ---- a method whose loops have one entry each

  places_given : IsOnePart (written_name cs m) → (ps : List ℕ) → ((p : ℕ) → Contains ps p → IsReadable notes (written_name cs m) (header_at cs found m p))
      → (rest : List ℕ) (bs : List LoopBound) → Give (lines_of rest) bs
      → Give (lines_of (flat_map (λ p. header_lines notes (written_name cs m) (header_at cs found m p)) ps ++ rest))
      (filter_map (λ p. bound_written notes (written_name cs m) (header_at cs found m p)) ps ++ bs)
  places_given part [] range rest bs more = more
  places_given part (p ∷ ps) range rest bs more =
      let F : ℕ → List ℕ = λ p. header_lines notes (written_name cs m) (header_at cs found m p) in
      let B : ℕ → Option LoopBound = λ p. bound_written notes (written_name cs m) (header_at cs found m p) in
      let later = places_given part ps (λ q c. range q (in_tail p q ps c)) rest bs more in
      let here = header_given notes (written_name cs m) (header_at cs found m p) (flat_map F ps ++ rest) (filter_map B ps ++ bs) part (range p (at_head p ps)) later in
      subst (λ (text : List ℕ). Give (lines_of text) (cons_option (B p) (filter_map B ps) ++ bs)) (sym (append_assoc (F p) (flat_map F ps) rest))
      (subst (λ (xs : List LoopBound). Give (lines_of (F p ++ (flat_map F ps ++ rest))) xs) (sym (onto_more (B p) (filter_map B ps) bs)) here)

  module _ (part : IsOnePart (written_name cs m)) (places : List ℕ) (headed : (p : ℕ) → Contains places p ↔ IsHeaderAt (resolved cs) m p) where
    to_written : (b : LoopBound) → Contains (filter_map (λ p. bound_written notes (written_name cs m) (header_at cs found m p)) places) b → IsWritten cs notes found m b
    to_written b c =
        let r = (mapped_contains (λ p. bound_written notes (written_name cs m) (header_at cs found m p)) places b).0 c in
        let w = map_some (λ (n : ℕ). record { name = written_name cs m; pc = r.0; bound = n }) (number_written notes (written_name cs m) (header_at cs found m r.0)) b r.2 in
        let at : IsWritten cs notes found m (record { name = written_name cs m; pc = r.0; bound = w.0 }) = record { header = (headed r.0).0 r.1; name = refl; number = w.1 } in
        subst (IsWritten cs notes found m) w.2 at

    from_written : (b : LoopBound) → IsWritten cs notes found m b → Contains (filter_map (λ p. bound_written notes (written_name cs m) (header_at cs found m p)) places) b
    from_written b is =
        let bound : bound_written notes (written_name cs m) (header_at cs found m b.pc) ≡ Some b =
        ap (option_map (λ (n : ℕ). record { name = written_name cs m; pc = b.pc; bound = n })) is.number ∙ ap (λ (name : List ℕ). Some (record { name = name; pc = b.pc; bound = b.bound })) (sym is.name) in
        (mapped_contains (λ p. bound_written notes (written_name cs m) (header_at cs found m p)) places b).1 (b.pc, (headed b.pc).1 is.header, bound)

    at_place : (p : ℕ) (b : LoopBound) → bound_written notes (written_name cs m) (header_at cs found m p) ≡ Some b → b.pc ≡ p
    at_place p b h =
        let w = map_some (λ (n : ℕ). record { name = written_name cs m; pc = p; bound = n }) (number_written notes (written_name cs m) (header_at cs found m p)) b h in
        sym (ap (λ (x : LoopBound). x.pc) w.2)

    headed_given : IsStrictlyIncreasing places → ((p : ℕ) → Contains places p → IsReadable notes (written_name cs m) (header_at cs found m p))
        → MethodGives cs notes found m (flat_map (λ p. header_lines notes (written_name cs m) (header_at cs found m p)) places)
    headed_given rising range = record {
      bounds = filter_map (λ p. bound_written notes (written_name cs m) (header_at cs found m p)) places;
      given = places_given part places range;
      each = λ b. (to_written b, from_written b);
      different = rising_different (λ p. bound_written notes (written_name cs m) (header_at cs found m p)) at_place places (places_past places rising);
    }

-- ---- by its shape

module _ (moves : GraphsAreMoved) (sound : PartsAreSound) (ends : EndsAreOne) (one : GraphsAreOne) (words : WrittenAreWords) (have : MethodsHaveCode) (by_number : MethodsStandByNumber) (cs : List ClassFile)
    (r : IsResolved cs) (lines : List ℕ) (notes : List Note) (found : List FoundLoop) (read : AreNotesRead lines notes) (small : AreFoundSmall found) (m : ℕ) where
  shape_given : IsOnePart (written_name cs m) → (shape : Shape) → IsShape (resolved cs) m shape → MayBeBounded (resolved cs) m → MethodGives cs notes found m (method_lines cs notes found m (written_name cs m) shape)
  shape_given part (Irreducible nodes) is bounded =
      silent cs notes found m _ (λ rest bs more. irreducible_given (written_name cs m) nodes.items rest bs part more)
      (λ b w. not_both moves sound ends one (resolved cs) m nodes.items is.0 is.1 w.header.single)
  shape_given part (Reducible places) is bounded =
      headed_given cs notes found m part places.items
      (λ p. (
        λ c. record { bounded = bounded; places = places.items; single = is.0; are = is.1; among = c },
        all_headed moves sound ends one (resolved cs) m (Reducible places) is p,
      )) is.1.rising (readable words have by_number cs r lines notes found read small m (Reducible places) is (written_name cs m))

  pub method_given : IsTrue (is_word (written_name cs m)) → (text : List ℕ) → IsSome (body_of (resolved cs) m) → IsMethodText (resolved cs) cs notes found (written_name cs) m text → MethodGives cs notes found m text
  method_given word text coded (inl boot) =
      subst (MethodGives cs notes found m) (sym boot.1) (silent cs notes found m [] (λ rest bs more. more) (λ b w. w.header.bounded.1 boot.0))
  method_given word text coded (inr other) =
      subst (MethodGives cs notes found m) (sym other.1.2) (shape_given (word_is (written_name cs m) word) other.1.0 other.1.1 (coded, other.0))
