-- The text of headers is one.
use Rattle.std.proofs.Common.{◌≡◌, ◌≢◌, ℕ, suc, ◌<◌, List, [], ◌∷◌, length, Some, refl, sym, ◌∙◌, ap, ap₂, subst, arith, ⊎_elim, inl, inr}
use Rattle.std.specs.Prelude.{slice_get, flat_map}
use Rattle.std.specs.List.{concat}
use Rattle.class_pool.specs.declared.class.ClassFile.{ClassFile}
use Rattle.bytecode_model.specs.Program.{Program}
use Rattle.program_tables.specs.Resolved.{resolved}
use Rattle.name_laws.specs.Written.{written_name}
use Rattle.compact_walks.specs.Laws.{GraphsAreMoved, EndsAreOne}
use Rattle.bound_rules.specs.Laws.{GraphsAreOne}
use Rattle.bound_rules.specs.Bounding.{IsLeftWith}
use Rattle.bound_causes.specs.Shapes.{IsShape}
use Rattle.bound_causes.specs.declared.shapes.Shape.{Shape}
use Rattle.bound_causes.specs.declared.shapes.Shape.TheVariants.{Irreducible, Reducible}
use Rattle.bound_laws.proofs.Rising.{same_numbers}
use Rattle.bound_laws.proofs.CompactOnes.{left_is_one}
use Rattle.loop_rules.specs.declared.found.FoundLoop.{FoundLoop}
use Rattle.loop_rules.specs.Sites.{int_at}
use Rattle.bound_texts.specs.Sources.Notes.{Note}
use Rattle.bound_texts.specs.Sources.Laws.{NotesGiveOne}
use Rattle.source_headers.specs.Headers.{IsMethodText, method_lines, header_lines, header_at, irreducible_line}
use Rattle.source_headers.specs.Files.{IsHeaderFile, AreMethodTexts}
use Rattle.jop_cli.specs.promises.Headers.{HeaderFilesAreOne}
use Rattle.jop_cli.proofs.OneLoops.{same_constants, counted_one}

-- lists of one length with the same items are one
same_lists : (xs ys : List (List ℕ)) → ((m : ℕ) → m < length xs → m < length ys) → ((m : ℕ) → m < length ys → m < length xs)
    → ((m : ℕ) (x y : List ℕ) → slice_get xs m ≡ Some x → slice_get ys m ≡ Some y → x ≡ y) → xs ≡ ys
same_lists [] [] to from each = refl
same_lists [] (y ∷ ys) to from each = let bad : 0 < 0 = from 0 (omega arith) in absurd (omega (arith, bad))
same_lists (x ∷ xs) [] to from each = let bad : 0 < 0 = to 0 (omega arith) in absurd (omega (arith, bad))
same_lists (x ∷ xs) (y ∷ ys) to from each =
    ap₂ (λ (z : List ℕ) (zs : List (List ℕ)). z ∷ zs) (each 0 x y refl refl)
    (same_lists xs ys
    (λ m below. let more = to (suc m) (omega (arith, below)) in omega (arith, more))
    (λ m below. let more = from (suc m) (omega (arith, below)) in omega (arith, more))
    (λ m. each (suc m)))

module _ (moves : GraphsAreMoved) (ends : EndsAreOne) (graphs : GraphsAreOne) where
  left_one : (P : Program) (m : ℕ) (nodes others : List ℕ) → IsLeftWith P m nodes → IsLeftWith P m others → nodes ≡ others
  left_one = left_is_one moves ends graphs

  one_shape : (P : Program) (cs : List ClassFile) (notes : List Note) (found : List FoundLoop) (m : ℕ) (name : List ℕ) (a b : Shape) → IsShape P m a → IsShape P m b
      → method_lines cs notes found m name a ≡ method_lines cs notes found m name b
  one_shape P cs notes found m name (Irreducible nodes) (Irreducible others) h k = ap (irreducible_line name) (left_one P m nodes.items others.items h.0 k.0)
  one_shape P cs notes found m name (Irreducible nodes) (Reducible places) h k = absurd (h.1 (left_one P m nodes.items [] h.0 k.0))
  one_shape P cs notes found m name (Reducible places) (Irreducible nodes) h k = absurd (k.1 (left_one P m nodes.items [] k.0 h.0))
  one_shape P cs notes found m name (Reducible places) (Reducible others) h k =
      ap (λ (ps : List ℕ). flat_map (λ p. header_lines notes name (header_at cs found m p)) ps)
      (same_numbers places.items others.items h.1.rising k.1.rising (λ p has. (k.1.each p).1 ((h.1.each p).0 has)) (λ p has. (h.1.each p).1 ((k.1.each p).0 has)))

  one_text : (P : Program) (cs : List ClassFile) (notes : List Note) (found : List FoundLoop) (name : ℕ → List ℕ) (m : ℕ) (a b : List ℕ) → IsMethodText P cs notes found name m a
      → IsMethodText P cs notes found name m b → a ≡ b
  one_text P cs notes found name m a b (inl h) (inl k) = h.1 ∙ sym k.1
  one_text P cs notes found name m a b (inl h) (inr k) = absurd (k.0 h.0)
  one_text P cs notes found name m a b (inr h) (inl k) = absurd (h.0 k.0)
  one_text P cs notes found name m a b (inr h) (inr k) =
      let x = h.1 in
      let y = k.1 in
      x.2 ∙ (one_shape P cs notes found m (name m) x.0 y.0 x.1 y.1 ∙ sym y.2)

  one_texts : (cs : List ClassFile) (notes : List Note) (found : List FoundLoop) (xs ys : List (List ℕ)) → AreMethodTexts cs notes found xs → AreMethodTexts cs notes found ys → xs ≡ ys
  one_texts cs notes found xs ys a b =
      same_lists xs ys (λ m below. (b.coded m).0 ((a.coded m).1 below)) (λ m below. (a.coded m).0 ((b.coded m).1 below))
      (λ m x y at there. one_text (resolved cs) cs notes found (written_name cs) m x y (a.each m x at) (b.each m y there))

  pub header_files_are_one : NotesGiveOne → HeaderFilesAreOne
  header_files_are_one gives cs lines text other a b =
      let notes : a.notes ≡ b.notes = gives lines a.notes b.notes a.read b.read in
      let found : a.found ≡ b.found = counted_one (resolved cs) (int_at a.constants) (int_at b.constants) a.found b.found (same_constants cs a.constants b.constants a.are b.are) a.counted b.counted in
      let by_notes : AreMethodTexts cs b.notes a.found a.texts = subst (λ (ns : List Note). AreMethodTexts cs ns a.found a.texts) notes a.methods in
      let moved : AreMethodTexts cs b.notes b.found a.texts = subst (λ (xs : List FoundLoop). AreMethodTexts cs b.notes xs a.texts) found by_notes in
      a.text_is ∙ (ap concat (one_texts cs b.notes b.found a.texts b.texts moved b.methods) ∙ sym b.text_is)
