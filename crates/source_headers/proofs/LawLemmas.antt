-- The laws of the text of headers.
use Rattle.std.proofs.Common.{◌≡◌, ◌⊎◌, ℕ, ◌*◌, ◌≤◌, true, false, List, [], refl, sym, ap, arith, Option, Some, None, inl, inr}
use Rattle.std.specs.Prelude.{min, IsSome}
use Rattle.std.proofs.lemmas.Bool.{cases_lt}
use Rattle.std.proofs.lemmas.Option.{slice_get-get_or}
use Rattle.lists.proofs.Lemmas.{none≢some, some_same}
use Rattle.class_pool.specs.declared.class.ClassFile.{ClassFile}
use Rattle.program_tables.specs.Resolved.{resolved}
use Rattle.name_laws.specs.Written.{written_name}
use Rattle.loop_nest.specs.Digraph.{Digraph}
use Rattle.loop_nest.specs.Walks.{IsHeader, KeepsBound}
use Rattle.method_flow.specs.Graphs.{IsGraphOf}
use Rattle.method_flow.specs.Keeping.{BoundOf}
use Rattle.method_flow.specs.Regions.{IsWithin}
use Rattle.loop_rules.specs.declared.found.FoundLoop.{FoundLoop}
use Rattle.bound_texts.specs.Sources.Notes.{Note, AtPlace, noted_bound}
use Rattle.compact_walks.specs.Laws.{GraphsAreMoved, PartsAreSound, EndsAreOne}
use Rattle.bound_rules.specs.Bounding.{AreReducible, HaveLines, IsLeftWith}
use Rattle.bound_rules.specs.Laws.{GraphsAreOne}
use Rattle.bound_causes.specs.Shapes.{IsShape}
use Rattle.bound_causes.specs.declared.shapes.Shape.{Shape}
use Rattle.bound_causes.specs.declared.shapes.Shape.TheVariants.{Irreducible, Reducible}
use Rattle.source_headers.specs.Headers.{lesser, found_at, header_at, said, said_of_line}
use Rattle.source_places.specs.Methods.Sources.{source_at}
use Rattle.source_headers.specs.Straying.{MayBeBounded}
use Rattle.source_headers.specs.Files.{AreMethodTexts}
use Rattle.source_headers.specs.Laws.{written_of, HasLoopNumbers, HeaderFilesHaveLines, KeptNotesAreKept, WrittenKeepsNotes}
use Rattle.source_headers.proofs.ToldLemmas.{not_both}

-- ---- the lesser of two

pub lesser_is : (a b : Option ℕ) (n : ℕ) → lesser a b ≡ Some n → (a ≡ Some n) ⊎ (b ≡ Some n)
lesser_is None b n h = inr h
lesser_is (Some x) None n h = inl h
lesser_is (Some x) (Some y) n h =
    let is : min x y ≡ n = some_same (min x y) n h in
    elim (cases_lt x y) [
      | inl lt ↦ inl (ap Some (let e : x ≡ n = omega (arith, is, lt) in e))
      | inr ge ↦ inr (ap Some (let e : y ≡ n = omega (arith, is, ge) in e))
    ]

-- a number that isn't greater
abbrev IsWithinBound : Option ℕ → ℕ → Type 0
IsWithinBound o k = (n : ℕ) × (o ≡ Some n) × (n ≤ k)

lesser_left : (a b : Option ℕ) (k : ℕ) → a ≡ Some k → IsWithinBound (lesser a b) k
lesser_left None b k h = absurd (none≢some k h)
lesser_left (Some x) None k h = (x, refl, let e = some_same x k h in omega (arith, e))
lesser_left (Some x) (Some y) k h = (min x y, refl, let e = some_same x k h in omega (arith, e))

lesser_right : (a b : Option ℕ) (k : ℕ) → IsWithinBound b k → IsWithinBound (lesser a b) k
lesser_right None b k h = h
lesser_right (Some x) None k h = absurd (none≢some h.0 h.1)
lesser_right (Some x) (Some y) k h = (min x y, refl, let e = some_same y h.0 h.1 in omega (arith, e, h.2))

-- ---- runs

keeps_more : (g : Digraph) (h n k : ℕ) (ns : List ℕ) → n ≤ k → KeepsBound g h n ns → KeepsBound g h k ns
keeps_more g h n k ns le keeps before inner after parts all = let below = keeps before inner after parts all in omega (arith, below, le)

pub kept : KeptNotesAreKept
kept cs notes found m ns all g live p bound is =
    let name = written_name cs m in
    elim (lesser_is (found_at found m p) (said notes name (header_at cs found m p)) bound is) [
      | inl of ↦ all.found_kept g live p bound of
      | inr say ↦
          elim (lesser_is (said_of_line notes (source_at cs m p)) (noted_bound (AtPlace name p) notes) bound say) [
            | inl line ↦ all.lines_kept g live p bound line
            | inr place ↦ all.places_kept g live p bound place
          ]
    ]

pub exact : WrittenKeepsNotes
exact cs notes found m ns keeps =
    let name = written_name cs m in
    let W : BoundOf = written_of cs notes found in
    let less : (g : Digraph) → (p bound n : ℕ) → ((q k : ℕ) → W m q ≡ Some k → KeepsBound g (2 * q) k ns) → W m p ≡ Some n → n ≤ bound → KeepsBound g (2 * p) bound ns =
    λ g p bound n all at le. keeps_more g (2 * p) n bound ns le (all p n at) in
    record {
      found_kept = λ g live p bound h.
          let w = lesser_left (found_at found m p) (said notes name (header_at cs found m p)) bound h in
          less g p bound w.0 (keeps g live) w.1 w.2;
      lines_kept = λ g live p bound h.
          let say = lesser_left (said_of_line notes (source_at cs m p)) (noted_bound (AtPlace name p) notes) bound h in
          let w = lesser_right (found_at found m p) (said notes name (header_at cs found m p)) bound say in
          less g p bound w.0 (keeps g live) w.1 w.2;
      places_kept = λ g live p bound h.
          let say = lesser_right (said_of_line notes (source_at cs m p)) (noted_bound (AtPlace name p) notes) bound (bound, h, omega arith) in
          let w = lesser_right (found_at found m p) (said notes name (header_at cs found m p)) bound say in
          less g p bound w.0 (keeps g live) w.1 w.2;
    }

-- ---- loops with numbers

some_or_none : (o : Option ℕ) → (o ≡ None → ⊥) → IsSome o
some_or_none None h = absurd (h refl)
some_or_none (Some n) h = refl

not_none : (o : Option ℕ) → IsSome o → o ≡ None → ⊥
not_none None h e = absurd (let f : false ≡ true = h in cc)
not_none (Some n) h e = none≢some n (sym e)

module _ (moves : GraphsAreMoved) (sound : PartsAreSound) (ends : EndsAreOne) (one : GraphsAreOne) where
  with_numbers : (cs : List ClassFile) (notes : List Note) (found : List FoundLoop) (root m : ℕ) → AreReducible (resolved cs) root → HaveLines (resolved cs) (written_of cs notes found) root → IsWithin (resolved cs) root m
      → (shape : Shape) → IsShape (resolved cs) m shape → HasLoopNumbers cs notes found m shape
  with_numbers cs notes found root m reducible lines within (Irreducible nodes) is = not_both moves sound ends one (resolved cs) m nodes.items is.0 is.1 (reducible m within)
  with_numbers cs notes found root m reducible lines within (Reducible places) is = λ p c.
      let heads = (is.1.each p).0 c in
      some_or_none (written_of cs notes found m p) (λ none. lines m p (record { within = within; graph = heads.graph; is_graph = heads.is_graph; header = heads.header; none = none }))

  -- the shape of a method that a text has
  pub shape_there : (cs : List ClassFile) (notes : List Note) (found : List FoundLoop) (texts : List (List ℕ)) → AreMethodTexts cs notes found texts → (m : ℕ) → MayBeBounded (resolved cs) m
      → (shape : Shape) × IsShape (resolved cs) m shape
  shape_there cs notes found texts are m bounded =
      let lt = (are.coded m).0 bounded.0 in
      elim (are.each m _ (slice_get-get_or texts m [] lt)) [
        | inl boot ↦ absurd (bounded.1 boot.0)
        | inr of ↦ (of.1.0, of.1.1)
      ]

  one_entry : (cs : List ClassFile) (notes : List Note) (found : List FoundLoop) (m : ℕ) (shape : Shape) → IsShape (resolved cs) m shape → HasLoopNumbers cs notes found m shape → IsLeftWith (resolved cs) m []
  one_entry cs notes found m (Irreducible nodes) is none = absurd none
  one_entry cs notes found m (Reducible places) is numbers = is.0

  has_number : (cs : List ClassFile) (notes : List Note) (found : List FoundLoop) (m p : ℕ) (shape : Shape) → IsShape (resolved cs) m shape → HasLoopNumbers cs notes found m shape → (g : Digraph)
      → IsGraphOf (resolved cs) m g → IsHeader g (2 * p) → IsSome (written_of cs notes found m p)
  has_number cs notes found m p (Irreducible nodes) is none g graph header = absurd none
  has_number cs notes found m p (Reducible places) is numbers g graph header = numbers p ((is.1.each p).1 (record { graph = g; is_graph = graph; header = header }))

  pub have_lines : HeaderFilesHaveLines
  have_lines cs notes found texts are root bounded = (
    λ h m within. with_numbers cs notes found root m h.0 h.1 within,
    λ all. (
      λ m within. let s = shape_there cs notes found texts are m (bounded m within) in one_entry cs notes found m s.0 s.1 (all m within s.0 s.1),
      λ m p lacks.
          let s = shape_there cs notes found texts are m (bounded m lacks.within) in
          not_none (written_of cs notes found m p) (has_number cs notes found m p s.0 s.1 (all m lacks.within s.0 s.1) lacks.graph lacks.is_graph lacks.header) lacks.none,
    ),
  )
