-- The lines of loops that count, and the text of headers, are one.
use Rattle.std.proofs.Common.{◌≡◌, ℕ, ◌<◌, List, [], ◌∷◌, length, get_or, map, Option, Some, None, refl, sym, ◌∙◌, ap, ap₂, subst, arith, inl, inr, ⊎_elim}
use Rattle.std.specs.Prelude.{ℤ, ◌↔◌, Contains, flat_map}
use Rattle.std.specs.List.{AllAdjacentBelow}
use Rattle.std.proofs.lemmas.List.{length-map}
use Rattle.lists.specs.Members.{map_contains}
use Rattle.class_pool.specs.declared.class.ClassFile.{ClassFile}
use Rattle.bytecode_model.specs.Program.{Program}
use Rattle.program_tables.specs.Resolved.{resolved}
use Rattle.loop_nest.specs.Digraph.{IsBefore}
use Rattle.loop_rules.specs.declared.found.FoundLoop.{FoundLoop}
use Rattle.loop_rules.specs.Finding.{AreCountedLoops, places_of}
use Rattle.loop_rules.specs.Sites.{int_at}
use Rattle.program_sites.specs.Ints.Constants.{AreConstants}
use Rattle.loop_rules.specs.Further.Known.{Known}
use Rattle.loop_rules.specs.Further.Arrays.{IsKnownBy}
use Rattle.loop_finder.specs.Further.{AreCountedFurther}
use Rattle.analysis_commands.specs.Analysis.{named_or_number}
use Rattle.analysis_commands.specs.Loops.{AreLoopLines, AreFurtherLines, found_line}
use Rattle.bound_laws.proofs.Rising.{Rises, same_items, from_adjacent, never_before, before_through}
use Rattle.jop_cli.specs.promises.Loops.{LoopLinesAreOne, FurtherLinesAreOne}

-- ---- what is told by what it is where it is known

same_option : {X : Type 0} (a b : Option X) → ((x : X) → a ≡ Some x → b ≡ Some x) → ((x : X) → b ≡ Some x → a ≡ Some x) → a ≡ b
same_option None None to from = refl
same_option None (Some y) to from = from y refl
same_option (Some x) b to from = sym (to x refl)

same_ints : (cs : List ClassFile) (a b : List (Option ℤ)) → AreConstants cs a → AreConstants cs b → (f : ℕ) → int_at a f ≡ int_at b f
same_ints cs a b is also f = same_option (int_at a f) (int_at b f) (λ c e. (also f c).1 ((is f c).0 e)) (λ c e. (is f c).1 ((also f c).0 e))

pub same_constants : (cs : List ClassFile) (a b : List (Option ℤ)) → AreConstants cs a → AreConstants cs b → int_at a ≡ int_at b
same_constants cs a b is also = λ i f. same_ints cs a b is also f i

known_one : (P : Program) (constants : ℕ → Option ℤ) (a b : Known) → IsKnownBy P constants a → IsKnownBy P constants b → a ≡ b
known_one P constants a b is also =
    let ints : a.constants ≡ b.constants = λ i f. (is.constants_are f ∙ sym (also.constants_are f)) i in
    let statics : a.statics ≡ b.statics =
    λ i f. (same_option (a.statics f) (b.statics f) (λ n e. (also.statics_are f n).1 ((is.statics_are f n).0 e)) (λ n e. (is.statics_are f n).1 ((also.statics_are f n).0 e))) i in
    let fields : a.fields ≡ b.fields =
    λ i o x. (same_option (a.fields o x) (b.fields o x) (λ n e. (also.fields_are o x n).1 ((is.fields_are o x n).0 e)) (λ n e. (is.fields_are o x n).1 ((also.fields_are o x n).0 e))) i in
    λ i. record { constants = ints i; statics = statics i; fields = fields i }

-- ---- loops that rise

abbrev place_of : FoundLoop → ℕ × ℕ
place_of x = (x.method, x.place)

abbrev Earlier : FoundLoop → FoundLoop → Type 0
Earlier x y = IsBefore (x.method, x.place) (y.method, y.place)

places_rise : (xs : List FoundLoop) → Rises IsBefore (places_of xs) → Rises Earlier xs
places_rise [] h = tt
places_rise (x ∷ xs) h = ((λ y has. h.0 (y.method, y.place) (map_contains place_of xs y has)), places_rise xs h.1)

rising : (xs : List FoundLoop) → AllAdjacentBelow IsBefore (places_of xs) (length xs) → Rises Earlier xs
rising xs h = places_rise xs (from_adjacent IsBefore never_before before_through (places_of xs) (subst (λ (n : ℕ). AllAdjacentBelow IsBefore (places_of xs) n) (sym (length-map xs place_of)) h))

pub same_loops : (Is : FoundLoop → Type 0) (xs ys : List FoundLoop) → AllAdjacentBelow IsBefore (places_of xs) (length xs) → AllAdjacentBelow IsBefore (places_of ys) (length ys)
    → ((x : FoundLoop) → Contains xs x ↔ Is x) → ((x : FoundLoop) → Contains ys x ↔ Is x) → xs ≡ ys
same_loops Is xs ys a b each every =
    same_items Earlier (λ x. never_before (x.method, x.place)) (λ x y z. before_through (x.method, x.place) (y.method, y.place) (z.method, z.place)) xs ys (rising xs a) (rising ys b)
    (λ x has. (every x).1 ((each x).0 has))
    (λ x has. (each x).1 ((every x).0 has))

-- ---- the lines

pub counted_one : (P : Program) (constants others : ℕ → Option ℤ) (xs ys : List FoundLoop) → constants ≡ others → AreCountedLoops P constants xs → AreCountedLoops P others ys → xs ≡ ys
counted_one P constants others xs ys same a b =
    let moved = subst (λ (c : ℕ → Option ℤ). AreCountedLoops P c xs) same a in
    same_loops _ xs ys moved.rising b.rising moved.each b.each

pub loop_lines_are_one : LoopLinesAreOne
loop_lines_are_one cs text other a b =
    let found : a.found ≡ b.found = counted_one (resolved cs) (int_at a.constants) (int_at b.constants) a.found b.found (same_constants cs a.constants b.constants a.are b.are) a.counted b.counted in
    a.text_is ∙ (ap (λ (xs : List FoundLoop). flat_map (found_line (named_or_number cs) (resolved cs).boot) xs) found ∙ sym b.text_is)

pub further_lines_are_one : FurtherLinesAreOne
further_lines_are_one cs text other a b =
    let ints : int_at a.constants ≡ int_at b.constants = same_constants cs a.constants b.constants a.are b.are in
    let known : a.known ≡ b.known =
    known_one (resolved cs) (int_at b.constants) a.known b.known (subst (λ (c : ℕ → Option ℤ). IsKnownBy (resolved cs) c a.known) ints a.is_known) b.is_known in
    let moved = subst (λ (k : Known). AreCountedFurther (resolved cs) k a.found) known a.counted in
    let found : a.found ≡ b.found = same_loops _ a.found b.found moved.rising b.counted.rising moved.each b.counted.each in
    a.text_is ∙ (ap (λ (xs : List FoundLoop). flat_map (found_line (named_or_number cs) (resolved cs).boot) xs) found ∙ sym b.text_is)
