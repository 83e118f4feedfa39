-- Pieces one after another.
use Rattle.std.proofs.Common.{◌≡◌, ℕ, Bool, false, zero, suc, ◌+◌, ◌<◌, ◌≤◌, List, [], ◌∷◌}
use Rattle.std.proofs.Common.{◌++◌, length, take, get_or, sym, subst, ◌∙◌, ap, arith, add-one, append-nil, append_assoc, length-append}
use Rattle.std.proofs.Math.Seq.{take-append-add}
use Rattle.std.specs.Prelude.{IsErr, Ok, Err, codes, decimal}
use Rattle.std.specs.List.{concat}
use Rattle.std.specs.declared.option.Option.{Option}
use Rattle.std.specs.declared.result.Result.{Result}
use Rattle.std.proofs.lemmas.List.{take_all, take-append-le}
use Rattle.outside.specs.Outside.{Grew, HasCause, Rose}
use Rattle.answer_lines.specs.declared.pieces.Piece.{Piece}
use Rattle.answer_lines.specs.declared.line.Place.{Place}
use Rattle.answer_lines.specs.declared.line.Named.{Named}
use Rattle.answer_lines.specs.declared.line.LinkLine.{LinkLine}
use Rattle.answer_lines.specs.Line.{place_parts, named_parts, link_parts}
use Rattle.answer_lines.specs.Said.{SaidFault, SaidLess}
use Rattle.answer_lines.specs.Put.{piece_text, joined, PutLine}

joined-suc : (ps : List Piece) (i : ℕ) (d : Piece) → i < length ps → joined (take (suc i) ps) ≡ joined (take i ps) ++ piece_text (get_or ps i d)
joined-suc [] i d h = absurd (omega (arith, h))
joined-suc (p ∷ ps) zero d h = append-nil (piece_text p)
joined-suc (p ∷ ps) (suc i) d h = ap (λ t. piece_text p ++ t) (joined-suc ps i d (omega (arith, h))) ∙ sym (append_assoc (piece_text p) (joined (take i ps)) (piece_text (get_or ps i d)))

pub joined-more : (ps : List Piece) (i : ℕ) (d : Piece) → i < length ps → joined (take (i + 1) ps) ≡ joined (take i ps) ++ piece_text (get_or ps i d)
joined-more ps i d h = let P : ℕ → Type 0 = λ k. joined (take k ps) ≡ joined (take i ps) ++ piece_text (get_or ps i d) in subst P (sym (add-one i)) (joined-suc ps i d h)

-- the pieces so far and a front of the next one are a front of all pieces
pub record Front (ps : List Piece) (i n : ℕ) (piece : List ℕ) : Type 0 where
  pub count : ℕ
  pub part : count < length (joined ps)
  pub is : take count (joined ps) ≡ joined (take i ps) ++ take n piece

pub joined-front : (ps : List Piece) (i n : ℕ) (d : Piece) → i < length ps → n < length (piece_text (get_or ps i d)) → Front ps i n (piece_text (get_or ps i d))
joined-front [] i n d within part = absurd (omega (arith, within))
joined-front (p ∷ ps) zero n d within part = record {
  count = n;
  part = omega (arith, part, length-append (piece_text p) (joined ps));
  is = take-append-le n (piece_text p) (joined ps) (omega (arith, part));
}
joined-front (p ∷ ps) (suc i) n d within part =
    let rest = joined-front ps i n d (omega (arith, within)) part in
    record {
      count = length (piece_text p) + rest.count;
      part = omega (arith, rest.part, length-append (piece_text p) (joined ps));
      is = take-append-add (piece_text p) (joined ps) rest.count ∙ ap (λ t. piece_text p ++ t) rest.is ∙ sym (append_assoc (piece_text p) (joined (take i ps)) (take n (piece_text (get_or ps i d))));
    }

pub PutLine-err : {T E : Type 0} (old new : Option (List ℕ)) (line : List ℕ) (result : Result T E) → IsErr result → (n : ℕ) → n < length line → Grew old new (take n line) → PutLine old new line result
PutLine-err old new line (Ok x) failed n part put = absurd (cc)
PutLine-err old new line (Err e) failed n part put = (n, part, put)

-- All of a line was put, or less of it, and then the count of faults rose.
pub record Part (old new : Option (List ℕ)) (line : List ℕ) (before now : ℕ) : Type 0 where
  pub count : ℕ
  pub within : count ≤ length line
  pub short : count < length line → Rose before now
  pub put : Grew old new (take count line)

pub Part-PutLine : {T E : Type 0} (old new : Option (List ℕ)) (line : List ℕ) (before now : ℕ) (result : Result T E) → PutLine old new line result → HasCause before now result → Part old new line before now
Part-PutLine old new line before now (Ok x) put cause = record {
  count = length line;
  within = omega arith;
  short = λ less. absurd (omega (arith, less));
  put = let P : List ℕ → Type 0 = λ xs. Grew old new xs in subst P (sym (take_all (length line) line (omega arith))) put;
}
Part-PutLine old new line before now (Err e) put cause = record { count = put.0; within = omega (arith, put.1); short = λ less. cause.failed; put = put.2 }

-- ---- what stands in the midst of a line

pub at_place : {T E : Type 0} (old new : Option (List ℕ)) (file : ℕ) (item : List ℕ) (r : Result T E) (p q : Place) → p ≡ q
    → PutLine old new (concat (codes "link: unsupported file=" ∷ decimal file ∷ (place_parts q ++ codes " item=" ∷ item ∷ codes "\n" ∷ []))) r
    → PutLine old new (concat (codes "link: unsupported file=" ∷ decimal file ∷ (place_parts p ++ codes " item=" ∷ item ∷ codes "\n" ∷ []))) r
at_place old new file item r p q is put =
    let P : Place → Type 0 = λ x. PutLine old new (concat (codes "link: unsupported file=" ∷ decimal file ∷ (place_parts x ++ codes " item=" ∷ item ∷ codes "\n" ∷ []))) r in
    subst P (sym is) put

abbrev pub unresolved : (file entry : ℕ) → (why : List ℕ) → Named → List ℕ
unresolved file entry why name =
    concat (codes "link: unresolved file=" ∷ decimal file ∷ codes " entry=" ∷ decimal entry ∷ codes " why=" ∷ why ∷ codes " name=" ∷ (named_parts name ++ codes "\n" ∷ []))

pub at_named : {T E : Type 0} (old new : Option (List ℕ)) (file entry : ℕ) (why : List ℕ) (r : Result T E) (m n : Named) → m ≡ n → PutLine old new (unresolved file entry why n) r → PutLine old new (unresolved file entry why m) r
at_named old new file entry why r m n is put = let P : Named → Type 0 = λ x. PutLine old new (unresolved file entry why x) r in subst P (sym is) put

-- ---- the whole line

pub at_link : {T E : Type 0} (old new : Option (List ℕ)) (r : Result T E) (a b : LinkLine) → a ≡ b → PutLine old new (concat (link_parts b)) r → PutLine old new (concat (link_parts a)) r
at_link old new r a b is put = let P : LinkLine → Type 0 = λ x. PutLine old new (concat (link_parts x)) r in subst P (sym is) put

pub said_less : (is_fault : Bool) (line : List ℕ) (old new : Option (List ℕ)) (before now : ℕ) → is_fault ≡ false → SaidFault line old new before now → SaidLess is_fault line old new before now
said_less is_fault line old new before now is said = let P : Bool → Type 0 = λ b. SaidLess b line old new before now in subst P (sym is) said
