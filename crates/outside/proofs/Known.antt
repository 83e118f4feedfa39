-- What a writer, a reader and an open file of which all is known do, in the words of a sink, a source and files.
use Rattle.std.proofs.Common.{◌≡◌, ℕ, ◌+◌, ◌<◌, ◌≤◌, List, ◌++◌, length, map, take, drop, None, Some, Ok, Err, IfOk, IfSome, IsSome, refl, sym, ap, ◌∙◌, arith, length-append, length-drop}
use Rattle.std.proofs.lemmas.Bool.{false≢true}
use Rattle.std.proofs.lemmas.List.{append-nil, length-take-le, take-append-le, take_all}
use Rattle.std.proofs.lemmas.Simd.{map-map}
use Rattle.std.specs.Io.{ReadsAtMost}
use Rattle.std.specs.Io.KnownBytes.{Appends, Consumes, IsAtEnd, Keeps, ReadConsumes}
use Rattle.std.specs.declared.option.Option.{Option}
use Rattle.std.specs.declared.result.Result.{Result}
use Rattle.outside.specs.Host.{Has}
use Rattle.outside.specs.Outside.{GaveWhereTold, Grew, IsReadFrom}

-- ---- what is known at all times, or never

pub Grew-appended : (old new : Option (List ℕ)) (bytes : List ℕ) → (IsSome new → IsSome old) → Appends old new bytes → Grew old new bytes
Grew-appended None None bytes steady appends = record { grown = λ ys e. cc }
Grew-appended None (Some zs) bytes steady appends = absurd (false≢true (steady refl))
Grew-appended (Some xs) None bytes steady appends = absurd appends
Grew-appended (Some xs) (Some zs) bytes steady appends = record { grown = λ ys e. (xs, refl, cc) }

pub same-kept : (old new : Option (List ℕ)) → (IsSome new → IsSome old) → Keeps old new → new ≡ old
same-kept None None steady keeps = refl
same-kept None (Some zs) steady keeps = absurd (false≢true (steady refl))
same-kept (Some xs) None steady keeps = absurd keeps
same-kept (Some xs) (Some zs) steady keeps = ap Some keeps

pub same-appended_none : (old new : Option (List ℕ)) (n : ℕ) (piece : List ℕ) → (IsSome new → IsSome old) → n ≤ 0 → Appends old new (take n piece) → new ≡ old
same-appended_none None None n piece steady none appends = refl
same-appended_none None (Some zs) n piece steady none appends = absurd (false≢true (steady refl))
same-appended_none (Some xs) None n piece steady none appends = absurd appends
same-appended_none (Some xs) (Some zs) n piece steady none appends =
    let zero : n ≡ 0 = omega arith in
    ap Some (appends ∙ ap (λ t. xs ++ take t piece) zero ∙ append-nil xs)

pub GaveWhereTold-consumed : (old new : Option (List ℕ)) (n : ℕ) (piece : List ℕ) → n ≤ length piece → Consumes old new (take n piece) × (n ≡ 0 → 0 < length piece → IsAtEnd new) → GaveWhereTold old new n piece
GaveWhereTold-consumed None new n piece bound consumes = tt
GaveWhereTold-consumed (Some xs) None n piece bound consumes = absurd consumes.0
GaveWhereTold-consumed (Some xs) (Some ys) n piece bound consumes = record {
  given = consumes.0;
  end = λ room. (
    λ none. consumes.0 ∙ ap (λ t. take t piece ++ ys) none ∙ consumes.1 none room,
    λ empty. let whole : length (take n piece ++ ys) ≡ 0 = ap length (sym consumes.0 ∙ empty) in omega (arith, whole, length-append (take n piece) ys, length-take-le n piece bound),
  );
}

-- ---- an open file at a place

moved : (old new : Option ℕ) (place k : ℕ) → IsSome old → IfSome old (λ position. (k ≡ place) × (new ≡ Some k)) → new ≡ Some place
moved None new place k known moves = absurd (false≢true known)
moved (Some position) new place k known moves = moves.1 ∙ ap Some moves.0

kept : (old new : Option (List ℕ)) (bytes : List ℕ) → old ≡ Some bytes → Keeps old new → new ≡ Some bytes
kept None new bytes is keeps = cc
kept (Some xs) None bytes is keeps = absurd keeps
kept (Some xs) (Some ys) bytes is keeps = ap Some keeps ∙ is

read : (bytes : List ℕ) (place n : ℕ) (piece : List ℕ) (old new : Option (List ℕ)) → old ≡ Some (drop place bytes) → n ≤ length piece → Consumes old new (take n piece) × (n ≡ 0 → 0 < length piece → IsAtEnd new) → IsReadFrom bytes place n piece
read bytes place n piece None new is bound consumes = cc
read bytes place n piece (Some xs) None is bound consumes = absurd consumes.0
read bytes place n piece (Some xs) (Some ys) is bound consumes =
    let same : drop place bytes ≡ xs = cc in
    let size : length (take n piece) ≡ n = length-take-le n piece bound in
    let rest : drop place bytes ≡ take n piece ++ ys = same ∙ consumes.0 in
    let long : length (drop place bytes) ≡ length (take n piece) + length ys = ap length rest ∙ length-append (take n piece) ys in
    let within : n ≤ length (take n piece) = omega arith in
    record {
      same = sym (ap (take n) rest ∙ take-append-le n (take n piece) ys within ∙ take_all n (take n piece) (omega arith));
      within = omega arith;
      end = λ none room. let ended : length ys ≡ 0 = ap length (consumes.1 none room) in omega (arith, ended, length-drop place bytes);
    }

pub read_placed : {F E : Type 0} (position : F → Option ℕ) (all left : F → Option (List ℕ)) (before placed after : F) (place k : ℕ) (result : Result ℕ E) (piece : List ℕ)
    → IfSome (position before) (λ p. (k ≡ place) × (position placed ≡ Some k)) → Keeps (all before) (all placed)
    → ReadsAtMost result piece → ReadConsumes (left placed) (left after) result piece
    → IfOk result (λ n. (bytes : List ℕ) → Has position all left bytes before → IsReadFrom bytes place n piece)
read_placed position all left before placed after place k (Err e) piece moves keeps bound consumes = tt
read_placed position all left before placed after place k (Ok n) piece moves keeps bound consumes = λ bytes has.
    let there : position placed ≡ Some place = moved (position before) (position placed) place k has.placed moves in
    let same : all placed ≡ Some bytes = kept (all before) (all placed) bytes has.same keeps in
    read bytes place n piece (left placed) (left after) (has.read_on placed bytes place same there) bound.0 consumes

-- ---- the files of words

pub told_named : {A B : Type 0} (name : A → List ℕ) (text : B → List ℕ) (told : List ℕ → Option (List ℕ)) (words : List A) (texts : List B) → map name words ≡ map text texts → map (λ w. told (name w)) words ≡ map (λ t. told (text t)) texts
told_named name text told words texts same = sym (map-map told name words) ∙ ap (map told) same ∙ map-map told text texts
