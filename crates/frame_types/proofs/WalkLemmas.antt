-- The entries of a StackMapTable, one after the other, as a loop does.
use Rattle.std.proofs.Common.{◌≡◌, ℕ, suc, ◌+◌, ◌<◌, ◌≤◌, true, List, [], ◌∷◌, ◌++◌, length, get_or, drop, Some, Result, Ok, Err, refl, sym, ap, subst, ◌∙◌, append_assoc, arith}
use Rattle.std.proofs.Math.Seq.{drop-cons}
use Rattle.opcodes.specs.Start.{starts_of, AreStarts}
use Rattle.class_pool.specs.declared.class.Code.{Code}
use Rattle.frame_types.specs.declared.types.VarType.{VarType}
use Rattle.frame_types.specs.declared.types.TypeFrame.{TypeFrame}
use Rattle.frame_types.specs.declared.read.MapEntry.{MapEntry}
use Rattle.frame_types.specs.Types.{is_start}
use Rattle.frame_types.specs.Frames.{mapped, with_frames, frames_from}
use Rattle.frame_types.proofs.SearchLemmas.{among_contains}

abbrev Found : Type 0
Found = Result (List (ℕ × TypeFrame)) ℕ

regroup : (front : List (ℕ × TypeFrame)) (f : ℕ × TypeFrame) (found : Found) → with_frames front (with_frames (f ∷ []) found) ≡ with_frames (front ++ f ∷ []) found
regroup front f (Err place) = refl
regroup front f (Ok fs) = ap (λ (xs : List (ℕ × TypeFrame)). Ok xs) (sym (append_assoc front (f ∷ []) fs))

pub next_entry : (es : List MapEntry) (i : ℕ) (e : MapEntry) → i < length es → e ≡ get_or es i e → drop i es ≡ e ∷ drop (suc i) es
next_entry es i e lt at = drop-cons es i e lt ∙ ap (λ (q : MapEntry). q ∷ drop (suc i) es) (sym at)

walk_goes_on : (k : Code) (front : List (ℕ × TypeFrame)) (next : ℕ) (locals : List VarType) (es : List MapEntry) (i : ℕ) (e : MapEntry) (x : List VarType × TypeFrame) (total : Found) → i < length es → e ≡ get_or es i e
    → mapped k (next + e.offset) e.change locals ≡ Some x → with_frames front (frames_from k next locals (drop i es)) ≡ total
    → with_frames (front ++ (next + e.offset, x.1) ∷ []) (frames_from k (next + e.offset + 1) x.0 (drop (i + 1) es)) ≡ total
walk_goes_on k front next locals es i e x total lt at is so_far =
    let same : i + 1 ≡ suc i = omega arith in
    let rest = frames_from k (next + e.offset + 1) x.0 (drop (suc i) es) in
    let step : frames_from k next locals (e ∷ drop (suc i) es) ≡ with_frames ((next + e.offset, x.1) ∷ []) rest = rw is refl in
    let one : with_frames front (frames_from k next locals (drop i es)) ≡ with_frames (front ++ (next + e.offset, x.1) ∷ []) rest =
    ap (λ (q : List MapEntry). with_frames front (frames_from k next locals q)) (next_entry es i e lt at) ∙ ap (with_frames front) step ∙ regroup front (next + e.offset, x.1) rest
    in
    rw same (sym one ∙ so_far)

-- the same where the place is known otherwise
pub walk_goes_on_at : (k : Code) (front : List (ℕ × TypeFrame)) (next : ℕ) (locals : List VarType) (es : List MapEntry) (i : ℕ) (e : MapEntry) (place : ℕ) (x : List VarType × TypeFrame) (total : Found) → i < length es → e ≡ get_or es i e
    → place ≡ next + e.offset → mapped k place e.change locals ≡ Some x → with_frames front (frames_from k next locals (drop i es)) ≡ total
    → with_frames (front ++ (place, x.1) ∷ []) (frames_from k (place + 1) x.0 (drop (i + 1) es)) ≡ total
walk_goes_on_at k front next locals es i e place x total lt at here is so_far =
    let P : ℕ → Type 0 = λ p. mapped k p e.change locals ≡ Some x → with_frames (front ++ (p, x.1) ∷ []) (frames_from k (p + 1) x.0 (drop (i + 1) es)) ≡ total in
    subst P (sym here) (λ there. walk_goes_on k front next locals es i e x total lt at there so_far) is

-- an instruction begins within the code
pub start_within : (k : Code) (place most : ℕ) → AreStarts k.code → is_start k.code place ≡ true → length k.code ≤ most → place + 1 ≤ most
start_within k place most starts start small =
    let within = starts.within_code place (among_contains (starts_of k.code) place start) in
    omega arith
