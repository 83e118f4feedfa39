-- Frames by place, one after another.
use Rattle.std.proofs.Common.{◌≡◌, ℕ, zero, suc, ◌<◌, ◌≤◌, Bool, true, false, eqb, List, [], ◌∷◌, ◌++◌, length, map, get_or, set, replicate, append_assoc, Option, Some, None, refl, sym, ap, ◌∙◌, subst, inl, inr, arith}
use Rattle.std.specs.Prelude.{if◌then◌else◌}
use Rattle.std.specs.List.{AllByRecursion}
use Rattle.std.specs.Option.{option_map}
use Rattle.std.proofs.lemmas.Bool.{cases_lt, eqb-true, eq-eqb, false≢true}
use Rattle.std.proofs.lemmas.List.{append-nil, length-set, length-replicate, get_or-set_same, get_or-set_other}
use Rattle.std.proofs.lemmas.Option.{slice_get-get_or, slice_get_past}
use Rattle.lists.specs.Lists.{onto}
use Rattle.frame_types.specs.declared.steps.MapStep.{MapStep}
use Rattle.bytecode_typing.specs.Types as typing
use Rattle.bytecode_typing.specs.Typings.{frame_among}
use Rattle.verifier_types.specs.declared.frame.TypeFrame as codes
use Rattle.verifier_types.specs.Frame.{frame_seen}
use Rattle.bytecode_verifier.specs.Maps.{seen_at, frames_seen}

pub none_seen : (ls : List (List typing.VarType)) (n place : ℕ) → seen_at ls (replicate n None) place ≡ None
none_seen ls zero place = refl
none_seen ls (suc n) zero = refl
none_seen ls (suc n) (suc place) = none_seen ls n place

read : (ls : List (List typing.VarType)) (items : List (Option codes.TypeFrame)) (place : ℕ) → place < length items → seen_at ls items place ≡ option_map (frame_seen ls) (get_or items place None)
read ls items place h = ap (λ o. onto o (option_map (frame_seen ls))) (slice_get-get_or items place None h)

unread : (ls : List (List typing.VarType)) (items : List (Option codes.TypeFrame)) (place : ℕ) → length items ≤ place → seen_at ls items place ≡ None
unread ls items place h = ap (λ o. onto o (option_map (frame_seen ls))) (slice_get_past items place h)

set_here : (ls : List (List typing.VarType)) (items : List (Option codes.TypeFrame)) (at : ℕ) (f : codes.TypeFrame) → at < length items → seen_at ls (set items at (Some f)) at ≡ Some (frame_seen ls f)
set_here ls items at f h =
    let long = length-set items at (Some f) in
    read ls (set items at (Some f)) at (omega (arith, h, long)) ∙ ap (option_map (frame_seen ls)) (get_or-set_same items at (Some f) None h)

set_there : (ls : List (List typing.VarType)) (items : List (Option codes.TypeFrame)) (at : ℕ) (f : codes.TypeFrame) (place : ℕ) → (place ≡ at → ⊥) → seen_at ls (set items at (Some f)) place ≡ seen_at ls items place
set_there ls items at f place never =
    let long = length-set items at (Some f) in
    elim (cases_lt place (length items)) [
      | inl lt ↦ read ls (set items at (Some f)) place (omega (arith, lt, long)) ∙ (ap (option_map (frame_seen ls)) (get_or-set_other items at place (Some f) None never) ∙ sym (read ls items place lt))
      | inr ge ↦ unread ls (set items at (Some f)) place (omega (arith, ge, long)) ∙ sym (unread ls items place ge)
    ]

set_case : (ls : List (List typing.VarType)) (items : List (Option codes.TypeFrame)) (at : ℕ) (f : codes.TypeFrame) (place : ℕ) (b : Bool) → eqb at place ≡ b → at < length items → seen_at ls (set items at (Some f)) place ≡ (if b then Some (frame_seen ls f) else seen_at ls items place)
set_case ls items at f place true e h = ap (seen_at ls (set items at (Some f))) (sym (eqb-true at place e)) ∙ set_here ls items at f h
set_case ls items at f place false e h = set_there ls items at f place (λ same. false≢true (sym e ∙ eq-eqb at place (sym same)))

pub set_seen : (ls : List (List typing.VarType)) (items : List (Option codes.TypeFrame)) (at : ℕ) (f : codes.TypeFrame) (place : ℕ) → at < length items → seen_at ls (set items at (Some f)) place ≡ (if eqb at place then Some (frame_seen ls f) else seen_at ls items place)
set_seen ls items at f place h = set_case ls items at f place (eqb at place) refl h

-- the frames that are left, and the places of those behind them
pub record ArePlaced (n : ℕ) (all left : List (ℕ × codes.TypeFrame)) (places : List (Option codes.TypeFrame)) : Type 0 where
  pub done : List (ℕ × codes.TypeFrame)
  pub are : all ≡ left ++ done
  pub long : length places ≡ n
  pub within : AllByRecursion (λ x. x.0 < n) left
  pub placed : (ls : List (List typing.VarType)) (place : ℕ) → seen_at ls places place ≡ frame_among (frames_seen ls done) place

pub none_placed : (n : ℕ) (all : List (ℕ × codes.TypeFrame)) (places : List (Option codes.TypeFrame)) → places ≡ replicate n None → AllByRecursion (λ x. x.0 < n) all → ArePlaced n all all places
none_placed n all places e h = record {
  done = [];
  are = sym (append-nil all);
  long = ap length e ∙ length-replicate n None;
  within = h;
  placed = λ ls place. ap (λ l. seen_at ls l place) e ∙ none_seen ls n place;
}

-- all but the last, and the last
front : (n : ℕ) (xs : List (ℕ × codes.TypeFrame)) (x : ℕ × codes.TypeFrame) → AllByRecursion (λ y. y.0 < n) (xs ++ x ∷ []) → AllByRecursion (λ y. y.0 < n) xs × (x.0 < n)
front n [] x h = (tt, h.0)
front n (y ∷ ys) x h = let r = front n ys x h.1 in ((h.0, r.0), r.1)

pub one_placed : (n : ℕ) (all left rest : List (ℕ × codes.TypeFrame)) (places : List (Option codes.TypeFrame)) (at : ℕ) (f : codes.TypeFrame) → ArePlaced n all left places → left ≡ rest ++ (at, f) ∷ [] → ArePlaced n all rest (set places at (Some f))
one_placed n all left rest places at f h e =
    let r = front n rest (at, f) (subst (λ (l : List (ℕ × codes.TypeFrame)). AllByRecursion (λ y. y.0 < n) l) e h.within) in
    let inside : at < length places = (let a = r.1 in let b = h.long in omega (arith, a, b)) in
    record {
      done = (at, f) ∷ h.done;
      are = h.are ∙ (ap (λ l. l ++ h.done) e ∙ append_assoc rest ((at, f) ∷ []) h.done);
      long = length-set places at (Some f) ∙ h.long;
      within = r.0;
      placed = λ ls place. set_seen ls places at f place inside ∙ ap (λ o. if eqb at place then Some (frame_seen ls f) else o) (h.placed ls place);
    }

pub last_placed : (n : ℕ) (all left : List (ℕ × codes.TypeFrame)) (places : List (Option codes.TypeFrame)) → ArePlaced n all left places → left ≡ [] → (ls : List (List typing.VarType)) (place : ℕ) → seen_at ls places place ≡ frame_among (frames_seen ls all) place
last_placed n all left places h e ls place = h.placed ls place ∙ ap (λ l. frame_among (frames_seen ls l) place) (sym (h.are ∙ ap (λ l. l ++ h.done) e))

-- where the places of the steps are within the code, so are those of the frames
pub places_within : (n : ℕ) (found : List (ℕ × codes.TypeFrame)) (steps : List MapStep) → map (λ x. x.0) found ≡ map (λ s. s.place) steps → AllByRecursion (λ s. s.place < n) steps → AllByRecursion (λ x. x.0 < n) found
places_within n [] steps e h = tt
places_within n (x ∷ xs) [] e h = cc
places_within n (x ∷ xs) (s ∷ ss) e h =
    let first : x.0 ≡ s.place = cc in
    let others : map (λ x. x.0) xs ≡ map (λ s. s.place) ss = cc in
    (subst (λ (m : ℕ). m < n) (sym first) h.0, places_within n xs ss others h.1)
