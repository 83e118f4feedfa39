-- The names of labels, none of them twice.
use Rattle.std.proofs.Common.{◌≡◌, ℕ, suc, ◌+◌, ◌<◌, ◌≤◌, Bool, true, false, not, ◌||◌, List, [], ◌∷◌, ◌++◌, length, get_or, drop, map, append_assoc, append-nil, refl, sym, ◌∙◌, ap, ap₂, subst, arith, Bor, cond, inl, inr, eqb, Vec, Global, drop-cons}
use Rattle.std.specs.List.{list_any}
use Rattle.std.proofs.lemmas.Bool.{cases_Bool, false≢true, true≢false}
use Rattle.std.proofs.lemmas.List.{length-map, get_or-map, drop_all, map-append}
use lib.Pointwise.{pointwise}
use Rattle.microcode_asm.specs.Parts.{is}
use Rattle.microcode_asm.specs.Programs.{repeats}
use Rattle.microcode_asm.specs.SoFar.{texts}
use Rattle.microcode_asm.proofs.LabelLemmas.{now, has_text}

pub any_text : (name : List ℕ) (ks : List (Vec ℕ Global)) → list_any (has_text name) ks ≡ list_any (is name) (texts ks)
any_text name [] = refl
any_text name (k ∷ ks) = ap (λ (b : Bool). has_text name k || b) (any_text name ks)

pub name_added : (name : List ℕ) (v : Vec ℕ Global) (ks : List (Vec ℕ Global)) (added : Bool) → v.items ≡ name → added ≡ not (list_any (has_text v.items) ks) → added ≡ not (list_any (is name) (texts ks))
name_added name v ks added items e = e ∙ ap not (ap (λ (x : List ℕ). list_any (has_text x) ks) items ∙ any_text name ks)

not_there : (b : Bool) → true ≡ not b → b ≡ false
not_there true h = absurd (false≢true (sym h))
not_there false h = refl

pub name_behind : (name : List ℕ) (v : Vec ℕ Global) (ks new : List (Vec ℕ Global)) (added : Bool) → v.items ≡ name → added ≡ not (list_any (has_text v.items) ks)
    → new ≡ cond (list_any (has_text v.items) ks) ks (ks ++ v ∷ []) → added ≡ true → texts new ≡ texts ks ++ name ∷ []
name_behind name v ks new added items e more there =
    let absent = not_there (list_any (has_text v.items) ks) (sym there ∙ e) in
    ap texts (more ∙ ap (λ (b : Bool). cond b ks (ks ++ v ∷ [])) absent)
    ∙ map-append (λ (k : Vec ℕ Global). k.items) ks (v ∷ [])
    ∙ ap (λ (x : List ℕ). texts ks ++ x ∷ []) items

-- ---- the labels of a line

rest_is : (ps : List (Bor (List ℕ))) (i : ℕ) (d : Bor (List ℕ)) → i < length ps → drop i (map now ps) ≡ (get_or ps i d).now ∷ drop (i + 1) (map now ps)
rest_is ps i d lt =
    let next : suc i ≡ i + 1 = omega arith in
    let within : i < length (map now ps) = omega (arith, length-map ps now, lt) in
    drop-cons (map now ps) i [] within ∙ ap₂ (λ (x : List ℕ) k. x ∷ drop k (map now ps)) (get_or-map now ps i d [] lt) next

-- the names that stand, those of the labels that are left, and what there was at first
pub record IsNamedSoFar (names : List (List ℕ)) (left : List (List ℕ)) (first : List (List ℕ)) (labels : List (List ℕ)) : Type 0 where
  pub all : names ++ left ≡ first ++ labels
  pub repeated : repeats names left ≡ repeats first labels

pub named_more : (ps : List (Bor (List ℕ))) (d : Bor (List ℕ)) (i : ℕ) (names more first labels : List (List ℕ)) → i < length ps → IsNamedSoFar names (drop i (map now ps)) first labels
    → true ≡ not (list_any (is (get_or ps i d).now) names) → more ≡ names ++ (get_or ps i d).now ∷ [] → IsNamedSoFar more (drop (i + 1) (map now ps)) first labels
named_more ps d i names more first labels lt r new e =
    let x = (get_or ps i d).now in
    let rest = drop (i + 1) (map now ps) in
    record {
      all = ap (λ (ns : List (List ℕ)). ns ++ rest) e ∙ append_assoc names (x ∷ []) rest ∙ ap (λ (l : List (List ℕ)). names ++ l) (sym (rest_is ps i d lt)) ∙ r.all;
      repeated =
          ap (λ (ns : List (List ℕ)). repeats ns rest) e
          ∙ sym (ap (λ (b : Bool). b || repeats (names ++ x ∷ []) rest) (not_there (list_any (is x) names) new))
          ∙ ap (repeats names) (sym (rest_is ps i d lt))
          ∙ r.repeated;
    }

there_by : (b : Bool) → false ≡ not b → b ≡ true
there_by true h = refl
there_by false h = absurd (false≢true h)

pub named_twice : (ps : List (Bor (List ℕ))) (d : Bor (List ℕ)) (i : ℕ) (names first labels : List (List ℕ)) → i < length ps → IsNamedSoFar names (drop i (map now ps)) first labels
    → false ≡ not (list_any (is (get_or ps i d).now) names) → true ≡ repeats first labels
named_twice ps d i names first labels lt r old =
    let x = (get_or ps i d).now in
    sym (ap (repeats names) (rest_is ps i d lt) ∙ ap (λ (b : Bool). b || repeats (names ++ x ∷ []) (drop (i + 1) (map now ps))) (there_by (list_any (is x) names) old))
    ∙ r.repeated

pub named_last : (ps : List (Bor (List ℕ))) (i : ℕ) (names first labels : List (List ℕ)) → length ps ≤ i → IsNamedSoFar names (drop i (map now ps)) first labels
    → (false ≡ repeats first labels) × (names ≡ first ++ labels)
named_last ps i names first labels past r =
    let none : drop i (map now ps) ≡ [] = drop_all i (map now ps) (omega (arith, length-map ps now, past)) in (
      sym (ap (repeats names) none) ∙ r.repeated,
      sym (ap (λ (l : List (List ℕ)). names ++ l) none ∙ append-nil names) ∙ r.all,
    )
