-- What is found of lines is what they mean.
use Rattle.std.proofs.Common.{◌≡◌, ◌≢◌, ℕ, zero, suc, ◌+◌, ◌<◌, List, [], ◌∷◌, ◌++◌, length, map, get_or, take, drop, set, replicate, Contains, Option, Some, None, refl, sym, ap, ap₂, ◌∙◌, subst, inl, inr, arith, add-one, append-nil, length-drop}
use Rattle.std.specs.Prelude.{slice_get}
use Rattle.std.proofs.lemmas.Bool.{cases_eq}
use Rattle.std.proofs.lemmas.List.{nil_from_length, take_all, length-set, length-replicate, get_or-set_same, get_or-set_other}
use Rattle.std.proofs.lemmas.List.Elements.{All-head, All-tail, Contains-get_or, Contains-push_cases}
use Rattle.std.proofs.lemmas.Option.{slice_get_within}
use Rattle.lists.specs.Members.{nil_contains, has_or_not}
use Rattle.loop_nest.proofs.Searching.{same_everywhere}
use Rattle.bytecode_model.specs.Program.{Program}
use Rattle.method_flow.specs.Flow.{Coded, Flow, IsCodedOf, IsFlowOf}
use Rattle.flow_facts.specs.declared.line.FactLine.{FactLine}
use Rattle.flow_facts.specs.declared.line.FactLine.TheVariants.{Total, Only}
use Rattle.flow_facts.specs.declared.line.NumberedFact.{NumberedFact}
use Rattle.flow_facts.specs.declared.line.TotalLine.{TotalLine}
use Rattle.flow_facts.specs.Facts.{CountFact, Facts}
use Rattle.fact_names.specs.declared.naming.Found.{Found}
use Rattle.fact_names.specs.Named.{Means, MeanAll, IsNoFact, IsSaidOf, facts_said, name_in}
use Rattle.fact_names.specs.Refused.{IsOwn, AreOwn}
use Rattle.fact_names.specs.Found.{AreFoundBelow, AreFoundIn, AreLinesOf, AreLookedAt, IsFoundBelow, IsFoundOf, IsLookedAt, facts_of, name_said}

-- ---- one line and one method more

fewer : (P : Program) (name_of : ℕ → List ℕ) (l : FactLine) (m : ℕ) (x : Option Found) → IsFoundBelow P name_of l (suc m) x → IsFoundBelow P name_of l m x
fewer P name_of (Total t) m None h = λ n scope lt s. h n scope (omega arith) s
fewer P name_of (Total t) m (Some x) h = h
fewer P name_of (Only o) m x h = tt

-- where the method isn't of the line, nothing is found anew
skipped : (P : Program) (name_of : ℕ → List ℕ) (l : FactLine) (m : ℕ) (x : Option Found) → name_of m ≢ name_said l → IsFoundBelow P name_of l m x → IsFoundBelow P name_of l (suc m) x
skipped P name_of (Total t) m None other h = λ n scope lt s. elim (cases_eq n m) [
  | inl same ↦ other (ap name_of (sym same) ∙ s.named.1)
  | inr apart ↦ h n scope (omega arith) s
]
skipped P name_of (Total t) m (Some x) other h = h
skipped P name_of (Only o) m x other h = tt

-- a line of which something was found keeps it, and a line of another kind has nothing
pub kept_found : (k : Coded) (m : ℕ) (l : FactLine) (x : Found) → IsLookedAt k m l (Some x) (Some x)
kept_found k m (Total t) x = λ P name_of of name said own h. h
kept_found k m (Only o) x = λ P name_of of name said own h. tt

pub kept_only : (k : Coded) (m : ℕ) (l : FactLine) (x : Option Found) → ((t : TotalLine) → l ≡ Total t → ⊥) → IsLookedAt k m l x x
kept_only k m (Total t) x never = absurd (never t refl)
kept_only k m (Only o) x never = λ P name_of of name said own h. tt

pub looked_in : (k : Coded) (m : ℕ) (t : TotalLine) (new' : Option Found) → IsFoundOf k m t new' → IsLookedAt k m (Total t) None new'
looked_in k m t None f = λ P name_of of name said own h n scope lt s. elim (cases_eq n m) [
  | inl same ↦ f P name_of of own scope (subst (λ (z : ℕ). IsSaidOf P name_of t z scope) same s)
  | inr apart ↦ h n scope (omega arith) s
]
looked_in k m t (Some x) f = λ P name_of of name said own h. (
  subst (λ (z : ℕ). IsSaidOf P name_of t z x.scope) (sym f.0) (f.3 P name_of of (name ∙ sym said)),
  f.1,
  f.2,
)

-- ---- all lines of a method

-- those that were looked at with one method more
pub record AreFoundTo (P : Program) (name_of : ℕ → List ℕ) (lines : List NumberedFact) (m : ℕ) (seen : List ℕ) (found : List (Option Found)) : Type 0 where
  pub long : length found ≡ length lines
  pub each : (i : ℕ) (l : NumberedFact) → slice_get lines i ≡ Some l → IsOwn l.fact → IsFoundBelow P name_of l.fact m (get_or found i None)
  pub more : (i : ℕ) (l : NumberedFact) → slice_get lines i ≡ Some l → IsOwn l.fact → Contains seen i → IsFoundBelow P name_of l.fact (suc m) (get_or found i None)

abbrev pub AreLookedTo : Coded → (method : ℕ) → List NumberedFact → (seen : List ℕ) → (old new : List (Option Found)) → Type 0
AreLookedTo k m lines seen old new' = (P : Program) (name_of : ℕ → List ℕ) → IsCodedOf P m k → name_of m ≡ k.name → AreFoundBelow P name_of lines m old
    → AreFoundTo P name_of lines m seen new'

module _ (k : Coded) (m : ℕ) (lines : List NumberedFact) (old : List (Option Found)) where
  pub look_start : AreLookedTo k m lines [] old old
  look_start = λ P name_of of name a. record { long = a.long; each = a.each; more = λ i l there own has. absurd (nil_contains i has) }

  pub look_next : (seen : List ℕ) (found : List (Option Found)) (i : ℕ) (line : NumberedFact) (x new' : Option Found) → AreLookedTo k m lines seen old found
      → slice_get lines i ≡ Some line → name_said line.fact ≡ k.name → x ≡ get_or found i None → IsLookedAt k m line.fact x new'
      → AreLookedTo k m lines (seen ++ i ∷ []) old (set found i new')
  look_next seen found i line x new' to there said is l = λ P name_of of name a.
      let t = to P name_of of name a in
      let long = t.long in
      let lt = slice_get_within lines i line there in
      let here : get_or (set found i new') i None ≡ new' = get_or-set_same found i new' None (omega arith) in
      let next : (line' : NumberedFact) → slice_get lines i ≡ Some line' → IsOwn line'.fact → IsFoundBelow P name_of line'.fact (suc m) (get_or (set found i new') i None) =
      λ line' there' own.
      let same : line ≡ line' = one_line i line line' there there' in
      subst (λ (z : NumberedFact). IsFoundBelow P name_of z.fact (suc m) (get_or (set found i new') i None)) same (subst (λ (z : Option Found). IsFoundBelow P name_of line.fact (suc m) z) (sym here)
      (l P name_of of name said (subst (λ (z : NumberedFact). IsOwn z.fact) (sym same) own)
      (subst (λ (z : Option Found). IsFoundBelow P name_of line.fact m z) (sym is) (t.each i line there (subst (λ (z : NumberedFact). IsOwn z.fact) (sym same) own)))))
      in
      record {
        long = length-set found i new' ∙ long;
        each = λ j line' there' own.
            elim (cases_eq j i) [
              | inl same ↦ at_same P name_of m (set found i new') i j line' same (fewer P name_of line'.fact m _ (next line' (ap (slice_get lines) (sym same) ∙ there') own))
              | inr other ↦ subst (λ (z : Option Found). IsFoundBelow P name_of line'.fact m z) (sym (get_or-set_other found i j new' None other)) (t.each j line' there' own)
            ];
        more = λ j line' there' own has.
            elim (cases_eq j i) [
              | inl same ↦ at_same P name_of (suc m) (set found i new') i j line' same (next line' (ap (slice_get lines) (sym same) ∙ there') own)
              | inr other ↦
                  elim (Contains-push_cases seen i j has) [
                    | inl before ↦ subst (λ (z : Option Found). IsFoundBelow P name_of line'.fact (suc m) z) (sym (get_or-set_other found i j new' None other)) (t.more j line' there' own before)
                    | inr same ↦ absurd (other (sym same))
                  ]
            ];
      }
    where
      one_line : (i : ℕ) (a b : NumberedFact) → slice_get lines i ≡ Some a → slice_get lines i ≡ Some b → a ≡ b
      one_line i a b ea eb = cc

      at_same : (P : Program) (name_of : ℕ → List ℕ) (n : ℕ) (fs : List (Option Found)) (i j : ℕ) (line' : NumberedFact) → j ≡ i
          → IsFoundBelow P name_of line'.fact n (get_or fs i None) → IsFoundBelow P name_of line'.fact n (get_or fs j None)
      at_same P name_of n fs i j line' same h = subst (λ (z : ℕ). IsFoundBelow P name_of line'.fact n (get_or fs z None)) (sym same) h

  pub look_end : (own : List ℕ) (found : List (Option Found)) → AreLinesOf lines k.name own → AreLookedTo k m lines own old found → AreLookedAt k m lines old found
  look_end own found of_name to = λ P name_of of name a.
      let t = to P name_of of name a in
      record {
        long = t.long;
        each = λ i l there is_own.
            elim (has_or_not own i) [
              | inl has ↦ t.more i l there is_own has
              | inr never ↦ skipped P name_of l.fact m _ (λ e. never ((of_name i).1 (l, there, sym e ∙ name))) (t.each i l there is_own)
            ];
      }

-- each of the numbers is that of a line of the name
pub line_of : (lines : List NumberedFact) (name own : List ℕ) (i : ℕ) → AreLinesOf lines name own → i < length own
    → (l : NumberedFact) × (slice_get lines (get_or own i 0) ≡ Some l) × (name_said l.fact ≡ name)
line_of lines name own i of_name lt = (of_name (get_or own i 0)).0 (Contains-get_or own i 0 lt)

pub look_none : (k : Coded) (m : ℕ) (lines : List NumberedFact) (own : List ℕ) (found : List (Option Found)) → AreLinesOf lines k.name own → own ≡ [] → AreLookedAt k m lines found found
look_none k m lines own found of_name none = look_end k m lines found [] found (subst (λ (us : List ℕ). AreLinesOf lines k.name us) none of_name) (look_start k m lines found)

-- ---- all methods

pub none_below : (f : Flow) (lines : List NumberedFact) (found : List (Option Found)) → found ≡ replicate (length lines) None → AreFoundIn f lines 0 found
none_below f lines found is = λ P flow. record {
  long = ap length is ∙ length-replicate (length lines) None;
  each = λ i l there own.
      let none : get_or found i None ≡ None = ap (λ (fs : List (Option Found)). get_or fs i None) is ∙ same_everywhere (length lines) i None in
      subst (λ (z : Option Found). IsFoundBelow P (name_in f) l.fact 0 z) (sym none) (below_none P (name_in f) l.fact);
}
  where
    below_none : (P : Program) (name_of : ℕ → List ℕ) (l : FactLine) → IsFoundBelow P name_of l 0 None
    below_none P name_of (Total t) = λ m scope lt s. omega arith
    below_none P name_of (Only o) = tt

some_at : (ks : List Coded) (m : ℕ) → m < length ks → (k : Coded) × (slice_get ks m ≡ Some k)
some_at [] m lt = absurd (omega arith)
some_at (k ∷ ks) zero lt = (k, refl)
some_at (k ∷ ks) (suc m) lt = some_at ks m (omega arith)

pub next_below : (f : Flow) (lines : List NumberedFact) (m : ℕ) (old new : List (Option Found)) → m < length f.methods
    → ((k : Coded) → slice_get f.methods m ≡ Some k → AreLookedAt k m lines old new) → AreFoundIn f lines m old → AreFoundIn f lines (m + 1) new
next_below f lines m old new' lt l a = λ P flow.
    let k = some_at f.methods m lt in
    let name : name_in f m ≡ k.0.name = ap (λ (o : Option Coded). elim o [ None ↦ [] | Some x ↦ x.name ]) k.1 in
    subst (λ (n : ℕ). AreFoundBelow P (name_in f) lines n new') (sym (add-one m)) (l k.0 k.1 P (name_in f) (flow.methods m k.0 k.1) name (a P flow))

-- what is written to a whole list
pub whole : (n : ℕ) (new old : List (Option Found)) → length new ≡ length old → n ≡ length old → take n (new ++ drop (length new) old) ≡ new
whole n new' old same all =
    let none : drop (length new') old ≡ [] = nil_from_length (drop (length new') old) (omega (arith, length-drop (length new') old)) in
    ap (λ (xs : List (Option Found)). take n (new' ++ xs)) none ∙ (ap (take n) (append-nil new') ∙ take_all n new' (omega arith))

pub one_coded : (f : Flow) (m : ℕ) (a b : Coded) → slice_get f.methods m ≡ Some a → slice_get f.methods m ≡ Some b → a ≡ b
one_coded f m a b ea eb = cc

-- ---- facts

abbrev the_facts : CountFact → Facts
the_facts c = record { counts = c ∷ []; targets = [] }

mean_one : (P : Program) (name_of : ℕ → List ℕ) (n : ℕ) (l : FactLine) (x : Found) → IsOwn l → IsFoundBelow P name_of l n (Some x) → Means P name_of l (facts_of (x ∷ []))
mean_one P name_of n (Total t) x own f = (
  x.method,
  x.scope,
  ap₂ (λ (u most : ℕ). the_facts (record { method = x.method; nodes = u ∷ []; most = most; scope = x.scope })) f.1 f.2,
  f.0,
)
mean_one P name_of n (Only o) x own f = absurd own

shifted : (P : Program) (name_of : ℕ → List ℕ) (l : NumberedFact) (ls : List NumberedFact) (n : ℕ) (x : Option Found) (xs : List (Option Found)) → AreFoundBelow P name_of (l ∷ ls) n (x ∷ xs) → AreFoundBelow P name_of ls n xs
shifted P name_of l ls n x xs a = record { long = let long = a.long in omega arith; each = λ i line there own. a.each (suc i) line there own }

pub mean_all : (P : Program) (name_of : ℕ → List ℕ) (n : ℕ) (lines : List NumberedFact) (xs : List Found) → AreOwn lines → AreFoundBelow P name_of lines n (map (λ x. Some x) xs) → MeanAll P name_of (facts_said lines) (facts_of xs)
mean_all P name_of n [] [] own a = refl
mean_all P name_of n [] (x ∷ xs) own a = absurd (let long = a.long in omega arith)
mean_all P name_of n (l ∷ ls) [] own a = absurd (let long = a.long in omega arith)
mean_all P name_of n (l ∷ ls) (x ∷ xs) own a =
    let is_own = All-head (λ (z : NumberedFact). IsOwn z.fact) l ls own in (
      facts_of (x ∷ []),
      facts_of xs,
      refl,
      mean_one P name_of n l.fact x is_own (a.each 0 l refl is_own),
      mean_all P name_of n ls xs (All-tail (λ (z : NumberedFact). IsOwn z.fact) l ls own) (shifted P name_of l ls n (Some x) (map (λ x. Some x) xs) a),
    )

prefix : (P : Program) (name_of : ℕ → List ℕ) (n i : ℕ) (lines : List NumberedFact) (found : List (Option Found)) → AreFoundBelow P name_of lines n found → AreFoundBelow P name_of (take i lines) n (take i found)
prefix P name_of n zero lines found a = record { long = refl; each = λ j l there own. absurd (let h : None ≡ Some l = there in cc) }
prefix P name_of n (suc i) [] [] a = record { long = refl; each = λ j l there own. absurd (let h : None ≡ Some l = there in cc) }
prefix P name_of n (suc i) [] (x ∷ xs) a = absurd (let long = a.long in omega arith)
prefix P name_of n (suc i) (l ∷ ls) [] a = absurd (let long = a.long in omega arith)
prefix P name_of n (suc i) (l ∷ ls) (x ∷ xs) a =
    let rest = prefix P name_of n i ls xs (shifted P name_of l ls n x xs a) in
    record { long = let long = rest.long in omega arith; each = each rest }
  where
    each : AreFoundBelow P name_of (take i ls) n (take i xs) → (j : ℕ) (line : NumberedFact) → slice_get (l ∷ take i ls) j ≡ Some line → IsOwn line.fact
        → IsFoundBelow P name_of line.fact n (get_or (x ∷ take i xs) j None)
    each rest zero line there own = a.each 0 line there own
    each rest (suc j) line there own = rest.each j line there own

pub mean_before : (P : Program) (name_of : ℕ → List ℕ) (n i : ℕ) (lines : List NumberedFact) (found : List (Option Found)) (xs : List Found) → AreOwn (take i lines) → take i found ≡ map (λ x. Some x) xs
    → AreFoundBelow P name_of lines n found → MeanAll P name_of (facts_said (take i lines)) (facts_of xs)
mean_before P name_of n i lines found xs own is a =
    mean_all P name_of n (take i lines) xs own (subst (λ (fs : List (Option Found)). AreFoundBelow P name_of (take i lines) n fs) is (prefix P name_of n i lines found a))

-- a line of which nothing was found says nothing
pub means_nothing : (P : Program) (f : Flow) (l : FactLine) → IsFlowOf P f → IsOwn l → IsFoundBelow P (name_in f) l (length f.methods) None → IsNoFact P (name_in f) l
means_nothing P f (Total t) flow own h = λ facts x. h x.0 x.1 ((flow.coded x.0).0 x.3.named.0) x.3
means_nothing P f (Only o) flow own h = absurd own
