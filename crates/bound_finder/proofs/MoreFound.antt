-- What is found of methods, with one more behind them.
use Rattle.std.proofs.Common.{◌≡◌, ◌⊎◌, ℕ, ◌<◌, Bool, true, false, ◌&&◌, ◌==◌, List, [], ◌∷◌, ◌++◌, map, length, get_or, set, Contains, Option, Some, None, refl, sym, ap, ◌∙◌, subst, inl, inr, arith}
use Rattle.std.specs.Prelude.{All, IfNone, if◌then◌else◌}
use Rattle.std.proofs.lemmas.Bool.{cases_eq, eq-eqb, ne_eqb, cond-true, cond-false, false≢true}
use Rattle.std.proofs.lemmas.List.{length-set, map-append}
use Rattle.std.proofs.lemmas.List.Elements.{All-set, All-push, Contains-get_or, Contains-push, Contains-push_cases, Contains-append_left}
use Rattle.std.specs.Cmp.Derive.{both_true}
use Rattle.lists.proofs.Lemmas.{if_at}
use Rattle.lists.specs.Members.{cons_cases, nil_contains, map_contains}
use Rattle.section_check.specs.Least.{IsLeast, lesser_of}
use Rattle.section_check.proofs.LeastLemmas.{least_same, least_either}
use Rattle.bytecode_model.specs.Program.{Program}
use Rattle.certificates.specs.declared.lines.line.SectionKind.TheVariants.{Alone}
use Rattle.certificates.specs.declared.cert.CertSection.{CertSection}
use Rattle.certificates.specs.Certificate.{IsSectionInText, is_inside}
use Rattle.method_flow.specs.Flow.{IsFlowOf}
use Rattle.bound_rules.specs.Told.{Valued, value_in, section_value, is_same}
use Rattle.bound_rules.specs.Conditions.{MeetAll}
use Rattle.bound_rules.specs.Laws.{OneMoreMeets}
use Rattle.call_regions.proofs.Sorting.{if_none}
use Rattle.bound_finder.specs.declared.known.Known.{Known}
use Rattle.bound_finder.specs.declared.found.Found.{Found}
use Rattle.bound_finder.specs.declared.methods.Methods.{Methods}
use Rattle.bound_finder.specs.Known.{BoundSetting, bounds_in, ForEach, known_at, IsLimited, CalleesAreKnown, IsKnownOf}
use Rattle.bound_finder.specs.Found.{kind_of, Cover, ShowsNumber, IsSectionOf, HasSection, IsFoundOf}
use Rattle.bound_finder.specs.Methods.{values_by, IsEmptyIfEndless, IsLargeAmong, AreMethodsFound, AddsMethod}
use Rattle.bound_finder.specs.Ready.{AreBehindCalls}
use Rattle.bound_finder.proofs.Growing.{known_same, known_new, known_stays, section_stays, values_same, front_behind, last_behind, called_before}

-- ---- the values of sections

same_self : (b : Bool) → is_same b b ≡ true
same_self true = refl
same_self false = refl

right_false : (a b : Bool) → b ≡ false → (a && b) ≡ false
right_false true b q = q
right_false false b q = refl

-- of a method that has one
pub value_found : (table : List Known) (x : ℕ) (done : List ℕ) → Contains done x → value_in (known_at table x).fits x (values_by table done) ≡ Some (known_at table x).asked
value_found table x [] has = absurd (nil_contains x has)
value_found table x (y ∷ ys) has =
    let rest = value_in (known_at table x).fits x (values_by table ys) in
    elim (cases_eq y x) [
      | inl same ↦
          let F : ℕ → Type 0 = λ z. (if is_same (known_at table x).fits (known_at table z).fits && z == x then Some (known_at table z).asked else rest) ≡ Some (known_at table x).asked in
          subst F (sym same) (cond-true (is_same (known_at table x).fits (known_at table x).fits && x == x) (Some (known_at table x).asked) rest (both_true (same_self (known_at table x).fits) (eq-eqb x x refl)))
      | inr other ↦
          cond-false (is_same (known_at table x).fits (known_at table y).fits && y == x) (Some (known_at table y).asked) rest (right_false (is_same (known_at table x).fits (known_at table y).fits) (y == x) (ne_eqb y x other))
          ∙ value_found table x ys (elim (cons_cases y x ys has) [ inl same ↦ absurd (other same) | inr there ↦ there ])
    ]

pub kind_is_inside : (b : Bool) → is_inside (kind_of b) ≡ b
kind_is_inside true = refl
kind_is_inside false = refl

of_regions : (b : Bool) → kind_of b ≡ Alone → ⊥
of_regions true e = absurd (cc)
of_regions false e = absurd (cc)

-- the value of a section, by what is known of the method
pub section_says : (m : ℕ) (k : Known) (s : CertSection) → IsSectionOf m k s → record { method = m; inside = k.fits; value = k.asked } ≡ section_value s k.asked
section_says m k s h =
    let W : ℕ → Valued = λ x. record { method = x; inside = k.fits; value = k.asked } in
    let U : Bool → Valued = λ b. record { method = s.method; inside = b; value = k.asked } in
    let kind : is_inside s.kind ≡ k.fits = ap is_inside h.kind ∙ kind_is_inside k.fits in
    ap W (sym h.method) ∙ ap U (sym kind)

-- and behind others, by what is found of it
pub value_is : (table : List Known) (m : ℕ) (k : Known) (s : CertSection) → m < length table → IsSectionOf m k s
    → values_by (set table m k) (m ∷ []) ≡ section_value s k.asked ∷ []
value_is table m k s inside h =
    let V : Known → List Valued = λ o. record { method = m; inside = o.fits; value = o.asked } ∷ [] in
    ap V (known_new table m k inside) ∙ ap (λ (v : Valued). v ∷ []) (section_says m k s h)

-- ---- the least with a number that is too large

module _ (table : List Known) (done : List ℕ) (m : ℕ) (k : Known) (inside : m < length table) (apart : Contains done m → ⊥) where
  -- an earlier one among them
  earlier_large : (u : ℕ) → IsLargeAmong table done u → IsLargeAmong (set table m k) (done ++ m ∷ []) u
  earlier_large u h =
      let ne : u ≡ m → ⊥ = λ e. apart (let C : ℕ → Type 0 = λ y. Contains done y in subst C e h.0) in
      (Contains-append_left done (m ∷ []) u h.0, ap (λ (o : Known). o.too_large) (known_same table m u k ne) ∙ h.1)

  large_cases : (u : ℕ) → IsLargeAmong (set table m k) (done ++ m ∷ []) u → IsLargeAmong table done u ⊎ ((u ≡ m) × (k.too_large ≡ true))
  large_cases u h =
      elim (cases_eq u m) [
        | inl same ↦ inr (same, let L : ℕ → Type 0 = λ y. (known_at (set table m k) y).too_large ≡ true in sym (ap (λ (o : Known). o.too_large) (known_new table m k inside)) ∙ subst L same h.1)
        | inr ne ↦
            elim (Contains-push_cases done m u h.0) [
              | inl before ↦ inl (before, sym (ap (λ (o : Known). o.too_large) (known_same table m u k ne)) ∙ h.1)
              | inr same ↦ absurd (ne (sym same))
            ]
      ]

  -- where its numbers are small
  pub least_small : (o : Option ℕ) → k.too_large ≡ false → IsLeast (IsLargeAmong table done) o → IsLeast (IsLargeAmong (set table m k) (done ++ m ∷ [])) o
  least_small o small h =
      least_same (IsLargeAmong table done) (IsLargeAmong (set table m k) (done ++ m ∷ [])) o earlier_large (λ u large.
      elim (large_cases u large) [
        | inl before ↦ before
        | inr here ↦ absurd (let f : false ≡ true = sym small ∙ here.1 in cc)
      ]) h

  -- and where one is too large
  pub least_large : (o : Option ℕ) → k.too_large ≡ true → IsLeast (IsLargeAmong table done) o → IsLeast (IsLargeAmong (set table m k) (done ++ m ∷ [])) (lesser_of o (Some m))
  least_large o large h =
      let here : IsLargeAmong (set table m k) (done ++ m ∷ []) m = (Contains-push done m, ap (λ (x : Known). x.too_large) (known_new table m k inside) ∙ large) in
      least_either (IsLargeAmong table done) (λ u. u ≡ m) (IsLargeAmong (set table m k) (done ++ m ∷ [])) o (Some m) earlier_large (λ u same.
      let L : ℕ → Type 0 = λ y. IsLargeAmong (set table m k) (done ++ m ∷ []) y in
      subst L (sym same) here) (λ u both.
      elim (large_cases u both) [ inl before ↦ inl before | inr at ↦ inr at.0 ]) h (refl, λ u less same. absurd (omega arith))

-- ---- all together

-- where a list has no section more, one of its numbers is too large
section_cases : (m : ℕ) (k : Known) (o : Option CertSection) → (k.too_large ≡ true → o ≡ None) → (k.too_large ≡ false → o ≡ None → ⊥) → ((k.too_large ≡ true) × (o ≡ None)) ⊎ ((k.too_large ≡ false) × ((s : CertSection) × (o ≡ Some s)))
section_cases m k o none some = by k.too_large refl o refl
  where
    by : (b : Bool) → k.too_large ≡ b → (p : Option CertSection) → o ≡ p → ((k.too_large ≡ true) × (o ≡ None)) ⊎ ((k.too_large ≡ false) × ((s : CertSection) × (o ≡ Some s)))
    by true e p is = inl (e, none e)
    by false e None is = absurd (some e is)
    by false e (Some s) is = inr (e, (s, is))

-- what follows of two facts that hold where there is none
both_none : (o : Option ℕ) (X Y Z : Type 0) → (X → Y → Z) → IfNone o X → IfNone o Y → IfNone o Z
both_none None X Y Z f x y = f x y
both_none (Some n) X Y Z f x y = tt

some_is_none : (o : Option ℕ) (m : ℕ) (X : Type 0) → IfNone (lesser_of o (Some m)) X
some_is_none None m X = tt
some_is_none (Some n) m X = tt

module _ (one_more : OneMoreMeets) (st : BoundSetting) (done : List ℕ) (m : ℕ) (old new : Methods) (apart : Contains done m → ⊥) (inside : m < length old.table.items) (h : AreMethodsFound st done old) (found : Found) (is : IsFoundOf st old.table.items m found) (adds : AddsMethod m found old new) where
  abbrev table : List Known
  table = old.table.items

  abbrev k : Known
  k = found.known

  unmet : (y : ℕ) → Contains done y → y ≡ m → ⊥
  unmet y has e = apart (let C : ℕ → Type 0 = λ z. Contains done z in subst C e has)

  -- what is known of an earlier one
  known_before : (P : Program) → IsFlowOf P st.flow → AreBehindCalls P (done ++ m ∷ []) → (x : ℕ) → Contains done x → IsKnownOf P st.timing (bounds_in st) (set table m k) x (known_at (set table m k) x)
  known_before P of behind x before =
      let front = front_behind P done m behind in
      let K : Known → Type 0 = λ o. IsKnownOf P st.timing (bounds_in st) (set table m k) x o in
      subst K (sym (known_same table m x k (unmet x before)))
      (known_stays P st.timing (bounds_in st) table (set table m k) x (known_at table x) (λ y call. known_same table m y k (unmet y (called_before P done m behind x y before call))) (h.known P of front x before))

  -- all that m may call is told
  are_told : (P : Program) → IsFlowOf P st.flow → AreBehindCalls P (done ++ m ∷ []) → CalleesAreKnown P st.timing table m
  are_told P of behind y call = (h.known P of (front_behind P done m behind) y (last_behind P done m behind y call)).told

  known_here : (P : Program) → IsFlowOf P st.flow → AreBehindCalls P (done ++ m ∷ []) → IsKnownOf P st.timing (bounds_in st) (set table m k) m (known_at (set table m k) m)
  known_here P of behind =
      let K : Known → Type 0 = λ o. IsKnownOf P st.timing (bounds_in st) (set table m k) m o in
      subst K (sym (known_new table m k inside))
      (known_stays P st.timing (bounds_in st) table (set table m k) m k (λ y call. known_same table m y k (unmet y (last_behind P done m behind y call))) (is.known P of (are_told P of behind)))

  known_all : (P : Program) → IsFlowOf P st.flow → AreBehindCalls P (done ++ m ∷ []) → (x : ℕ) → Contains (done ++ m ∷ []) x → IsKnownOf P st.timing (bounds_in st) (set table m k) x (known_at (set table m k) x)
  known_all P of behind x has =
      elim (Contains-push_cases done m x has) [
        | inl before ↦ known_before P of behind x before
        | inr same ↦ let K : ℕ → Type 0 = λ y. IsKnownOf P st.timing (bounds_in st) (set table m k) y (known_at (set table m k) y) in subst K same (known_here P of behind)
      ]

  -- the sections with one more
  module _ (s : CertSection) (some : found.section ≡ Some s) where
    section_is : IsSectionOf m k s
    section_is = (if_at found.section s (λ s. IsSectionOf m k s × ForEach st (λ P. CalleesAreKnown P st.timing table m → ShowsNumber P st.timing (bounds_in st) table m k s)) some is.section).0

    shows : (P : Program) → IsFlowOf P st.flow → AreBehindCalls P (done ++ m ∷ []) → ShowsNumber P st.timing (bounds_in st) table m k s
    shows P of behind = (if_at found.section s (λ s. IsSectionOf m k s × ForEach st (λ P. CalleesAreKnown P st.timing table m → ShowsNumber P st.timing (bounds_in st) table m k s)) some is.section).1 P of (are_told P of behind)

    values_more : values_by (set table m k) (done ++ m ∷ []) ≡ values_by table done ++ section_value s k.asked ∷ []
    values_more =
        map-append (λ (x : ℕ). let V : Valued = record { method = x; inside = (known_at (set table m k) x).fits; value = (known_at (set table m k) x).asked } in V) done (m ∷ [])
        ∙ (ap (λ (vs : List Valued). vs ++ values_by (set table m k) (m ∷ [])) (values_same table m k done apart) ∙ ap (λ (vs : List Valued). values_by table done ++ vs) (value_is table m k s inside section_is))

    meet_more : (P : Program) → IsFlowOf P st.flow → AreBehindCalls P (done ++ m ∷ []) → MeetAll P st.timing (bounds_in st) [] old.sections.items (values_by table done)
        → MeetAll P st.timing (bounds_in st) [] (old.sections.items ++ s ∷ []) (values_by (set table m k) (done ++ m ∷ []))
    meet_more P of behind before =
        let M : List Valued → Type 0 = λ vs. MeetAll P st.timing (bounds_in st) [] (old.sections.items ++ s ∷ []) vs in
        let cover : Cover P table (values_by table done) m = λ x call. value_found table x done (last_behind P done m behind x call) in
        subst M (sym values_more) (one_more P st.timing (bounds_in st) [] old.sections.items (values_by table done) s k.asked before (shows P of behind (values_by table done) cover))

    methods_more : map (λ (x : CertSection). x.method) old.sections.items ≡ done → map (λ (x : CertSection). x.method) (old.sections.items ++ s ∷ []) ≡ done ++ m ∷ []
    methods_more e =
        map-append (λ (x : CertSection). x.method) old.sections.items (s ∷ [])
        ∙ (ap (λ (xs : List ℕ). xs ++ s.method ∷ []) e ∙ ap (λ (x : ℕ). done ++ x ∷ []) section_is.method)

    -- those of methods that can't end list no node
    empty_here : IsEmptyIfEndless (set table m k) s
    empty_here = λ none.
        let at = ap (λ (x : ℕ). (known_at (set table m k) x).asked) section_is.method ∙ ap (λ (o : Known). o.asked) (known_new table m k inside) in
        if_at found.section s (λ s. k.asked ≡ None → s.section.nodes ≡ []) some is.empty (sym at ∙ none)

    empty_before : map (λ (x : CertSection). x.method) old.sections.items ≡ done → All (IsEmptyIfEndless table) old.sections.items → All (IsEmptyIfEndless (set table m k)) old.sections.items
    empty_before e all i d lt = λ none.
        let x = get_or old.sections.items i d in
        let among = map_contains (λ (y : CertSection). y.method) old.sections.items x (Contains-get_or old.sections.items i d lt) in
        let has : Contains done x.method = (let C : List ℕ → Type 0 = λ xs. Contains xs x.method in subst C e among) in
        all i d lt (sym (ap (λ (o : Known). o.asked) (known_same table m x.method k (unmet x.method has))) ∙ none)

    empty_more : map (λ (x : CertSection). x.method) old.sections.items ≡ done → All (IsEmptyIfEndless table) old.sections.items → All (IsEmptyIfEndless (set table m k)) (old.sections.items ++ s ∷ [])
    empty_more e all = All-push (IsEmptyIfEndless (set table m k)) old.sections.items s (empty_before e all) empty_here

  -- the section of an earlier one
  shown_before : (P : Program) → IsFlowOf P st.flow → AreBehindCalls P (done ++ m ∷ []) → (x : ℕ) → Contains done x → (known_at (set table m k) x).too_large ≡ false
      → HasSection P st.timing (bounds_in st) (set table m k) x (known_at (set table m k) x)
  shown_before P of behind x before =
      let front = front_behind P done m behind in
      let H : Known → Type 0 = λ o. o.too_large ≡ false → HasSection P st.timing (bounds_in st) (set table m k) x o in
      subst H (sym (known_same table m x k (unmet x before)))
      (λ small. section_stays P st.timing (bounds_in st) table (set table m k) x (known_at table x) (λ y call. known_same table m y k (unmet y (called_before P done m behind x y before call))) (h.shown P of front x before small))

  -- and that of the method m
  section_here : (P : Program) → IsFlowOf P st.flow → AreBehindCalls P (done ++ m ∷ []) → k.too_large ≡ false → HasSection P st.timing (bounds_in st) table m k
  section_here P of behind small =
      elim (section_cases m k found.section is.none is.some) [
        | inl x ↦ absurd (false≢true (sym small ∙ x.0))
        | inr x ↦ record { section = x.1.0; of_method = section_is x.1.0 x.1.1; shows = shows x.1.0 x.1.1 P of behind }
      ]

  shown_here : (P : Program) → IsFlowOf P st.flow → AreBehindCalls P (done ++ m ∷ []) → (known_at (set table m k) m).too_large ≡ false → HasSection P st.timing (bounds_in st) (set table m k) m (known_at (set table m k) m)
  shown_here P of behind =
      let H : Known → Type 0 = λ o. o.too_large ≡ false → HasSection P st.timing (bounds_in st) (set table m k) m o in
      subst H (sym (known_new table m k inside))
      (λ small. section_stays P st.timing (bounds_in st) table (set table m k) m k (λ y call. known_same table m y k (unmet y (last_behind P done m behind y call))) (section_here P of behind small))

  shown_all : (P : Program) → IsFlowOf P st.flow → AreBehindCalls P (done ++ m ∷ []) → (x : ℕ) → Contains (done ++ m ∷ []) x → (known_at (set table m k) x).too_large ≡ false
      → HasSection P st.timing (bounds_in st) (set table m k) x (known_at (set table m k) x)
  shown_all P of behind x has =
      elim (Contains-push_cases done m x has) [
        | inl before ↦ shown_before P of behind x before
        | inr same ↦
            let H : ℕ → Type 0 = λ y. (known_at (set table m k) y).too_large ≡ false → HasSection P st.timing (bounds_in st) (set table m k) y (known_at (set table m k) y) in
            subst H same (shown_here P of behind)
      ]

  -- with the sections as they are then
  abbrev With : (tb : List Known) (o : Option ℕ) (ss : List CertSection) → Type 0
  With tb o ss = IsLeast (IsLargeAmong tb (done ++ m ∷ [])) o
      × All (IsSectionInText 2) ss
      × All (λ (x : CertSection). x.kind ≡ Alone → ⊥) ss
      × IfNone o (map (λ (x : CertSection). x.method) ss ≡ done ++ m ∷ [])
      × IfNone o (All (IsEmptyIfEndless tb) ss)
      × IfNone o (ForEach st (λ P. AreBehindCalls P (done ++ m ∷ []) → MeetAll P st.timing (bounds_in st) [] ss (values_by tb (done ++ m ∷ []))))

  moved : (o p : Option ℕ) (ss ts : List CertSection) → o ≡ p → ss ≡ ts → With (set table m k) p ts → With new.table.items o ss
  moved o p ss ts e f w =
      let A : List Known → Type 0 = λ tb. With tb o ss in
      let B : Option ℕ → Type 0 = λ q. With (set table m k) q ss in
      let C : List CertSection → Type 0 = λ us. With (set table m k) p us in
      subst A (sym adds.table) (subst B (sym e) (subst C (sym f) w))

  with_none : k.too_large ≡ true → found.section ≡ None → With new.table.items new.least new.sections.items
  with_none large none =
      let I : Option CertSection → Type 0 = λ o. IfNone o ((new.sections.items ≡ old.sections.items) × (new.least ≡ lesser_of old.least (Some m))) in
      let now : (new.sections.items ≡ old.sections.items) × (new.least ≡ lesser_of old.least (Some m)) = subst I none adds.none in
      moved new.least (lesser_of old.least (Some m)) new.sections.items old.sections.items now.1 now.0
      (least_large table done m k inside apart old.least large h.least, h.in_text, h.kinds, some_is_none old.least m _, some_is_none old.least m _, some_is_none old.least m _)

  with_some : k.too_large ≡ false → (s : CertSection) → found.section ≡ Some s → With new.table.items new.least new.sections.items
  with_some small s some =
      let now = if_at found.section s (λ s. (new.sections.items ≡ old.sections.items ++ s ∷ []) × (new.least ≡ old.least)) some adds.some in
      moved new.least old.least new.sections.items (old.sections.items ++ s ∷ []) now.1 now.0
      (least_small table done m k inside apart old.least small h.least, All-push (IsSectionInText 2) old.sections.items s h.in_text (section_is s some).in_text, All-push (λ (x : CertSection). x.kind ≡ Alone → ⊥) old.sections.items s h.kinds (λ e. of_regions k.fits (sym (section_is s some).kind ∙ e)), if_none old.least _ _ (methods_more s some) h.methods, both_none old.least _ _ _ (empty_more s some) h.methods h.empty, if_none old.least _ _ (λ meet P of behind. meet_more s some P of behind (meet P of (front_behind P done m behind))) h.meet)

  all_with : With new.table.items new.least new.sections.items
  all_with =
      elim (section_cases m k found.section is.none is.some) [
        | inl x ↦ with_none x.0 x.1
        | inr x ↦ with_some x.0 x.1.0 x.1.1
      ]

  pub found_more : AreMethodsFound st (done ++ m ∷ []) new
  found_more =
      let w = all_with in
      let K : List Known → Type 0 = λ tb. (P : Program) → IsFlowOf P st.flow → AreBehindCalls P (done ++ m ∷ []) → (x : ℕ) → Contains (done ++ m ∷ []) x → IsKnownOf P st.timing (bounds_in st) tb x (known_at tb x) in
      let H : List Known → Type 0 = λ tb. (P : Program) → IsFlowOf P st.flow → AreBehindCalls P (done ++ m ∷ []) → (x : ℕ) → Contains (done ++ m ∷ []) x → (known_at tb x).too_large ≡ false
      → HasSection P st.timing (bounds_in st) tb x (known_at tb x) in
      record {
        long = ap length adds.table ∙ (length-set table m k ∙ h.long);
        limited = (let L : List Known → Type 0 = λ tb. All IsLimited tb in subst L (sym adds.table) (All-set IsLimited table m k is.limited h.limited));
        known = subst K (sym adds.table) known_all;
        shown = subst H (sym adds.table) shown_all;
        least = w.0;
        in_text = w.1;
        kinds = w.2;
        methods = w.3;
        empty = w.4;
        meet = w.5;
      }
