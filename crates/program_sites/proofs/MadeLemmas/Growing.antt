-- The lists of ints that are pushed, and of sites, grow line by line.
use Rattle.std.proofs.Common.{◌≡◌, ℕ, ◌+◌, ◌<◌, ◌⊎◌, ℤ, List, [], ◌∷◌, ◌++◌, length, map, take, get_or, All, Contains, Option, Some, None, refl, sym, ap, ◌∙◌, subst, inl, inr, arith}
use Rattle.std.specs.List.Sorted.{IsStrictlyIncreasing}
use Rattle.std.proofs.lemmas.List.{map-append, take_more, get_or-take, get_or_default, length-take}
use Rattle.std.proofs.lemmas.List.Elements.{Contains-append_left, Contains-append_cases, Contains-push, Contains-get_or}
use Rattle.loop_nest.proofs.Elements.{from_map}
use Rattle.loop_nest.proofs.Rising.{rising_push}
use Rattle.lists.specs.Members.{cons_cases, nil_contains, contains_at, rising_pair}
use Rattle.lists.proofs.Lemmas.{none≢some}
use Rattle.bytecode_model.specs.declared.Value.TheVariants.{Int}
use Rattle.bytecode_model.specs.Program.{Program}
use Rattle.bytecode_model.specs.Rows as rows
use Rattle.bytecode_model.specs.Rows.{Row}
use Rattle.code_lines.specs.Lines.{IsLine}
use Rattle.code_lines.specs.Laws.{LinesAreOne}
use Rattle.code_scan.specs.declared.scan.PushedInt.{PushedInt}
use Rattle.memory_rules.specs.declared.sites.Site.{Site}
use Rattle.memory_rules.specs.declared.sites.Makes.{Makes}
use Rattle.memory_rules.specs.Heap.{Made, AnObject, AnArray, made_by}
use Rattle.code_scan.specs.Lines.{ArePushed}
use Rattle.memory_rules.specs.Stack.{method_words}
use Rattle.memory_rules.specs.Sites.{places_of, IsSiteOf, IsToldAs, AreNeedsOf}
use Rattle.program_sites.specs.declared.made.making.MadeWords.{MadeWords}
use Rattle.program_sites.specs.declared.made.making.MadeWords.TheVariants.{Object, Array}
use Rattle.program_sites.specs.Made.Making.{made_seen, IsPushBy}
use Rattle.program_sites.specs.Made.Lines.{AreLinePlaces, ArePushedAt, AreSitesAt, IsToldOr, with_pushed, with_site}

all_from_contains : {X : Type 0} (P : X → Type 0) (xs : List X) → ((x : X) → Contains xs x → P x) → All P xs
all_from_contains P xs f i d lt = f _ (Contains-get_or xs i d lt)

-- the place of a member of a list that is longer by one
last_or : (places : List ℕ) (p q : ℕ) → Contains (places ++ p ∷ []) q → Contains places q ⊎ (p ≡ q)
last_or places p q has =
    elim (Contains-append_cases places (p ∷ []) q has) [
      | inl there ↦ inl there
      | inr here ↦
          elim (cons_cases p q [] here) [
            | inl same ↦ inr same
            | inr none ↦ absurd (nil_contains q none)
          ]
    ]

module _ (P : Program) (m : ℕ) (places : List ℕ) (p : ℕ) (next : ℕ) (r : Row) (line : IsLine P m p next r) (one : LinesAreOne) where
  -- ---- ints

  module _ (xs : List PushedInt) (h : ArePushedAt P m places xs) where
    pub no_push : IsPushBy r None → ArePushedAt P m (places ++ p ∷ []) xs
    no_push none = record {
      rising = h.rising;
      each = λ x other has is.
          elim (last_or places p x.place has) [
            | inl there ↦ h.each x other there is
            | inr same ↦
                let at : IsLine P m p other (rows.Push (Int x.value)) = subst (λ (q : ℕ). IsLine P m q other (rows.Push (Int x.value))) (sym same) is in
                absurd (none x.value (one P m p next other r (rows.Push (Int x.value)) line at).1)
          ];
      only = λ x has. let o = h.only x has in (Contains-append_left places (p ∷ []) x.place o.0, o.1);
    }

    pub one_push : (c : ℤ) → IsStrictlyIncreasing (map (λ x. x.place) (xs ++ record { place = p; value = c } ∷ [])) → IsPushBy r (Some c) → ArePushedAt P m (places ++ p ∷ []) (xs ++ record { place = p; value = c } ∷ [])
    one_push c rising is =
        let x : PushedInt = record { place = p; value = c } in
        record {
          rising = rising;
          each = λ y other has at.
              elim (last_or places p y.place has) [
                | inl there ↦ Contains-append_left xs (record { place = p; value = c } ∷ []) y (h.each y other there at)
                | inr same ↦
                    let line' : IsLine P m p other (rows.Push (Int y.value)) = subst (λ (q : ℕ). IsLine P m q other (rows.Push (Int y.value))) (sym same) at in
                    let rows_are : r ≡ rows.Push (Int y.value) = (one P m p next other r (rows.Push (Int y.value)) line line').1 in
                    let pushes : rows.Push (Int c) ≡ rows.Push (Int y.value) = sym is ∙ rows_are in
                    let value : c ≡ y.value = cc in
                    let Q : ℕ → ℤ → Type 0 = λ q v. Contains (xs ++ record { place = p; value = c } ∷ []) (record { place = q; value = v }) in
                    subst (λ (v : ℤ). Q y.place v) value (subst (λ (q : ℕ). Q q c) same (Contains-push xs x))
              ];
          only = λ y has.
              elim (Contains-append_cases xs (record { place = p; value = c } ∷ []) y has) [
                | inl there ↦ let o = h.only y there in (Contains-append_left places (p ∷ []) y.place o.0, o.1)
                | inr here ↦
                    elim (cons_cases x y [] here) [
                      | inr none ↦ absurd (nil_contains y none)
                      | inl same ↦
                          let Q : PushedInt → Type 0 = λ z. Contains (places ++ p ∷ []) z.place × ((n : ℕ) × IsLine P m z.place n (rows.Push (Int z.value))) in
                          subst Q same (Contains-push places p, (next, subst (λ (s : Row). IsLine P m p next s) is line))
                    ]
              ];
        }

  -- ---- sites

  module _ (sites : List Site) (h : AreSitesAt P m places sites) where
    pub no_site : made_by P r ≡ None → AreSitesAt P m (places ++ p ∷ []) sites
    no_site none = record {
      rising = h.rising;
      each = λ q other s made has is makes.
          elim (last_or places p q has) [
            | inl there ↦ h.each q other s made there is makes
            | inr same ↦
                let at : IsLine P m p other s = subst (λ (z : ℕ). IsLine P m z other s) (sym same) is in
                let rows_are : r ≡ s = (one P m p next other r s line at).1 in
                let bad : None ≡ Some made = sym none ∙ ap (made_by P) rows_are ∙ makes in
                absurd (none≢some made bad)
          ];
      only = λ s has. let o = h.only s has in (Contains-append_left places (p ∷ []) s.place o.0, o.1);
    }

    pub one_site : (makes : Makes) (made : Made) → made_by P r ≡ Some made → IsToldAs P m p made makes
        → IsStrictlyIncreasing (places_of (sites ++ record { place = p; makes = makes } ∷ [])) → AreSitesAt P m (places ++ p ∷ []) (sites ++ record { place = p; makes = makes } ∷ [])
    one_site makes made is told rising =
        let x : Site = record { place = p; makes = makes } in
        record {
          rising = rising;
          each = λ q other s y has at is'.
              let split : places_of (sites ++ x ∷ []) ≡ places_of sites ++ p ∷ [] = map-append (λ (z : Site). z.place) sites (x ∷ []) in
              subst (λ (ps : List ℕ). Contains ps q) (sym split)
              (elim (last_or places p q has) [
                | inl there ↦ Contains-append_left (places_of sites) (p ∷ []) q (h.each q other s y there at is')
                | inr same ↦ subst (λ (z : ℕ). Contains (places_of sites ++ p ∷ []) z) same (Contains-push (places_of sites) p)
              ]);
          only = λ y has.
              elim (Contains-append_cases sites (record { place = p; makes = makes } ∷ []) y has) [
                | inl there ↦ let o = h.only y there in (Contains-append_left places (p ∷ []) y.place o.0, o.1)
                | inr here ↦
                    elim (cons_cases x y [] here) [
                      | inr none ↦ absurd (nil_contains y none)
                      | inl same ↦
                          let Q : Site → Type 0 = λ z. Contains (places ++ p ∷ []) z.place × IsSiteOf P m z in
                          subst Q same (Contains-push places p, record { next = next; row = r; line = line; made = made; makes = is; told = told })
                    ]
              ];
        }

-- ---- the loop over the places of lines

-- places before the one at i are below it
before_at : (places : List ℕ) → IsStrictlyIncreasing places → (i : ℕ) → i < length places → (q : ℕ) → Contains (take i places) q → q < get_or places i 0
before_at places rising i lt q has =
    let short = length-take i places in
    let k : has.0 < i = (let below = has.1 in omega (arith, short)) in
    let read : get_or places has.0 0 ≡ q = sym (get_or-take i places has.0 0 k) ∙ get_or_default (take i places) has.0 0 q has.1 ∙ has.2 in
    let up = rising_pair places rising has.0 i k lt in
    omega arith

module _ (P : Program) (m : ℕ) (places : List ℕ) (are : AreLinePlaces P m places) (one : LinesAreOne) (i : ℕ) (lt : i < length places) where
  p : ℕ
  p = get_or places i 0

  line : (next : ℕ) × (r : Row) × IsLine P m (get_or places i 0) next r
  line = are.lines (get_or places i 0) (contains_at places i (get_or places i 0) lt refl)

  more : take i places ++ get_or places i 0 ∷ [] ≡ take (i + 1) places
  more = sym (take_more places i 0 lt)

  module _ (xs : List PushedInt) (h : ArePushedAt P m (take i places) xs) where
    pub pushed_none : ((next : ℕ) (r : Row) → IsLine P m (get_or places i 0) next r → IsPushBy r None) → ArePushedAt P m (take (i + 1) places) xs
    pushed_none none = subst (λ (ps : List ℕ). ArePushedAt P m ps xs) more (no_push P m (take i places) (get_or places i 0) line.0 line.1 line.2 one xs h (none line.0 line.1 line.2))

    pushed_rising : (c : ℤ) → IsStrictlyIncreasing (map (λ x. x.place) (xs ++ record { place = get_or places i 0; value = c } ∷ []))
    pushed_rising c =
        let x : PushedInt = record { place = get_or places i 0; value = c } in
        let f : PushedInt → ℕ = λ y. y.place in
        subst (λ (ps : List ℕ). IsStrictlyIncreasing ps) (sym (map-append f xs (x ∷ [])))
        (rising_push (map f xs) (get_or places i 0) h.rising (all_from_contains (λ (y : ℕ). y < get_or places i 0) (map f xs) (λ y has.
        let r = from_map f xs y has in
        before_at places are.rising i lt y (subst (λ (z : ℕ). Contains (take i places) z) r.2 (h.only r.0 r.1).0))))

    pub pushed_one : (c : ℤ) → ((next : ℕ) (r : Row) → IsLine P m (get_or places i 0) next r → IsPushBy r (Some c)) → ArePushedAt P m (take (i + 1) places) (xs ++ record { place = get_or places i 0; value = c } ∷ [])
    pushed_one c is =
        subst (λ (ps : List ℕ). ArePushedAt P m ps (xs ++ record { place = get_or places i 0; value = c } ∷ [])) more
        (one_push P m (take i places) (get_or places i 0) line.0 line.1 line.2 one xs h c (pushed_rising c) (is line.0 line.1 line.2))

  module _ (sites : List Site) (h : AreSitesAt P m (take i places) sites) where
    pub sites_none : ((next : ℕ) (r : Row) → IsLine P m (get_or places i 0) next r → made_by P r ≡ None) → AreSitesAt P m (take (i + 1) places) sites
    sites_none none = subst (λ (ps : List ℕ). AreSitesAt P m ps sites) more (no_site P m (take i places) (get_or places i 0) line.0 line.1 line.2 one sites h (none line.0 line.1 line.2))

    sites_rising : (makes : Makes) → IsStrictlyIncreasing (places_of (sites ++ record { place = get_or places i 0; makes = makes } ∷ []))
    sites_rising makes =
        let x : Site = record { place = get_or places i 0; makes = makes } in
        let f : Site → ℕ = λ y. y.place in
        subst (λ (ps : List ℕ). IsStrictlyIncreasing ps) (sym (map-append f sites (x ∷ [])))
        (rising_push (map f sites) (get_or places i 0) h.rising (all_from_contains (λ (y : ℕ). y < get_or places i 0) (map f sites) (λ y has.
        let r = from_map f sites y has in
        before_at places are.rising i lt y (subst (λ (z : ℕ). Contains (take i places) z) r.2 (h.only r.0 r.1).0))))

    pub sites_one : (made : Made) (makes : Makes) → ((next : ℕ) (r : Row) → IsLine P m (get_or places i 0) next r → made_by P r ≡ Some made) → IsToldAs P m (get_or places i 0) made makes
        → AreSitesAt P m (take (i + 1) places) (sites ++ record { place = get_or places i 0; makes = makes } ∷ [])
    sites_one made makes is told =
        subst (λ (ps : List ℕ). AreSitesAt P m ps (sites ++ record { place = get_or places i 0; makes = makes } ∷ [])) more
        (one_site P m (take i places) (get_or places i 0) line.0 line.1 line.2 one sites h makes made (is line.0 line.1 line.2) told (sites_rising makes))

-- ---- all lines

-- as the loops go on
module _ (P : Program) (m : ℕ) (places : List ℕ) (are : AreLinePlaces P m places) (one : LinesAreOne) (i : ℕ) (lt : i < length places) where
  pub pushed_more : (xs : List PushedInt) → ArePushedAt P m (take i places) xs → (o : Option ℤ) → ((next : ℕ) (r : Row) → IsLine P m (get_or places i 0) next r → IsPushBy r o)
      → ArePushedAt P m (take (i + 1) places) (with_pushed xs (get_or places i 0) o)
  pushed_more xs h None is = pushed_none P m places are one i lt xs h is
  pushed_more xs h (Some c) is = pushed_one P m places are one i lt xs h c is

  pub sites_more : (sites : List Site) → AreSitesAt P m (take i places) sites → (made : Option MadeWords) (o : Option Makes)
      → ((next : ℕ) (r : Row) → IsLine P m (get_or places i 0) next r → made_seen made ≡ made_by P r) → IsToldOr P m (get_or places i 0) made o
      → AreSitesAt P m (take (i + 1) places) (with_site sites (get_or places i 0) o)
  sites_more sites h None None is told = sites_none P m places are one i lt sites h (λ next r line. sym (is next r line))
  sites_more sites h (Some (Object words)) (Some makes) is told =
      sites_one P m places are one i lt sites h (AnObject words) makes (λ next r line. sym (is next r line)) (told (AnObject words) refl)
  sites_more sites h (Some (Array element)) (Some makes) is told =
      sites_one P m places are one i lt sites h (AnArray element) makes (λ next r line. sym (is next r line)) (told (AnArray element) refl)
  sites_more sites h None (Some makes) is told = absurd told
  sites_more sites h (Some made) None is told = absurd told

module _ (P : Program) (m : ℕ) (places : List ℕ) (are : AreLinePlaces P m places) where
  -- the ints are just those that the method's instructions push
  pub all_pushed : (xs : List PushedInt) → ArePushedAt P m places xs → ArePushed P m xs
  all_pushed xs h = record {
    rising = h.rising;
    each = λ x. (λ has. (h.only x has).1, λ line. h.each x line.0 (are.only x.place line.0 (rows.Push (Int x.value)) line.1) line.1);
  }

  -- and so are the sites
  pub all_sites : (words : ℕ) → words ≡ method_words P m → (sites : List Site) → AreSitesAt P m places sites → AreNeedsOf P m (record { words = words; sites = sites })
  all_sites words is sites h = record {
    words = is;
    rising = h.rising;
    each = λ q next r made line makes. h.each q next r made (are.only q next r line) line makes;
    only = λ s has. (h.only s has).1;
  }

pub no_pushed : (P : Program) (m : ℕ) → ArePushedAt P m [] []
no_pushed P m = record { rising = λ k lt. absurd (omega arith); each = λ x next has line. absurd (nil_contains x.place has); only = λ x has. absurd (nil_contains x has) }

pub no_sites : (P : Program) (m : ℕ) → AreSitesAt P m [] []
no_sites P m = record { rising = λ k lt. absurd (omega arith); each = λ p next r made has line makes. absurd (nil_contains p has); only = λ s has. absurd (nil_contains s has) }
