-- One row more among entries.
use Rattle.std.proofs.Common.{◌≡◌, ◌⊎◌, ℕ, suc, ◌+◌, ◌<◌, ◌≤◌, Bool, true, false, not, ◌||◌, cond, List, [], ◌∷◌, ◌++◌, length, map, set, take, get_or, append-nil, Option, Contains, refl, sym, ◌∙◌, ap, subst, arith, inl, inr}
use Rattle.std.specs.Prelude.{if◌then◌else◌, filter}
use Rattle.std.specs.List.{AllByRecursion, position_or_len, list_any, IsDistinct}
use Rattle.std.proofs.lemmas.List.Elements.{filter-append, Contains-append_left, Contains-push_cases}
use Rattle.std.proofs.lemmas.List.Sums.{sum_by_push, sum_by-cons}
use Rattle.std.proofs.lemmas.Map.Keys.{IsDistinct-head, IsDistinct-tail}
use Rattle.lists.specs.Members.{at_head, in_tail, cons_cases, nil_contains, map_contains}
use Rattle.indexmap.specs.IndexSet.{insert_key}
use Rattle.indexmap.proofs.CallerLemmas.{Contains-insert_key}
use Rattle.report_lines.specs.declared.key.Key.{Key}
use Rattle.bound_report.specs.declared.contents.rows.ReportRow.{ReportRow}
use Rattle.bound_report.specs.Contents.Rows.{cycles_of}
use Rattle.report_lines.specs.Entries.{key_of, same_key, rows_at, IsOfAll}
use Rattle.report_lines.specs.Joining.{with_cycles, with_row, AreJoined}
use Rattle.report_lines.proofs.KeyLemmas.{keys_are, key_itself, are_keys, other_way}

module _ (source : ℕ → ℕ → Option (List ℕ × ℕ)) (r : ReportRow) where
  -- ---- where it comes

  set_case : (e : ReportRow) (es : List ReportRow) (b : Bool) (n : ℕ) (d : ReportRow) → (n < length es → set es n (with_cycles (get_or es n d) r) ≡ with_row source es r)
      → cond (not b) (1 + n) 0 < length (e ∷ es)
      → set (e ∷ es) (cond (not b) (1 + n) 0) (with_cycles (get_or (e ∷ es) (cond (not b) (1 + n) 0) d) r) ≡ (if b then with_cycles e r ∷ es else e ∷ with_row source es r)
  set_case e es true n d h lt = refl
  set_case e es false n d h lt =
      let one : 1 + n ≡ suc n = omega arith in
      let P : ℕ → Type 0 = λ i. set (e ∷ es) i (with_cycles (get_or (e ∷ es) i d) r) ≡ e ∷ with_row source es r in
      subst P (sym one) (ap (λ t. e ∷ t) (h (omega arith)))

  -- to the first entry of its key
  pub set_first : (es : List ReportRow) (d : ReportRow) → position_or_len (same_key (key_of source r)) (map (key_of source) es) < length es
      → set es (position_or_len (same_key (key_of source r)) (map (key_of source) es)) (with_cycles (get_or es (position_or_len (same_key (key_of source r)) (map (key_of source) es)) d) r) ≡ with_row source es r
  set_first [] d lt = absurd (omega arith)
  set_first (e ∷ es) d lt =
      set_case e es (same_key (key_of source r) (key_of source e)) (position_or_len (same_key (key_of source r)) (map (key_of source) es)) d (set_first es d) lt

  last_case : (e : ReportRow) (es : List ReportRow) (b : Bool) (n : ℕ) → (length es ≤ n → es ++ r ∷ [] ≡ with_row source es r) → length (e ∷ es) ≤ cond (not b) (1 + n) 0
      → (e ∷ es) ++ r ∷ [] ≡ (if b then with_cycles e r ∷ es else e ∷ with_row source es r)
  last_case e es true n h le = absurd (omega arith)
  last_case e es false n h le = ap (λ t. e ∷ t) (h (omega arith))

  -- or behind all
  pub set_last : (es : List ReportRow) → length es ≤ position_or_len (same_key (key_of source r)) (map (key_of source) es) → es ++ r ∷ [] ≡ with_row source es r
  set_last [] le = refl
  set_last (e ∷ es) le = last_case e es (same_key (key_of source r) (key_of source e)) (position_or_len (same_key (key_of source r)) (map (key_of source) es)) (set_last es) le

  -- ---- the keys

  split_any : (b : Bool) (k : Key) (ks : List Key) (x : Key) → (if b then k ∷ ks else (k ∷ ks) ++ x ∷ []) ≡ k ∷ (if b then ks else ks ++ x ∷ [])
  split_any true k ks x = refl
  split_any false k ks x = refl

  keys_case : (e : ReportRow) (es : List ReportRow) (b : Bool) → insert_key same_key (map (key_of source) es) (key_of source r) ≡ map (key_of source) (with_row source es r)
      → (if b || list_any (same_key (key_of source r)) (map (key_of source) es) then key_of source e ∷ map (key_of source) es else (key_of source e ∷ map (key_of source) es) ++ key_of source r ∷ [])
      ≡ map (key_of source) (if b then with_cycles e r ∷ es else e ∷ with_row source es r)
  keys_case e es true h = refl
  keys_case e es false h =
      split_any (list_any (same_key (key_of source r)) (map (key_of source) es)) (key_of source e) (map (key_of source) es) (key_of source r) ∙ ap (λ t. key_of source e ∷ t) h

  pub keys_with : (es : List ReportRow) → insert_key same_key (map (key_of source) es) (key_of source r) ≡ map (key_of source) (with_row source es r)
  keys_with [] = refl
  keys_with (e ∷ es) = keys_case e es (same_key (key_of source r) (key_of source e)) (keys_with es)

  inserted : (ks : List Key) (b : Bool) (k x : Key) → Contains ks k → Contains (if b then ks else ks ++ x ∷ []) k
  inserted ks true k x c = c
  inserted ks false k x c = Contains-append_left ks (x ∷ []) k c

  -- those that were there still are, and the row's is
  pub key_stays : (es : List ReportRow) (k : Key) → Contains (map (key_of source) es) k → Contains (map (key_of source) (with_row source es r)) k
  key_stays es k c =
      subst (λ (ks : List Key). Contains ks k) (keys_with es)
      (inserted (map (key_of source) es) (list_any (same_key (key_of source r)) (map (key_of source) es)) k (key_of source r) c)

  pub key_comes : (es : List ReportRow) → Contains (map (key_of source) (with_row source es r)) (key_of source r)
  key_comes es = subst (λ (ks : List Key). Contains ks (key_of source r)) (keys_with es) (Contains-insert_key same_key keys_are (map (key_of source) es) (key_of source r))

  -- ---- what each entry is

  abbrev IsOther : List ReportRow → ReportRow → Type 0
  IsOther es e = Contains es e × (same_key (key_of source r) (key_of source e) ≡ false)

  abbrev IsWithMore : List ReportRow → ReportRow → Type 0
  IsWithMore es e = (d : ReportRow) × Contains es d × (same_key (key_of source r) (key_of source d) ≡ true) × (e ≡ with_cycles d r)

  abbrev IsNew : List ReportRow → ReportRow → Type 0
  IsNew es e = (e ≡ r) × ((d : ReportRow) → Contains es d → same_key (key_of source r) (key_of source d) ≡ false)

  far_apart : (k : Key) (ks : List Key) → AllByRecursion (λ y. same_key k y ≡ false) ks → (y : Key) → Contains ks y → same_key k y ≡ false
  far_apart k [] all y c = absurd (nil_contains y c)
  far_apart k (x ∷ xs) all y c = elim (cons_cases x y xs c) [
    | inl same ↦ ap (same_key k) (sym same) ∙ all.0
    | inr there ↦ far_apart k xs all.1 y there
  ]

  entry_case : (e : ReportRow) (es : List ReportRow) (b : Bool) → same_key (key_of source r) (key_of source e) ≡ b → IsDistinct same_key (map (key_of source) (e ∷ es))
      → ((x : ReportRow) → Contains (with_row source es r) x → IsOther es x ⊎ (IsWithMore es x ⊎ IsNew es x)) → (x : ReportRow)
      → Contains (if b then with_cycles e r ∷ es else e ∷ with_row source es r) x → IsOther (e ∷ es) x ⊎ (IsWithMore (e ∷ es) x ⊎ IsNew (e ∷ es) x)
  entry_case e es true is distinct h x c =
      elim (cons_cases (with_cycles e r) x es c) [
        | inl same ↦ inr (inl (e, at_head e es, is, sym same))
        | inr there ↦
            let apart = far_apart (key_of source e) (map (key_of source) es) (IsDistinct-head same_key (key_of source e) (map (key_of source) es) distinct) (key_of source x) (map_contains (key_of source) es x there) in
            inl (in_tail e x es there, ap (λ (k : Key). same_key k (key_of source x)) (keys_are (key_of source r) (key_of source e) is) ∙ apart)
      ]
  entry_case e es false is distinct h x c =
      elim (cons_cases e x (with_row source es r) c) [
        | inl same ↦ inl (subst (λ (y : ReportRow). IsOther (e ∷ es) y) same (at_head e es, is))
        | inr there ↦
            elim (h x there) [
              | inl other ↦ inl (in_tail e x es other.0, other.1)
              | inr (inl more) ↦ inr (inl (more.0, in_tail e more.0 es more.1, more.2, more.3))
              | inr (inr new') ↦
                  inr (inr (
                    new'.0,
                    λ d cd. elim (cons_cases e d es cd) [
                      | inl same ↦ ap (λ (y : ReportRow). same_key (key_of source r) (key_of source y)) (sym same) ∙ is
                      | inr within ↦ new'.1 d within
                    ],
                  ))
            ]
      ]

  -- an entry as it was, of another key; one with the row's cycles; or the row
  pub entry_is : (es : List ReportRow) → IsDistinct same_key (map (key_of source) es) → (x : ReportRow) → Contains (with_row source es r) x → IsOther es x ⊎ (IsWithMore es x ⊎ IsNew es x)
  entry_is [] distinct x c = elim (cons_cases r x [] c) [
    | inl same ↦ inr (inr (sym same, λ d cd. absurd (nil_contains d cd)))
    | inr none ↦ absurd (nil_contains x none)
  ]
  entry_is (e ∷ es) distinct x c =
      entry_case e es (same_key (key_of source r) (key_of source e)) refl distinct (entry_is es (IsDistinct-tail same_key (key_of source e) (map (key_of source) es) distinct)) x c

-- by the keys that are kept beside the entries, and by a test that tells just the same keys
module _ (eq : Key → Key → Bool) (same : (a b : Key) → eq a b ≡ same_key a b) (source : ℕ → ℕ → Option (List ℕ × ℕ)) (es : List ReportRow) (r : ReportRow) (ks : List Key) (k : Key)
    (keys : ks ≡ map (key_of source) es) (key : k ≡ key_of source r) where
  tests : eq ≡ same_key
  tests = λ j. λ a b. same a b j

  at_first : (i : ℕ) → i ≡ position_or_len (eq k) ks → i ≡ position_or_len (same_key (key_of source r)) (map (key_of source) es)
  at_first i first =
      first ∙ ap (λ (e : Key → Key → Bool). position_or_len (e k) ks) tests ∙ ap (λ (x : Key). position_or_len (same_key x) ks) key
      ∙ ap (position_or_len (same_key (key_of source r))) keys

  pub is_set : (i : ℕ) → i ≡ position_or_len (eq k) ks → (x : ReportRow) → x ≡ get_or es i x → i < length es → set es i (with_cycles x r) ≡ with_row source es r
  is_set i first x at lt =
      let P : ℕ → Type 0 = λ n. n < length es → set es n (with_cycles (get_or es n x) r) ≡ with_row source es r in
      ap (λ (y : ReportRow). set es i (with_cycles y r)) at ∙ subst P (sym (at_first i first)) (set_first source r es x) lt

  pub is_pushed : (i : ℕ) → i ≡ position_or_len (eq k) ks → length es ≤ i → es ++ r ∷ [] ≡ with_row source es r
  is_pushed i first le =
      let P : ℕ → Type 0 = λ n. length es ≤ n → es ++ r ∷ [] ≡ with_row source es r in
      subst P (sym (at_first i first)) (set_last source r es) le

  pub keys_are_with : (more : List Key) → more ≡ insert_key eq ks k → more ≡ map (key_of source) (with_row source es r)
  keys_are_with more is =
      is ∙ ap (λ (e : Key → Key → Bool). insert_key e ks k) tests ∙ ap (insert_key same_key ks) key
      ∙ ap (λ (xs : List Key). insert_key same_key xs (key_of source r)) keys ∙ keys_with source r es

-- ---- of all rows

pub none_joined : (source : ℕ → ℕ → Option (List ℕ × ℕ)) → AreJoined source [] []
none_joined source = record { whole = λ r c. absurd (nil_contains r c); each = λ e c. absurd (nil_contains e c) }

one_of_all : (r : ReportRow) → IsOfAll (r ∷ []) r
one_of_all r =
    let sum : cycles_of (r ∷ []) ≡ r.cycles = sum_by-cons (λ (x : ReportRow). x.cycles) r [] ∙ (omega arith) in
    ap (λ (n : ℕ). let x : ReportRow = record r { cycles = n } in x) (sym sum)

more_of_all : (own : List ReportRow) (e r : ReportRow) → IsOfAll own e → IsOfAll (own ++ r ∷ []) (with_cycles e r)
more_of_all [] e r h = absurd h
more_of_all (q ∷ qs) e r h =
    ap (λ (x : ReportRow). with_cycles x r) h
    ∙ ap (λ (n : ℕ). let x : ReportRow = record q { cycles = n } in x) (sym (sum_by_push (λ (x : ReportRow). x.cycles) (q ∷ qs) r))

filter_none : (test : ReportRow → Bool) (rows : List ReportRow) → ((q : ReportRow) → Contains rows q → test q ≡ false) → filter test rows ≡ []
filter_none test [] none = refl
filter_none test (q ∷ qs) none =
    ap (λ (b : Bool). cond b (q ∷ filter test qs) (filter test qs)) (none q (at_head q qs)) ∙ filter_none test qs (λ x c. none x (in_tail q x qs c))

-- the rows there, with one more
rows_with : (source : ℕ → ℕ → Option (List ℕ × ℕ)) (k : Key) (rows : List ReportRow) (r : ReportRow) → same_key k (key_of source r) ≡ true
    → rows_at source k (rows ++ r ∷ []) ≡ rows_at source k rows ++ r ∷ []
rows_with source k rows r is =
    filter-append (λ (x : ReportRow). same_key k (key_of source x)) rows (r ∷ []) ∙ ap (λ (b : Bool). rows_at source k rows ++ cond b (r ∷ []) []) is

rows_without : (source : ℕ → ℕ → Option (List ℕ × ℕ)) (k : Key) (rows : List ReportRow) (r : ReportRow) → same_key k (key_of source r) ≡ false → rows_at source k (rows ++ r ∷ []) ≡ rows_at source k rows
rows_without source k rows r is =
    filter-append (λ (x : ReportRow). same_key k (key_of source x)) rows (r ∷ []) ∙ ap (λ (b : Bool). rows_at source k rows ++ cond b (r ∷ []) []) is ∙ append-nil (rows_at source k rows)

pub from_map : {X Y : Type 0} (f : X → Y) (xs : List X) (y : Y) → Contains (map f xs) y → (x : X) × Contains xs x × (f x ≡ y)
from_map f [] y c = absurd (nil_contains y c)
from_map f (x ∷ xs) y c =
    elim (cons_cases (f x) y (map f xs) c) [
      | inl same ↦ (x, at_head x xs, same)
      | inr more ↦ let r = from_map f xs y more in (r.0, in_tail x r.0 xs r.1, r.2)
    ]

module _ (source : ℕ → ℕ → Option (List ℕ × ℕ)) (rows es : List ReportRow) (r : ReportRow) (h : AreJoined source rows es) where
  other_is : (x : ReportRow) → Contains es x × (same_key (key_of source r) (key_of source x) ≡ false) → IsOfAll (rows_at source (key_of source x) (rows ++ r ∷ [])) x
  other_is x o =
      subst (λ (own : List ReportRow). IsOfAll own x)
      (sym (rows_without source (key_of source x) rows r (other_way (key_of source r) (key_of source x) o.1))) (h.each x o.0)

  more_is : (x d : ReportRow) → Contains es d → same_key (key_of source r) (key_of source d) ≡ true → x ≡ with_cycles d r → IsOfAll (rows_at source (key_of source x) (rows ++ r ∷ [])) x
  more_is x d c same is =
      let back : same_key (key_of source d) (key_of source r) ≡ true = are_keys (key_of source d) (key_of source r) (sym (keys_are (key_of source r) (key_of source d) same)) in
      let own = subst (λ (own : List ReportRow). IsOfAll own (with_cycles d r)) (sym (rows_with source (key_of source d) rows r back)) (more_of_all (rows_at source (key_of source d) rows) d r (h.each d c)) in
      subst (λ (y : ReportRow). IsOfAll (rows_at source (key_of source y) (rows ++ r ∷ [])) y) (sym is) own

  new_is : (x : ReportRow) → x ≡ r → ((d : ReportRow) → Contains es d → same_key (key_of source r) (key_of source d) ≡ false) → IsOfAll (rows_at source (key_of source x) (rows ++ r ∷ [])) x
  new_is x is none =
      let k = key_of source r in
      let before : rows_at source k rows ≡ [] = filter_none (λ (q : ReportRow). same_key k (key_of source q)) rows (λ q c.
      let d = from_map (key_of source) es (key_of source q) (h.whole q c) in ap (same_key k) (sym d.2) ∙ none d.0 d.1) in
      let own : rows_at source k (rows ++ r ∷ []) ≡ r ∷ [] = rows_with source k rows r (key_itself k) ∙ ap (λ (own : List ReportRow). own ++ r ∷ []) before in
      subst (λ (y : ReportRow). IsOfAll (rows_at source (key_of source y) (rows ++ r ∷ [])) y) (sym is) (subst (λ (own : List ReportRow). IsOfAll own r) (sym own) (one_of_all r))

  pub more_joined : IsDistinct same_key (map (key_of source) es) → AreJoined source (rows ++ r ∷ []) (with_row source es r)
  more_joined distinct = record {
    whole = λ q c. elim (Contains-push_cases rows r q c) [
      | inl old ↦ key_stays source r es (key_of source q) (h.whole q old)
      | inr last ↦ subst (λ (y : ReportRow). Contains (map (key_of source) (with_row source es r)) (key_of source y)) last (key_comes source r es)
    ];
    each = λ x c. elim (entry_is source r es distinct x c) [
      | inl other ↦ other_is x other
      | inr (inl more) ↦ more_is x more.0 more.1 more.2 more.3
      | inr (inr new') ↦ new_is x new'.0 new'.1
    ];
  }

-- the next of the rows
pub next_joined : (source : ℕ → ℕ → Option (List ℕ × ℕ)) (rows es new : List ReportRow) (i : ℕ) (r : ReportRow) → AreJoined source (take i rows) es → IsDistinct same_key (map (key_of source) es)
    → new ≡ with_row source es r → take (i + 1) rows ≡ take i rows ++ r ∷ [] → AreJoined source (take (i + 1) rows) new
next_joined source rows es new i r h distinct is more =
    subst (λ (xs : List ReportRow). AreJoined source xs new) (sym more)
    (subst (λ (xs : List ReportRow). AreJoined source (take i rows ++ r ∷ []) xs) (sym is) (more_joined source (take i rows) es r h distinct))
