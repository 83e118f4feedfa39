-- Where the ring holds a method.
use Rattle.std.proofs.Common.{◌≡◌, ◌≢◌, ℕ, zero, suc, ◌+◌, ◌-◌, ◌*◌, ◌<◌, Bool, true, false, cond, eqb, ◌&&◌, List, [], ◌∷◌, ◌++◌, length, get_or, take, drop, map, replicate, Option, Some, None, refl, subst, sym, ap, inl, inr, ◌∙◌, arith}
use Rattle.std.proofs.lemmas.List.{drop-drop, get_or_append_left, get_or-append_right, get_or_past, replicate_more, map-append}
use Rattle.std.proofs.lemmas.Bool.{cases_lt, cases_eq}
use Rattle.std.proofs.lemmas.Bool.Decides.{nat_tests}
use Rattle.method_cache.specs.declared.blocks.Tag.{Tag}
use Rattle.method_cache.specs.Contents.{Entry, blocks_of, find_words, method_tags, AreApart}
use Rattle.method_cache.specs.Ring.{beginning, begins, held, parts, laid, method_of}
use Rattle.method_cache.proofs.Parts.{length-parts, get_or-parts}
use Rattle.method_cache.proofs.Held.{length-laid}

pub found : (e : Entry) (es : List Entry) (m : ℕ) → e.method ≡ m → find_words m (e ∷ es) ≡ Some e.words
found e es m same = ap (λ b. cond b (Some e.words) (find_words m es)) (let t : eqb e.method m ≡ true = grind (arith, nat_tests) in t)

pub passed : (e : Entry) (es : List Entry) (m : ℕ) → e.method ≢ m → find_words m (e ∷ es) ≡ find_words m es
passed e es m other = ap (λ b. cond b (Some e.words) (find_words m es)) (let t : eqb e.method m ≡ false = grind (arith, nat_tests) in t)

-- what is found in the front of a list is found in the list
find_front : (m : ℕ) (es fs : List Entry) (ws : List ℕ) → find_words m es ≡ Some ws → find_words m (es ++ fs) ≡ Some ws
find_front m [] fs ws h = let bad : ⊥ = cc in absurd bad
find_front m (e ∷ es) fs ws h =
    elim (cases_eq e.method m) [
      | inl same ↦ found e (es ++ fs) m same ∙ sym (found e es m same) ∙ h
      | inr other ↦ passed e (es ++ fs) m other ∙ find_front m es fs ws (sym (passed e es m other) ∙ h)
    ]

none_front : (m : ℕ) (es fs : List Entry) → find_words m (es ++ fs) ≡ None → find_words m es ≡ None
none_front m [] fs h = refl
none_front m (e ∷ es) fs h =
    elim (cases_eq e.method m) [
      | inl same ↦ let hit = found e (es ++ fs) m same in let bad : ⊥ = cc in absurd bad
      | inr other ↦ passed e es m other ∙ none_front m es fs (sym (passed e (es ++ fs) m other) ∙ h)
    ]

none_both : (m : ℕ) (es fs : List Entry) → find_words m es ≡ None → find_words m fs ≡ None → find_words m (es ++ fs) ≡ None
none_both m [] fs h k = k
none_both m (e ∷ es) fs h k =
    elim (cases_eq e.method m) [
      | inl same ↦ let hit = found e es m same in let bad : ⊥ = cc in absurd bad
      | inr other ↦ passed e (es ++ fs) m other ∙ none_both m es fs (sym (passed e es m other) ∙ h) k
    ]

apart_front : (es fs : List Entry) → AreApart (es ++ fs) → AreApart es
apart_front [] fs h = tt
apart_front (e ∷ es) fs h = (none_front e.method es fs h.0, apart_front es fs h.1)

find_last : (es : List Entry) (f : Entry) → AreApart (es ++ f ∷ []) → find_words f.method (es ++ f ∷ []) ≡ Some f.words
find_last [] f h = found f [] f.method refl
find_last (e ∷ es) f h =
    let later = find_last es f h.1 in
    elim (cases_eq e.method f.method) [
      | inl same ↦
          let none : find_words f.method (es ++ f ∷ []) ≡ None = ap (λ (k : ℕ). find_words k (es ++ f ∷ [])) (sym same) ∙ h.0 in
          let bad : ⊥ = cc in absurd bad
      | inr other ↦ passed e (es ++ f ∷ []) f.method other ∙ later
    ]

pub begins-method : (m : ℕ) (t : Tag) → begins m (Some t) ≡ true → t.method ≡ m
begins-method m t h = elim (cases_eq t.method m) [
  | inl same ↦ same
  | inr other ↦
      let t' : eqb t.method m ≡ false = grind (arith, nat_tests) in
      let no : begins m (Some t) ≡ false = ap (λ b. b && eqb t.part 0) t' in
      let bad : ⊥ = cc in absurd bad
]

begins-part : (m : ℕ) (t : Tag) → begins m (Some t) ≡ true → eqb t.part 0 ≡ true
begins-part m t h =
    let P : Bool → Type 0 = λ b. b && eqb t.part 0 ≡ true → eqb t.part 0 ≡ true in
    elim (eqb t.method m) as P [ true ↦ λ k. k | false ↦ λ k. let bad : ⊥ = cc in absurd bad ] h

-- the words of a method that begins in block p
pub find_at : (w m p : ℕ) (t : Tag) (ts : List (Option Tag)) (ws : List ℕ) → AreApart (held w ts ws) → get_or ts p None ≡ Some t → begins m (Some t) ≡ true → find_words m (held w ts ws) ≡ Some (take t.words (drop (p * w) ws))
find_at w m p t [] ws apart at here = let bad : ⊥ = cc in absurd bad
find_at w m zero t (x ∷ ts) ws apart at here =
    let e : Entry = record { method = t.method; words = take t.words ws } in
    let older = held w ts (drop w ws) in
    let alone : beginning x ws ≡ e ∷ [] =
    ap (λ y. beginning y ws) at ∙ ap (λ b. cond b (e ∷ []) []) (begins-part m t here) in
    let apart' : AreApart (older ++ e ∷ []) = let P : List Entry → Type 0 = λ fs. AreApart (older ++ fs) in subst P alone apart in
    ap (λ (fs : List Entry). find_words m (older ++ fs)) alone
    ∙ ap (λ (k : ℕ). find_words k (older ++ e ∷ [])) (sym (begins-method m t here))
    ∙ find_last older e apart'
    ∙ ap (λ (k : ℕ). Some (take t.words (drop k ws))) (let z : 0 ≡ 0 * w = omega arith in z)
find_at w m (suc p) t (x ∷ ts) ws apart at here =
    let older = held w ts (drop w ws) in
    find_front m older (beginning x ws) _ (
    find_at w m p t ts (drop w ws) (apart_front older (beginning x ws) apart) at here
    ∙ ap (λ us. Some (take t.words us)) (drop-drop (p * w) w ws ∙ ap (λ (k : ℕ). drop k ws) (let z : w + p * w ≡ suc p * w = omega arith in z))
    )

beginning-none : (m : ℕ) (x : Option Tag) (ws : List ℕ) → begins m x ≡ false → find_words m (beginning x ws) ≡ None
beginning-none m None ws h = refl
beginning-none m (Some t) ws h =
    let e : Entry = record { method = t.method; words = take t.words ws } in
    let P : Bool → Type 0 = λ b. eqb t.method m && b ≡ false → find_words m (cond b (e ∷ []) []) ≡ None in
    let Q : Bool → Type 0 = λ b. b && true ≡ false → cond b (Some e.words) None ≡ None in
    elim (eqb t.part 0) as P [
      | true ↦ elim (eqb t.method m) as Q [ true ↦ λ k. let bad : ⊥ = cc in absurd bad | false ↦ λ k. refl ]
      | false ↦ λ k. refl
    ] h

-- a method that begins in no block isn't held
pub find_none : (w m : ℕ) (ts : List (Option Tag)) (ws : List ℕ) → ((p : ℕ) → p < length ts → begins m (get_or ts p None) ≡ false) → find_words m (held w ts ws) ≡ None
find_none w m [] ws h = refl
find_none w m (x ∷ ts) ws h =
    none_both m (held w ts (drop w ws)) (beginning x ws) (find_none w m ts (drop w ws) (λ p below. h (suc p) (omega arith))) (beginning-none m x ws (h 0 (omega arith)))

-- a block's tag has the number of its method's words
pub words_at : (w p : ℕ) (t : Tag) (es : List Entry) → AreApart es → get_or (laid w es) p None ≡ Some t → (ws : List ℕ) × (find_words t.method es ≡ Some ws) × (t.words ≡ length ws)
words_at w p t [] apart at = let bad : ⊥ = cc in absurd bad
words_at w p t (e ∷ es) apart at =
    let ps = parts e.method (length e.words) (blocks_of w e) in
    let long = length-laid w es in
    let long_ps = length-parts e.method (length e.words) (blocks_of w e) in
    elim (cases_lt p (length (laid w es))) [
      | inl low ↦
          let older = words_at w p t es apart.1 (sym (get_or_append_left (laid w es) ps None p low) ∙ at) in
          elim (cases_eq e.method t.method) [
            | inl same ↦
                let none : find_words t.method es ≡ None = ap (λ (k : ℕ). find_words k es) (sym same) ∙ apart.0 in
                let hit = older.1 in
                let bad : ⊥ = cc in absurd bad
            | inr other ↦ (older.0, passed e es t.method other ∙ older.1, older.2)
          ]
      | inr high ↦
          let j = p - length (laid w es) in
          let at_part : get_or ps j None ≡ Some t = sym (get_or-append_right (laid w es) ps (length (laid w es)) p None refl high) ∙ at in
          elim (cases_lt j (blocks_of w e)) [
            | inl inside ↦
                let is : Some (record { method = e.method; part = j; words = length e.words }) ≡ Some t = sym (get_or-parts e.method (length e.words) (blocks_of w e) j inside None) ∙ at_part in
                let same : e.method ≡ t.method = cc in
                let count : t.words ≡ length e.words = cc in
                (e.words, found e es t.method same, count)
            | inr outside ↦
                let none : get_or ps j None ≡ None = get_or_past ps j None (omega arith) in
                let bad : ⊥ = cc in absurd bad
          ]
    ]

map-parts : (m n k : ℕ) → map method_of (parts m n k) ≡ replicate k (Some m)
map-parts m n zero = refl
map-parts m n (suc k) =
    map-append method_of (parts m n k) (Some (record { method = m; part = k; words = n }) ∷ [])
    ∙ ap (λ ts. ts ++ Some m ∷ []) (map-parts m n k)
    ∙ replicate_more k (Some m)
    ∙ ap (λ (j : ℕ). replicate j (Some m)) (let e : k + 1 ≡ suc k = omega arith in e)

pub map-free : (k : ℕ) → map method_of (replicate k None) ≡ replicate k None
map-free zero = refl
map-free (suc k) = ap (λ ts. None ∷ ts) (map-free k)

-- the methods that lie in the blocks
pub map-laid : (w : ℕ) (es : List Entry) → map method_of (laid w es) ≡ method_tags w es
map-laid w [] = refl
map-laid w (e ∷ es) =
    map-append method_of (laid w es) _
    ∙ ap (λ ts. ts ++ map method_of (parts e.method (length e.words) (blocks_of w e))) (map-laid w es)
    ∙ ap (λ ts. method_tags w es ++ ts) (map-parts e.method (length e.words) (blocks_of w e))
