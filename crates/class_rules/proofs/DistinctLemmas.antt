-- Numbers of texts, and members that are compared by them.
use Rattle.std.proofs.Common.{◌≡◌, ℕ, zero, suc, ◌+◌, ◌-◌, take, drop, ◌<◌, ◌≤◌, ◌==◌, ◌&&◌, ◌||◌, not, ⊎_elim, Bool, true, false, cond, List, [], ◌∷◌, ◌++◌, length, get_or, Option, Some, None, refl, sym, ap, ◌∙◌, arith, Bor}
use Rattle.std.specs.Prelude.{unwrap_or}
use Rattle.std.specs.Bool.{Decides}
use Rattle.std.specs.Str.{bytes_eq}
use Rattle.std.specs.List.{list_all, list_any}
use Rattle.std.specs.Ordering.{is_eq}
use Rattle.std.specs.BTreeMap.{BTreeMap}
use Rattle.std.specs.BTreeSet.{BTreeSet}
use Rattle.std.proofs.lemmas.Bool.{cases_Bool, cases_lt}
use Rattle.std.proofs.lemmas.Bool.Decides.{same_from_decides, Decides-eqb, nat_tests}
use Rattle.std.proofs.lemmas.List.{length-append, get_or_past, get_or_append_left, take_all}
use Rattle.std.proofs.Math.Seq.{get_or-append_seam}
use Rattle.std.proofs.lemmas.Option.{slice_get_past, slice_get_read}
use Rattle.std.proofs.lemmas.Slice.Eq.{bytes_eq-Decides}
use Rattle.class_pool.specs.declared.entry.Entry.{Entry}
use Rattle.class_pool.specs.Grammar.{utf8_of, text_at}
use Rattle.class_pool.specs.declared.class.Member.{Member}
use Rattle.class_rules.specs.Tests.{same_member, are_distinct}
use Rattle.class_rules.specs.Distinct.{number_in, AreNumbers, key_of, compare_keys, is_seen}

-- ---- numbers

abbrev pub Known : Type 0
Known = BTreeMap (Bor (List ℕ)) ℕ

-- the numbers of the first indexes, and the texts that have one
pub record AreFirst (pool : List Entry) (known : Known) (numbers : List ℕ) : Type 0 where
  pub none : number_in known [] ≡ Some 0
  pub text : (units : List ℕ) (number : ℕ) → number_in known units ≡ Some number → text_at pool number ≡ units
  pub number : (i : ℕ) → i < length numbers → number_in known (text_at pool i) ≡ Some (get_or numbers i 0)

same_some : {A : Type 0} (x y : A) → Some x ≡ Some y → x ≡ y
same_some x y e = cc

-- a text that has a number keeps it
kept : (had : Option ℕ) (next r x : ℕ) → r ≡ unwrap_or had next → had ≡ Some x → r ≡ x
kept (Some y) next r x e h = e ∙ same_some y x h
kept None next r x e h = absurd (let f : None ≡ Some x = h in cc)

text_of_number : (pool : List Entry) (known : Known) (numbers t : List ℕ) (r : ℕ) (had : Option ℕ) → number_in known t ≡ had → AreFirst pool known numbers → text_at pool (length numbers) ≡ t
    → r ≡ unwrap_or had (length numbers) → text_at pool r ≡ t
text_of_number pool known numbers t r (Some y) e first here is = ap (text_at pool) is ∙ first.text t y e
text_of_number pool known numbers t r None e first here is = ap (text_at pool) is ∙ here

same_text : (t u : List ℕ) → bytes_eq t u ≡ true → t ≡ u
same_text t u e = (bytes_eq-Decides t u).0 e

-- index 0, which has no text
pub first_none : (pool : List Entry) (known after : Known) (r : ℕ) → known.entries ≡ [] → r ≡ unwrap_or (number_in known []) 0
    → ((units : List ℕ) → number_in after units ≡ cond (bytes_eq [] units) (Some r) (number_in known units)) → AreFirst pool after (r ∷ [])
first_none pool known after r empty is updated =
    let nothing : (u : List ℕ) → number_in known u ≡ None = λ u. rw empty refl in
    let zeroth : r ≡ 0 = is ∙ ap (λ (o : Option ℕ). unwrap_or o 0) (nothing []) in
    let here : number_in after [] ≡ Some r = updated [] in
    let only : (u : List ℕ) (x : ℕ) (b : Bool) → bytes_eq [] u ≡ b → number_in after u ≡ Some x → text_at pool x ≡ u =
    λ u x b. elim b as (λ v. bytes_eq [] u ≡ v → number_in after u ≡ Some x → text_at pool x ≡ u) [
      | true ↦ λ e h. let same : x ≡ 0 = same_some x r (sym h ∙ (updated u ∙ ap (λ (v : Bool). cond v (Some r) (number_in known u)) e)) ∙ zeroth in ap (text_at pool) same ∙ same_text [] u e
      | false ↦ λ e h. absurd (let f : None ≡ Some x = sym (nothing u) ∙ (sym (updated u ∙ ap (λ (v : Bool). cond v (Some r) (number_in known u)) e) ∙ h) in cc)
    ] in
    record {
      none = here ∙ ap (λ (n : ℕ). Some n) zeroth;
      text = λ u x. only u x (bytes_eq [] u) refl;
      number = λ i lt. let at : i ≡ 0 = omega arith in
          ap (λ (k : ℕ). number_in after (text_at pool k)) at ∙ here ∙ ap (λ (k : ℕ). Some (get_or (r ∷ []) k 0)) (sym at);
    }

-- one more index
pub first_more : (pool : List Entry) (known after : Known) (numbers t : List ℕ) (r : ℕ) → text_at pool (length numbers) ≡ t → r ≡ unwrap_or (number_in known t) (length numbers)
    → ((units : List ℕ) → number_in after units ≡ cond (bytes_eq t units) (Some r) (number_in known units)) → AreFirst pool known numbers → AreFirst pool after (numbers ++ r ∷ [])
first_more pool known after numbers t r here is updated first =
    let hit : (u : List ℕ) → bytes_eq t u ≡ true → number_in after u ≡ Some r = λ u e. updated u ∙ ap (λ (b : Bool). cond b (Some r) (number_in known u)) e in
    let miss : (u : List ℕ) → bytes_eq t u ≡ false → number_in after u ≡ number_in known u = λ u e. updated u ∙ ap (λ (b : Bool). cond b (Some r) (number_in known u)) e in
    let same : (u : List ℕ) (x : ℕ) → bytes_eq t u ≡ true → number_in known u ≡ Some x → r ≡ x = λ u x e h. kept (number_in known t) (length numbers) r x is (ap (number_in known) (same_text t u e) ∙ h) in
    let stays : (u : List ℕ) (x : ℕ) → number_in known u ≡ Some x → number_in after u ≡ Some x =
    λ u x h. ⊎_elim (λ e. hit u e ∙ ap (λ (n : ℕ). Some n) (same u x e h)) (λ e. miss u e ∙ h) (cases_Bool (bytes_eq t u)) in
    let own : text_at pool r ≡ t = text_of_number pool known numbers t r (number_in known t) refl first here is in
    record {
      none = stays [] 0 first.none;
      text = λ u x h. ⊎_elim
          (λ e. ap (text_at pool) (same_some x r (sym h ∙ hit u e)) ∙ own ∙ same_text t u e)
          (λ e. first.text u x (sym (miss u e) ∙ h))
          (cases_Bool (bytes_eq t u));
      number = λ i lt. ⊎_elim
          (λ e. stays (text_at pool i) (get_or numbers i 0) (first.number i e) ∙ ap (λ (n : ℕ). Some n) (sym (get_or_append_left numbers (r ∷ []) 0 i e)))
          (λ e. let at : i ≡ length numbers = omega (arith, length-append numbers (r ∷ [])) in
          ap (λ (k : ℕ). number_in after (text_at pool k)) at ∙ ap (number_in after) here ∙ hit t ((bytes_eq-Decides t t).1 refl)
          ∙ ap (λ (n : ℕ). Some n) (sym (ap (λ (k : ℕ). get_or (numbers ++ r ∷ []) k 0) at ∙ get_or-append_seam numbers r [] 0)))
          (cases_lt i (length numbers));
    }

text_past : (pool : List Entry) (i : ℕ) → length pool < i → text_at pool i ≡ []
text_past pool zero lt = refl
text_past pool (suc i) lt = ap (λ (e : Option Entry). unwrap_or (utf8_of e) []) (slice_get_past pool i (omega (arith, lt)))

pub text_here : (pool : List Entry) (i : ℕ) (e : Entry) → i < length pool → e ≡ get_or pool i e → text_at pool (i + 1) ≡ unwrap_or (utf8_of (Some e)) []
text_here pool i e lt is =
    let next : i + 1 ≡ suc i = omega arith in
    ap (text_at pool) next ∙ ap (λ (x : Option Entry). unwrap_or (utf8_of x) []) (slice_get_read pool (length pool) i e refl lt is)

-- each index has the number of its text
pub all_numbered : (pool : List Entry) (known : Known) (numbers : List ℕ) → length pool < length numbers → AreFirst pool known numbers → AreNumbers pool numbers
all_numbered pool known numbers long first =
    let here : (i : ℕ) → number_in known (text_at pool i) ≡ Some (get_or numbers i 0) =
    λ i. ⊎_elim (λ e. first.number i e)
    (λ e. let past : text_at pool i ≡ [] = text_past pool i (omega arith) in
    ap (number_in known) past ∙ first.none ∙ ap (λ (n : ℕ). Some n) (sym (get_or_past numbers i 0 e)))
    (cases_lt i (length numbers)) in
    λ i j. (
      (λ e. sym (first.text (text_at pool i) (get_or numbers i 0) (here i)) ∙ ap (text_at pool) e ∙ first.text (text_at pool j) (get_or numbers j 0) (here j)),
      (λ e. same_some (get_or numbers i 0) (get_or numbers j 0) (sym (here i) ∙ ap (number_in known) e ∙ here j)),
    )

-- ---- members

key_test : (a b c d : ℕ) → is_eq (compare_keys (a, b) (c, d)) ≡ ((a == c) && (b == d))
key_test a b c d = grind (arith, nat_tests)

number_test : (pool : List Entry) (numbers : List ℕ) (i j : ℕ) → AreNumbers pool numbers → bytes_eq (text_at pool i) (text_at pool j) ≡ (get_or numbers i 0 == get_or numbers j 0)
number_test pool numbers i j are =
    let d = Decides-eqb (get_or numbers i 0) (get_or numbers j 0) in
    let e : Decides (get_or numbers i 0 == get_or numbers j 0) (text_at pool i ≡ text_at pool j) = (λ t. (are i j).0 (d.0 t), λ s. d.1 ((are i j).1 s)) in
    same_from_decides (bytes_eq (text_at pool i) (text_at pool j)) (get_or numbers i 0 == get_or numbers j 0) (bytes_eq-Decides (text_at pool i) (text_at pool j)) e

-- members are the same exactly if their numbers are
same_key : (pool : List Entry) (numbers : List ℕ) (m n : Member) → AreNumbers pool numbers → same_member pool m n ≡ is_eq (compare_keys (key_of numbers m) (key_of numbers n))
same_key pool numbers m n are =
    let a = number_test pool numbers m.name n.name are in
    let b = number_test pool numbers m.descriptor n.descriptor are in
    rw (a, b) (sym (key_test (get_or numbers m.name 0) (get_or numbers m.descriptor 0) (get_or numbers n.name 0) (get_or numbers n.descriptor 0)))

-- no member seen so far has this one's key
abbrev pub is_fresh : BTreeSet (ℕ × ℕ) → List ℕ → Member → Bool
is_fresh seen numbers m = not (is_seen seen (key_of numbers m))

pub all_fresh : (seen : BTreeSet (ℕ × ℕ)) (numbers : List ℕ) (members : List Member) → seen.keys ≡ [] → list_all (is_fresh seen numbers) members ≡ true
all_fresh seen numbers [] e = refl
all_fresh seen numbers (m ∷ members) e = rw e (all_fresh seen numbers members e)

mix : (s v a b : Bool) → (not (cond s true v) && (a && not b)) ≡ ((not v && a) && not (s || b))
mix true true a b = refl
mix true false true b = refl
mix true false false b = refl
mix false true a b = refl
mix false false a b = refl

-- what is fresh once a member was seen
seen_more : (pool : List Entry) (numbers : List ℕ) (seen after : BTreeSet (ℕ × ℕ)) (m : Member) (members : List Member) → AreNumbers pool numbers
    → ((q : ℕ × ℕ) → is_seen after q ≡ cond (is_eq (compare_keys (key_of numbers m) q)) true (is_seen seen q))
    → list_all (is_fresh after numbers) members ≡ (list_all (is_fresh seen numbers) members && not (list_any (same_member pool m) members))
seen_more pool numbers seen after m [] are updated = refl
seen_more pool numbers seen after m (n ∷ members) are updated =
    let more = seen_more pool numbers seen after m members are updated in
    let here = updated (key_of numbers n) in
    let same = same_key pool numbers m n are in
    rw (here, more, ← same) (mix (same_member pool m n) (is_seen seen (key_of numbers n)) (list_all (is_fresh seen numbers) members) (list_any (same_member pool m) members))

regroup : (a b c : Bool) → (a && (b && c)) ≡ ((a && b) && c)
regroup true b c = refl
regroup false b c = refl

-- one more member, which was not seen
pub distinct_more : (pool : List Entry) (numbers : List ℕ) (seen after : BTreeSet (ℕ × ℕ)) (m : Member) (others : List Member) (whole : Bool) → AreNumbers pool numbers
    → is_seen seen (key_of numbers m) ≡ false
    → ((q : ℕ × ℕ) → is_seen after q ≡ cond (is_eq (compare_keys (key_of numbers m) q)) true (is_seen seen q))
    → whole ≡ (list_all (is_fresh seen numbers) (m ∷ others) && are_distinct pool (m ∷ others))
    → whole ≡ (list_all (is_fresh after numbers) others && are_distinct pool others)
distinct_more pool numbers seen after m others whole are fresh updated so_far =
    let more = seen_more pool numbers seen after m others are updated in
    let a : Bool = list_all (is_fresh seen numbers) others in
    let b : Bool = not (list_any (same_member pool m) others) in
    so_far ∙ ap (λ (v : Bool). (not v && a) && (b && are_distinct pool others)) fresh ∙ regroup a b (are_distinct pool others) ∙ ap (λ (v : Bool). v && are_distinct pool others) (sym more)

not_true : (b : Bool) → not b ≡ true → b ≡ false
not_true true e = cc
not_true false e = refl

-- the same where the member is the first of the rest, and its key was put into the set as a new one
pub distinct_step : (pool : List Entry) (numbers : List ℕ) (seen after : BTreeSet (ℕ × ℕ)) (rest : List Member) (m : Member) (key : ℕ × ℕ) (added whole : Bool) → AreNumbers pool numbers
    → 1 ≤ length rest → m ≡ get_or rest 0 m → key ≡ key_of numbers m → added ≡ true → added ≡ not (is_seen seen key)
    → ((q : ℕ × ℕ) → is_seen after q ≡ cond (is_eq (compare_keys key q)) true (is_seen seen q))
    → whole ≡ (list_all (is_fresh seen numbers) rest && are_distinct pool rest)
    → whole ≡ (list_all (is_fresh after numbers) (take (length rest - 1) (drop 1 rest)) && are_distinct pool (take (length rest - 1) (drop 1 rest)))
distinct_step pool numbers seen after [] m key added whole are le is same new fresh updated so_far = absurd (omega (arith, le))
distinct_step pool numbers seen after (x ∷ xs) m key added whole are le is same new fresh updated so_far =
    let all : take (length (x ∷ xs) - 1) xs ≡ xs = take_all (length (x ∷ xs) - 1) xs (omega arith) in
    let first : key ≡ key_of numbers x = same ∙ ap (key_of numbers) is in
    let unseen : is_seen seen (key_of numbers x) ≡ false = ap (is_seen seen) (sym first) ∙ not_true (is_seen seen key) (sym fresh ∙ new) in
    let step : whole ≡ (list_all (is_fresh after numbers) xs && are_distinct pool xs) =
    distinct_more pool numbers seen after x xs whole are unseen (λ q. updated q ∙ ap (λ (k : ℕ × ℕ). cond (is_eq (compare_keys k q)) true (is_seen seen q)) first) so_far in
    rw all step
