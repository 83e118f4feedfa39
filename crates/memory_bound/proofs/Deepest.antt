-- The words of the deepest chain of calls from a method, by those of what it may call.
use Rattle.std.proofs.Common.{◌≡◌, ℕ, ◌+◌, ◌≤◌, ◌<◌, ◌⊎◌, max, List, [], ◌∷◌, ◌++◌, get_or, take, length, Contains, Option, Some, None, refl, sym, ap, ◌∙◌, subst, inl, inr, arith}
use Rattle.std.specs.Prelude.{slice_get, slice_index}
use Rattle.std.proofs.lemmas.Bool.{cases_lt}
use Rattle.std.proofs.lemmas.List.{take_more}
use Rattle.std.proofs.lemmas.Option.{slice_get-get_or}
use Rattle.std.proofs.lemmas.List.Sums.{sum_by-cons}
use Rattle.std.proofs.lemmas.List.Elements.{Contains-append_left, Contains-append_cases, Contains-push}
use Rattle.lists.specs.Members.{cons_cases, nil_contains}
use Rattle.lists.proofs.Lemmas.{some_same}
use Rattle.bytecode_model.specs.Program.{Program}
use Rattle.method_flow.specs.declared.flow.Call.{Call}
use Rattle.method_flow.specs.Flow.{Flow, Coded, IsCoded, IsFlowOf, targets_of_call}
use Rattle.method_flow.specs.Recursion.{MayCall}
use Rattle.call_regions.specs.Laws.{RunsAreCalls}
use Rattle.call_regions.specs.Tables.{IsOfTable, RunsFrom}
use Rattle.memory_rules.specs.Stack.{Chain, method_words, chain_words, IsStackNeedOf}
use Rattle.memory_rules.specs.Stack.Chain.{alone, calling}
use Rattle.memory_rules.specs.Sites.{MethodNeeds, AreSitesOf}
use Rattle.memory_bound.specs.Setting.{NeedSetting, words_of}
use Rattle.memory_bound.specs.Stacks.{IsGreatestAmong, IsCalled, AreStacks}

-- the greater of the greatest of two sets
pub greater : (A B C : ℕ → Type 0) (f : ℕ → ℕ) (n v : ℕ) → ((t : ℕ) → C t → A t ⊎ B t) → ((t : ℕ) → A t → C t) → ((t : ℕ) → B t → C t)
    → IsGreatestAmong A f n → IsGreatestAmong B f v → IsGreatestAmong C f (max v n)
greater A B C f n v parts first second h k = record {
  attained = by (cases_lt n v);
  greatest = λ t c.
      elim (parts t c) [
        | inl a ↦ let le = h.greatest t a in omega arith
        | inr b ↦ let le = k.greatest t b in omega arith
      ];
}
  where
    by : (n < v) ⊎ (v ≤ n) → (max v n ≡ 0) ⊎ ((t : ℕ) × C t × (f t ≡ max v n))
    by (inl lt) =
        let same : max v n ≡ v = omega arith in
        elim k.attained [
          | inl none ↦ inl (omega arith)
          | inr t ↦ inr (t.0, second t.0 t.1, t.2 ∙ sym same)
        ]
    by (inr le) =
        let same : max v n ≡ n = omega arith in
        elim h.attained [
          | inl none ↦ inl (omega arith)
          | inr t ↦ inr (t.0, first t.0 t.1, t.2 ∙ sym same)
        ]

-- one target more
pub one_more : (targets stacks : List ℕ) (i n : ℕ) → i < length targets → IsGreatestAmong (Contains (take i targets)) (slice_index stacks) n
    → IsGreatestAmong (Contains (take (i + 1) targets)) (slice_index stacks) (max (get_or stacks (get_or targets i 0) 0) n)
one_more targets stacks i n lt h =
    let x = get_or targets i 0 in
    let K : List ℕ → Type 0 = λ ts. IsGreatestAmong (Contains ts) (slice_index stacks) (max (get_or stacks (get_or targets i 0) 0) n) in
    let single : IsGreatestAmong (λ t. t ≡ get_or targets i 0) (slice_index stacks) (get_or stacks (get_or targets i 0) 0) =
    record { attained = inr (get_or targets i 0, refl, refl); greatest = λ t same. let e = ap (λ (y : ℕ). get_or stacks y 0) same in omega arith } in
    subst K (sym (take_more targets i 0 lt))
    (greater (Contains (take i targets)) (λ t. t ≡ get_or targets i 0) (Contains (take i targets ++ get_or targets i 0 ∷ [])) (slice_index stacks) n (get_or stacks (get_or targets i 0) 0)
    (λ t has. elim (Contains-append_cases (take i targets) (get_or targets i 0 ∷ []) t has) [
      | inl there ↦ inl there
      | inr here ↦ elim (cons_cases (get_or targets i 0) t [] here) [
        | inl same ↦ inr (sym same)
        | inr none ↦ absurd (nil_contains t none)
      ]
    ])
    (λ t has. Contains-append_left (take i targets) (get_or targets i 0 ∷ []) t has)
    (λ t same. subst (λ (y : ℕ). Contains (take i targets ++ get_or targets i 0 ∷ []) y) (sym same) (Contains-push (take i targets) (get_or targets i 0)))
    h single)

pub none_yet : (stacks : List ℕ) → IsGreatestAmong (Contains []) (slice_index stacks) 0
none_yet stacks = record { attained = inl refl; greatest = λ t has. absurd (nil_contains t has) }

-- one call more
pub call_more : (f : Flow) (calls : List Call) (stacks : List ℕ) (i n v : ℕ) (d : Call) → i < length calls → IsGreatestAmong (IsCalled f (take i calls)) (slice_index stacks) n
    → IsGreatestAmong (Contains (targets_of_call f (get_or calls i d))) (slice_index stacks) v → IsGreatestAmong (IsCalled f (take (i + 1) calls)) (slice_index stacks) (max v n)
call_more f calls stacks i n v d lt h k =
    let K : List Call → Type 0 = λ cs. IsGreatestAmong (IsCalled f cs) (slice_index stacks) (max v n) in
    let c = get_or calls i d in
    subst K (sym (take_more calls i d lt))
    (greater (IsCalled f (take i calls)) (Contains (targets_of_call f (get_or calls i d))) (IsCalled f (take i calls ++ get_or calls i d ∷ [])) (slice_index stacks) n v
    (λ t has. elim (Contains-append_cases (take i calls) (get_or calls i d ∷ []) has.0 has.1) [
      | inl there ↦ inl (has.0, there, has.2)
      | inr here ↦ elim (cons_cases (get_or calls i d) has.0 [] here) [
        | inl same ↦ inr (subst (λ (e : Call). Contains (targets_of_call f e) t) (sym same) has.2)
        | inr none ↦ absurd (nil_contains has.0 none)
      ]
    ])
    (λ t has. (has.0, Contains-append_left (take i calls) (get_or calls i d ∷ []) has.0 has.1, has.2))
    (λ t has. (get_or calls i d, Contains-push (take i calls) (get_or calls i d), has))
    h k)

pub no_call : (f : Flow) (stacks : List ℕ) → IsGreatestAmong (IsCalled f []) (slice_index stacks) 0
no_call f stacks = record { attained = inl refl; greatest = λ t has. absurd (nil_contains has.0 has.1) }

-- ---- chains

-- the words of a frame that the table tells
words_told : Option MethodNeeds → ℕ
words_told None = 0
words_told (Some k) = k.words

pub frame_words : (P : Program) (s : NeedSetting) (m : ℕ) → AreSitesOf P s.sites → m < length s.sites → words_of s m ≡ method_words P m
unfolding words_told
frame_words P s m sites lt =
    let none : MethodNeeds = record { words = 0; sites = [] } in
    let is = slice_get-get_or s.sites m none lt in
    ap words_told is ∙ (sites.methods m (get_or s.sites m none) is).words

module _ (runs : RunsAreCalls) (P : Program) (f : Flow) (m : ℕ) (k : Coded) (flow : IsFlowOf P f) (is : slice_get f.methods m ≡ Some k) (coded : IsCoded k) where
  abbrev table : IsOfTable f m
  table = record { method = k; is = is; coded = coded }

  pub called_may : (t : ℕ) → IsCalled f k.calls t → MayCall P m t
  called_may t has =
      let from : RunsFrom f m has.0.place t = record { code = table; call = has.0; among = has.1; at = refl; lists = has.2 } in
      let r = (runs P f m has.0.place t flow table).0 from in
      record { place = has.0.place; start = r.start; call = r.call; is_target = r.is_target }

  pub may_called : (t : ℕ) → MayCall P m t → IsCalled f k.calls t
  may_called t may =
      let r = (runs P f m may.place t flow table).1 (record { start = may.start; call = may.call; is_target = may.is_target }) in
      let same : r.code.method ≡ k = some_same r.code.method k (sym r.code.is ∙ is) in
      (r.call, subst (λ (j : Coded). Contains j.calls r.call) same r.among, r.lists)

  pub deepest : (stacks : List ℕ) (own n : ℕ) → own ≡ method_words P m → AreStacks P stacks m → IsGreatestAmong (IsCalled f k.calls) (slice_index stacks) n → IsStackNeedOf P m (own + n)
  deepest stacks own n words known h = elim h.attained [
    | inl none ↦ record {
      deepest = m ∷ [];
      chain = alone;
      attained = let e = sum_by-cons (method_words P) m [] in omega arith;
      greatest = λ ms chain. most ms chain;
    }
    | inr t ↦
        let below = known t.0 (called_may t.0 t.1) in
        record {
          deepest = m ∷ below.deepest;
          chain = calling (called_may t.0 t.1) below.chain;
          attained = let e = sum_by-cons (method_words P) m below.deepest in let a = below.attained in let b = t.2 in omega arith;
          greatest = λ ms chain. most ms chain;
        }
  ]
    where
      most : (ms : List ℕ) → Chain P m ms → chain_words P ms ≤ own + n
      most ms alone = let e = sum_by-cons (method_words P) m [] in omega arith
      most ms (calling {t = t} {ms = rest} may chain) =
          let e = sum_by-cons (method_words P) m rest in
          let below = (known t may).greatest rest chain in
          let le = h.greatest t (may_called t may) in
          omega arith
