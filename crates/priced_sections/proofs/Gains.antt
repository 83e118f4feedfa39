-- What the visits of a walk that keeps the facts give back is at most what the activation and the entries of loops pay.
use Rattle.std.proofs.Common.{◌≡◌, ℕ, ◌+◌, ◌*◌, ◌≤◌, Bool, true, false, cond, eqb, List, [], ◌∷◌, map, sum_by, Contains, Option, Some, None, refl, sym, ap, ◌∙◌, subst, inl, inr, arith}
use Rattle.std.proofs.Math.Nat.{mul-le-mul_left}
use Rattle.std.proofs.lemmas.Bool.{cases_eq, eq-eqb, cond-true}
use Rattle.std.proofs.lemmas.List.Sums.{sum_by-cons}
use Rattle.lists.specs.Members.{at_head, in_tail, cons_cases, nil_contains}
use Rattle.section_check.specs.Bounded.{BoundedLoop, holds, entries, cost_of_entries}
use Rattle.section_check.specs.Section.{PricedLoop, bounded, headed_by}
use Rattle.section_check.proofs.Sums.{sum_by-plus, load_of, headed_later}
use Rattle.priced_sections.specs.Visits.{visits_of}
use Rattle.priced_sections.specs.Prices.{PricedFact, credit_of, due_of_own, own_due, due_of_header, header_due, with_due, with_dues}

pub same_sums : {X : Type 0} (f g : X → ℕ) (xs : List X) → ((x : X) → f x ≡ g x) → sum_by f xs ≡ sum_by g xs
same_sums f g [] same = refl
same_sums f g (x ∷ xs) same = omega (arith, sum_by-cons f x xs, sum_by-cons g x xs, same x, same_sums f g xs same)

one_of_sum : {X : Type 0} (f : X → ℕ) (xs : List X) (x : X) → Contains xs x → f x ≤ sum_by f xs
one_of_sum f [] x has = absurd (nil_contains x has)
one_of_sum f (y ∷ ys) x has =
    elim (cons_cases y x ys has) [
      | inl same ↦ omega (arith, sum_by-cons f y ys, ap f same)
      | inr there ↦ omega (arith, sum_by-cons f y ys, one_of_sum f ys x there)
    ]

-- ---- what visits give back

back_once : (b : Bool) (p : ℕ) → cond b p 0 ≡ p * cond b 1 0
back_once true p = omega arith
back_once false p = omega arith

given_back : (f : PricedFact) (ns : List ℕ) → sum_by (λ u. cond (holds f.nodes u) f.price 0) ns ≡ f.price * visits_of f.nodes ns
given_back f [] = omega arith
given_back f (u ∷ ns) =
    let p = f.price in
    let at : ℕ → ℕ = λ x. cond (holds f.nodes x) 1 0 in
    let back : ℕ → ℕ = λ x. cond (holds f.nodes x) f.price 0 in
    let parts : p * sum_by at (u ∷ ns) ≡ p * at u + p * sum_by at ns = ap (λ (k : ℕ). p * k) (sum_by-cons at u ns) ∙ omega arith in
    omega (arith, sum_by-cons back u ns, back_once (holds f.nodes u) p, given_back f ns, parts)

abbrev pub back_in : List ℕ → PricedFact → ℕ
back_in ns f = f.price * visits_of f.nodes ns

zeros : (ns : List ℕ) → sum_by (λ u. credit_of [] u) ns ≡ 0
zeros [] = refl
zeros (u ∷ ns) = omega (arith, sum_by-cons (λ (x : ℕ). credit_of [] x) u ns, zeros ns)

pub all_given_back : (fs : List PricedFact) (ns : List ℕ) → sum_by (λ u. credit_of fs u) ns ≡ sum_by (back_in ns) fs
all_given_back [] ns = zeros ns
all_given_back (f ∷ fs) ns =
    let back : ℕ → ℕ = λ u. cond (holds f.nodes u) f.price 0 in
    let split = same_sums (λ u. credit_of (f ∷ fs) u) (λ u. back u + credit_of fs u) ns (λ u. sum_by-cons (λ (k : PricedFact). cond (holds k.nodes u) k.price 0) f fs) in
    omega (arith, split, sum_by-plus back (λ u. credit_of fs u) ns, given_back f ns, all_given_back fs ns, sum_by-cons (back_in ns) f fs)

-- ---- what is due

-- what is due of a fact in an activation whose walk enters loops so often
abbrev pub due_in : List PricedLoop → List ℕ → Option ℕ → (due : ℕ) → ℕ
due_in ls ns o due = due_of_own o due + sum_by (λ l. due_of_header l.certified.header o due * entries l.certified.members ns) ls

abbrev pub entry_dues : List PricedFact → List ℕ → PricedLoop → ℕ
entry_dues fs ns l = header_due fs l.certified.header * entries l.certified.members ns

pub headed_among : (h : ℕ) (ls : List PricedLoop) (l : PricedLoop) → headed_by h ls ≡ Some l → Contains ls l × (l.certified.header ≡ h)
headed_among h [] l is = absurd (let bad : ⊥ = cc in bad)
headed_among h (k ∷ ks) l is =
    elim (cases_eq k.certified.header h) [
      | inl same ↦
          let e : k ≡ l = let t : Some k ≡ Some l = sym (cond-true (eqb k.certified.header h) (Some k) (headed_by h ks) (eq-eqb k.certified.header h same)) ∙ is in cc in
          let P : PricedLoop → Type 0 = λ x. Contains (k ∷ ks) x × (x.certified.header ≡ h) in
          subst P e (at_head k ks, same)
      | inr other ↦
          let r = headed_among h ks l (sym (headed_later h k ks other) ∙ is) in
          (in_tail k l ks r.0, r.1)
    ]

-- what a fact without a header gives back is due in the activation
pub own_paid : (ls : List PricedLoop) (ns : List ℕ) (price most visits : ℕ) → visits ≤ most → price * visits ≤ due_in ls ns None (price * most)
own_paid ls ns price most visits few = let less = mul-le-mul_left price few in omega arith

-- what a fact with the header of a loop gives back is due at its entries
pub header_paid : (ls : List PricedLoop) (ns : List ℕ) (price most visits h : ℕ) (l : PricedLoop) → Contains ls l → l.certified.header ≡ h → visits ≤ most * entries l.certified.members ns
    → price * visits ≤ due_in ls ns (Some h) (price * most)
header_paid ls ns price most visits h l has same few =
    let due : PricedLoop → ℕ = λ k. due_of_header k.certified.header (Some h) (price * most) * entries k.certified.members ns in
    let less = mul-le-mul_left price few in
    let here : due_of_header l.certified.header (Some h) (price * most) ≡ price * most = cond-true (eqb h l.certified.header) (price * most) 0 (eq-eqb h l.certified.header (sym same)) in
    let one : due l ≡ price * most * entries l.certified.members ns = ap (λ (k : ℕ). k * entries l.certified.members ns) here in
    let regrouped : price * (most * entries l.certified.members ns) ≡ price * most * entries l.certified.members ns = omega arith in
    omega (arith, one_of_sum due ls l has)

nothing_due : (ls : List PricedLoop) (ns : List ℕ) → 0 ≡ 0 + sum_by (entry_dues [] ns) ls
nothing_due [] ns = refl
nothing_due (l ∷ ls) ns = omega (arith, sum_by-cons (entry_dues [] ns) l ls, nothing_due ls ns)

pub all_due : (fs : List PricedFact) (ls : List PricedLoop) (ns : List ℕ) → sum_by (λ f. due_in ls ns f.header (f.price * f.most)) fs ≡ own_due fs + sum_by (entry_dues fs ns) ls
all_due [] ls ns = nothing_due ls ns
all_due (f ∷ fs) ls ns =
    let due : PricedFact → ℕ = λ k. due_in ls ns k.header (k.price * k.most) in
    let own : PricedFact → ℕ = λ k. due_of_own k.header (k.price * k.most) in
    let first : PricedLoop → ℕ = λ l. due_of_header l.certified.header f.header (f.price * f.most) * entries l.certified.members ns in
    let split = same_sums (entry_dues (f ∷ fs) ns) (λ l. first l + entry_dues fs ns l) ls
    (λ l.
    let at : PricedFact → ℕ = λ k. due_of_header l.certified.header k.header (k.price * k.most) in
    ap (λ (k : ℕ). k * entries l.certified.members ns) (sum_by-cons at f fs) ∙ omega arith)
    in
    omega (arith, split, sum_by-plus first (entry_dues fs ns) ls, sum_by-cons due f fs, sum_by-cons own f fs, all_due fs ls ns)

-- a walk costs so much more where what is due at entries is among the loads
pub entries_with_dues : (fs : List PricedFact) (ls : List PricedLoop) (ns : List ℕ)
    → cost_of_entries (map bounded (with_dues fs ls)) ns ≡ cost_of_entries (map bounded ls) ns + sum_by (entry_dues fs ns) ls
entries_with_dues fs [] ns = refl
entries_with_dues fs (l ∷ ls) ns =
    let entering : BoundedLoop → ℕ = λ b. b.load * entries b.members ns in
    let e = entries l.certified.members ns in
    let here : (load_of l + header_due fs l.certified.header) * e ≡ load_of l * e + header_due fs l.certified.header * e = omega arith in
    omega (arith, sum_by-cons entering (bounded (with_due fs l)) (map bounded (with_dues fs ls)), sum_by-cons entering (bounded l) (map bounded ls), sum_by-cons (entry_dues fs ns) l ls, entries_with_dues fs ls ns)
