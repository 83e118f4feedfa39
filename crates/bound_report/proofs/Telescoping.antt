-- The number of a root, by the parts of all methods that count in it.
use Rattle.std.proofs.Common.{◌≡◌, ℕ, ◌+◌, ◌*◌, false, List, [], ◌∷◌, ◌++◌, sum_by, Contains, Option, Some, None, sym, ap, ap₂, ◌∙◌, arith}
use Rattle.std.specs.Prelude.{if◌then◌else◌, ◌==◌, IfSome}
use Rattle.std.specs.Option.{option_map_or}
use Rattle.std.proofs.lemmas.List.{append-nil, append_assoc}
use Rattle.std.proofs.lemmas.List.Sums.{sum_by-cons, sum_by_push}
use Rattle.std.proofs.lemmas.List.Elements.{All-contains, All-tail}
use Rattle.lists.specs.Members.{at_head, in_tail}
use Rattle.method_cache.specs.Regions.Region.{AreDistinct}
use Rattle.bound_rules.proofs.Sums.{distinct_tail}
use Rattle.bound_report.specs.declared.counts.NodeCount.{NodeCount}
use Rattle.bound_report.specs.declared.counts.MethodCounts.{MethodCounts}
use Rattle.bound_report.specs.Times.{methods_of, is_call_of, calls_of, times_of, AreTimes, CallsAmong, AreOrdered}
use Rattle.bound_report.proofs.Sums.{same_sum, zero_sum, plus_sum, times_sum, one_sum}

-- the number of what is called
abbrev pub called : (number : ℕ → ℕ) → Option ℕ → ℕ
called number o = option_map_or number o 0

abbrev pub called_in : (number : ℕ → ℕ) → List NodeCount → ℕ
called_in number cs = sum_by (λ c. c.visits * called number c.target) cs

-- what one node adds to the calls of a method
abbrev pub call_part : Option ℕ → (visits method : ℕ) → ℕ
call_part o v y = if option_map_or (λ z. z == y) o false then v else 0

part_sum : (number : ℕ → ℕ) (o : Option ℕ) (v : ℕ) (ys : List ℕ) → AreDistinct ys → IfSome o (Contains ys) → sum_by (λ y. call_part o v y * number y) ys ≡ v * called number o
part_sum number None v ys apart among = same_sum (λ y. call_part None v y * number y) (λ y. 0) ys (λ y has. omega arith) ∙ (zero_sum ys ∙ omega arith)
part_sum number (Some x) v ys apart among = one_sum number x v ys apart among

no_calls : (number : ℕ → ℕ) (ys : List ℕ) → sum_by (λ y. calls_of y [] * number y) ys ≡ 0
no_calls number ys = same_sum (λ y. calls_of y [] * number y) (λ y. 0) ys (λ y has. omega arith) ∙ zero_sum ys

-- summed by what is called, or by where it is
pub swapped : (number : ℕ → ℕ) (ys : List ℕ) → AreDistinct ys → (cs : List NodeCount) → CallsAmong ys cs → sum_by (λ y. calls_of y cs * number y) ys ≡ called_in number cs
swapped number ys apart [] among = no_calls number ys
swapped number ys apart (c ∷ cs) among =
    let here = part_sum number c.target c.visits ys apart (All-contains (λ (d : NodeCount). IfSome d.target (Contains ys)) (c ∷ cs) c among (at_head c cs)) in
    let rest = swapped number ys apart cs (All-tail (λ (d : NodeCount). IfSome d.target (Contains ys)) c cs among) in
    let parts : (y : ℕ) → Contains ys y → calls_of y (c ∷ cs) * number y ≡ call_part c.target c.visits y * number y + calls_of y cs * number y =
    λ y has. ap (λ (n : ℕ). n * number y) (sum_by-cons (λ (d : NodeCount). if is_call_of y d then d.visits else 0) c cs) ∙ omega arith
    in
    same_sum (λ y. calls_of y (c ∷ cs) * number y) (λ y. call_part c.target c.visits y * number y + calls_of y cs * number y) ys parts
    ∙ (plus_sum (λ y. call_part c.target c.visits y * number y) (λ y. calls_of y cs * number y) ys
    ∙ (ap₂ (λ (a b : ℕ). a + b) here rest ∙ sym (sum_by-cons (λ (d : NodeCount). d.visits * called number d.target) c cs)))

-- with one method more before it
pub times_more : (root : ℕ) (before : List MethodCounts) (k : MethodCounts) (x : ℕ) → times_of root (before ++ k ∷ []) x ≡ times_of root before x + k.times * calls_of x k.nodes.items
times_more root before k x =
    ap (λ (n : ℕ). (if x == root then 1 else 0) + n) (sum_by_push (λ (j : MethodCounts). j.times * calls_of x j.nodes.items) before k) ∙ omega arith

module _ (root : ℕ) (number : ℕ → ℕ) (parts : MethodCounts → ℕ) where
  -- the numbers of these methods, each as often as it counts
  abbrev pub weighed : List MethodCounts → List ℕ → ℕ
  weighed before xs = sum_by (λ x. times_of root before x * number x) xs

  abbrev pub IsSum : MethodCounts → Type 0
  IsSum k = number k.method ≡ parts k + called_in number k.nodes.items

  weighed_more : (before : List MethodCounts) (k : MethodCounts) (ys : List ℕ) → AreDistinct ys → CallsAmong ys k.nodes.items → weighed (before ++ k ∷ []) ys ≡ weighed before ys + k.times * called_in number k.nodes.items
  weighed_more before k ys apart among =
      let cs = k.nodes.items in
      let F : ℕ → ℕ = λ y. times_of root before y * number y in
      let G : ℕ → ℕ = λ y. k.times * (calls_of y cs * number y) in
      let each : (y : ℕ) → Contains ys y → times_of root (before ++ k ∷ []) y * number y ≡ F y + G y = λ y has. ap (λ (n : ℕ). n * number y) (times_more root before k y) ∙ omega arith in
      same_sum (λ y. times_of root (before ++ k ∷ []) y * number y) (λ y. F y + G y) ys each
      ∙ (plus_sum F G ys
      ∙ ap (λ (n : ℕ). weighed before ys + n) (times_sum k.times (λ y. calls_of y cs * number y) ys ∙ ap (λ (n : ℕ). k.times * n) (swapped number ys apart cs among)))

  pub telescoped : (before after : List MethodCounts) (further : List ℕ) → AreTimes root before after → AreOrdered after further → AreDistinct (methods_of after ++ further) → ((k : MethodCounts) → Contains after k → IsSum k)
      → weighed before (methods_of after ++ further) ≡ sum_by (λ k. k.times * parts k) after + weighed (before ++ after) further
  telescoped before [] further times ordered apart each = ap (λ (ks : List MethodCounts). weighed ks further) (sym (append-nil before)) ∙ omega arith
  telescoped before (k ∷ ks) further times ordered apart each =
      let ys = methods_of ks ++ further in
      let cs = k.nodes.items in
      let head = sum_by-cons (λ (x : ℕ). times_of root before x * number x) k.method ys in
      let rest = distinct_tail k.method ys apart in
      let more = weighed_more before k ys rest ordered.0 in
      let hyp = telescoped (before ++ k ∷ []) ks further times.1 ordered.1 rest (λ j has. each j (in_tail k j ks has)) in
      let all : weighed ((before ++ k ∷ []) ++ ks) further ≡ weighed (before ++ k ∷ ks) further = ap (λ (js : List MethodCounts). weighed js further) (append_assoc before (k ∷ []) ks) in
      let value : k.times * number k.method ≡ k.times * parts k + k.times * called_in number cs = ap (λ (n : ℕ). k.times * n) (each k (at_head k ks)) ∙ omega arith in
      let first : times_of root before k.method * number k.method ≡ k.times * number k.method = ap (λ (n : ℕ). n * number k.method) (sym times.0) in
      let sum = sum_by-cons (λ (j : MethodCounts). j.times * parts j) k ks in
      omega (arith, head, more, hyp, all, value, first, sum)
