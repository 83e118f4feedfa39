-- The least number of a loop, test by test, where a number that is known spares the search for one that isn't less.
use Rattle.std.proofs.Common.{◌≡◌, ◌⊎◌, ℕ, ◌+◌, ◌*◌, ◌<◌, ◌≤◌, ◌+ℤ◌, ℤ, Bool, List, [], length, get_or, take, Option, Some, None, refl, sym, ◌∙◌, subst, inl, inr, arith}
use Rattle.std.specs.Prelude.{IfSome}
use Rattle.std.proofs.lemmas.Bool.{cases_lt}
use Rattle.std.proofs.lemmas.List.{take_all}
use Rattle.lists.proofs.Lemmas.{none≢some, some_same}
use Rattle.lists.specs.Members.{nil_contains}
use Rattle.section_check.specs.Least.{IsLeast, lesser_of}
use Rattle.section_check.proofs.LeastLemmas.{least_same, least_either}
use Rattle.loop_nest.specs.Digraph.{Digraph}
use Rattle.code_scan.specs.Rows.{test_of}
use Rattle.loop_rules.specs.Iterations.{FirstTested}
use Rattle.loop_rules.specs.Iterations.FirstTested.{test_first, step_first}
use Rattle.loop_rules.specs.Values.{IsFirstOut}
use Rattle.loop_finder.specs.declared.counting.Choice.{Choice}
use Rattle.loop_finder.specs.declared.counting.Known.{Known}
use Rattle.loop_marks.specs.Marking.{Marks, AreMarksOf, IsInner}
use Rattle.loop_acts.specs.Values.{IsFirst}
use Rattle.loop_finder.specs.Counting.{Body, Counts, CountsAt, CountsByNode, CountsFor, IsChoiceAt, IsChoiceOf, IsFirstOutEither, IsLeastBeside, IsLookedAt, IsSettled}
use Rattle.loop_acts.proofs.Taking.{take_cases}
use Rattle.loop_finder.proofs.Choosing.{least_first, least_by_node, counts_back, none_at, half}
use Rattle.loop_finder.proofs.Choices.{CountsAmong, counted_among, none_where_inner}

-- ---- what is known beside

least_known : (known : Option ℕ) → IsLeast (λ n. known ≡ Some n) known
least_known None = λ n e. none≢some n e
least_known (Some m) = (refl, λ u less e. let same : m ≡ u = some_same m u e in absurd (omega arith))

pub beside : (P : ℕ → Type 0) (known o : Option ℕ) → IsLeast P o → IsLeastBeside known P (lesser_of known o)
beside P known o h = least_either (λ n. known ≡ Some n) P (λ n. (known ≡ Some n) ⊎ P n) known o (λ u e. inl e) (λ u p. inr p) (λ u r. r) (least_known known) h

pub beside_none : (P : ℕ → Type 0) (known : Option ℕ) → ((n : ℕ) → P n → ⊥) → IsLeastBeside known P known
beside_none P None none = λ n r. elim r [ inl e ↦ none≢some n e | inr p ↦ none n p ]
beside_none P (Some m) none = (inl refl, λ u less r. elim r [ inl e ↦ let same : m ≡ u = some_same m u e in absurd (omega arith) | inr p ↦ none u p ])

pub beside_same : (P Q : ℕ → Type 0) (known o : Option ℕ) → ((n : ℕ) → P n → Q n) → ((n : ℕ) → Q n → P n) → IsLeastBeside known P o → IsLeastBeside known Q o
beside_same P Q known o to from h =
    least_same (λ n. (known ≡ Some n) ⊎ P n) (λ n. (known ≡ Some n) ⊎ Q n) o (λ n r. elim r [ inl e ↦ inl e | inr p ↦ inr (to n p) ]) (λ n r. elim r [ inl e ↦ inl e | inr q ↦ inr (from n q) ]) h

above : (E : ℕ → Type 0) (known s : Option ℕ) → IsSettled known s → IsLeast E s → (n : ℕ) → E n → (m : ℕ) × (known ≡ Some m) × (m ≤ n)
above E known None is least n e = absurd (least n e)
above E known (Some k) is least n e =
    let r = is k refl in
    elim (cases_lt n k) [ inl less ↦ absurd (least.1 n less e) | inr ge ↦ let le = r.2 in (r.0, r.1, omega arith) ]

pub settled : (P E : ℕ → Type 0) (known s : Option ℕ) → IsSettled known s → IsLeast E s → ((n : ℕ) → P n → E n) → IsLeastBeside known P known
settled P E None s is least from = λ n r. elim r [ inl e ↦ none≢some n e | inr p ↦ let a = above E None s is least n (from n p) in none≢some a.0 a.1 ]
settled P E (Some m) s is least from = (
  inl refl,
  λ u less r. elim r [
    | inl e ↦ let same : m ≡ u = some_same m u e in absurd (omega arith)
    | inr p ↦
        let a = above E (Some m) s is least u (from u p) in
        let same : m ≡ a.0 = some_same m a.0 a.1 in
        let le = a.2 in
        absurd (omega arith)
  ],
)

-- ---- by a choice

pub least_out : (k : Choice) (a b : Option ℕ) → IsFirst k.begin k.by (λ value. test_of k.out k.limit value) a → IsFirst (k.begin +ℤ k.by) k.by (λ value. test_of k.out k.limit value) b → IsLeast (IsFirstOutEither k) (lesser_of a b)
least_out k a b ha hb =
    let out : ℤ → Bool = λ value. test_of k.out k.limit value in
    least_either (IsFirstOut k.begin k.by out) (IsFirstOut (k.begin +ℤ k.by) k.by out) (IsFirstOutEither k) a b (λ u x. inl x) (λ u y. inr y) (λ u r. r) (least_first k.begin k.by out a ha) (least_first (k.begin +ℤ k.by) k.by out b hb)

pub out_either : (g : Digraph) (h : ℕ) (k : Choice) (n : ℕ) → CountsFor g h k n → IsFirstOutEither k n
out_either g h k n c = by c.first c.tested c.first_out
  where
    by : (first : ℤ) → FirstTested g h (2 * k.step) (2 * k.test) k.begin k.by first → IsFirstOut first k.by (λ value. test_of k.out k.limit value) n → IsFirstOutEither k n
    by first (test_first none) f = inl f
    by first (step_first none) f = inr f

-- ---- by a node

pub choice_of : (b : Body) (h p : ℕ) (o : Option Choice) → IsChoiceAt b h p o → IsChoiceOf b h (2 * p) o
choice_of b h p None none = least_by_node b h p None (none_at b h p none)
choice_of b h p (Some k) only = (p, refl, only)

pub no_choice_inner : (b : Body) (h p : ℕ) → IsInner b.graph h (2 * p) → IsChoiceOf b h (2 * p) None
no_choice_inner b h p inner = least_by_node b h p None (none_where_inner b h p inner)

pub by_choice : (b : Body) (h u : ℕ) (k : Choice) (known o : Option ℕ) → IsChoiceOf b h u (Some k) → IsLeastBeside known (CountsFor b.graph h k) o → IsLeastBeside known (CountsByNode b h u) o
by_choice b h u k known o is =
    let p = is.0 in
    let only = is.2 in
    beside_same (CountsFor b.graph h k) (CountsByNode b h u) known o (λ n c. (p, is.1, (k, only.is, only.test, c)))
    (λ n c. counts_back b h p k only n (subst (λ (q : ℕ). CountsAt b h q n) (half c.0 p (sym c.1 ∙ is.1)) c.2))

pub looked_by : (b : Body) (h u : ℕ) (k : Choice) (old new : Known) → IsChoiceOf b h u (Some k) → IsLookedAt b.graph h (CountsFor b.graph h k) old new → IsLookedAt b.graph h (CountsByNode b h u) old new
looked_by b h u k old new is l = record { rest = l.rest; least = λ rest. by_choice b h u k old.least new.least is (l.least rest) }

-- ---- node by node

-- the number is one of the loop, and not above one by the test at one of these nodes
pub record IsLeastSoFar (b : Body) (h : ℕ) (nodes : List ℕ) (o : Option ℕ) : Type 0 where
  pub counts : IfSome o (Counts b h)
  pub least : (n : ℕ) → CountsAmong b h nodes n → (m : ℕ) × (o ≡ Some m) × (m ≤ n)

by_node : (b : Body) (h u n : ℕ) → CountsByNode b h u n → Counts b h n
by_node b h u n c = (c.0, c.2)

pub first_counts : (b : Body) (h u : ℕ) (o : Option ℕ) → IsLeastBeside None (CountsByNode b h u) o → IfSome o (Counts b h)
first_counts b h u None least = tt
first_counts b h u (Some n) least = elim least.0 [ inl e ↦ absurd (none≢some n e) | inr c ↦ by_node b h u n c ]

pub so_far_none : (b : Body) (h : ℕ) (o : Option ℕ) → IfSome o (Counts b h) → IsLeastSoFar b h [] o
so_far_none b h o counts = record { counts = counts; least = λ n c. absurd (nil_contains c.0 c.1) }

not_above : (known o : Option ℕ) (P : ℕ → Type 0) (m : ℕ) → IsLeastBeside known P o → (known ≡ Some m) ⊎ P m → (k : ℕ) × (o ≡ Some k) × (k ≤ m)
not_above known None P m least r = absurd (least m r)
not_above known (Some k) P m least r = elim (cases_lt m k) [ inl less ↦ absurd (least.1 m less r) | inr ge ↦ (k, refl, ge) ]

pub so_far_more : (b : Body) (h : ℕ) (nodes : List ℕ) (i : ℕ) (known o : Option ℕ) → i < length nodes → IsLeastSoFar b h (take i nodes) known → IsLeastBeside known (CountsByNode b h (get_or nodes i 0)) o
    → IsLeastSoFar b h (take (i + 1) nodes) o
so_far_more b h nodes i known o lt s least = record {
  counts = counts o least;
  least = λ n c. elim (take_cases nodes i 0 c.0 lt c.1) [
    | inl before ↦
        let a = s.least n (c.0, before, c.2) in
        let r = not_above known o (CountsByNode b h (get_or nodes i 0)) a.0 least (inl a.1) in
        let x = a.2 in
        let y = r.2 in
        (r.0, r.1, omega arith)
    | inr here ↦ not_above known o (CountsByNode b h (get_or nodes i 0)) n least (inr (subst (λ (u : ℕ). CountsByNode b h u n) (sym here) c.2))
  ];
}
  where
    counts : (o : Option ℕ) → IsLeastBeside known (CountsByNode b h (get_or nodes i 0)) o → IfSome o (Counts b h)
    counts None least = tt
    counts (Some n) least = elim least.0 [
      | inl e ↦ subst (λ (x : Option ℕ). IfSome x (Counts b h)) e s.counts
      | inr c ↦ by_node b h (get_or nodes i 0) n c
    ]

pub so_far_all : (b : Body) (k : Marks) → AreMarksOf b.graph k → (i : ℕ) (o : Option ℕ) → length k.nodes ≤ i → IsLeastSoFar b k.header (take i k.nodes) o → IsLeast (Counts b k.header) o
so_far_all b k marks i o done s = by o s.counts s.least
  where
    among : (n : ℕ) → Counts b k.header n → CountsAmong b k.header (take i k.nodes) n
    among n c = subst (λ (us : List ℕ). CountsAmong b k.header us n) (sym (take_all i k.nodes done)) (counted_among b k marks n c)

    by : (o : Option ℕ) → IfSome o (Counts b k.header) → ((n : ℕ) → CountsAmong b k.header (take i k.nodes) n → (m : ℕ) × (o ≡ Some m) × (m ≤ n)) → IsLeast (Counts b k.header) o
    by None counts least = λ n c. let a = least n (among n c) in none≢some a.0 a.1
    by (Some m) counts least = (
      counts,
      λ u less c.
          let a = least u (among u c) in
          let same : m ≡ a.0 = some_same m a.0 a.1 in
          let le = a.2 in
          absurd (omega arith),
    )
