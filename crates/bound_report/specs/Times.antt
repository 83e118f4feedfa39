-- How often the numbers of methods count in the number of a root.
use Rattle.std.specs.Prelude.{◌≡◌, ℕ, ◌+◌, ◌*◌, ◌==◌, if◌then◌else◌, Bool, false, List, [], ◌∷◌, ◌++◌, map, sum_by, All, Contains, IfSome}
use Rattle.std.specs.Option.{option_map_or}
use Rattle.bound_report.specs.declared.counts.NodeCount.{NodeCount}
use Rattle.bound_report.specs.declared.counts.MethodCounts.{MethodCounts}

abbrev pub methods_of : List MethodCounts → List ℕ
methods_of ks = map (λ k. k.method) ks

-- how often the nodes call the method
abbrev pub is_call_of : (method : ℕ) → NodeCount → Bool
is_call_of x c = option_map_or (λ y. y == x) c.target false

abbrev pub calls_of : (method : ℕ) → List NodeCount → ℕ
calls_of x cs = sum_by (λ c. if is_call_of x c then c.visits else 0) cs

-- how often the number of a method counts: the root's once, and each as often as the methods before it call it, of which each counts so often
abbrev pub times_of : (root : ℕ) → (before : List MethodCounts) → (method : ℕ) → ℕ
times_of root ks x = (if x == root then 1 else 0) + sum_by (λ k. k.times * calls_of x k.nodes.items) ks

-- so of each of these, which stand behind the others
abbrev pub AreTimes : (root : ℕ) → (before : List MethodCounts) → List MethodCounts → Type 0
AreTimes root before [] = Unit {0}
AreTimes root before (k ∷ ks) = (k.times ≡ times_of root before k.method) × AreTimes root (before ++ k ∷ []) ks

-- what is called stands among these methods
abbrev pub CallsAmong : List ℕ → List NodeCount → Type 0
CallsAmong ms cs = All (λ c. IfSome c.target (Contains ms)) cs

-- what a method calls stands behind it: one of these, or one of further methods
abbrev pub AreOrdered : List MethodCounts → (further : List ℕ) → Type 0
AreOrdered [] further = Unit {0}
AreOrdered (k ∷ ks) further = CallsAmong (methods_of ks ++ further) k.nodes.items × AreOrdered ks further
