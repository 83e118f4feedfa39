-- The calls of a method stand in its code, and the lists that they name are lists of the table, of methods that it has.
use Rattle.std.proofs.Common.{◌≡◌, ℕ, ◌*◌, ◌<◌, List, [], length, All, get_or, Some, sym, subst, arith}
use Rattle.std.specs.Prelude.{slice_get}
use Rattle.std.proofs.lemmas.List.Elements.{All-contains, All-get_or, Contains-get_or}
use Rattle.std.proofs.lemmas.Option.{slice_get_within, get_or_from_slice_get}
use Rattle.lists.specs.Members.{map_contains}
use Rattle.opcodes.specs.Start.{AreStarts}
use Rattle.method_flow.specs.declared.flow.Call.{Call}
use Rattle.method_flow.specs.Flow.{Coded, Flow, IsCoded, IsFlow, targets_of_call}

pub places_within : (k : Coded) (calls : List Call) → IsCoded k → AreStarts k.code → calls ≡ k.calls → All (λ c. c.place < length k.code) calls
places_within k calls coded starts same =
    subst (λ (cs : List Call). All (λ (c : Call). c.place < length k.code) cs) (sym same) (λ i d below.
    let c = get_or k.calls i d in
    starts.within_code c.place ((coded.calls c.place).0 (map_contains (λ (x : Call). x.place) k.calls c (Contains-get_or k.calls i d below))).start)

pub numbers_within : (k : Coded) (calls : List Call) (size : ℕ) → size ≡ 2 * length k.code → All (λ c. c.place < length k.code) calls → All (λ c. 2 * c.place < size) calls
numbers_within k calls size is h = λ i d below. let place = h i d below in omega arith

-- each names a list of the table
pub lists_within : (f g : Flow) (m : ℕ) (k : Coded) (calls : List Call) → IsFlow g → g ≡ f → slice_get f.methods m ≡ Some k → calls ≡ k.calls → All (λ c. c.targets < length f.targets) calls
lists_within f g m k calls form same at are =
    let F : Flow → Type 0 = λ h. IsFlow h in
    let Q : List Call → Type 0 = λ cs. All (λ (c : Call). c.targets < length f.targets) cs in
    let all = subst F same form in
    subst Q (sym are) (All-contains (λ (x : Coded). All (λ (c : Call). c.targets < length f.targets) x.calls) f.methods k all.lists (m, slice_get_within f.methods m k at, get_or_from_slice_get f.methods m k k at))

-- of methods of the table
pub targets_within : (f : Flow) (c : Call) (targets : List ℕ) (size : ℕ) → IsFlow f → c.targets < length f.targets → size ≡ length f.methods → targets ≡ targets_of_call f c → All (λ t. t < size) targets
targets_within f c targets size form below long are =
    let N : ℕ → Type 0 = λ n. All (λ (t : ℕ). t < n) targets in
    let T : List ℕ → Type 0 = λ ts. All (λ (t : ℕ). t < length f.methods) ts in
    subst N (sym long) (subst T (sym are) (All-get_or (λ ts. All (λ (t : ℕ). t < length f.methods) ts) f.targets c.targets [] below form.within))
