-- In a typed program control stays at places that have a frame of types, and these are instructions of the code.
use Rattle.std.proofs.Common.{◌≡◌, ◌⊎◌, ℕ, Bool, true, false, not, List, [], ◌∷◌, ◌++◌, map, reverse, Contains, Option, Some, None, ℤ, pos, ◌+ℤ◌, refl, sym, subst, inl, inr, le-leb, lt-ltb}
use Rattle.std.specs.Prelude.{IsSome, slice_get, nat_le, nat_lt, ◌&&◌, if◌then◌else◌}
use Rattle.std.specs.List.{list_all}
use Rattle.lists.proofs.Lemmas.{onto_some, some_is, holds_at, if_at}
use Rattle.lists.specs.Members.{cons_cases, nil_contains}
use Rattle.opcodes.specs.declared.instruction.Case.{Case}
use Rattle.opcodes.specs.Start.{IsStart}
use Rattle.bytecode_model.specs.Lists.{natural}
use Rattle.bytecode_model.specs.Types.{NumberType, IntType, OfClass, Declared, Numbers}
use Rattle.bytecode_model.specs.Program.{Program, Method, Body, Handler, body_of}
use Rattle.bytecode_model.specs.Rows as rows
use Rattle.bytecode_model.specs.Rows.{Row}
use Rattle.bytecode_model.specs.Slots.{shuffle, stored}
use Rattle.bytecode_model.specs.Steps.{row_in}
use Rattle.bytecode_typing.specs.Tests.{Holds}
use Rattle.bytecode_typing.specs.Types.{VarType, Top, Integer, ReferenceTo, Uninitialized, TypeFrame, is_long_type, number_type, type_of, result_types, is_reference_type, is_initialized, moves, substituted, holds_made}
use Rattle.bytecode_typing.specs.Assignable.{flows_to}
use Rattle.bytecode_typing.specs.Rules as rule
use Rattle.bytecode_typing.specs.Rules.{Rule, Checked, Leaves, need, found, is_number_type, on_type, on_reference, on_number_types, on_argument_types}
use Rattle.bytecode_typing.specs.Checks.{component_type, is_array_type, is_array_type_of, is_there, with_types, goes, frame_at, reaches, seen_here, is_seen_as, is_seen_for, may_access, may_be_written, is_own_class, may_begin, begun, init_check, super_check, virtual_check, row_check}
use Rattle.bytecode_typing.specs.Walk.{first_types, caught_kind, covers, is_handled, is_throwable, handlers_hold}
use Rattle.bytecode_typing.specs.Typed.{Typing, IsChecked, GoesOn, IsTypedAt, IsTypedMethod, Typed}
use Rattle.bytecode_typing.proofs.Relations.{both_left, both_right}
use Rattle.method_flow.specs.Nodes.{Node, At, RaiseAt, LeadsTo, IsHandled, IsEdge, IsReached}
use Rattle.method_flow.specs.Nodes.IsReached.{first, later}
use Rattle.method_runs.specs.TypedGraphs.Laws.{TypedMethodsReachStarts, TypedMethodsReachRows}

-- ---- what follows of a check whose rules hold, by what it goes on with

module _ (K : Option TypeFrame → Type 0) {Q : Type 0} where
  by_need : (b : Bool) (r : Rule) (c : Checked) → IsChecked (need b r c) K → (IsChecked c K → Q) → Q
  by_need true r c h go = go h
  by_need false r c h go = absurd h

  by_found : {A : Type 0} (o : Option A) (r : Rule) (next : A → Checked) → IsChecked (found o r next) K → ((x : A) → IsChecked (next x) K → Q) → Q
  by_found None r next h go = absurd h
  by_found (Some x) r next h go = go x h

  by_either : (b : Bool) (c d : Checked) → IsChecked (if b then c else d) K → (IsChecked c K → Q) → (IsChecked d K → Q) → Q
  by_either true c d h go other = go h
  by_either false c d h go other = other h

  by_type : (st : List VarType) (next : VarType → List VarType → Checked) → IsChecked (on_type st next) K → ((t : VarType) (rest : List VarType) → IsChecked (next t rest) K → Q) → Q
  by_type [] next h go = absurd h
  by_type (t ∷ rest) next h go = go t rest h

  by_reference : (st : List VarType) (next : VarType → List VarType → Checked) → IsChecked (on_reference st next) K → ((t : VarType) (rest : List VarType) → IsChecked (next t rest) K → Q) → Q
  by_reference st next h go = by_type st _ h (λ t rest h2. by_need (is_reference_type t) rule.Stack (next t rest) h2 (go t rest))

  by_numbers : (ns : List NumberType) (st : List VarType) (next : List VarType → Checked) → IsChecked (on_number_types ns st next) K → ((rest : List VarType) → IsChecked (next rest) K → Q) → Q
  by_numbers [] st next h go = go st h
  by_numbers (n ∷ ns) st next h go = by_type st _ h (λ t rest h2. by_need (is_number_type n t) rule.Stack (on_number_types ns rest next) h2 (λ h3. by_numbers ns rest next h3 go))

  by_arguments : (P : Program) (seen : VarType → VarType) (ds : List Declared) (st : List VarType) (next : (taken rest : List VarType) → Checked) → IsChecked (on_argument_types P seen ds st next) K
      → ((taken rest : List VarType) → IsChecked (next taken rest) K → Q) → Q
  by_arguments P seen [] st next h go = go [] st h
  by_arguments P seen (d ∷ ds) st next h go =
      by_type st _ h (λ t rest h2. by_need _ rule.Stack (on_argument_types P seen ds rest (λ taken rest2. next (t ∷ taken) rest2)) h2
      (λ h3. by_arguments P seen ds rest (λ taken rest2. next (t ∷ taken) rest2) h3 (λ taken rest2. go (t ∷ taken) rest2)))

-- what holds of each item of a list
each_holds : {A : Type 0} (test : A → Bool) (xs : List A) (x : A) → Holds (list_all test xs) → Contains xs x → Holds (test x)
each_holds test [] x h has = absurd (nil_contains x has)
each_holds {A} test (y ∷ ys) x h has =
    elim (cons_cases y x ys has) [
      | inl same ↦ subst (λ (z : A). Holds (test z)) same (both_left (test y) (list_all test ys) h)
      | inr there ↦ each_holds test ys x (both_right (test y) (list_all test ys) h) there
    ]

-- ---- one method

module _ (P : Program) (n : ℕ) (m : Method) (b : Body) (frames : ℕ → Option TypeFrame) where
  -- a frame stands at the place
  abbrev HasFrame : ℕ → Type 0
  HasFrame q = (f : TypeFrame) × (frames q ≡ Some f)

  flows : (g : TypeFrame) (q : ℕ) → Holds (flows_to P g (frames q)) → HasFrame q
  flows g q h = by (frames q) refl h
    where
      by : (o : Option TypeFrame) → frames q ≡ o → Holds (flows_to P g o) → HasFrame q
      by None is h' = absurd h'
      by (Some f) is h' = (f, is)

  -- the instruction at pc, before which f stands
  module _ (pc : ℕ) (f : TypeFrame) (next : ℕ) (K : Option TypeFrame → Type 0) (goes_on : (g : TypeFrame) → K (Some g) → HasFrame next) where
    falls : (g : TypeFrame) (q : ℕ) → K (Some g) → q ≡ next → HasFrame q
    falls g q h e = subst HasFrame (sym e) (goes_on g h)

    jumps : (st : List VarType) (offset : ℤ) (q : ℕ) → Holds (reaches P n m b frames pc f st offset) → pos pc +ℤ offset ≡ pos q → HasFrame q
    jumps st offset q h e =
        let g = with_types P n m b frames pc f f.locals st in flows g q (subst (λ (z : ℤ). Holds (flows_to P g (frame_at P n m b frames pc f (natural z)))) e h)

    branches : (g : TypeFrame) (st : List VarType) (offset : ℤ) (q : ℕ) → Holds (reaches P n m b frames pc f st offset) → K (Some g) → (pos pc +ℤ offset ≡ pos q) ⊎ (q ≡ next) → HasFrame q
    branches g st offset q to on (inl there) = jumps st offset q to there
    branches g st offset q to on (inr behind) = falls g q on behind

    -- the rules on operands and stack hold, and control goes on behind the instruction
    abbrev behind : (stack : List VarType) → (access init : Bool) → Checked
    behind st access init = Leaves (Some (with_types P n m b frames pc f f.locals st)) access init true

    selects : (named k q : ℕ) → q ≡ next → IsChecked (virtual_check P n m b frames pc f named k) K → HasFrame q
    selects named k q e c =
        by_found K (slice_get P.methods k) rule.Operand _ c (λ j h. by_arguments K P _ _ f.stack _ h (λ taken rest h2. by_type K rest _ h2 (λ t rest2 h3.
        by_need K (is_seen_as P n m b frames pc f (OfClass named) t) rule.Stack
        (behind (result_types j.result ++ rest2) (may_access P n m b frames pc f t) (is_initialized t && list_all is_initialized taken)) h3 (λ h4. falls _ q h4.3 e))))

    -- each row leads to places that have frames
    leads : (r : Row) → IsChecked (row_check P n m b frames pc f r) K → (q : ℕ) → LeadsTo pc next r q → HasFrame q
    leads rows.Nothing c q e = falls _ q c.3 e
    leads (rows.Push v) c q e = falls _ q c.3 e
    leads (rows.Compute taken given compute) c q e = by_numbers K taken f.stack _ c (λ rest h. falls _ q h.3 e)
    leads (rows.Branch taken test offset) c q e = by_numbers K taken f.stack _ c (λ rest h. branches _ rest offset q h.2 h.3 e)
    leads (rows.BranchSame wanted offset) c q e = by_reference K f.stack _ c (λ t rest h. by_reference K rest _ h (λ u rest2 h2. branches _ rest2 offset q h2.2 h2.3 e))
    leads (rows.BranchNull wanted offset) c q e = by_reference K f.stack _ c (λ t rest h. branches _ rest offset q h.2 h.3 e)
    leads (rows.Jump offset) c q e = jumps f.stack offset q c.2 e
    leads (rows.Switch default cases) c q e = by_numbers K (IntType ∷ []) f.stack _ c (λ rest h. switches rest h.2 e)
      where
        switches : (st : List VarType) → Holds (reaches P n m b frames pc f st default && list_all (λ (k : Case). reaches P n m b frames pc f st k.offset) cases)
            → (pos pc +ℤ default ≡ pos q) ⊎ ((k : Case) × Contains cases k × (pos pc +ℤ k.offset ≡ pos q)) → HasFrame q
        switches st h (inl there) = jumps st default q (both_left (reaches P n m b frames pc f st default) _ h) there
        switches st h (inr one) =
            jumps st one.0.offset q (each_holds (λ (k : Case). reaches P n m b frames pc f st k.offset) cases one.0 (both_right (reaches P n m b frames pc f st default) _ h) one.1) one.2
    leads (rows.Load sort k) c q e =
        by_need K _ rule.Operand _ c (λ h. by_found K (slice_get f.locals k) rule.Operand _ h (λ t h2.
        by_need K (moves sort t) rule.Stack (goes P n m b frames pc f f.locals (t ∷ f.stack)) h2 (λ h3. falls _ q h3.3 e)))
    leads (rows.Store sort k) c q e =
        by_need K _ rule.Operand _ c (λ h. by_type K f.stack _ h (λ t rest h2.
        by_need K (moves sort t) rule.Stack (found (stored is_long_type Top f.locals k t) rule.Operand (λ ls. goes P n m b frames pc f ls rest)) h2 (λ h3.
        by_found K (stored is_long_type Top f.locals k t) rule.Operand (λ ls. goes P n m b frames pc f ls rest) h3 (λ ls h4. falls _ q h4.3 e))))
    leads (rows.Increment k x) c q e =
        by_need K _ rule.Operand _ c (λ h. by_found K (slice_get f.locals k) rule.Operand _ h (λ t h2.
        by_need K (moves (Numbers IntType) t) rule.Stack (goes P n m b frames pc f f.locals f.stack) h2 (λ h3. falls _ q h3.3 e)))
    leads (rows.Shuffle form upper lower) c q e = by_found K (shuffle is_long_type form upper lower f.stack) rule.Stack (λ st. goes P n m b frames pc f f.locals st) c (λ st h. falls _ q h.3 e)
    leads (rows.GetStatic k) c q e = by_found K (slice_get P.statics k) rule.Operand _ c (λ d h. falls _ q h.3 e)
    leads (rows.PutStatic k) c q e =
        by_found K (slice_get P.statics k) rule.Operand _ c (λ d h. by_type K f.stack _ h (λ t rest h2. by_need K (is_seen_for P n m b frames pc f d t) rule.Stack (behind rest true (is_initialized t)) h2 (λ h3. falls _ q h3.3 e)))
    leads (rows.GetField named owner k) c q e =
        by_found K (slice_get (P.fields owner) k) rule.Operand _ c (λ d h. by_type K f.stack _ h (λ t rest h2.
        by_need K (is_seen_as P n m b frames pc f (OfClass named) t) rule.Stack (behind (type_of d ∷ rest) (may_access P n m b frames pc f t) (is_initialized t)) h2 (λ h3. falls _ q h3.3 e)))
    leads (rows.PutField named owner k) c q e =
        by_found K (slice_get (P.fields owner) k) rule.Operand _ c (λ d h. by_type K f.stack _ h (λ t rest h2. by_type K rest _ h2 (λ u rest2 h3.
        by_need K (is_seen_for P n m b frames pc f d t && is_seen_as P n m b frames pc f (OfClass named) u) rule.Stack
        (behind rest2 (may_access P n m b frames pc f u) (is_initialized t && may_be_written P n m b frames pc f owner u)) h3 (λ h4. falls _ q h4.3 e))))
    leads (rows.New class) c q e =
        by_need K (not (holds_made pc f.stack)) rule.Stack (goes P n m b frames pc f (map (substituted (Uninitialized pc) Top) f.locals) (Uninitialized pc ∷ f.stack)) c (λ h. falls _ q h.3 e)
    leads (rows.NewNumbers code) c q e = by_numbers K (IntType ∷ []) f.stack _ c (λ rest h. falls _ q h.3 e)
    leads (rows.NewReferences k) c q e = by_numbers K (IntType ∷ []) f.stack _ c (λ rest h. falls _ q h.3 e)
    leads rows.Length c q e = by_type K f.stack _ c (λ t rest h. by_need K (is_array_type t) rule.Stack (goes P n m b frames pc f f.locals (Integer ∷ rest)) h (λ h2. falls _ q h2.3 e))
    leads (rows.LoadNumber number codes) c q e =
        by_numbers K (IntType ∷ []) f.stack _ c (λ rest h. by_type K rest _ h (λ t rest2 h2.
        by_need K (is_array_type_of number codes t) rule.Stack (goes P n m b frames pc f f.locals (number_type number ∷ rest2)) h2 (λ h3. falls _ q h3.3 e)))
    leads (rows.StoreNumber number codes kept) c q e =
        by_numbers K (number ∷ IntType ∷ []) f.stack _ c (λ rest h. by_type K rest _ h (λ t rest2 h2.
        by_need K (is_array_type_of number codes t) rule.Stack (goes P n m b frames pc f f.locals rest2) h2 (λ h3. falls _ q h3.3 e)))
    leads rows.LoadReference c q e =
        by_numbers K (IntType ∷ []) f.stack _ c (λ rest h. by_type K rest _ h (λ t rest2 h2. by_found K (component_type t) rule.Stack (λ u. goes P n m b frames pc f f.locals (u ∷ rest2)) h2 (λ u h3. falls _ q h3.3 e)))
    leads rows.StoreReference c q e =
        by_reference K f.stack _ c (λ t rest h. by_numbers K (IntType ∷ []) rest _ h (λ rest2 h2. by_type K rest2 _ h2 (λ u rest3 h3.
        by_need K (is_there (component_type u)) rule.Stack (behind rest3 true (is_initialized t)) h3 (λ h4. falls _ q h4.3 e))))
    leads (rows.Cast k) c q e = by_reference K f.stack _ c (λ t rest h. falls _ q h.3 e)
    leads (rows.Test k) c q e = by_reference K f.stack _ c (λ t rest h. falls _ q h.3 e)
    leads rows.Monitor c q e = by_reference K f.stack _ c (λ t rest h. falls _ q h.3 e)
    leads rows.Throw c q e = absurd e
    leads (rows.CallStatic k) c q e =
        by_found K (slice_get P.methods k) rule.Operand _ c (λ j h. by_arguments K P (seen_here P n m b frames pc f) (reverse j.parameters) f.stack
        (λ taken rest. behind (result_types j.result ++ rest) true (list_all is_initialized taken)) h (λ taken rest h2. falls _ q h2.3 e))
    leads (rows.CallSpecial named k) c q e =
        by_found K (slice_get P.methods k) rule.Operand _ c (λ j h. by_arguments K P _ _ f.stack _ h (λ taken rest h2. by_type K rest _ h2 (λ t rest2 h3.
        by_either K j.is_init (init_check P n m b frames pc f named t taken rest2) (super_check P n m b frames pc f named j t taken rest2) h3 (λ h4. begins named t taken rest2 h4) (λ h4. supers named j t taken rest2 h4))))
      where
        begins : (named : ℕ) (t : VarType) (taken rest : List VarType) → IsChecked (init_check P n m b frames pc f named t taken rest) K → HasFrame q
        begins named t taken rest h =
            by_need K (is_reference_type t) rule.Stack (Leaves (Some (begun P n m b frames pc f t rest)) true (list_all is_initialized taken && may_begin P n m b frames pc f named t) true) h (λ h2. falls _ q h2.3 e)

        supers : (named : ℕ) (j : Method) (t : VarType) (taken rest : List VarType) → IsChecked (super_check P n m b frames pc f named j t taken rest) K → HasFrame q
        supers named j t taken rest h =
            by_need K (is_own_class P m named && is_seen_as P n m b frames pc f (OfClass m.owner) t) rule.Stack
            (behind (result_types j.result ++ rest) (may_access P n m b frames pc f t) (is_initialized t && list_all is_initialized taken)) h (λ h2. falls _ q h2.3 e)
    leads (rows.CallVirtual named k) c q e = selects named k q e c
    leads (rows.CallInterface named k) c q e = selects named k q e c
    leads (rows.Return given) c q e = absurd e
    leads rows.Read c q e = falls _ q c.3 e
    leads rows.Write c q e = by_numbers K (IntType ∷ []) f.stack _ c (λ rest h. falls _ q h.3 e)

  -- a handler that covers a place with a frame has a frame
  handled : (pc : ℕ) (f : TypeFrame) → Holds (handlers_hold P frames pc f b.handlers) → (q : ℕ) → IsHandled b.handlers pc q → HasFrame q
  handled pc f h q e =
      let one = each_holds (λ (k : Handler). if covers pc k then is_handled P frames f k else true) b.handlers e.entry h e.among in
      let there = covered (covers pc e.entry) (covers_is (nat_le e.entry.start pc) (nat_lt pc e.entry.end) (le-leb e.entry.start pc e.from) (lt-ltb pc e.entry.end e.to)) one in
      subst HasFrame e.handler (flows (record f { stack = ReferenceTo (caught_kind e.entry.caught) ∷ [] }) e.entry.target (both_right (is_throwable P e.entry.caught) _ there))
    where
      covers_is : (x y : Bool) → x ≡ true → y ≡ true → (x && y) ≡ true
      covers_is true y a a' = a'
      covers_is false y a a' = a

      covered : (x : Bool) → x ≡ true → Holds (if x then is_handled P frames f e.entry else true) → Holds (is_handled P frames f e.entry)
      covered true is h' = h'
      covered false is h' = absurd (cc)

  module _ (typed : IsTypedMethod P n m b frames) (body : body_of P n ≡ Some b) where
    -- the place of an instruction, or of that at which an object is raised
    place_of : Node → ℕ
    place_of (At p) = p
    place_of (RaiseAt p) = p

    typed_at : (p : ℕ) (f : TypeFrame) → frames p ≡ Some f → IsTypedAt P n m b frames p f
    typed_at p f is = if_at (frames p) f (IsTypedAt P n m b frames p) is (typed.places p)

    steps : (u v : Node) → HasFrame (place_of u) → IsEdge P n u v → HasFrame (place_of v)
    unfolding place_of
    steps (At p) (At q) (f, is) e =
        let at = typed_at p f is in
        let x = some_is (row_in P n p) (λ y. IsChecked (row_check P n m b frames p f y.1) (GoesOn P frames y.0)) at.row in
        leads p f x.0.0 (GoesOn P frames x.0.0) (λ g h. flows g x.0.0 h) x.0.1 x.2 q (holds_at (row_in P n p) x.0 (λ y. LeadsTo p y.0 y.1 q) x.1 e)
    steps (At p) (RaiseAt q) has e = subst HasFrame (sym e.0) has
    steps (RaiseAt p) (At q) (f, is) e = handled p f (typed_at p f is).handlers q (holds_at (body_of P n) b (λ c. IsHandled c.handlers p q) body e)
    steps (RaiseAt p) (RaiseAt q) has e = absurd e

    reached : {u : Node} → IsReached (IsEdge P n) u → HasFrame (place_of u)
    unfolding place_of
    reached first = let r = some_is (first_types m b) (λ f. Holds (flows_to P f (frames 0))) typed.first in flows r.0 0 r.2
    reached (later {u} {v} r e) = steps u v (reached r) e

    pub starts : {u : Node} → IsReached (IsEdge P n) u → (p : ℕ) → (u ≡ At p) ⊎ (u ≡ RaiseAt p) → IsStart b.code p
    unfolding place_of
    starts {u} r p (inl is) = let has = subst (λ (v : Node). HasFrame (place_of v)) is (reached r) in (typed_at p has.0 has.1).start
    starts {u} r p (inr is) = let has = subst (λ (v : Node). HasFrame (place_of v)) is (reached r) in (typed_at p has.0 has.1).start

    -- a reached instruction has a row
    pub row_there : {u : Node} → IsReached (IsEdge P n) u → (p : ℕ) → u ≡ At p → IsSome (row_in P n p)
    unfolding place_of
    row_there {u} r p is =
        let has = subst (λ (v : Node). HasFrame (place_of v)) is (reached r) in
        let x = some_is (row_in P n p) (λ y. IsChecked (row_check P n m b frames p has.0 y.1) (GoesOn P frames y.0)) (typed_at p has.0 has.1).row in
        subst (λ (o : Option (ℕ × Row)). IsSome o) (sym x.1) refl

-- a reached instruction, or one at which an object is raised, is one of the code
pub places_are_starts : (P : Program) (types : Typing) → Typed P types → (m : ℕ) (b : Body) → body_of P m ≡ Some b → {u : Node} → IsReached (IsEdge P m) u → (p : ℕ) → (u ≡ At p) ⊎ (u ≡ RaiseAt p) → IsStart b.code p
places_are_starts P types typed m b body r p is =
    let k = onto_some (slice_get P.methods m) (λ (j : Method). j.body) b body in
    starts P m k.0 b (types m) (typed.methods m k.0 b k.1 k.2) body r p is

pub reach_starts : TypedMethodsReachStarts
reach_starts P types typed m b body p r = places_are_starts P types typed m b body r p (inl refl)

pub reach_rows : TypedMethodsReachRows
reach_rows P types typed m b body p r =
    let k = onto_some (slice_get P.methods m) (λ (j : Method). j.body) b body in
    row_there P m k.0 b (types m) (typed.methods m k.0 b k.1 k.2) body r p refl
