-- What the line at a place gives, by what it does.
use Rattle.std.proofs.Common.{◌≡◌, ℕ, ℤ, pos, List, Option, Some, None, refl, sym, ap, ◌∙◌, subst}
use Rattle.std.specs.Prelude.{◌↔◌, ◌≤ℤ◌, IfSome}
use Rattle.lists.proofs.Lemmas.{none≢some}
use Rattle.bytecode_model.specs.Program.{Program}
use Rattle.method_flow.specs.Nodes.{At, IsEdge, IsReached}
use Rattle.loop_rules.specs.Further.Known.{Known}
use Rattle.loop_rules.specs.declared.further.table.KnownInt.{KnownInt}
use Rattle.known_ints.specs.declared.knowing.Local.{Local}
use Rattle.known_ints.specs.declared.rows.Arithmetic.{Arithmetic}
use Rattle.known_ints.specs.declared.parts.Part.{Part}
use Rattle.known_ints.specs.declared.parts.Part.TheVariants as does
use Rattle.known_ints.specs.declared.answers.Answer.{Answer}
use Rattle.known_ints.specs.Parts.{part_at}
use Rattle.known_ints.specs.Answers.{IsAnswer, IsAsked, IsSettled, answer_at}
use Rattle.known_ints.specs.Code.{CodeOf, IsCodeOf}
use Rattle.loop_rules.specs.Further.Found.{Table, known_at}
use Rattle.known_ints.specs.Knowing.{GivesInt, GivesLength, IsComputedBy, IsDoneBefore, IsFilledBefore, IsReferenceLoad, IsGiven, IsLoadedBy, an_array, an_int, found_of, load_of}

-- what does none of these gives no int
none_int : (P : Program) (m : ℕ) (code : CodeOf) (t : Table) (p : ℕ) (part : Part) → ((c : ℤ) → part ≡ does.Int c → ⊥) → ((c : ℤ) → part ≡ does.Field c → ⊥)
    → ((k : ℕ) → part ≡ does.Load k → ⊥) → (part ≡ does.Length → ⊥) → ((a : Arithmetic) → part ≡ does.Compute a → ⊥) → (from : ℕ) (x : ℤ)
    → GivesInt P m code t p part from x → ⊥
none_int P m code t p (does.Int c) int field load length compute from x h = int c refl
none_int P m code t p (does.Field c) int field load length compute from x h = field c refl
none_int P m code t p (does.Load k) int field load length compute from x h = load k refl
none_int P m code t p does.Length int field load length compute from x h = length refl
none_int P m code t p (does.Compute a) int field load length compute from x h = compute a refl
none_int P m code t p _ int field load length compute from x h = absurd h

-- it does none of what gives a length
pub record GivesNoLength (part : Part) : Type 0 where
  pub array : part ≡ does.NewArray → ⊥
  pub load : (k : ℕ) → part ≡ does.LoadReference k → ⊥
  pub static : (c : ℤ) → part ≡ does.StaticArray c → ⊥
  pub field : (c : ℤ) → part ≡ does.FieldArray c → ⊥
  pub store : part ≡ does.StoreNumber → ⊥

none_length : (P : Program) (m : ℕ) (code : CodeOf) (t : Table) (p : ℕ) (part : Part) → GivesNoLength part → (from : ℕ) (x : ℤ) → GivesLength P m code t p part from x → ⊥
none_length P m code t p does.NewArray none from x h = none.array refl
none_length P m code t p (does.LoadReference k) none from x h = none.load k refl
none_length P m code t p (does.StaticArray c) none from x h = none.static c refl
none_length P m code t p (does.FieldArray c) none from x h = none.field c refl
none_length P m code t p does.StoreNumber none from x h = none.store refl
none_length P m code t p _ none from x h = absurd h

module _ (code : CodeOf) (t : Table) (ts : List (Option Answer)) (p : ℕ) (part : Part) where
  abbrev pub GivenInt : Option KnownInt → Type 0
  GivenInt o = (P : Program) (known : Known) (m : ℕ) → IsCodeOf P known m code → IsReached (IsEdge P m) (At p) → IsAsked P m code t ts p → IsGiven (GivesInt P m code t p part) o

  abbrev pub GivenLength : Option KnownInt → Type 0
  GivenLength o = (P : Program) (known : Known) (m : ℕ) → IsCodeOf P known m code → IsReached (IsEdge P m) (At p) → IsAsked P m code t ts p → IsGiven (GivesLength P m code t p part) o

  -- this int, pushed by the instruction at the place alone
  abbrev pub IsPushedAt : (v : ℤ) → Option KnownInt → Type 0
  IsPushedAt v o = (x : KnownInt) → (o ≡ Some x) ↔ ((x.from ≡ p) × (v ≡ x.value))

  constant_at : (v w : ℤ) (o : Option KnownInt) → w ≡ v → IsPushedAt w o → IsGiven (λ from x. (from ≡ p) × (x ≡ v)) o
  constant_at v w o same exact x = (
    (λ e. let h = (exact x).0 e in (h.0, sym h.1 ∙ same)),
    (λ h. (exact x).1 (h.0, same ∙ sym h.1)),
  )

  pub int_given : (v w : ℤ) (o : Option KnownInt) → part ≡ does.Int v → w ≡ v → IsPushedAt w o → GivenInt o
  int_given v w o is same exact P known m of reached asked = subst (λ (q : Part). IsGiven (GivesInt P m code t p q) o) (sym is) (constant_at v w o same exact)

  pub field_given : (v w : ℤ) (o : Option KnownInt) → part ≡ does.Field v → w ≡ v → IsPushedAt w o → GivenInt o
  field_given v w o is same exact P known m of reached asked = subst (λ (q : Part). IsGiven (GivesInt P m code t p q) o) (sym is) (constant_at v w o same exact)

  -- it is what a load of a local variable gives, by what is told of that
  abbrev pub GivenBy : Option KnownInt → Type 0
  GivenBy o = (P : Program) (known : Known) (m : ℕ) (code : CodeOf) (xs : List (Option KnownInt)) (l : Local) → IsCodeOf P known m code → IsReached (IsEdge P m) (At p)
      → IsSettled xs (answer_at ts p) → IfSome (answer_at ts p) (IsAnswer P m code.parts xs l p) → IsGiven (IsLoadedBy P m code.parts xs l p) o

  answered : (P : Program) (m : ℕ) → IsReached (IsEdge P m) (At p) → IsAsked P m code t ts p → (l : Local) → part_at code.parts p ≡ load_of l
      → IfSome (answer_at ts p) (IsAnswer P m code.parts (found_of t l.holds) l p)
  answered P m reached asked l is = by (answer_at ts p) refl
    where
      by : (o : Option Answer) → answer_at ts p ≡ o → IfSome o (IsAnswer P m code.parts (found_of t l.holds) l p)
      by None at = tt
      by (Some a) at = asked.answers l p a reached is at

  pub load_given : (k : ℕ) → part ≡ does.Load k → part ≡ part_at code.parts p → (o : Option KnownInt) → GivenBy o → GivenInt o
  load_given k is at o h P known m of reached asked =
      let load : part_at code.parts p ≡ load_of (an_int k) = sym at ∙ is in
      subst (λ (q : Part). IsGiven (GivesInt P m code t p q) o) (sym is)
      (h P known m code t.ints (an_int k) of reached (asked.settled (an_int k) load) (answered P m reached asked (an_int k) load))

  pub length_given : (xs : List (Option KnownInt)) → xs ≡ t.lengths → (o : Option KnownInt) → part ≡ does.Length → o ≡ known_at xs p → GivenInt o
  length_given xs are o is same P known m of reached asked =
      let found : o ≡ known_at t.lengths p = same ∙ ap (λ (ys : List (Option KnownInt)). known_at ys p) are in
      subst (λ (q : Part). IsGiven (GivesInt P m code t p q) o) (sym is) (λ x. ((λ e. sym found ∙ e), (λ e. found ∙ e)))

  pub computed_given : (xs : List (Option KnownInt)) → xs ≡ t.ints → (a : Arithmetic) (o : Option KnownInt) → part ≡ does.Compute a → IsGiven (IsComputedBy xs a p) o → GivenInt o
  computed_given xs are a o is h P known m of reached asked =
      subst (λ (q : Part). IsGiven (GivesInt P m code t p q) o) (sym is) (subst (λ (ys : List (Option KnownInt)). IsGiven (IsComputedBy ys a p) o) are h)

  pub array_given : (xs : List (Option KnownInt)) → xs ≡ t.ints → (length o : Option KnownInt) → part ≡ does.NewArray → length ≡ known_at xs p
      → IsGiven (λ from x. (length ≡ Some (record { from = from; value = x })) × (pos 0 ≤ℤ x)) o → GivenLength o
  array_given xs are length o is same h P known m of reached asked =
      subst (λ (q : Part). IsGiven (GivesLength P m code t p q) o) (sym is)
      (subst (λ (k : Option KnownInt). IsGiven (λ from x. (k ≡ Some (record { from = from; value = x })) × (pos 0 ≤ℤ x)) o)
      (same ∙ ap (λ (ys : List (Option KnownInt)). known_at ys p) are) h)

  pub load_reference_given : (k : ℕ) → part ≡ does.LoadReference k → part ≡ part_at code.parts p → (o : Option KnownInt) → GivenBy o → GivenLength o
  load_reference_given k is at o h P known m of reached asked =
      let load : part_at code.parts p ≡ load_of (an_array k) = sym at ∙ is in
      subst (λ (q : Part). IsGiven (GivesLength P m code t p q) o) (sym is)
      (h P known m code t.lengths (an_array k) of reached (asked.settled (an_array k) load) (answered P m reached asked (an_array k) load))

  pub filled_given : (xs : List (Option KnownInt)) → xs ≡ t.lengths → (o : Option KnownInt) → part ≡ does.StoreNumber → IsGiven (IsFilledBefore code xs p) o → GivenLength o
  filled_given xs are o is h P known m of reached asked =
      subst (λ (q : Part). IsGiven (GivesLength P m code t p q) o) (sym is) (subst (λ (ys : List (Option KnownInt)). IsGiven (IsFilledBefore code ys p) o) are h)

  pub no_int : ((c : ℤ) → part ≡ does.Int c → ⊥) → ((c : ℤ) → part ≡ does.Field c → ⊥) → ((k : ℕ) → part ≡ does.Load k → ⊥) → (part ≡ does.Length → ⊥)
      → ((a : Arithmetic) → part ≡ does.Compute a → ⊥) → GivenInt None
  no_int int field load length compute P known m of reached asked x =
      ((λ e. absurd (none≢some x e)), (λ h. absurd (none_int P m code t p part int field load length compute x.from x.value h)))

  pub static_given : (v w : ℤ) (o : Option KnownInt) → part ≡ does.StaticArray v → w ≡ v → IsPushedAt w o → GivenLength o
  static_given v w o is same exact P known m of reached asked = subst (λ (q : Part). IsGiven (GivesLength P m code t p q) o) (sym is) (constant_at v w o same exact)

  -- the field of an object that the instruction before the place loads
  pub field_given_before : (v w : ℤ) (o : Option KnownInt) → part ≡ does.FieldArray v → w ≡ v
      → ((x : KnownInt) → (o ≡ Some x) ↔ (IsDoneBefore code IsReferenceLoad p x.from × (x.value ≡ w))) → GivenLength o
  field_given_before v w o is same exact P known m of reached asked =
      subst (λ (q : Part). IsGiven (GivesLength P m code t p q) o) (sym is)
      (λ x. ((λ e. let h = (exact x).0 e in (h.0, h.1 ∙ same)), (λ h. (exact x).1 (h.0, h.1 ∙ sym same))))

  pub no_length : GivesNoLength part → GivenLength None
  no_length none P known m of reached asked x = ((λ e. absurd (none≢some x e)), (λ h. absurd (none_length P m code t p part none x.from x.value h)))
