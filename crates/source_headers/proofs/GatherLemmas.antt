-- What is gathered, one method more at a time.
use Rattle.std.proofs.Common.{◌≡◌, ◌≢◌, ◌⊎◌, ◌↔◌, ℕ, zero, suc, ◌+◌, ◌<◌, List, [], ◌∷◌, ◌++◌, length, Contains, refl, sym, ◌∙◌, ap, ap₂, subst, arith, Option, Some, None, inl, inr, append-nil}
use Rattle.std.specs.Prelude.{slice_get, flat_map, IsSome, Result, Ok, Err, OnOk}
use Rattle.std.specs.List.{concat, filter_map, cons_option}
use Rattle.std.proofs.lemmas.Bool.{cases_lt}
use Rattle.std.proofs.lemmas.List.{length-append}
use Rattle.std.proofs.lemmas.List.Folds.{concat-append}
use Rattle.lists.proofs.Lemmas.{none≢some, some_same}
use Rattle.lists.specs.Members.{at_head, in_tail, cons_cases, nil_contains}
use Rattle.class_pool.specs.declared.class.ClassFile.{ClassFile}
use Rattle.bytecode_model.specs.Program.{body_of}
use Rattle.program_tables.specs.Resolved.{resolved}
use Rattle.name_laws.specs.Written.{written_name}
use Rattle.method_flow.specs.Flow.{Flow, IsFlowOf}
use Rattle.loop_rules.specs.declared.found.FoundLoop.{FoundLoop}
use Rattle.bound_texts.specs.Sources.Notes.{Subject, AtLine, AtPlace, Note}
use Rattle.bound_causes.specs.Shapes.{IsShape}
use Rattle.bound_causes.specs.declared.shapes.Shape.{Shape}
use Rattle.bound_causes.specs.declared.shapes.Shape.TheVariants.{Irreducible, Reducible}
use Rattle.source_places.specs.declared.methods.sources.MethodSource.{MethodSource}
use Rattle.source_headers.specs.declared.methods.MethodLoops.{MethodLoops}
use Rattle.source_headers.specs.declared.gathering.Gathered.{Gathered}
use Rattle.source_places.specs.Methods.Sources.{source_at, IsFileOf}
use Rattle.source_headers.specs.Headers.{found_at, header_at, header_lines, method_lines, IsMethodText}
use Rattle.source_headers.specs.Straying.{MayBeBounded, IsHeaderAt, IsStray}
use Rattle.source_headers.specs.Files.{AreMethodTexts}
use Rattle.source_headers.specs.Known.{KnownSites, IsWith}
use Rattle.source_places.specs.Methods.Told.{source_by}
use Rattle.bound_report.specs.Contents.Rows.{IsCodePlace}
use Rattle.bound_rules.specs.Bounding.{IsLeftWith}
use Rattle.source_headers.specs.Told.{headed_places, header_by, lines_by, IsToldPlace, IsToldOf}
use Rattle.source_headers.specs.Gathered.{IsNameOf, IsPlaceOf, IsLineOf, AreBelow, AreFiles, AreGathered, IsLineBy, IsNameBy, AddsLines, AddsPlaces, AddsMethod, IsLacking, AreKnown}

-- ---- lists

flat_map_same : {X Y : Type 0} (f g : X → List Y) (xs : List X) → ((x : X) → Contains xs x → f x ≡ g x) → flat_map f xs ≡ flat_map g xs
flat_map_same f g [] h = refl
flat_map_same f g (x ∷ xs) h = ap₂ (λ (a b : List _). a ++ b) (h x (at_head x xs)) (flat_map_same f g xs (λ y c. h y (in_tail x y xs c)))

got_cases : {X : Type 0} (xs : List X) (y z : X) (m : ℕ) → slice_get (xs ++ y ∷ []) m ≡ Some z → (slice_get xs m ≡ Some z) ⊎ ((m ≡ length xs) × (y ≡ z))
got_cases [] y z zero h = inr (refl, some_same y z h)
got_cases [] y z (suc m) h = absurd (none≢some z h)
got_cases (x ∷ xs) y z zero h = inl h
got_cases (x ∷ xs) y z (suc m) h = elim (got_cases xs y z m h) [ inl old ↦ inl old | inr new ↦ inr (ap suc new.0, new.1) ]

concat_more : (texts : List (List ℕ)) (t : List ℕ) → concat (texts ++ t ∷ []) ≡ concat texts ++ t
concat_more texts t = concat-append texts (t ∷ []) ∙ ap (λ (x : List ℕ). concat texts ++ x) (append-nil t)

mapped_rest : {X Y : Type 0} (f : X → Option Y) (x : X) (xs : List X) (y : Y) → (z : X) × Contains xs z × (f z ≡ Some y) → (z : X) × Contains (x ∷ xs) z × (f z ≡ Some y)
mapped_rest f x xs y r = (r.0, in_tail x r.0 xs r.1, r.2)

mapped_case : {X Y : Type 0} (f : X → Option Y) (x : X) (xs : List X) (y : Y) (o : Option Y) → f x ≡ o → (Contains (filter_map f xs) y ↔ ((z : X) × Contains xs z × (f z ≡ Some y)))
    → Contains (cons_option o (filter_map f xs)) y ↔ ((z : X) × Contains (x ∷ xs) z × (f z ≡ Some y))
mapped_case f x xs y None e more = (
  λ c. mapped_rest f x xs y (more.0 c),
  λ h.
      elim (cons_cases x h.0 xs h.1) [
        | inl same ↦ absurd (none≢some y (sym e ∙ ap f same ∙ h.2))
        | inr there ↦ more.1 (h.0, there, h.2)
      ],
)
mapped_case {X} {Y} f x xs y (Some z) e more = (
  λ c.
      elim (cons_cases z y (filter_map f xs) c) [
        | inl same ↦ (x, at_head x xs, e ∙ ap Some same)
        | inr there ↦ mapped_rest f x xs y (more.0 there)
      ],
  λ h.
      elim (cons_cases x h.0 xs h.1) [
        | inl same ↦ subst (λ (w : Y). Contains (z ∷ filter_map f xs) w) (some_same z y (sym e ∙ ap f same ∙ h.2)) (at_head z (filter_map f xs))
        | inr there ↦ in_tail z y (filter_map f xs) (more.1 (h.0, there, h.2))
      ],
)

pub mapped_contains : {X Y : Type 0} (f : X → Option Y) (xs : List X) (y : Y) → Contains (filter_map f xs) y ↔ ((x : X) × Contains xs x × (f x ≡ Some y))
mapped_contains f [] y = (λ c. absurd (nil_contains y c), λ h. absurd (nil_contains h.0 h.1))
mapped_contains f (x ∷ xs) y = mapped_case f x xs y (f x) refl (mapped_contains f xs y)

-- ---- below a number

module _ {X : Type 0} (Of : ℕ → X → Type 0) where
  pub none_below : (xs : List X) → ((x : X) → ¬ Contains xs x) → AreBelow Of 0 xs
  none_below xs none x = (λ c. absurd (none x c), λ h. absurd (omega (arith, h.1)))

  pub more_below : (n : ℕ) (old new : List X) (Q : X → Type 0) → AreBelow Of n old → IsWith old new Q → ((x : X) → Q x ↔ Of n x) → AreBelow Of (n + 1) new
  more_below n old new Q h w same x = (to, from)
    where
      to : Contains new x → (m : ℕ) × (m < n + 1) × Of m x
      to c =
          elim ((w x).0 c) [
            | inl before ↦ let r = (h x).0 before in (r.0, omega (arith, r.1), r.2)
            | inr here ↦ (n, omega arith, (same x).0 here)
          ]

      from : (m : ℕ) × (m < n + 1) × Of m x → Contains new x
      from r =
          elim (cases_lt r.0 n) [
            | inl lt ↦ (w x).1 (inl ((h x).1 (r.0, lt, r.2)))
            | inr ge ↦ (w x).1 (inr ((same x).1 (let e : r.0 ≡ n = omega (arith, r.1, ge) in subst (λ (m : ℕ). Of m x) e r.2)))
          ]

  pub still_below : (n : ℕ) (xs : List X) → AreBelow Of n xs → ((x : X) → ¬ Of n x) → AreBelow Of (n + 1) xs
  still_below n xs h none x = (to, from)
    where
      to : Contains xs x → (m : ℕ) × (m < n + 1) × Of m x
      to c = let r = (h x).0 c in (r.0, omega (arith, r.1), r.2)

      from : (m : ℕ) × (m < n + 1) × Of m x → Contains xs x
      from r =
          elim (cases_lt r.0 n) [
            | inl lt ↦ (h x).1 (r.0, lt, r.2)
            | inr ge ↦ absurd (none x (let e : r.0 ≡ n = omega (arith, r.1, ge) in subst (λ (m : ℕ). Of m x) e r.2))
          ]

  pub all_below : (n : ℕ) (xs : List X) → AreBelow Of n xs → ((m : ℕ) (x : X) → Of m x → m < n) → (x : X) → Contains xs x ↔ ((m : ℕ) × Of m x)
  all_below n xs h below x = (λ c. let r = (h x).0 c in (r.0, r.2), λ r. (h x).1 (r.0, below r.0 x r.1, r.1))

-- ---- the lines of a method

lines_same : (cs : List ClassFile) (notes : List Note) (left found : List FoundLoop) (m : ℕ) (name : List ℕ) (source : Option MethodSource) (shape : Shape)
    → ((p : ℕ) → IsToldPlace (resolved cs) m shape p → source_by source p ≡ source_at cs m p) → ((p : ℕ) → found_at left m p ≡ found_at found m p)
    → lines_by notes left m name source shape ≡ method_lines cs notes found m name shape
lines_same cs notes left found m name source (Irreducible nodes) told same = refl
lines_same cs notes left found m name source (Reducible places) told same =
    flat_map_same (λ p. header_lines notes name (header_by source left m p)) (λ p. header_lines notes name (header_at cs found m p)) places.items
    (λ p c. ap₂ (λ (s : Option (List ℕ × ℕ)) (n : Option ℕ). header_lines notes name (record { place = p; source = s; found = n })) (told p c) (same p))

-- ---- where a method heads loops

places_are : (cs : List ClassFile) (m : ℕ) (x : MethodLoops) → IsToldOf cs m x → MayBeBounded (resolved cs) m → (p : ℕ) → Contains (headed_places x.shape) p → IsHeaderAt (resolved cs) m p
places_are cs m x told bounded p c = by x.shape told.shape c
  where
    by : (s : Shape) → IsShape (resolved cs) m s → Contains (headed_places s) p → IsHeaderAt (resolved cs) m p
    by (Irreducible nodes) h c = absurd (nil_contains p c)
    by (Reducible places) h c = record { bounded = bounded; places = places.items; single = h.0; are = h.1; among = c }

-- ---- its lines and its name, by the shape of its loops

module _ (cs : List ClassFile) (n : ℕ) (bounded : MayBeBounded (resolved cs) n) (apart : (nodes : List ℕ) → IsLeftWith (resolved cs) n nodes → nodes ≢ [] → ¬ IsLeftWith (resolved cs) n []) where
  names_by_shape : (shape : Shape) → IsShape (resolved cs) n shape → (name : List ℕ) → name ≡ written_name cs n → (y : List ℕ) → IsNameBy shape name y ↔ IsNameOf cs n y
  names_by_shape (Irreducible nodes) is name named y = (λ bad. absurd bad, λ of. apart nodes.items is.0 is.1 of.0.1)
  names_by_shape (Reducible places) is name named y = (λ e. ((bounded, is.0), sym named ∙ sym e), λ of. sym of.1 ∙ sym named)

  module _ (source : Option MethodSource) (within : (p : ℕ) (s : List ℕ × ℕ) → source_by source p ≡ Some s → IsCodePlace (resolved cs) n p) where
    lines_by_shape : (shape : Shape) → IsShape (resolved cs) n shape → ((p : ℕ) → IsToldPlace (resolved cs) n shape p → source_by source p ≡ source_at cs n p)
        → ((p : ℕ) → IsHeaderAt (resolved cs) n p → Contains (headed_places shape) p) → (s : List ℕ × ℕ) → IsLineBy source shape s ↔ IsLineOf cs n s
    lines_by_shape (Irreducible nodes) is told all s = (to, from)
      where
        to : IsLineBy source (Irreducible nodes) s → IsLineOf cs n s
        to k =
            let code = within k.0 s k.1 in
            (k.0, inr (record { bounded = bounded; within = code; nodes = nodes.items; left = is.0; some = is.1 }), sym (told k.0 code) ∙ k.1)

        from : IsLineOf cs n s → IsLineBy source (Irreducible nodes) s
        from of = elim of.1 [ inl at ↦ absurd (apart nodes.items is.0 is.1 at.single) | inr at ↦ (of.0, told of.0 at.within ∙ of.2) ]
    lines_by_shape (Reducible places) is told all s = (to, from)
      where
        to : IsLineBy source (Reducible places) s → IsLineOf cs n s
        to k = (k.0, inl (record { bounded = bounded; places = places.items; single = is.0; are = is.1; among = k.1 }), sym (told k.0 k.1) ∙ k.2)

        from : IsLineOf cs n s → IsLineBy source (Reducible places) s
        from of = elim of.1 [ inl at ↦ (let c = all of.0 at in (of.0, c, told of.0 c ∙ of.2)) | inr at ↦ absurd (apart at.nodes at.left at.some is.0) ]

line_bounded : (cs : List ClassFile) (n : ℕ) (s : List ℕ × ℕ) → IsLineOf cs n s → MayBeBounded (resolved cs) n
line_bounded cs n s of = elim of.1 [ inl at ↦ at.bounded | inr at ↦ at.bounded ]

-- ---- one method more

module _ (cs : List ClassFile) (notes : List Note) (found : List FoundLoop) where
  pub none_gathered : (g : Gathered) → g.text.items ≡ [] → g.methods ≡ record { names = []; sites = [] } → AreFiles cs g.files.names → ((s : List ℕ × ℕ) → ¬ Contains g.files.sites s)
      → AreGathered cs notes found 0 g
  none_gathered g text methods files none = record {
    texts = [];
    count = refl;
    each = λ m text h. absurd (none≢some text h);
    text_is = text;
    names = none_below (IsNameOf cs) g.methods.names (λ x c. nil_contains x (subst (λ (k : KnownSites). Contains k.names x) methods c));
    places = none_below (IsPlaceOf cs) g.methods.sites (λ x c. nil_contains x (subst (λ (k : KnownSites). Contains k.sites x) methods c));
    files = files;
    lines = none_below (IsLineOf cs) g.files.sites none;
  }

  -- the method that is run first
  pub boot_gathered : (n : ℕ) (g : Gathered) → AreGathered cs notes found n g → n ≡ (resolved cs).boot → AreGathered cs notes found (n + 1) g
  boot_gathered n g h boot = record {
    texts = h.texts ++ [] ∷ [];
    count = let long = length-append h.texts ([] ∷ []) in omega (arith, long, h.count);
    each = λ m text got.
        elim (got_cases h.texts [] text m got) [
          | inl old ↦ h.each m text old
          | inr new ↦ inl (new.0 ∙ h.count ∙ boot, sym new.1)
        ];
    text_is = h.text_is ∙ sym (concat_more h.texts [] ∙ append-nil (concat h.texts));
    names = still_below (IsNameOf cs) n g.methods.names h.names (λ x of. of.0.0.1 boot);
    places = still_below (IsPlaceOf cs) n g.methods.sites h.places (λ x of. of.0.bounded.1 boot);
    files = h.files;
    lines = still_below (IsLineOf cs) n g.files.sites h.lines (λ x of. (line_bounded cs n x of).1 boot);
  }

  module _ (n : ℕ) (old new : Gathered) (left : List FoundLoop) (name : List ℕ) (x : MethodLoops) (h : AreGathered cs notes found n old) (adds : AddsMethod old new notes left n name x)
      (told : IsToldOf cs n x) (named : name ≡ written_name cs n) (bounded : MayBeBounded (resolved cs) n) (same : (p : ℕ) → found_at left n p ≡ found_at found n p) where
    t : List ℕ
    t = method_lines cs notes found n (written_name cs n) x.shape

    text_same : lines_by notes left n name x.source x.shape ≡ t
    unfolding t
    text_same = lines_same cs notes left found n name x.source x.shape told.source same ∙ ap (λ (y : List ℕ). method_lines cs notes found n y x.shape) named

    each_more : (m : ℕ) (text : List ℕ) → slice_get (h.texts ++ t ∷ []) m ≡ Some text → IsMethodText (resolved cs) cs notes found (written_name cs) m text
    unfolding t
    each_more m text got =
        let M : ℕ → Type 0 = λ k. IsMethodText (resolved cs) cs notes found (written_name cs) k text in
        elim (got_cases h.texts t text m got) [
          | inl before ↦ h.each m text before
          | inr here ↦ let at : n ≡ m = sym (here.0 ∙ h.count) in subst M at (inr (bounded.1, (x.shape, told.shape, sym here.1)))
        ]

    places_same : (s : List ℕ × ℕ) → ((s.0 ≡ name) × Contains (headed_places x.shape) s.1) ↔ IsPlaceOf cs n s
    places_same s = (λ k. (places_are cs n x told bounded s.1 k.1, sym named ∙ sym k.0), λ of. (sym of.1 ∙ sym named, told.all s.1 of.0))

    files_still : AreFiles cs new.files.names
    files_still file = (
      λ c.
          elim (adds.lines.files file c) [
            | inl before ↦ (h.files file).0 before
            | inr by ↦ subst (λ (f : List ℕ). IsFileOf cs f) (sym by.2) (told.file by.0 by.1)
          ],
      λ of. adds.lines.kept file ((h.files file).1 of),
    )

    pub method_gathered : AreGathered cs notes found (n + 1) new
    method_gathered = record {
      texts = h.texts ++ t ∷ [];
      count = let long = length-append h.texts (t ∷ []) in omega (arith, long, h.count);
      each = each_more;
      text_is = adds.text ∙ ap₂ (λ (a b : List ℕ). a ++ b) h.text_is text_same ∙ sym (concat_more h.texts t);
      names = more_below (IsNameOf cs) n old.methods.names new.methods.names (IsNameBy x.shape name) h.names adds.places.names (names_by_shape cs n bounded told.apart x.shape told.shape name named);
      places = more_below (IsPlaceOf cs) n old.methods.sites new.methods.sites (λ s. (s.0 ≡ name) × Contains (headed_places x.shape) s.1) h.places adds.places.places places_same;
      files = files_still;
      lines = more_below (IsLineOf cs) n old.files.sites new.files.sites (IsLineBy x.source x.shape) h.lines adds.lines.lines
          (lines_by_shape cs n bounded told.apart x.source told.within x.shape told.shape told.source told.all);
    }

  -- ---- all methods

  module _ (f : Flow) (flow : IsFlowOf (resolved cs) f) (g : Gathered) (h : AreGathered cs notes found (length f.methods) g) where
    coded_below : (m : ℕ) → IsSome (body_of (resolved cs) m) → m < length f.methods
    coded_below m some = (flow.coded m).0 some

    pub all_known : AreKnown cs g
    all_known = record {
      names = all_below (IsNameOf cs) (length f.methods) g.methods.names h.names (λ m x of. coded_below m of.0.0.0);
      places = all_below (IsPlaceOf cs) (length f.methods) g.methods.sites h.places (λ m x of. coded_below m of.0.bounded.0);
      files = h.files;
      lines = all_below (IsLineOf cs) (length f.methods) g.files.sites h.lines (λ m x of. coded_below m (line_bounded cs m x of).0);
    }

    pub texts_are : AreMethodTexts cs notes found h.texts
    texts_are = record {
      coded = λ m. (λ some. subst (λ (n : ℕ). m < n) (sym h.count) ((flow.coded m).0 some), λ lt. (flow.coded m).1 (subst (λ (n : ℕ). m < n) h.count lt));
      each = h.each;
    }

-- ---- a method by its parts

pub method_added : {E : Type 0} (r : Result (Unit {0}) E) (old new : Gathered) (notes : List Note) (found : List FoundLoop) (m : ℕ) (name : List ℕ) (x : MethodLoops)
    → new.text.items ≡ old.text.items ++ lines_by notes found m name x.source x.shape → AddsPlaces old.methods new.methods name x.shape → OnOk r (AddsLines old.files new.files x.source x.shape)
    → OnOk r (AddsMethod old new notes found m name x)
method_added (Ok _) old new notes found m name x text places lines = record { text = text; places = places; lines = lines }
method_added (Err _) old new notes found m name x text places lines = tt

-- ---- what strays

pub stray_is : (cs : List ClassFile) (g : Gathered) → AreKnown cs g → (s : Subject) → IsLacking g s → IsStray cs (written_name cs) s
stray_is cs g known (AtLine file line) l = ((known.files file).0 l.0, λ m p at is. l.1 ((known.lines (file, line)).1 (m, (p, inl at, is))), λ m p at is. l.1 ((known.lines (file, line)).1 (m, (p, inr at, is))))
stray_is cs g known (AtPlace method pc) l = (let r = (known.names method).0 l.0 in (r.0, r.1.0, r.1.1), λ m at is. l.1 ((known.places (method, pc)).1 (m, (at, is))))

pub is_stray : (cs : List ClassFile) (g : Gathered) → AreKnown cs g → (s : Subject) → IsStray cs (written_name cs) s → IsLacking g s
is_stray cs g known (AtLine file line) h = ((known.files file).1 h.0, λ c. let r = (known.lines (file, line)).0 c in elim r.1.1 [ inl at ↦ h.1 r.0 r.1.0 at r.1.2 | inr at ↦ h.2 r.0 r.1.0 at r.1.2 ])
is_stray cs g known (AtPlace method pc) h = ((known.names method).1 (h.0.0, (h.0.1, h.0.2)), λ c. let r = (known.places (method, pc)).0 c in h.1 r.0 r.1.0 r.1.1)
